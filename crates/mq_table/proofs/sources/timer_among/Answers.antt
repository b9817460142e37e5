use Rattle.mq_table.proofs.Common.{sym}
use Rattle.mq_table.proofs.SourceLists.{get-found, get-absent}
use Rattle.mq_table.proofs.sources.timer_among.Goals as goal

pub returns-in-Ok-clause-timer : goal.returns-in-Ok-clause-timer
returns-in-Ok-clause-timer g c =
    let xs = c.args.sources.now in
    sym (get-found g.K.Key.number xs c.in-Ok.place c.index-sources-place.result (g.K.Key.number c.args.source) c.requires.ascending
    c.in-Ok.ensures.found_in (c.in-Ok.ensures.found c.index-sources-place.result))

pub returns-in-Err-clause-timer : goal.returns-in-Err-clause-timer
returns-in-Err-clause-timer g c =
    sym (get-absent g.K.Key.number c.args.sources.now (g.K.Key.number c.args.source) c.in-Err.ensures.member)
