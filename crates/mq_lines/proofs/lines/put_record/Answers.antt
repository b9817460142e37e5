use Rattle.mq_lines.proofs.Common.{[], ◌++◌, codes, err_from_is_err_and, broken_behind, broken_within, held_more, then_put, either, source_items}
use Rattle.mq_lines.specs.Messages.{record_start}
use Rattle.mq_lines.proofs.lines.put_record.Goals as goal

pub returns-in_err-make_room-clause-text : goal.returns-in_err-make_room-clause-text
returns-in_err-make_room-clause-text g c =
    let p = err_from_is_err_and c.from_residual.result c.from_residual.ensures.1 in
    rw p.1 (broken_within _ _ _ [] _ c.in_err-make_room.ensures.text)

pub returns-in_err-put_sources-clause-text : goal.returns-in_err-put_sources-clause-text
returns-in_err-put_sources-clause-text g c =
    let p = err_from_is_err_and c.from_residual-in_err-put_sources.result c.from_residual-in_err-put_sources.ensures.1 in
    let head = record_start c.args.json g.K.LineKey.family c.args.is_first c.args.view.kind (g.K.Key.number c.args.view.group) in
    let sources = source_items c.args.json g.K.LineKey.family c.args.view.sources in
    let end = either c.args.json (codes "]}") (codes "]") in
    let begun = held_more _ _ _ _ _ [] head c.in_ok-make_room.ensures.text c.put_record_start.ensures in
    rw p.1 (broken_behind _ _ _ _ _ head (sources ++ end) begun (broken_within _ _ _ sources end c.in_err-put_sources.ensures.text))

pub returns-clause-text : goal.returns-clause-text
returns-clause-text g c =
    let head = record_start c.args.json g.K.LineKey.family c.args.is_first c.args.view.kind (g.K.Key.number c.args.view.group) in
    let sources = source_items c.args.json g.K.LineKey.family c.args.view.sources in
    let begun = held_more _ _ _ _ _ [] head c.in_ok-make_room.ensures.text c.put_record_start.ensures in
    rw (← c.either.ensures.text) (then_put _ _ _ _ _ _ head _ _ begun
    (then_put _ _ _ _ _ _ sources _ _ c.in_ok-put_sources.ensures.text c.put_end.ensures.text))
