-- the sources so far, and then the rest, have the result of all
use Rattle.mq_check.proofs.Common.{◌≡◌, list_map, Source, all_changed, specific_terms}
use Rattle.mq_check.proofs.checking.Checking.change_sources.Given as goal

abbrev pub invariant-loop-source : goal.invariant-loop-source
invariant-loop-source g l =
    let number = g.F.Address.Key.number in
    let terms = specific_terms l.at.config.now l.at.in_force l.at.packet in
    all_changed l.at.moment terms (list_map (Source (number l.group)) l.fn.sources) l.fn.self
    ≡ all_changed l.at.moment terms (list_map (Source (number l.group)) l.source-iterator) l.self
