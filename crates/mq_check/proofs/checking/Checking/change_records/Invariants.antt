-- the records so far, and then the rest, have the result of all
use Rattle.mq_check.proofs.Common.{◌≡◌, flat_map, causes_by, all_changed, specific_terms}
use Rattle.mq_check.proofs.checking.Checking.change_records.Given as goal

abbrev pub invariant-loop-view : goal.invariant-loop-view
invariant-loop-view g l =
    let terms = specific_terms l.at.config.now l.at.in_force l.at.packet in
    all_changed l.at.moment terms (flat_map (causes_by g.F.Family.FAMILY) l.fn.records) l.fn.self
    ≡ all_changed l.at.moment terms (flat_map (causes_by g.F.Family.FAMILY) l.view-iterator) l.self
