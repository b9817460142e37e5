use Rattle.mq_check.proofs.Common.{List, ap, sym, ◌∙◌, flat_map, RecordView, causes_by, CheckingValue, all_changed, specific_terms}
use Rattle.mq_wire.specs.Numbered.{numbered_record}
use Rattle.mq_check.proofs.Entering.{changed_both}
use Rattle.mq_check.proofs.checking.Checking.change_records.Goals as goal

pub loop-view-init : goal.loop-view-init
loop-view-init g c =
    let terms = specific_terms c.args.at.now.config.now c.args.at.now.in_force c.args.at.now.packet in
    ap (λ (xs : List (RecordView _)). all_changed c.args.at.now.moment terms (flat_map (causes_by g.F.Family.FAMILY) xs) c.args.self.now)
    (sym c.into_iter-view-iterator.ensures.into_iter_gives)

pub loop-view-preserved : goal.loop-view-preserved
loop-view-preserved g c =
    let terms = specific_terms c.args.at.now.config.now c.args.at.now.in_force c.args.at.now.packet in
    let rest = flat_map (causes_by g.F.Family.FAMILY) c.next.new.self in
    c.loop-view.invariant
    ∙ ap (λ (xs : List (RecordView _)). all_changed c.args.at.now.moment terms (flat_map (causes_by g.F.Family.FAMILY) xs) c.loop-view.self)
    c.in-Some.ensures.steps
    ∙ changed_both c.args.at.now.moment terms (causes_by g.F.Family.FAMILY (numbered_record g.F.Address.Key.number c.in-Some.view)) rest c.loop-view.self
    ∙ ap (λ (v : CheckingValue). all_changed c.args.at.now.moment terms rest v) (sym c.change_by.ensures)
