use Rattle.mq_check.proofs.Common.{ℕ, List, ap, sym, ◌∙◌, list_map, Source, CheckingValue, all_changed, specific_terms}
use Rattle.mq_check.proofs.checking.Checking.change_sources.Goals as goal

pub loop-source-init : goal.loop-source-init
loop-source-init g c =
    let number = g.F.Address.Key.number in
    let terms = specific_terms c.args.at.now.config.now c.args.at.now.in_force c.args.at.now.packet in
    ap (λ (xs : List ℕ). all_changed c.args.at.now.moment terms (list_map (Source (number c.args.group)) xs) c.args.self.now)
    (sym c.into_iter-source-iterator.ensures.into_iter_gives)

pub loop-source-preserved : goal.loop-source-preserved
loop-source-preserved g c =
    let number = g.F.Address.Key.number in
    let terms = specific_terms c.args.at.now.config.now c.args.at.now.in_force c.args.at.now.packet in
    let rest = list_map (Source (number c.args.group)) c.next.new.self in
    c.loop-source.invariant
    ∙ ap (λ (xs : List ℕ). all_changed c.args.at.now.moment terms (list_map (Source (number c.args.group)) xs) c.loop-source.self) c.in-Some.ensures.steps
    ∙ ap (λ (v : CheckingValue). all_changed c.args.at.now.moment terms rest v) (sym c.change.ensures)
