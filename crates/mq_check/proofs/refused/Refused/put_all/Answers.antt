use Rattle.mq_check.proofs.Common.{ℕ, List, ap, sym, ◌∙◌, fold, list_map, RecordView, group_in, with_refused}
use Rattle.mq_check.proofs.refused.Refused.put_all.Goals as goal

pub loop-view-init : goal.loop-view-init
loop-view-init g c = ap (λ (xs : List (RecordView ℕ)). fold with_refused c.args.self.now (list_map group_in xs))
    (sym c.into_iter-view-iterator.ensures.into_iter_gives)

pub loop-view-preserved : goal.loop-view-preserved
loop-view-preserved g c =
    c.loop-view.invariant ∙ ap (λ (xs : List (RecordView ℕ)). fold with_refused c.loop-view.self (list_map group_in xs)) c.in-Some.ensures.steps
    ∙ ap (λ (groups : List ℕ). fold with_refused groups (list_map group_in c.next.new.self)) (sym c.put.ensures)
