use Rattle.mq_check.proofs.Common.{ℕ, ◌-◌, ap, ◌∙◌, terms_or}
use Rattle.mq_check.proofs.Earlier.{went_on}
use Rattle.mq_check.proofs.schedules.Schedules.go_on.Goals as goal

pub returns : goal.returns
returns g c =
    went_on _ _ _ _ _ _ _ _ _ _ _ c.self.view_is c.first-next.ensures (c.saturating_sub.ensures ∙ ap (λ (n : ℕ). n - 1) c.left_in_next-left.ensures)
    c.due_after-due.ensures (c.terms_or-terms.ensures ∙ ap (terms_or _) c.terms_of.ensures) c.drop_next.ensures c.put_next.ensures
