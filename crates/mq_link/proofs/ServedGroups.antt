-- The rest of a served group: its size and its form.
use Rattle.mq_link.proofs.Common.{◌≡◌, ℕ, ◌≤◌, false, sym, ap, ◌∙◌, subst, arith, Timing, is_vacant, IsHeld, expired, IsAnyGroup-expired, ScheduledGroup}
use Rattle.mq_link.proofs.Common.{after_round, held_after_round, sources_of, group_expired}
use Rattle.mq_link.proofs.{Bounds.expired_size, HeldAs.held_unless_vacant, MadeEntries.round_keeps_size, MadeEntries.round_keeps_vacant}

module _ (timing : Timing) (now : ℕ) (e : ScheduledGroup) where
  abbrev pub served : ScheduledGroup
  served = after_round timing now (group_expired now e)

  pub served_held : (left : ScheduledGroup) → left ≡ served → is_vacant left.group ≡ false → IsHeld left.group
  served_held left is not_vacant =
      subst (λ (f : ScheduledGroup). IsHeld f.group) (sym is)
      (held_after_round timing now (group_expired now e)
      (held_unless_vacant (expired now e.group) (IsAnyGroup-expired now e.group)
      (sym (round_keeps_vacant timing now (group_expired now e)) ∙ sym (ap (λ (f : ScheduledGroup). is_vacant f.group) is) ∙ not_vacant)))

  pub served_size : sources_of served ≤ sources_of e
  served_size = let kept = round_keeps_size timing now (group_expired now e) in let fewer = expired_size now e.group in omega arith
