-- The schedules after a seen query, and after a wanted query.
use Rattle.mq_check.proofs.Common.{◌≡◌, ℕ, Bool, false, ap, ◌∙◌, Option, ◌||◌, Asked, Entry, Wanted, Optional, Terms, OfWanted, SchedulesValue, due_after}
use Rattle.mq_check.proofs.Common.{schedules_wanted, WaitingValue, with_entry, with_partner}
use Rattle.mq_check.specs.Schedules.{before_in, is_next, left_after, without_before, with_scheduled, schedules_seen}

pub seen_scheduled : (moment : ℕ) (terms : Terms ℕ) (asked : Asked ℕ) (has_partner : Bool) (viewed old taken new : SchedulesValue)
    (before : Option (Entry ℕ)) (follows is_scheduled : Bool) (left due : ℕ)
    → viewed ≡ old → before ≡ before_in asked viewed → follows ≡ is_next viewed.repeats moment before →
    left ≡ left_after viewed.repeats moment before → due ≡ due_after viewed.repeats moment → is_scheduled ≡ follows || has_partner
    → taken ≡ record old { sent = without_before follows terms asked old.sent } →
    new ≡ record taken { sent = with_scheduled left due is_scheduled terms asked taken.sent } → new ≡ schedules_seen moment terms asked has_partner old
unfolding schedules_seen
seen_scheduled moment terms asked has_partner viewed old taken new before follows is_scheduled left due same is_before follow lefts is_due scheduled
    takes puts =
    let follow_old : follows ≡ is_next old.repeats moment (before_in asked old) = follow ∙
    (λ i. is_next (same i).repeats moment ((is_before ∙ ap (before_in asked) same) i)) in
    let lefts_old : left ≡ left_after old.repeats moment (before_in asked old) = lefts ∙
    (λ i. left_after (same i).repeats moment ((is_before ∙ ap (before_in asked) same) i)) in
    let due_old : due ≡ due_after old.repeats moment = is_due ∙ ap (λ (v : SchedulesValue). due_after v.repeats moment) same in
    let scheduled_old = scheduled ∙ (λ i. follow_old i || has_partner) in
    puts ∙ ap (λ (v : SchedulesValue). record v { sent = with_scheduled left due is_scheduled terms asked v.sent }) takes ∙ (λ i. record old {
      sent = with_scheduled (lefts_old i) (due_old i) (scheduled_old i) terms asked (without_before (follow_old i) terms asked old.sent);
    })

pub wanted_scheduled : (moment : ℕ) (terms : Terms ℕ) (asked : Asked ℕ) (viewed old : SchedulesValue) (partnered put : WaitingValue) (due : ℕ)
    → viewed ≡ old → due ≡ due_after viewed.repeats moment → partnered ≡ with_partner OfWanted asked 0 terms viewed.sent →
    put ≡ with_entry (Wanted due asked terms Optional false) partnered
    → record viewed { sent = put } ≡ schedules_wanted moment terms asked old
unfolding schedules_wanted
wanted_scheduled moment terms asked viewed old partnered put due same is_due joined is =
    let here : record viewed { sent = put } ≡ schedules_wanted moment terms asked viewed =
    λ i. record viewed { sent = (is ∙ (λ j. with_entry (Wanted (is_due j) asked terms Optional false) (joined j))) i } in
    here ∙ ap (schedules_wanted moment terms asked) same
