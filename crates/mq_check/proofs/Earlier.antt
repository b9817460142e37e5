-- Schedules from before the capture, in the terms of the code.
use Rattle.mq_check.proofs.Common.{◌≡◌, ℕ, ◌-◌, false, ap, ◌∙◌, Option, Asked, Entry, Wanted, Optional, Terms, OfWanted, SchedulesValue, due_after, next_in}
use Rattle.mq_check.proofs.Common.{schedules_wanted, terms_or, without_next, WaitingValue, with_entry, with_partner}
use Rattle.mq_check.specs.Schedules.{begun, dropped, gone_on, left_in_next, terms_of, with_cause, with_next}

pub cause_noted : (moment : ℕ) (terms : Terms ℕ) (asked : Asked ℕ) (viewed old : SchedulesValue) (partnered put : WaitingValue)
    → viewed ≡ old → partnered ≡ with_partner OfWanted asked 0 terms viewed.causes → put ≡ with_entry (Wanted moment asked terms Optional false) partnered
    → record viewed { causes = put } ≡ with_cause moment terms asked old
unfolding with_cause
cause_noted moment terms asked viewed old partnered put same joined is =
    let here : record viewed { causes = put } ≡ with_cause moment terms asked viewed =
    λ i. record viewed { causes = (is ∙ ap (with_entry (Wanted moment asked terms Optional false)) joined) i } in
    here ∙ ap (with_cause moment terms asked) same

-- a query that is still to come was dropped, or there was none
pub next_dropped : (asked : Asked ℕ) (terms : Option (Terms ℕ)) (viewed old : SchedulesValue) (rest : WaitingValue)
    → viewed ≡ old → terms ≡ terms_of (next_in asked viewed) → rest ≡ dropped terms asked viewed.next
    → record viewed { next = rest } ≡ without_next asked old
unfolding without_next
next_dropped asked terms viewed old rest same is drops =
    let here : record viewed { next = rest } ≡ without_next asked viewed =
    λ i. record viewed { next = (drops ∙ ap (λ (t : Option (Terms ℕ)). dropped t asked viewed.next) is) i } in
    here ∙ ap (without_next asked) same

pub went_on : (moment : ℕ) (seen terms : Terms ℕ) (asked : Asked ℕ) (left due : ℕ) (next : Option (Entry ℕ))
    (viewed old left_out new : SchedulesValue)
    → viewed ≡ old → next ≡ next_in asked viewed → left ≡ left_in_next next - 1 → due ≡ due_after viewed.repeats moment →
    terms ≡ terms_or seen (terms_of next) → left_out ≡ without_next asked old → new ≡ with_next left due terms asked left_out
    → new ≡ gone_on moment seen asked old
unfolding gone_on
went_on moment seen terms asked left due next viewed old left_out new same is_next lefts dues is_terms drops is =
    let there = is_next ∙ ap (next_in asked) same in
    is ∙ (λ i. with_next ((lefts ∙ ap (λ (e : Option (Entry ℕ)). left_in_next e - 1) there) i)
    ((dues ∙ ap (λ (s : SchedulesValue). due_after s.repeats moment) same) i)
    ((is_terms ∙ ap (λ (e : Option (Entry ℕ)). terms_or seen (terms_of e)) there) i) asked (drops i))

pub has_begun : (moment : ℕ) (wanted : Terms ℕ) (asked : Asked ℕ) (count due : ℕ) (viewed old wanting left_out new : SchedulesValue)
    → viewed ≡ old → count ≡ viewed.repeats.count → due ≡ due_after viewed.repeats moment → wanting ≡ schedules_wanted moment wanted asked old →
    left_out ≡ without_next asked wanting → new ≡ with_next count due wanted asked left_out → new ≡ begun moment wanted asked old
unfolding begun
has_begun moment wanted asked count due viewed old wanting left_out new same counts dues wants drops is =
    is ∙ (λ i. with_next ((counts ∙ ap (λ (s : SchedulesValue). s.repeats.count) same) i)
    ((dues ∙ ap (λ (s : SchedulesValue). due_after s.repeats moment) same) i) wanted asked ((drops ∙ ap (without_next asked) wants) i))
