-- The earliest moment of a group, once a source is asked for, where none waited before.
use Rattle.mq_held.proofs.Common.{◌≡◌, ℕ, ◌+◌, ◌*◌, ◌<◌, ◌≤◌, min, Bool, true, false, cond, refl, List, [], ◌∷◌, ◌++◌, append_assoc, append-nil, length}
use Rattle.mq_held.proofs.Common.{get_or, set, list_map, Option, None, Some, is_some, IfSome, unwrap_or, sym, ap, ◌∙◌, arith, mul-le-mul_left, option_to_list}
use Rattle.mq_held.proofs.Common.{flat_map, flat_map-append, nat_tests, Source, SourceTimer, Stopped, Running, deadline_of, is_ahead, lowered_to}
use Rattle.mq_held.proofs.Common.{item_counted, source_counted, last_member_count, asked_found, group_deadline, group_due, PoolState, Inside, HeldState}
use Rattle.mq_held.proofs.Common.{ScheduledHead, group_of, those_of, moments_of, earliest_of, timer_moments}
use Rattle.mq_table.specs.declared.timing.Timing.{Timing}
use Rattle.mq_sched.proofs.Fits.{some_count}
use Rattle.mq_held.proofs.{AskedInPlace.IsCounted, AskedInPlace.next_due, AskedInPlace.row_asked, AskedInPlace.row_counted, AskedInPlace.up_counted}
use Rattle.mq_held.proofs.{HeldMoments.deadlines-row, Located.Placed, Located.row_of, RestartedTimers.earliest-later, RestartedTimers.parted}

-- the earliest moment, once there is a moment at a limit or before it
earliest-due : (xs ys : List ℕ) (due : Option ℕ) (limit earliest : ℕ) → IfSome due (λ t. t ≤ limit) → earliest_of (xs ++ ys) ≡ Some (min earliest limit)
    → earliest_of (xs ++ (option_to_list due ++ ys)) ≡ Some (min earliest (unwrap_or due limit))
earliest-due xs ys None limit earliest within is = is
earliest-due xs ys (Some t) limit earliest within is = earliest-later xs ys None t (min earliest limit) is tt ∙ ap Some (omega (arith, within))

-- the moments of a head, with the last apart
last-apart : (moments : List (Option ℕ)) (last : Option ℕ) (row : List ℕ)
    → those_of (moments ++ (last ∷ [])) ++ row ≡ those_of moments ++ (option_to_list last ++ row)
last-apart moments last row =
    ap (λ xs. xs ++ row) (flat_map-append option_to_list moments (last ∷ []) ∙ ap (λ xs. those_of moments ++ xs) (append-nil (option_to_list last)))
    ∙ append_assoc (those_of moments) (option_to_list last) row

module _ {K : Type 0} where
  -- a count of retransmissions changes no moment
  moments-counted : (row : List (Source K)) → flat_map timer_moments (list_map item_counted row) ≡ flat_map timer_moments row
  moments-counted [] = refl
  moments-counted (x ∷ row) = λ i. one x.timer i ++ moments-counted row i
    where
      one : (timer : SourceTimer) → option_to_list (deadline_of (Some (source_counted timer))) ≡ option_to_list (deadline_of (Some timer))
      one Stopped = refl
      one (Running d n) = refl

  -- the earliest moment, once the timer at a place of a row is lowered to a limit
  earliest-set : (limit count earliest : ℕ) (xs : List ℕ) (row : List (Source K)) (place : ℕ) (x : Source K) → place < length row → x ≡ get_or row place x
      → is_ahead limit (deadline_of (Some x.timer)) ≡ true → earliest_of (xs ++ flat_map timer_moments row) ≡ Some earliest
      → earliest_of (xs ++ flat_map timer_moments (set row place (record { address = x.address; timer = Running limit count }))) ≡ Some (min earliest limit)
  earliest-set limit count earliest xs row place x within here above is =
      let parts = parted row place (record { address = x.address; timer = Running limit count }) x within here in
      ap (λ ms. earliest_of (xs ++ ms)) parts.is
      ∙ ap earliest_of (sym (append_assoc xs parts.front (limit ∷ parts.back)))
      ∙ earliest-later (xs ++ parts.front) parts.back (deadline_of (Some x.timer)) limit earliest
      (ap earliest_of (append_assoc xs parts.front (timer_moments x ++ parts.back)) ∙ ap (λ ms. earliest_of (xs ++ ms)) (sym parts.was) ∙ is)
      (below (deadline_of (Some x.timer)) above)
    where
      below : (was : Option ℕ) → is_ahead limit was ≡ true → IfSome was (λ d. min earliest limit < d)
      below None above = tt
      below (Some d) above = let later : limit < d = grind (arith, nat_tests) in omega (arith, later)

none-of : (o : Option ℕ) → is_some o ≡ false → o ≡ None
none-of None is = refl
none-of (Some n) is = cc

-- the next queries for the sources are due at the limit or before it
due-within : (timing : Timing) (now : ℕ) (left : Bool) → 0 < timing.robustness
    → IfSome (cond left (Some (now + timing.last_member_interval)) None) (λ t. t ≤ lowered_to timing now)
due-within timing now true positive =
    let some = some_count timing positive in
    let times : timing.last_member_interval * 1 ≤ timing.last_member_interval * last_member_count timing =
    mul-le-mul_left timing.last_member_interval some in
    omega (arith, times)
due-within timing now _ positive = tt

module _ {K A : Type 0} {number : K → ℕ} {s : Inside K A} {state : HeldState} {n : ℕ} {timing : Timing} {now : ℕ} {source : K} {t u : PoolState (Source K)}
    {row : List (Source K)} {h next : ScheduledHead} (r : IsCounted number s state n timing now source t u row h next) where
  pub earliest-alone : {place : ℕ} {x : Source K} {earliest : ℕ} → Placed number (row_of s n) (number source) place x
      → true ≡ is_ahead (lowered_to timing now) (deadline_of (Some x.timer)) → 0 < timing.robustness → is_some h.schedule.sources_due ≡ false
      → earliest_of (moments_of (group_of number h (row_of s n))) ≡ Some earliest
      → earliest_of (moments_of (group_of number next row)) ≡ Some (min earliest (unwrap_or next.schedule.sources_due (lowered_to timing now)))
  earliest-alone {place} {x} {earliest} f above positive alone was =
      let limit = lowered_to timing now in
      let count = last_member_count timing in
      let up = r.asked.at.up in
      let held = row_of s n in
      let due = next_due number timing now source h held up in
      let head = group_deadline h.head.mode ∷ h.head.v1 ∷ h.head.v2 ∷ group_due h.schedule.group_query ∷ [] in
      let lowered = (asked_found number limit count source held place x true up f.within f.here f.is above).0 in
      let before : earliest_of (those_of head ++ flat_map timer_moments held) ≡ Some earliest =
      ap earliest_of (sym (last-apart head None (flat_map timer_moments held)))
      ∙ (λ i. earliest_of (those_of (head ++ (sym (none-of h.schedule.sources_due alone) i ∷ [])) ++ sym (deadlines-row number held up) i))
      ∙ was in
      let after : earliest_of (those_of head ++ flat_map timer_moments (row_counted number timing now source held)) ≡ Some (min earliest limit) =
      ap (λ ms. earliest_of (those_of head ++ ms))
      (moments-counted (row_asked number timing now source held) ∙ ap (flat_map timer_moments) (sym lowered))
      ∙ earliest-set limit count earliest (those_of head) held place x f.within f.here (sym above) before in
      ap (λ (e : ScheduledHead). earliest_of (moments_of (group_of number e row))) r.head
      ∙ (λ i. earliest_of (those_of (head ++ (due ∷ [])) ++ (deadlines-row number row (up_counted r) ∙ ap (flat_map timer_moments) r.row_is) i))
      ∙ ap earliest_of (last-apart head due (flat_map timer_moments (row_counted number timing now source held)))
      ∙ earliest-due (those_of head) _ due limit earliest (due-within timing now _ positive) after
      ∙ ap (λ (e : ScheduledHead). Some (min earliest (unwrap_or e.schedule.sources_due limit))) (sym r.head)
