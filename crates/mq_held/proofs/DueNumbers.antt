-- The due numbers, by the stored moments.
use Rattle.mq_held.proofs.Common.{ℕ, ◌+◌, ◌<◌, ◌≡◌, Bool, false, cond, not, refl, arith, List, [], ◌∷◌, length, take, get_or, None, sym, ap, ◌∙◌, count_by}
use Rattle.mq_held.proofs.Common.{list_any, sum_by_more, Spends, Spends-join_within, nat_cmp, FinMap, set_of, NumberedKeysState, key_in, Source, has_come}
use Rattle.mq_held.proofs.Common.{is_number_due, ScheduledHead, group_at, HeldState, IsNumber, is_vacant_at, is_vacant, least, moments_of, has_due, earliest_of}
use Rattle.mq_held.proofs.Common.{group_by, groups_by, IsStored}
use Rattle.std.specs.Prelude.{nat_le, if◌then◌else◌}
use Rattle.std.specs.FinMap as map
use Rattle.mq_held.proofs.{LeastMoments.due-earliest, OrderedItems.number_of, Inside.group-of, Inside.known-key, Inside.moment-there, Inside.numbered}
use Rattle.mq_held.proofs.{LeftNumbers.number-has}

-- the earliest of some moments has come where some moment has
pub come-earliest : (now : ℕ) (ms : List ℕ) → has_come now (earliest_of ms) ≡ list_any (λ t. nat_le t now) ms
come-earliest now [] = refl
come-earliest now (x ∷ ms) = sym (due-earliest now (x ∷ ms) (least x ms) refl)

-- the comparisons of one number more
pub looked-more : (p : ℕ → Bool) (xs : List ℕ) (i n : ℕ) {old mid new : ℕ} → i < length xs → n ≡ get_or xs i n →
    Spends (count_by p (take i xs)) (count_by p (take i xs)) old mid → Spends (cond (p n) 1 0) (cond (p n) 1 0) mid new →
    Spends (count_by p (take (i + 1) xs)) (count_by p (take (i + 1) xs)) old new
looked-more p xs i n within is before one =
    let more = sum_by_more (λ x. cond (p x) 1 0) xs i n within in
    let own : cond {A = ℕ} (p n) 1 0 ≡ cond (p (get_or xs i n)) 1 0 = ap (λ (x : ℕ). cond {A = ℕ} (p x) 1 0) is in
    Spends-join_within _ _ before one (omega (arith, more, own)) (omega (arith, more, own))

module _ {K : Type 0} (number : K → ℕ) {order : NumberedKeysState} {heads : List ScheduledHead} {rows : List (List (Source K))}
    {moments : FinMap nat_cmp ℕ} {schedules : ℕ} (known : IsStored number order.items heads rows moments schedules) {source_room ahead : ℕ}
    {state : HeldState} (was : ◌≡◌ {A = HeldState}
    (record { groups = groups_by number order.items heads rows; order = order; source_room = source_room; ahead = ahead }) state) where
  -- a number is due where its group is
  pub due-number : (now n : ℕ) → IsNumber state n → is_number_due moments now n ≡ has_due now (group_at state.groups (key_in state.order.items n))
  due-number now n is =
      ap (has_come now) (known.moments_are n ∙ ap (λ b. if b then earliest_of (moments_of (group_by number heads rows n)) else None)
      (numbered number known was n is))
      ∙ come-earliest now (moments_of (group_by number heads rows n))
      ∙ ap (has_due now) (sym (group-of number known was (number-has state n is)))

  -- a number has a moment where its group is held
  pub running-number : (n : ℕ) → IsNumber state n → map.contains_key moments n ≡ not (is_vacant_at state n)
  running-number n is =
      moment-there number known was n (is_vacant_at state n) is (λ a has. ap (λ k. is_vacant (group_at state.groups k).group) (known-key number known was has))

  -- and a number that no group has is not
  pub due-unused : (now n : ℕ) → set_of number_of order.items n ≡ false → is_number_due moments now n ≡ false
  due-unused now n absent =
      ap (has_come now) (known.moments_are n ∙ ap (λ b. if b then earliest_of (moments_of (group_by number heads rows n)) else None) absent)
