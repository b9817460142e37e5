-- The sources of a list that the end of timers leaves.
use Rattle.mq_table.proofs.Common.{◌≡◌, ℕ, List, Option, ap, arith, filter_map, option_and_then, IsAscending, KeepsNumbers, Source, GroupState, FilterMode}
use Rattle.mq_table.proofs.Common.{kept, ahead, mode_expired, source_expired, held_or_vacant, expired, source_left, number_in, timers_in}
use Rattle.mq_table.proofs.{Changed.address-source_with, Changed.timer-source_with, MadeLists.timers_in-filter_map}

module _ {K : Type 0} (number : K → ℕ) (mode : FilterMode) (now : ℕ) where
  pub left_keeps : KeepsNumbers (number_in number) (number_in number) (source_left mode now)
  left_keeps x y is = ap number (address-source_with x.address (source_expired mode now x.timer) y is)

  pub timers_left : (xs : List (Source K)) → IsAscending (number_in number) xs → timers_in number (filter_map (source_left mode now) xs)
      ≡ kept (λ s. source_expired mode now) (timers_in number xs)
  timers_left xs up = timers_in-filter_map number (source_left mode now) (λ s. source_expired mode now) left_keeps
      (λ x. timer-source_with x.address (source_expired mode now x.timer)) xs up

-- the rest of a group, made of its parts
module _ {K : Type 0} (number : K → ℕ) (now : ℕ) (mode : FilterMode) (v1 v2 : Option ℕ) (xs : List (Source K)) (up : IsAscending (number_in number) xs) where
  pub expired_of : (g : GroupState) → record { mode = mode; sources = timers_in number xs; v1 = v1; v2 = v2 } ≡ g
      → (new_mode : FilterMode) (left : List (Source K)) (left_v1 left_v2 : Option ℕ) (after : GroupState)
      → new_mode ≡ mode_expired now mode → left ≡ filter_map (source_left new_mode now) xs → left_v1 ≡ option_and_then (ahead now) v1 →
      left_v2 ≡ option_and_then (ahead now) v2
      → after ≡ held_or_vacant (record { mode = new_mode; sources = timers_in number left; v1 = left_v1; v2 = left_v2 })
      → after ≡ expired now g
  expired_of g is_before new_mode left left_v1 left_v2 after is_mode is_left is_v1 is_v2 is_after = grind (arith, timers_left)
