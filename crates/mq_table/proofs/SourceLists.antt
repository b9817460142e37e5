-- Lists of sources, as the finite maps from their numbers to their timers.
use Rattle.mq_table.proofs.Common.{◌≡◌, ℕ, zero, suc, ◌<◌, ◌==◌, ◌&&◌, true, false, List, [], ◌∷◌, length, get_or, Option, None, Some, is_some, refl, sym, ap}
use Rattle.mq_table.proofs.Common.{◌∙◌, arith, eq-eqb, eqb-true, true≢false, option_map, nat_cmp, nat_cmp_total, IsAscending, set_of, item_with, below-eqb}
use Rattle.mq_table.proofs.Common.{IsAscending-head, IsAscending-tail, item_with-above, maps_each_number, found_where_member, Source, GroupState, FilterMode}
use Rattle.mq_table.proofs.Common.{Include, Exclude, SourceTimer, is_include, vacant, is_vacant, timers_in, number_in}
use Rattle.std.specs.FinMap as map

module _ {K : Type 0} (number : K → ℕ) where
  -- the timer of a source is that of the item which has its number
  pub get-timers_in : (xs : List (Source K)) (s : ℕ) → map.get (timers_in number xs) s ≡ option_map (λ x. x.timer) (item_with (number_in number) xs s)
  get-timers_in xs s = maps_each_number (number_in number) (λ (x : Source K). x.timer) xs s

  -- an ascending list has as many items as its map has keys
  pub len-timers_in : (xs : List (Source K)) → IsAscending (number_in number) xs → map.len (timers_in number xs) ≡ length xs
  len-timers_in [] up = map.len-empty nat_cmp SourceTimer
  len-timers_in (x ∷ xs) up =
      let absent : map.get (timers_in number xs) ((number_in number) x) ≡ None = get-timers_in xs ((number_in number) x) ∙
      ap (option_map (λ x. x.timer)) (item_with-above (number_in number) xs ((number_in number) x) (IsAscending-head (number_in number) x xs up)) in
      map.len-insert nat_cmp_total (timers_in number xs) ((number_in number) x) x.timer ∙
      rw absent (omega (arith, len-timers_in xs (IsAscending-tail (number_in number) x xs up)))

  -- a list without a number has no timer for it
  pub get-absent : (xs : List (Source K)) (n : ℕ) → set_of (number_in number) xs n ≡ false → map.get (timers_in number xs) n ≡ None
  get-absent xs n none = get-timers_in xs n ∙ ap (option_map (λ (x : Source K). x.timer))
      (none_found (item_with (number_in number) xs n) (found_where_member (number_in number) xs n ∙ none))
    where
      none_found : (found : Option (Source K)) → is_some found ≡ false → found ≡ None
      none_found None e = refl
      none_found (Some x) e = absurd (true≢false e)

-- The number of an item in an ascending list finds this item.
module _ {X : Type 0} (number : X → ℕ) where
  pub item_with-at : (xs : List X) (i : ℕ) (d : X) (n : ℕ) → IsAscending number xs → i < length xs → number (get_or xs i d) ≡ n →
      item_with number xs n ≡ Some (get_or xs i d)
  item_with-at [] i d n up within is = absurd (omega arith)
  item_with-at (x ∷ xs) zero d n up within is = rw (eq-eqb (number x) n is) refl
  item_with-at (x ∷ xs) (suc i) d n up within is =
      let above : number x < number (get_or xs i d) = up 0 (suc i) d (omega arith) within in
      rw (below-eqb (number x) n (omega (arith, above, is))) (item_with-at xs i d n (IsAscending-tail number x xs up) (omega arith) is)

pub get-found : {K : Type 0} (number : K → ℕ) (xs : List (Source K)) (i : ℕ) (d : Source K) (n : ℕ) → IsAscending (number_in number) xs →
    i < length xs → number_in number (get_or xs i d) ≡ n → map.get (timers_in number xs) n ≡ (let x = get_or xs i d in Some x.timer)
get-found number xs i d n up within is =
    get-timers_in number xs n ∙ ap (option_map (λ (x : Source _). x.timer)) (item_with-at (number_in number) xs i d n up within is)

-- INCLUDE without sources is vacant, once it has no host-present timers.
pub vacant_if : (g : GroupState) → is_vacant g ≡ true → record { mode = g.mode; sources = g.sources; v1 = None; v2 = None } ≡ vacant
vacant_if g is = by_mode g.mode g.sources is
  where
    by_mode : (mode : FilterMode) (sources : map.FinMap nat_cmp SourceTimer) → (is_include mode && (map.len sources == 0)) ≡ true →
        ◌≡◌ {A = GroupState} (record { mode = mode; sources = sources; v1 = None; v2 = None }) vacant
    by_mode Include sources is = ap (λ m. record { mode = Include; sources = m; v1 = None; v2 = None }) (map.empty_of_len sources (eqb-true _ _ is))
    by_mode (Exclude d) sources is = absurd (true≢false (sym is))
