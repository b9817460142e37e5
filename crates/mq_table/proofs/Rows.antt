-- The state of a group, by the list of its sources.
use Rattle.mq_table.proofs.Common.{◌≡◌, ℕ, ◌<◌, Bool, true, false, cond, ◌||◌, List, [], ◌∷◌, take, drop, filter, Option, None, Some, is_some, IsSome, refl}
use Rattle.mq_table.proofs.Common.{sym, ap, ◌∙◌, subst, arith, T, lt-ltb, list_map, All, list_any, nat_cmp, is_sorted, take-map, drop-map, All-head, All-tail}
use Rattle.mq_table.proofs.Common.{All-take, All-drop, option_map, IsAscending, set_of, item_with, found_where_member, IsAscending-head, IsAscending-tail}
use Rattle.mq_table.proofs.Common.{Source, GroupState, FilterMode, SourceTimer, kept, number_in, timers_in}
use Rattle.std.{specs.FinMap.Entries.below_all, proofs.lemmas.Simd.map-map}
use Rattle.mq_table.proofs.{Maps.keys-from_entries, Maps.kept-from_entries, SourceLists.get-timers_in, SourceLists.get-found}
use Rattle.std.specs.FinMap as map

-- tests of the numbers of a list's items are tests of the items
module _ {X : Type 0} (number : X → ℕ) (t : ℕ → Bool) (u : X → Bool) where
  any_mapped : (xs : List X) → All (λ x. t (number x) ≡ u x) xs → list_any t (list_map number xs) ≡ list_any u xs
  any_mapped [] alike = refl
  any_mapped (x ∷ xs) alike =
      let P : X → Type 0 = λ x. t (number x) ≡ u x in
      let rest = any_mapped xs (All-tail P x xs alike) in
      let first : t (number x) ≡ u x = All-head P x xs alike in
      λ i. first i || rest i

  filter_mapped : (xs : List X) → All (λ x. t (number x) ≡ u x) xs → filter t (list_map number xs) ≡ list_map number (filter u xs)
  filter_mapped [] alike = refl
  filter_mapped (x ∷ xs) alike =
      let P : X → Type 0 = λ x. t (number x) ≡ u x in
      let rest = filter_mapped xs (All-tail P x xs alike) in
      let first : t (number x) ≡ u x = All-head P x xs alike in
      rw first (by_test (u x) rest)
    where
      by_test : (b : Bool) → filter t (list_map number xs) ≡ list_map number (filter u xs) → cond b (number x ∷ filter t (list_map number xs))
          (filter t (list_map number xs)) ≡ list_map number (cond b (x ∷ filter u xs) (filter u xs))
      by_test true is = ap (λ ys. number x ∷ ys) is
      by_test false is = is

module _ {K : Type 0} (number : K → ℕ) where
  abbrev entries_in : List (Source K) → List (ℕ × SourceTimer)
  entries_in xs = list_map (λ x. (number x.address, x.timer)) xs

  below_entries : (n : ℕ) (xs : List (Source K)) → All (λ x. n < number_in number x) xs → below_all nat_cmp n (entries_in xs) ≡ true
  below_entries n [] above = refl
  below_entries n (x ∷ xs) above =
      let P : Source K → Type 0 = λ x. n < number_in number x in
      let first : n < number x.address = All-head P x xs above in
      rw (lt-ltb n (number x.address) first) (below_entries n xs (All-tail P x xs above))

  sorted_entries : (xs : List (Source K)) → IsAscending (number_in number) xs → is_sorted nat_cmp (entries_in xs) ≡ true
  sorted_entries [] up = refl
  sorted_entries (x ∷ xs) up =
      rw (below_entries (number x.address) xs (IsAscending-head (number_in number) x xs up)) (sorted_entries xs (IsAscending-tail (number_in number) x xs up))

  -- the keys of an ascending list's map are its numbers, in their order
  pub keys-timers_in : (xs : List (Source K)) → IsAscending (number_in number) xs → map.keys (timers_in number xs) ≡ list_map (number_in number) xs
  keys-timers_in xs up = keys-from_entries (entries_in xs) (subst T (sym (sorted_entries xs up)) tt) ∙ map-map _ _ xs

  each_found : (p : ℕ → Option SourceTimer → Bool) (xs : List (Source K)) → IsAscending (number_in number) xs →
      All (λ x. p (number_in number x) (map.get (timers_in number xs) (number_in number x)) ≡ p (number_in number x) (Some x.timer)) xs
  each_found p xs up = grind (arith, get-found)

  -- a test of a source's number and timer: whether some source of the group passes, and which do
  pub any_in_row : (p : ℕ → Option SourceTimer → Bool) (xs : List (Source K)) → IsAscending (number_in number) xs →
      list_any (λ s. p s (map.get (timers_in number xs) s)) (map.keys (timers_in number xs))
      ≡ list_any (λ (x : Source K). p (number x.address) (Some x.timer)) xs
  any_in_row p xs up =
      ap (list_any (λ s. p s (map.get (timers_in number xs) s))) (keys-timers_in xs up)
      ∙ any_mapped (number_in number) (λ s. p s (map.get (timers_in number xs) s)) (λ x. p (number x.address) (Some x.timer)) xs (each_found p xs up)

  -- the same before a place and from it on
  pub any_before : (p : ℕ → Option SourceTimer → Bool) (n : ℕ) (xs : List (Source K)) → IsAscending (number_in number) xs →
      list_any (λ s. p s (map.get (timers_in number xs) s)) (take n (map.keys (timers_in number xs)))
      ≡ list_any (λ (x : Source K). p (number x.address) (Some x.timer)) (take n xs)
  any_before p n xs up =
      ap (list_any (λ s. p s (map.get (timers_in number xs) s))) (ap (take n) (keys-timers_in xs up) ∙ take-map (number_in number) n xs)
      ∙ any_mapped (number_in number) (λ s. p s (map.get (timers_in number xs) s)) (λ x. p (number x.address) (Some x.timer)) (take n xs)
      (All-take (λ x. p (number_in number x) (map.get (timers_in number xs) (number_in number x)) ≡ p (number_in number x) (Some x.timer)) n xs
      (each_found p xs up))

  pub any_behind : (p : ℕ → Option SourceTimer → Bool) (n : ℕ) (xs : List (Source K)) → IsAscending (number_in number) xs →
      list_any (λ s. p s (map.get (timers_in number xs) s)) (drop n (map.keys (timers_in number xs)))
      ≡ list_any (λ (x : Source K). p (number x.address) (Some x.timer)) (drop n xs)
  any_behind p n xs up =
      ap (list_any (λ s. p s (map.get (timers_in number xs) s))) (ap (drop n) (keys-timers_in xs up) ∙ drop-map (number_in number) n xs)
      ∙ any_mapped (number_in number) (λ s. p s (map.get (timers_in number xs) s)) (λ x. p (number x.address) (Some x.timer)) (drop n xs)
      (All-drop (λ x. p (number_in number x) (map.get (timers_in number xs) (number_in number x)) ≡ p (number_in number x) (Some x.timer)) n xs
      (each_found p xs up))

  pub filter_in_row : (p : ℕ → Option SourceTimer → Bool) (xs : List (Source K)) → IsAscending (number_in number) xs →
      filter (λ s. p s (map.get (timers_in number xs) s)) (map.keys (timers_in number xs)) ≡ list_map (number_in number)
      (filter (λ (x : Source K). p (number x.address) (Some x.timer)) xs)
  filter_in_row p xs up =
      ap (filter (λ s. p s (map.get (timers_in number xs) s))) (keys-timers_in xs up)
      ∙ filter_mapped (number_in number) (λ s. p s (map.get (timers_in number xs) s)) (λ x. p (number x.address) (Some x.timer)) xs (each_found p xs up)

  -- each source's timer replaced
  pub timers_in-replaced : (f : ℕ → SourceTimer → SourceTimer) (made : Source K → Source K) →
      ((x : Source K) → made x ≡ record { address = x.address; timer = f (number x.address) x.timer }) → (xs : List (Source K)) →
      timers_in number (list_map made xs) ≡ kept (λ s timer. Some (f s timer)) (timers_in number xs)
  timers_in-replaced f made is xs = ap map.from_entries (same xs) ∙ sym (kept-from_entries f (entries_in xs))
    where
      same : (xs : List (Source K)) → entries_in (list_map made xs) ≡ list_map (λ (e : ℕ × SourceTimer). (e.0, f e.0 e.1)) (entries_in xs)
      same [] = refl
      same (x ∷ xs) =
          let rest = same xs in
          let first : ◌≡◌ {A = ℕ × SourceTimer} (number (made x).address, (made x).timer) (number x.address, f (number x.address) x.timer) =
          ap (λ (y : Source K). (number y.address, y.timer)) (is x) in
          λ i. first i ∷ rest i

  -- a source of the group is among the items
  pub held_in_row : (xs : List (Source K)) (s : ℕ) → IsSome (map.get (timers_in number xs) s) → set_of (number_in number) xs s ≡ true
  held_in_row xs s held =
      sym (found_where_member (number_in number) xs s) ∙ mapped (item_with (number_in number) xs s) ∙ ap is_some (sym (get-timers_in number xs s)) ∙ held
    where
      mapped : (found : Option (Source K)) → is_some found ≡ is_some (option_map (λ (x : Source K). x.timer) found)
      mapped None = refl
      mapped (Some x) = refl

-- a group whose sources' timers are replaced
pub replaced_state : {K : Type 0} (number : K → ℕ) (f : ℕ → SourceTimer → SourceTimer) (made : Source K → Source K) →
    ((x : Source K) → made x ≡ record { address = x.address; timer = f (number x.address) x.timer })
    → (mode : FilterMode) (v1 v2 : Option ℕ) (xs ys : List (Source K)) (g : GroupState) →
    record { mode = mode; sources = timers_in number xs; v1 = v1; v2 = v2 } ≡ g → ys ≡ list_map made xs
    → record { mode = mode; sources = timers_in number ys; v1 = v1; v2 = v2 } ≡ record g { sources = kept (λ s timer. Some (f s timer)) g.sources }
replaced_state number f made is_made mode v1 v2 xs ys g is is_all =
    rw (← is, is_all) (ap (λ m. let h : GroupState = record { mode = mode; sources = m; v1 = v1; v2 = v2 } in h) (timers_in-replaced number f made is_made xs))
