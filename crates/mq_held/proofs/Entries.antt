-- The entries of a map, and an entry made at its place.
use Rattle.mq_held.proofs.Common.{◌≡◌, ℕ, zero, suc, ◌<◌, ◌≤◌, Bool, true, false, cond, refl, List, [], ◌∷◌, length, get_or, Option, None, Some, is_some, sym}
use Rattle.mq_held.proofs.Common.{ap, ◌∙◌, subst, arith, list_map, slice_get, T, insert, nat_cmp, eq_by_cmp, nat_cmp_total, true≢false, get_or-map, length-map}
use Rattle.mq_held.proofs.Common.{slice_get-map, slice_get_within, get_or_from_slice_get, FinMap, find, is_sorted, nat_cmp-IsAntisymmetric, below_all}
use Rattle.mq_held.proofs.Common.{same_entries, IsPlaceFor, IsAscending-insert}
use Rattle.std.specs.FinMap as map
use Rattle.mq_held.proofs.Sorted.{first, second, below-all, tied, untied, ties, key_of, ascending-sorted, sorted-ascending}

none_some : {A : Type 0} (x : A) → ◌≡◌ {A = Option A} None (Some x) → ⊥
none_some x e = true≢false (sym (ap is_some e))

some_is : {A : Type 0} (x y : A) → Some x ≡ Some y → x ≡ y
some_is x y e = cc

-- tests that never both hold may stand in either order
swapped : {A : Type 0} (a b : Bool) (x y z : A) → (a ≡ true → b ≡ true → ⊥) → cond a x (cond b y z) ≡ cond b y (cond a x z)
swapped true true x y z never = absurd (never refl refl)
swapped true false x y z never = refl
swapped false b x y z never = refl

apart_keys : (q a b : ℕ) → a < b → eq_by_cmp nat_cmp q a ≡ true → eq_by_cmp nat_cmp q b ≡ true → ⊥
apart_keys q a b below x y =
    let u = tied q a x in
    let v = tied q b y in
    absurd (omega (arith, u, v))

module _ {X : Type 0} where
  abbrev keys_of : List (ℕ × X) → List ℕ
  keys_of es = list_map (λ e. e.0) es

  -- every later entry has a higher key than the first
  above_first : (e : ℕ × X) (es : List (ℕ × X)) (p k : ℕ) → T (is_sorted nat_cmp (e ∷ es)) → slice_get (keys_of es) p ≡ Some k → e.0 < k
  above_first e es p k up here =
      by_entry (slice_get es p) refl
    where
      by_entry : (y : Option (ℕ × X)) → slice_get es p ≡ y → e.0 < k
      by_entry None is = absurd
          (none_some k (sym (slice_get-map (λ (e : ℕ × X). e.0) es p ∙ ap (Rattle.std.specs.Option.option_map (λ (e : ℕ × X). e.0)) is) ∙ here))
      by_entry (Some f) is =
          let key : f.0 ≡ k = some_is f.0 k
          (sym (slice_get-map (λ (e : ℕ × X). e.0) es p ∙ ap (Rattle.std.specs.Option.option_map (λ (e : ℕ × X). e.0)) is) ∙ here) in
          let all = below-all e.0 es (first (below_all nat_cmp e.0 es) (is_sorted nat_cmp es) up) in
          let at : get_or es p f ≡ f = get_or_from_slice_get es p f f is in
          let above : e.0 < (get_or es p f).0 = all p f (slice_get_within es p f is) in
          subst (λ n. e.0 < n) key (subst (λ (f : ℕ × X). e.0 < f.0) at above)

  pub find-insert : (es : List (ℕ × X)) (p k : ℕ) (v : X) (q : ℕ) → p ≤ length es → ((i : ℕ) (d : ℕ × X) → i < p → (get_or es i d).0 < k) →
      find nat_cmp q (insert es p (k, v)) ≡ cond (eq_by_cmp nat_cmp q k) (Some v) (find nat_cmp q es)
  find-insert [] p k v q within below = rw (no_place p within) refl
    where
      no_place : (p : ℕ) → p ≤ 0 → p ≡ 0
      no_place p h = omega arith
  find-insert (e ∷ es) zero k v q within below = refl
  find-insert (e ∷ es) (suc p) k v q within below =
      ap (cond (eq_by_cmp nat_cmp q e.0) (Some e.1)) (find-insert es p k v q (omega arith) (λ i d before. below (suc i) d (omega arith)))
      ∙ swapped (eq_by_cmp nat_cmp q e.0) (eq_by_cmp nat_cmp q k) (Some e.1) (Some v) (find nat_cmp q es) (apart_keys q e.0 k (below 0 e (omega arith)))

module _ {X : Type 0} (k : ℕ) where
  pub find-place : (es : List (ℕ × X)) (p : ℕ) (d : ℕ × X) → T (is_sorted nat_cmp es) → slice_get (keys_of es) p ≡ Some k →
      find nat_cmp k es ≡ Some (get_or es p d).1
  find-place [] p d up here = absurd (none_some k here)
  find-place (e ∷ es) zero d up here = rw (ties k e.0 (sym (some_is e.0 k here))) refl
  find-place (e ∷ es) (suc p) d up here =
      let above = above_first e es p k up here in
      rw (untied k e.0 (λ same. absurd (omega (arith, same)))) (find-place es p d (second (below_all nat_cmp e.0 es) (is_sorted nat_cmp es) up) here)

-- the entries of a map
module _ {X : Type 0} (m : FinMap nat_cmp X) (k p : ℕ) where
  -- the entry at a place
  module _ (here : slice_get (map.keys m) p ≡ Some k) where
    pub place_within : p < length (map.entries m)
    place_within = omega (arith, slice_get_within (map.keys m) p k here, length-map (map.entries m) (λ (e : ℕ × X). e.0))

    pub key_at : (d : ℕ × X) → (get_or (map.entries m) p d).0 ≡ k
    key_at d = sym (get_or-map (λ (e : ℕ × X). e.0) (map.entries m) p d k place_within) ∙ get_or_from_slice_get (map.keys m) p k k here

    pub get-place : (d : ℕ × X) → map.get m k ≡ Some (get_or (map.entries m) p d).1
    get-place d = map.get-entries m k ∙ find-place k (map.entries m) p d (map.entries_sorted m) here

  -- an entry made where it goes
  module _ (goes : IsPlaceFor (λ n. n) (map.keys m) k p) where
    pub goes_among : IsPlaceFor key_of (map.entries m) k p
    goes_among =
        let es = map.entries m in
        let count = length-map es (λ (e : ℕ × X). e.0) in
        record {
          within = omega (arith, count, goes.within);
          below =
              λ i d from before. rw (sym (get_or-map key_of es i d d.0 (omega (arith, count, goes.within)))) (goes.below i d.0 from before);
          above =
              λ i d from in_list. rw (sym (get_or-map key_of es i d d.0 in_list)) (goes.above i d.0 from (omega (arith, count)));
        }

    pub entries-made : (v : X) → map.entries (map.insert m k v) ≡ insert (map.entries m) p (k, v)
    entries-made v =
        let es = map.entries m in
        let up = map.entries_sorted m in
        let place = goes_among in
        let after = sorted-ascending (insert es p (k, v)) (IsAscending-insert key_of es p (k, v) (ascending-sorted es up) place) in
        same_entries nat_cmp nat_cmp_total nat_cmp-IsAntisymmetric (map.entries (map.insert m k v)) (insert es p (k, v))
        (map.entries_sorted (map.insert m k v)) after (λ q.
        sym (map.get-entries (map.insert m k v) q)
        ∙ map.get-insert nat_cmp_total m k v q
        ∙ ap (cond (eq_by_cmp nat_cmp q k) (Some v)) (map.get-entries m q)
        ∙ sym (find-insert es p k v q place.within (λ i d before. place.below i d (omega arith) before)))
