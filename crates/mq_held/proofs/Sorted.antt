-- Lists of entries in the order of their keys.
use Rattle.mq_held.proofs.Common.{◌≡◌, ℕ, ◌<◌, Bool, true, false, cond, ◌&&◌, refl, List, [], ◌∷◌, None, Some, ap, ◌∙◌, arith, T, All, nat_cmp, eq_by_cmp}
use Rattle.mq_held.proofs.Common.{is_lt, is_eq, Ordering, Less, Equal, Greater, lt-ltb, nat_tests, All-head, All-tail, All-nil, All-cons, find, is_sorted}
use Rattle.mq_held.proofs.Common.{below_all, IsAscending, IsAscending-head, IsAscending-tail, IsAscending-cons}

pub both : (a b : Bool) → T a → T b → T (a && b)
both true b p q = q
both false b p q = p

pub first : (a b : Bool) → T (a && b) → T a
first true b p = tt
first false b p = p

pub second : (a b : Bool) → T (a && b) → T b
second true b p = p
second false b p = absurd p

apart : (o : Ordering) → T (is_lt o) → is_eq o ≡ false
apart Less h = refl
apart Equal h = absurd h
apart Greater h = absurd h

pub find_below : {X : Type 0} (q : ℕ) (es : List (ℕ × X)) → T (below_all nat_cmp q es) → find nat_cmp q es ≡ None
find_below q [] h = refl
find_below q (e ∷ es) h = ap (λ b. cond b (Some e.1) (find nat_cmp q es))
    (apart (nat_cmp q e.0) (first (is_lt (nat_cmp q e.0)) (below_all nat_cmp q es) h)) ∙
    find_below q es (second (is_lt (nat_cmp q e.0)) (below_all nat_cmp q es) h)

pub tied : (q k : ℕ) → eq_by_cmp nat_cmp q k ≡ true → q ≡ k
tied q k e = grind (arith, nat_tests)

pub untied : (q k : ℕ) → (q ≡ k → ⊥) → eq_by_cmp nat_cmp q k ≡ false
untied q k e = grind (arith, nat_tests)

pub ties : (q k : ℕ) → q ≡ k → eq_by_cmp nat_cmp q k ≡ true
ties q k e = grind (arith, nat_tests)

pub is_below : (x y : ℕ) → T (is_lt (nat_cmp x y)) → x < y
is_below x y h = grind (arith, nat_tests)

tests_below : (x y : ℕ) → x < y → T (is_lt (nat_cmp x y))
tests_below x y h = rw (lt-ltb x y h) tt

module _ {X : Type 0} where
  -- the key of an entry
  abbrev pub key_of : ℕ × X → ℕ
  key_of e = e.0

  pub below-all : (k : ℕ) (es : List (ℕ × X)) → T (below_all nat_cmp k es) → All (λ e. k < key_of e) es
  below-all k [] h = All-nil _
  below-all k (e ∷ es) h =
      All-cons (λ (e : ℕ × X). k < e.0) e es (is_below k e.0 (first (is_lt (nat_cmp k e.0)) (below_all nat_cmp k es) h))
      (below-all k es (second (is_lt (nat_cmp k e.0)) (below_all nat_cmp k es) h))

  pub all-below : (k : ℕ) (es : List (ℕ × X)) → All (λ e. k < key_of e) es → T (below_all nat_cmp k es)
  all-below k [] h = tt
  all-below k (e ∷ es) h =
      both (is_lt (nat_cmp k e.0)) (below_all nat_cmp k es) (tests_below k e.0 (All-head (λ (e : ℕ × X). k < e.0) e es h))
      (all-below k es (All-tail (λ (e : ℕ × X). k < e.0) e es h))

  -- in order by the test, and by the relation
  pub ascending-sorted : (es : List (ℕ × X)) → T (is_sorted nat_cmp es) → IsAscending key_of es
  ascending-sorted [] h = λ i j d before in_list. absurd (omega arith)
  ascending-sorted (e ∷ es) h =
      IsAscending-cons key_of e es (below-all e.0 es (first (below_all nat_cmp e.0 es) (is_sorted nat_cmp es) h))
      (ascending-sorted es (second (below_all nat_cmp e.0 es) (is_sorted nat_cmp es) h))

  pub sorted-ascending : (es : List (ℕ × X)) → IsAscending key_of es → T (is_sorted nat_cmp es)
  sorted-ascending [] up = tt
  sorted-ascending (e ∷ es) up =
      both (below_all nat_cmp e.0 es) (is_sorted nat_cmp es) (all-below e.0 es (IsAscending-head key_of e es up))
      (sorted-ascending es (IsAscending-tail key_of e es up))
