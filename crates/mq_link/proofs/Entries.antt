-- The entries of a map whose values are replaced or left out, and how much it holds.
use Rattle.mq_link.proofs.Common.{◌≡◌, ℕ, ◌+◌, ◌≤◌, Bool, true, false, cond, refl, List, [], ◌∷◌, length, Option, None, Some, IfSome, sym, ap, ◌∙◌, subst}
use Rattle.mq_link.proofs.Common.{arith, list_map, T, sum_by, sum_by-cons, option_and_then, nat_cmp, eq_by_cmp, is_lt, nat_cmp_total, FinMap, find, is_sorted}
use Rattle.mq_link.proofs.Common.{nat_cmp-IsAntisymmetric, below_all, same_entries, with_entry, kept, get-kept}
use Rattle.std.specs.FinMap as map
use Rattle.mq_held.proofs.Sorted.{both, first, second, find_below, tied}

abbrev pub filtered : {X : Type 0} → (ℕ → X → Option X) → List (ℕ × X) → List (ℕ × X)
filtered f [] = []
filtered f (e ∷ es) = with_entry e.0 (f e.0 e.1) (filtered f es)

below-entry : {X : Type 0} (x k : ℕ) (y : Option X) (es : List (ℕ × X)) → T (is_lt (nat_cmp x k)) → T (below_all nat_cmp x es) →
    T (below_all nat_cmp x (with_entry k y es))
below-entry x k None es here rest = rest
below-entry x k (Some y) es here rest = both (is_lt (nat_cmp x k)) (below_all nat_cmp x es) here rest

below-filtered : {X : Type 0} (x : ℕ) (f : ℕ → X → Option X) (es : List (ℕ × X)) → T (below_all nat_cmp x es) → T (below_all nat_cmp x (filtered f es))
below-filtered x f [] h = tt
below-filtered x f (e ∷ es) h = below-entry x e.0 (f e.0 e.1) (filtered f es) (first (is_lt (nat_cmp x e.0)) (below_all nat_cmp x es) h)
    (below-filtered x f es (second (is_lt (nat_cmp x e.0)) (below_all nat_cmp x es) h))

sorted-entry : {X : Type 0} (k : ℕ) (y : Option X) (es : List (ℕ × X)) → T (below_all nat_cmp k es) → T (is_sorted nat_cmp es) →
    T (is_sorted nat_cmp (with_entry k y es))
sorted-entry k None es here rest = rest
sorted-entry k (Some y) es here rest = both (below_all nat_cmp k es) (is_sorted nat_cmp es) here rest

sorted-filtered : {X : Type 0} (f : ℕ → X → Option X) (es : List (ℕ × X)) → T (is_sorted nat_cmp es) → T (is_sorted nat_cmp (filtered f es))
sorted-filtered f [] h = tt
sorted-filtered f (e ∷ es) h = sorted-entry e.0 (f e.0 e.1) (filtered f es)
    (below-filtered e.0 f es (first (below_all nat_cmp e.0 es) (is_sorted nat_cmp es) h))
    (sorted-filtered f es (second (below_all nat_cmp e.0 es) (is_sorted nat_cmp es) h))

find-entry : {X : Type 0} (f : ℕ → X → Option X) (e : ℕ × X) (es fs : List (ℕ × X)) (q : ℕ) → T (below_all nat_cmp e.0 es) →
    find nat_cmp q fs ≡ option_and_then (f q) (find nat_cmp q es) → (y : Option X) (b : Bool) → f e.0 e.1 ≡ y → eq_by_cmp nat_cmp q e.0 ≡ b →
    find nat_cmp q (with_entry e.0 y fs) ≡ option_and_then (f q) (cond b (Some e.1) (find nat_cmp q es))
find-entry f e es fs q below rest None true is same =
    let k = tied q e.0 same in
    rest
    ∙ ap (option_and_then (f q)) (ap (λ n. find nat_cmp n es) k ∙ find_below e.0 es below)
    ∙ sym (ap (λ n. f n e.1) k ∙ is)
find-entry f e es fs q below rest None false is same = rest
find-entry f e es fs q below rest (Some y) true is same = ap (λ b. cond b (Some y) (find nat_cmp q fs)) same ∙ sym (ap (λ n. f n e.1) (tied q e.0 same) ∙ is)
find-entry f e es fs q below rest (Some y) false is same = ap (λ b. cond b (Some y) (find nat_cmp q fs)) same ∙ rest

find-filtered : {X : Type 0} (f : ℕ → X → Option X) (es : List (ℕ × X)) (q : ℕ) → T (is_sorted nat_cmp es) →
    find nat_cmp q (filtered f es) ≡ option_and_then (f q) (find nat_cmp q es)
find-filtered f [] q h = refl
find-filtered f (e ∷ es) q h = find-entry f e es (filtered f es) q (first (below_all nat_cmp e.0 es) (is_sorted nat_cmp es) h)
    (find-filtered f es q (second (below_all nat_cmp e.0 es) (is_sorted nat_cmp es) h)) (f e.0 e.1) (eq_by_cmp nat_cmp q e.0) refl refl

pub entries-kept : {X : Type 0} (f : ℕ → X → Option X) (m : FinMap nat_cmp X) → map.entries (kept f m) ≡ filtered f (map.entries m)
entries-kept f m = same_entries nat_cmp nat_cmp_total nat_cmp-IsAntisymmetric (map.entries (kept f m)) (filtered f (map.entries m))
    (map.entries_sorted (kept f m)) (sorted-filtered f (map.entries m) (map.entries_sorted m)) (λ q.
    sym (map.get-entries (kept f m) q)
    ∙ get-kept f m q
    ∙ ap (option_and_then (f q)) (map.get-entries m q)
    ∙ sym (find-filtered f (map.entries m) q (map.entries_sorted m)))

-- the sums over its values, if no value grows
abbrev values_of : {X : Type 0} → List (ℕ × X) → List X
values_of es = list_map (λ (e : ℕ × _). e.1) es

sum-filtered : {X : Type 0} (w : X → ℕ) (f : ℕ → X → Option X) → ((k : ℕ) (x : X) → IfSome (f k x) (λ y. w y ≤ w x)) → (es : List (ℕ × X)) →
    sum_by w (values_of (filtered f es)) ≤ sum_by w (values_of es)
sum-filtered w f no_more [] = omega arith
sum-filtered {X = X} w f no_more (e ∷ es) =
    let rest : sum_by w (values_of (filtered f es)) ≤ sum_by w (values_of es) = sum-filtered w f no_more es in
    let after : sum_by w (values_of (with_entry e.0 (f e.0 e.1) (filtered f es))) ≤ w e.1 + sum_by w (values_of es) =
    by_value (f e.0 e.1) (no_more e.0 e.1) rest in
    subst (λ n. sum_by w (values_of (with_entry e.0 (f e.0 e.1) (filtered f es))) ≤ n) (sym (sum_by-cons w e.1 (values_of es))) after
  where
    by_value : (y : Option X) → IfSome y (λ z. w z ≤ w e.1) → sum_by w (values_of (filtered f es)) ≤ sum_by w (values_of es) →
        sum_by w (values_of (with_entry e.0 y (filtered f es))) ≤ w e.1 + sum_by w (values_of es)
    by_value None h rest = omega arith
    by_value (Some y) h rest = subst (λ n. n ≤ w e.1 + sum_by w (values_of es)) (sym (sum_by-cons w y (values_of (filtered f es)))) (omega arith)

length-filtered : {X : Type 0} (f : ℕ → X → Option X) (es : List (ℕ × X)) → length (filtered f es) ≤ length es
length-filtered f [] = omega arith
length-filtered {X = X} f (e ∷ es) = by_value (f e.0 e.1) (length-filtered f es)
  where
    by_value : (y : Option X) → length (filtered f es) ≤ length es → length (with_entry e.0 y (filtered f es)) ≤ length (e ∷ es)
    by_value None h = omega arith
    by_value (Some y) h = omega arith

pub total-kept : {X : Type 0} (w : X → ℕ) (f : ℕ → X → Option X) (m : FinMap nat_cmp X) → ((k : ℕ) (x : X) → IfSome (f k x) (λ y. w y ≤ w x)) →
    sum_by w (map.values (kept f m)) ≤ sum_by w (map.values m)
total-kept w f m no_more = subst (λ es. sum_by w (values_of es) ≤ sum_by w (map.values m)) (sym (entries-kept f m)) (sum-filtered w f no_more (map.entries m))

pub len-kept : {X : Type 0} (f : ℕ → X → Option X) (m : FinMap nat_cmp X) → map.len (kept f m) ≤ map.len m
len-kept f m =
    let a : map.len (kept f m) ≡ length (filtered f (map.entries m)) = map.len-entries (kept f m) ∙ ap length (entries-kept f m) in
    let b : map.len m ≡ length (map.entries m) = map.len-entries m in
    let c : length (filtered f (map.entries m)) ≤ length (map.entries m) = length-filtered f (map.entries m) in
    omega arith
