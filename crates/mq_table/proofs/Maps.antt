-- The value at each key of a map that is given key by key.
use Rattle.mq_table.proofs.Common.{◌≡◌, ℕ, Bool, true, false, cond, ◌||◌, List, [], ◌∷◌, ◌++◌, Option, None, Some, refl, sym, ap, ◌∙◌, arith, list_map, T}
use Rattle.mq_table.proofs.Common.{list_any, option_and_then, nat_cmp, eq_by_cmp, nat_cmp_total, FinMap, find, is_sorted, nat_tests, with_entry, entries_by}
use Rattle.mq_table.proofs.Common.{by_rule, kept}
use Rattle.std.specs.FinSet.{FinSet}
use Rattle.std.specs.FinMap as map
use Rattle.std.specs.FinSet as set

-- numbers that tie are equal
pub tied : (q k : ℕ) → eq_by_cmp nat_cmp q k ≡ true → q ≡ k
tied q k e = grind (arith, nat_tests)

-- one entry more: the rule's value at its key, where the rest has the rule's values or nothing
find-with_entry : {X : Type 0} (q k : ℕ) (at_q at_k : Option X) (es : List (ℕ × X)) (b t : Bool) → (t ≡ true → at_q ≡ at_k) →
    eq_by_cmp nat_cmp q k ≡ t → find nat_cmp q es ≡ cond b at_q None → find nat_cmp q (with_entry k at_k es) ≡ cond (t || b) at_q None
find-with_entry q k at_q at_k es b t same e rest = grind arith

pub find-entries_by : {X : Type 0} (rule : ℕ → Option X) (ks : List ℕ) (q : ℕ) → find nat_cmp q (entries_by rule ks)
    ≡ cond (list_any (eq_by_cmp nat_cmp q) ks) (rule q) None
find-entries_by rule [] q = refl
find-entries_by rule (k ∷ ks) q = find-with_entry q k (rule q) (rule k) (entries_by rule ks) _ _ (λ e. ap rule (tied q k e)) refl (find-entries_by rule ks q)

any-append : (p : ℕ → Bool) (xs ys : List ℕ) → list_any p (xs ++ ys) ≡ (list_any p xs || list_any p ys)
any-append p [] ys = refl
any-append p (x ∷ xs) ys =
    elim (p x) as (λ b. (b || list_any p (xs ++ ys)) ≡ ((b || list_any p xs) || list_any p ys)) [ true ↦ refl | false ↦ any-append p xs ys ]

-- the rule, at the keys of the old map and those named
pub get-by_rule : {X : Type 0} (old : FinMap nat_cmp X) (named : FinSet nat_cmp) (rule : ℕ → Option X) (q : ℕ) → map.get (by_rule old named rule) q
    ≡ cond (map.contains_key old q || set.contains named q) (rule q) None
unfolding by_rule
get-by_rule old named rule q =
    map.get-from_entries nat_cmp_total _ q
    ∙ find-entries_by rule (map.keys old ++ set.items named) q
    ∙ ap (λ b. cond b (rule q) None)
    (any-append _ (map.keys old) (set.items named) ∙ (λ i. sym (map.contains_key-keys old q) i || sym (set.contains-items named q) i))

-- a rule that gives nothing elsewhere is the map
pub get-by_rule_everywhere : {X : Type 0} (old : FinMap nat_cmp X) (named : FinSet nat_cmp) (rule : ℕ → Option X) (q : ℕ) →
    (map.get old q ≡ None → set.contains named q ≡ false → rule q ≡ None) → map.get (by_rule old named rule) q ≡ rule q
get-by_rule_everywhere old named rule q nothing = grind (arith, get-by_rule)

pub get-kept : {X : Type 0} (f : ℕ → X → Option X) (old : FinMap nat_cmp X) (q : ℕ) → map.get (kept f old) q ≡ option_and_then (f q) (map.get old q)
unfolding kept
get-kept f old q = get-by_rule_everywhere old set.empty (λ k. option_and_then (f k) (map.get old k)) q (λ none _. ap (option_and_then (f q)) none)

-- The keys of the map of a list whose keys rise are those of the list.
pub keys-from_entries : {X : Type 0} (es : List (ℕ × X)) → T (is_sorted nat_cmp es) → map.keys (map.from_entries {R = nat_cmp} es) ≡ list_map (λ e. e.0) es
keys-from_entries es sorted =
    ap map.keys (map.same_map nat_cmp_total map.nat_cmp-IsAntisymmetric (map.from_entries es) (map.from_sorted es)
    (λ q. map.get-from_entries nat_cmp_total es q ∙ sym (map.get-from_sorted nat_cmp es q sorted)))
    ∙ ap (list_map (λ e. e.0)) (map.entries-from_sorted nat_cmp es sorted)

find-replaced : {X : Type 0} (f : ℕ → X → X) (es : List (ℕ × X)) (q : ℕ) → option_and_then (λ x. Some (f q x)) (find nat_cmp q es)
    ≡ find nat_cmp q (list_map (λ (e : ℕ × X). (e.0, f e.0 e.1)) es)
find-replaced f [] q = refl
find-replaced {X = X} f (e ∷ es) q = at_front (eq_by_cmp nat_cmp q e.0) refl (find-replaced f es q)
  where
    rest : Option X
    rest = find nat_cmp q (list_map (λ (e : ℕ × X). (e.0, f e.0 e.1)) es)

    at_front : (b : Bool) → eq_by_cmp nat_cmp q e.0 ≡ b → option_and_then (λ x. Some (f q x)) (find nat_cmp q es) ≡ rest →
        option_and_then (λ x. Some (f q x)) (cond b (Some e.1) (find nat_cmp q es)) ≡ cond b (Some (f e.0 e.1)) rest
    at_front true same is = ap (λ k. Some (f k e.1)) (tied q e.0 same)
    at_front false other is = is

-- A map whose values are replaced, none of them left out, is that of the replaced values.
pub kept-from_entries : {X : Type 0} (f : ℕ → X → X) (es : List (ℕ × X)) → kept (λ k x. Some (f k x)) (map.from_entries es)
    ≡ map.from_entries (list_map (λ (e : ℕ × X). (e.0, f e.0 e.1)) es)
kept-from_entries {X = X} f es = map.same_map nat_cmp_total map.nat_cmp-IsAntisymmetric _ _ (λ q.
    get-kept (λ k x. Some (f k x)) (map.from_entries es) q
    ∙ ap (λ t. option_and_then (λ x. Some (f q x)) t) (map.get-from_entries nat_cmp_total es q)
    ∙ find-replaced f es q
    ∙ sym (map.get-from_entries nat_cmp_total (list_map (λ (e : ℕ × X). (e.0, f e.0 e.1)) es) q))
