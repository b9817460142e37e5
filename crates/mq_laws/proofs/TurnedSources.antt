-- Two filters differ exactly where some source is turned: where one of them forwards it alone.
use Rattle.mq_laws.proofs.Common.{◌≡◌, ◌↔◌, ℕ, ◌+◌, ◌<◌, Bool, true, false, cond, not, ◌&&◌, List, [], ◌∷◌, refl, sym, ap, ◌∙◌, arith, true≢false, or_from}
use Rattle.mq_laws.proofs.Common.{or_left, or_right, nat_tests, list_all, list_any, sum_by, nat_cmp, eq_by_cmp, forwards_by-filter_of, Filter, filter_of}
use Rattle.mq_laws.proofs.Common.{forwards_by, are_same, GroupState, forwards_in, alike_after, unchanged, sum_by-cons, changes_filter}
use Rattle.std.specs.{Bool.beq, Cmp.nat_cmp_total, FinSet.FinSet}
use Rattle.mq_held.proofs.{RestartedEach.each_passes, Sorted.ties}
use Rattle.mq_laws.proofs.Following.{same_unless_changed}
use Rattle.std.specs.FinSet as set

-- a source that one set has alone, where it isn't a part of the other
one_failing : (test : ℕ → Bool) (ks : List ℕ) → list_all test ks ≡ false → (k : ℕ) × (list_any (eq_by_cmp nat_cmp k) ks ≡ true) × (test k ≡ false)
one_failing test [] is = absurd (true≢false is)
one_failing test (k ∷ ks) is = by_test (test k) refl (one_failing test ks) is
  where
    Failing : List ℕ → Type 0
    Failing xs = (x : ℕ) × (list_any (eq_by_cmp nat_cmp x) xs ≡ true) × (test x ≡ false)

    by_test : (b : Bool) → test k ≡ b → (list_all test ks ≡ false → Failing ks) → (b && list_all test ks) ≡ false → Failing (k ∷ ks)
    by_test false fails rest is = (k, or_left _ _ (ties k k refl), fails)
    by_test true passes rest is = let found = rest is in (found.0, or_right (eq_by_cmp nat_cmp found.0 k) _ found.1, found.2)

in_one_alone : (a b : FinSet nat_cmp) → set.is_subset a b ≡ false → (s : ℕ) × (set.contains a s ≡ true) × (set.contains b s ≡ false)
in_one_alone a b is = by_all (list_all (set.contains b) (set.items a)) refl
  where
    by_all : (all : Bool) → list_all (set.contains b) (set.items a) ≡ all → (s : ℕ) × (set.contains a s ≡ true) × (set.contains b s ≡ false)
    by_all true all =
        let part = set.contains-is_subset nat_cmp_total a b (λ s has. each_passes (set.contains b) (set.items a) s all (sym (set.contains-items a s) ∙ has)) in
        absurd (true≢false (sym part ∙ is))
    by_all false some =
        let found = one_failing (set.contains b) (set.items a) some in
        (found.0, set.contains-items a found.0 ∙ found.1, found.2)

-- and a source that neither has
larger : (n k : ℕ) → k < n → eq_by_cmp nat_cmp n k ≡ false
larger n k above = grind (arith, nat_tests)

none_so_large : (n : ℕ) (ks : List ℕ) → sum_by (λ k. k) ks < n → list_any (eq_by_cmp nat_cmp n) ks ≡ false
none_so_large n [] above = refl
none_so_large n (k ∷ ks) above =
    let sum = sum_by-cons (λ x. x) k ks in
    or_from _ _ (larger n k (omega (arith, above, sum))) (none_so_large n ks (omega (arith, above, sum)))

in_none : (a b : FinSet nat_cmp) → (s : ℕ) × (set.contains a s ≡ false) × (set.contains b s ≡ false)
in_none a b =
    let s = sum_by (λ k. k) (set.items a) + sum_by (λ k. k) (set.items b) + 1 in
    (s, set.contains-items a s ∙ none_so_large s (set.items a) (omega arith), set.contains-items b s ∙ none_so_large s (set.items b) (omega arith))

-- which of them is forwarded, by the modes and by who has it
turned_alike : (m n c d : Bool) → beq m n ≡ true → d ≡ not c → cond n d (not d) ≡ not (cond m c (not c))
turned_alike m n c d h1 h2 = grind arith

turned_apart : (m n c d : Bool) → beq m n ≡ false → d ≡ c → cond n d (not d) ≡ not (cond m c (not c))
turned_apart m n c d h1 h2 = grind arith

one_turned : (f h : Filter) → are_same f h ≡ false → (s : ℕ) × (forwards_by h s ≡ not (forwards_by f s))
one_turned f h is = by_modes (beq f.is_include h.is_include) refl is
  where
    Turned : Type 0
    Turned = (s : ℕ) × (forwards_by h s ≡ not (forwards_by f s))

    by_sources : beq f.is_include h.is_include ≡ true → (first : Bool) → set.is_subset f.sources h.sources ≡ first →
        (first && set.is_subset h.sources f.sources) ≡ false → Turned
    by_sources modes false lacks is =
        let at = in_one_alone f.sources h.sources lacks in
        (at.0, turned_alike f.is_include h.is_include _ _ modes (at.2 ∙ sym (ap not at.1)))
    by_sources modes true part is =
        let at = in_one_alone h.sources f.sources is in
        (at.0, turned_alike f.is_include h.is_include _ _ modes (at.1 ∙ sym (ap not at.2)))

    by_modes : (modes : Bool) → beq f.is_include h.is_include ≡ modes →
        (modes && (set.is_subset f.sources h.sources && set.is_subset h.sources f.sources)) ≡ false → Turned
    by_modes false apart is =
        let at = in_none f.sources h.sources in
        (at.0, turned_apart f.is_include h.is_include _ _ apart (at.2 ∙ sym at.1))
    by_modes true alike is = by_sources alike (set.is_subset f.sources h.sources) refl is

not_itself : (b : Bool) → b ≡ not b → ⊥
not_itself b h1 = grind arith

not_true : (b : Bool) → not b ≡ true → b ≡ false
not_true b h1 = grind arith

pub changes_where_turned : (before after : GroupState)
    → (changes_filter before after ≡ true) ↔ ((source : ℕ) × (forwards_in after source ≡ not (forwards_in before source)))
unfolding changes_filter
changes_where_turned before after = (there, λ at. by_value (changes_filter before after) refl at)
  where
    there : changes_filter before after ≡ true → (source : ℕ) × (forwards_in after source ≡ not (forwards_in before source))
    there is =
        let at = one_turned (filter_of before) (filter_of after) (not_true _ is) in
        (at.0, sym (forwards_by-filter_of after at.0) ∙ at.1 ∙ ap not (forwards_by-filter_of before at.0))

    by_value : (b : Bool) → changes_filter before after ≡ b → (at : (source : ℕ) × (forwards_in after source ≡ not (forwards_in before source))) → b ≡ true
    by_value true is at = refl
    by_value false is at =
        let same = same_unless_changed before after is in
        let stays = sym (forwards_by-filter_of after at.0) ∙ ap (λ f. forwards_by f at.0) same ∙ forwards_by-filter_of before at.0 in
        absurd (not_itself (forwards_in before at.0) (sym stays ∙ at.1))

-- so exactly where they are not equal
pub changes_where_apart : (before after : GroupState) → (changes_filter before after ≡ true) ↔ (filter_of after ≡ filter_of before → ⊥)
changes_where_apart before after = (
  λ is same. true≢false (sym is ∙ alike_after before after before same ∙ unchanged before),
  λ apart. by_value (changes_filter before after) refl apart,
)
  where
    by_value : (b : Bool) → changes_filter before after ≡ b → (filter_of after ≡ filter_of before → ⊥) → b ≡ true
    by_value true is apart = refl
    by_value false is apart = absurd (apart (same_unless_changed before after is))
