-- The sources that a group's filter names, and the states of a group that have equal filters.
use Rattle.mq_table.proofs.Common.{◌≡◌, ℕ, Bool, true, false, not, cond, ◌&&◌, ◌||◌, List, [], ◌∷◌, Option, is_some, refl, sym, ap, ◌∙◌, arith, filter, beq}
use Rattle.mq_table.proofs.Common.{list_any, nat_cmp, eq_by_cmp, nat_cmp_total, true≢false, and_parts, GroupState, FilterMode, SourceTimer, is_include}
use Rattle.mq_table.proofs.Common.{timer_at, forwards_in, Filter, names, filter_of, forwards_by, are_same, changes_filter}
use Rattle.mq_table.proofs.Maps.{tied}
use Rattle.std.specs.FinMap as map
use Rattle.std.specs.FinSet as set

-- among the keys that pass a test are those that are there and pass it
module _ (p : ℕ → Bool) (s : ℕ) where
  any-front : (k : ℕ) (xs : List ℕ) (passes ties here rest : Bool) → eq_by_cmp nat_cmp s k ≡ ties → (ties ≡ true → here ≡ passes) →
      list_any (eq_by_cmp nat_cmp s) xs ≡ (here && rest) → list_any (eq_by_cmp nat_cmp s) (cond passes (k ∷ xs) xs) ≡ (here && (ties || rest))
  any-front k xs passes ties here rest is same so_far = grind arith

  nothing_there : (b : Bool) → false ≡ (b && false)
  nothing_there true = refl
  nothing_there false = refl

  any-filter : (ks : List ℕ) → list_any (eq_by_cmp nat_cmp s) (filter p ks) ≡ (p s && list_any (eq_by_cmp nat_cmp s) ks)
  any-filter [] = nothing_there (p s)
  any-filter (k ∷ ks) = any-front k (filter p ks) (p k) _ (p s) _ refl (λ e. ap p (tied s k e)) (any-filter ks)

named_is_there : (mode : FilterMode) (timer : Option SourceTimer) → (names mode timer && is_some timer) ≡ names mode timer
named_is_there mode timer = grind arith

pub contains-filter_of : (g : GroupState) (s : ℕ) → set.contains (filter_of g).sources s ≡ names g.mode (timer_at g s)
contains-filter_of g s =
    set.contains-from_list nat_cmp_total (filter (λ s. names g.mode (timer_at g s)) (map.keys g.sources)) s
    ∙ any-filter (λ s. names g.mode (timer_at g s)) s (map.keys g.sources)
    ∙ ap (λ b. names g.mode (timer_at g s) && b) (sym (map.contains_key-keys g.sources s))
    ∙ named_is_there g.mode (timer_at g s)

-- it forwards what the group forwards
pub forwards_by-filter_of : (g : GroupState) (s : ℕ) → forwards_by (filter_of g) s ≡ forwards_in g s
forwards_by-filter_of g s = grind (arith, contains-filter_of)

beq-itself : (b : Bool) → beq b b ≡ true
beq-itself true = refl
beq-itself false = refl

beq-equal : (a b : Bool) → beq a b ≡ true → a ≡ b
beq-equal a b e = grind (arith, true≢false)

-- two tests that aren't unlike are equal
pub not_unlike : (a b : Bool) → not (beq a b) ≡ false → a ≡ b
not_unlike a b e = grind (arith, true≢false)

are_same-itself : (f : Filter) → are_same f f ≡ true
are_same-itself f =
    let same = set.contains-is_subset nat_cmp_total f.sources f.sources (λ q e. e) in
    λ i. beq-itself f.is_include i && (same i && same i)

-- filters that are said to be the same are equal
pub are_same-equal : (f h : Filter) → are_same f h ≡ true → f ≡ h
are_same-equal f h e =
    let parts = and_parts _ _ e in
    let subsets = and_parts _ _ parts.1 in
    let mode = beq-equal f.is_include h.is_include parts.0 in
    let sources = set.same_set nat_cmp_total map.nat_cmp-IsAntisymmetric f.sources h.sources (λ q.
    both (set.contains f.sources q) (set.contains h.sources q)
    (set.is_subset-contains nat_cmp_total f.sources h.sources subsets.0 q)
    (set.is_subset-contains nat_cmp_total h.sources f.sources subsets.1 q)) in
    λ i. record { is_include = mode i; sources = sources i }
  where
    both : (a b : Bool) → (a ≡ true → b ≡ true) → (b ≡ true → a ≡ true) → a ≡ b
    both a b h1 h2 = grind arith

-- States of a group whose modes are alike, and of whose sources each is named by both or by none, have one filter.
pub same_filter : (a b : GroupState) → is_include a.mode ≡ is_include b.mode → ((s : ℕ) → names a.mode (timer_at a s) ≡ names b.mode (timer_at b s)) →
    filter_of a ≡ filter_of b
same_filter a b mode each =
    let sources = set.same_set nat_cmp_total map.nat_cmp-IsAntisymmetric (filter_of a).sources (filter_of b).sources
    (λ s. contains-filter_of a s ∙ each s ∙ sym (contains-filter_of b s)) in
    λ i. record { is_include = mode i; sources = sources i }

pub changes-same : (a b : GroupState) → is_include a.mode ≡ is_include b.mode → ((s : ℕ) → names a.mode (timer_at a s) ≡ names b.mode (timer_at b s))
    → changes_filter a b ≡ false
unfolding changes_filter
changes-same a b mode each =
    ap (λ f. not (are_same (filter_of a) f)) (sym (same_filter a b mode each)) ∙ ap not (are_same-itself (filter_of a))

-- where the modes aren't alike they have two
pub changes-mode : (a b : GroupState) → not (beq (is_include a.mode) (is_include b.mode)) ≡ true → changes_filter a b ≡ true
unfolding changes_filter
changes-mode a b e = grind (arith, true≢false)

-- and where one of them alone names a source
pub changes-at : (a b : GroupState) (s : ℕ) → not (beq (names a.mode (timer_at a s)) (names b.mode (timer_at b s))) ≡ true → changes_filter a b ≡ true
unfolding changes_filter
changes-at a b s e = by_value (are_same (filter_of a) (filter_of b)) refl
  where
    by_value : (v : Bool) → are_same (filter_of a) (filter_of b) ≡ v → not v ≡ true
    by_value false is = refl
    by_value true is =
        let same = are_same-equal (filter_of a) (filter_of b) is in
        let alike = sym (contains-filter_of a s) ∙ ap (λ (f : Filter). set.contains f.sources s) same ∙ contains-filter_of b s in
        absurd (true≢false (sym e ∙ ap (λ x. not (beq x (names b.mode (timer_at b s)))) alike ∙ ap not (beq-itself (names b.mode (timer_at b s)))))

-- So a filter changes where the mode does, or where some source is turned.
pub changes-by : (a b : GroupState) (turned : Bool) →
    (not (beq (is_include a.mode) (is_include b.mode)) ≡ false → turned ≡ false → (s : ℕ) → names a.mode (timer_at a s) ≡ names b.mode (timer_at b s))
    → (not (beq (is_include a.mode) (is_include b.mode)) ≡ false → turned ≡ true → (s : ℕ) ×
    (not (beq (names a.mode (timer_at a s)) (names b.mode (timer_at b s))) ≡ true))
    → changes_filter a b ≡ (turned || not (beq (is_include a.mode) (is_include b.mode)))
changes-by a b turned none one = grind (arith, changes-mode, changes-at, changes-same, not_unlike)

-- modes that are alike name the same
pub named_alike : (a b : FilterMode) → is_include a ≡ is_include b → (timer : Option SourceTimer) → names a timer ≡ names b timer
named_alike a b e timer = grind (arith, true≢false)
