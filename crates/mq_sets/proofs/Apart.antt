-- Rows that have no cell in common: what edits of their extents leave.
use Rattle.mq_sets.proofs.Common.{◌≡◌, ℕ, zero, suc, ◌+◌, ◌<◌, ◌≤◌, List, [], ◌∷◌, length, set, get_or, sym, ap, subst, arith, inl, inr, All, All-head}
use Rattle.mq_sets.proofs.Common.{All-tail, All-weaker, All-set, IsWithin, IsApart, AreApart, Extent}

pub apart-turned : (a b : Extent) → IsApart a b → IsApart b a
apart-turned a b (inl before) = inr before
apart-turned a b (inr behind) = inl behind

-- a row without cells that is made
pub apart-none : (none e : Extent) → none.start + none.free ≡ 0 → none.length ≡ 0 → IsApart none e
apart-none none e start size = inl (omega (arith, start, size))

-- another row at a place, which has no cell in common with any
pub apart-set : (extents : List Extent) (place : ℕ) (y : Extent) → All (IsApart y) extents → AreApart extents → AreApart (set extents place y)
apart-set [] place y alone apart = apart
apart-set (e ∷ extents) zero y alone apart = (All-tail (IsApart y) e extents alone, apart.1)
apart-set (e ∷ extents) (suc place) y alone apart = (
  All-set (IsApart e) extents place y (apart-turned y e (All-head (IsApart y) e extents alone)) apart.0,
  apart-set extents place y (All-tail (IsApart y) e extents alone) apart.1,
)

-- a row behind all cells has none in common with those within them
pub apart-behind : {T : Type 0} (cells : List T) (extents : List Extent) (y : Extent) → y.start ≡ length cells → All (IsWithin cells) extents →
    All (IsApart y) extents
apart-behind cells extents y start within = All-weaker (IsWithin cells) (IsApart y) (λ e inside. inr (omega (arith, start, inside))) extents within

-- a row that takes no more cells than the one whose place it takes
pub apart-shorter : (extents : List Extent) (place : ℕ) (e y : Extent) → place < length extents → e ≡ get_or extents place e → y.start ≡ e.start →
    y.length + y.free ≤ e.length + e.free → AreApart extents → AreApart (set extents place y)
apart-shorter [] place e y in_list here start short apart = apart
apart-shorter (x ∷ extents) zero e y in_list here start short apart =
    (All-weaker (IsApart x) (IsApart y) (λ z. by_side z) extents apart.0, apart.1)
  where
    by_side : (z : Extent) → IsApart x z → IsApart y z
    by_side z (inl before) = inl (omega (arith, before, start, short, ap (λ (d : Extent). d.start) here, ap (λ (d : Extent). d.length + d.free) here))
    by_side z (inr behind) = inr (omega (arith, behind, start, ap (λ (d : Extent). d.start) here))
apart-shorter (x ∷ extents) (suc place) e y in_list here start short apart = (
  All-set (IsApart x) extents place y (by_side (subst (IsApart x) (sym here) (apart.0 place e (omega (arith, in_list))))) apart.0,
  apart-shorter extents place e y (omega (arith, in_list)) here start short apart.1,
)
  where
    by_side : IsApart x e → IsApart x y
    by_side (inl before) = inl (omega (arith, before, start))
    by_side (inr behind) = inr (omega (arith, behind, start, short))
