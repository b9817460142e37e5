-- The least comparisons of a statement and of a record.
use Rattle.mq_link.proofs.Common.{◌≡◌, ℕ, ◌+◌, ◌≤◌, Bool, true, false, cond, List, [], ◌∷◌, length, Option, Some, min, refl, sym, ap, subst, arith, length-map}
use Rattle.mq_link.proofs.Common.{list_map, nat_cmp_total, nat_cmp, Spends, Spends-join_within, Kind, with_sources, named_in, NamedSources, least_merge}
use Rattle.std.specs.FinSet as set

-- a set has no more members than the list that it is made of
pub few_members : (ks : List ℕ) → set.len (set.from_list {R = nat_cmp} ks) ≤ length ks
few_members [] = let none = set.len-empty nat_cmp in omega (arith, none)
few_members (k ∷ ks) =
    let rest = few_members ks in
    by_test (set.contains (set.from_list ks) k) (set.len-insert nat_cmp_total (set.from_list ks) k) rest
  where
    by_test : (b : Bool) {n m : ℕ} → n ≡ cond b m (m + 1) → m ≤ length ks → n ≤ length (k ∷ ks)
    by_test true is h = omega (arith, is, h)
    by_test false is h = omega (arith, is, h)

-- the merge of a group with the sources that are left of those that are named
least_merged : {K : Type 0} (number : K → ℕ) (sources : ℕ) (kind : Kind) (is_emptied : Bool) (before left : List K)
    → (is_emptied ≡ false → left ≡ before) → least_merge sources (with_sources (named_in number before) (Some (kind, is_emptied))) ≤ min sources (length left)
least_merged number sources kind true before left same = let none = set.len-empty nat_cmp in omega (arith, none)
least_merged number sources kind false before left same =
    let few = few_members (list_map number before) in
    let all = length-map before number in
    let kept = ap length (same refl) in
    omega (arith, few, all, kept)

pub merge_spends : {K : Type 0} (number : K → ℕ) (sources : ℕ) (kind : Kind) (is_emptied : Bool) (before left : List K)
    (acts : Option (Kind × NamedSources)) (old between new : ℕ)
    → acts ≡ with_sources (named_in number before) (Some (kind, is_emptied))
    → (is_emptied ≡ false → left ≡ before) → length left ≤ length before
    → Spends 0 2 old between → Spends (min sources (length left)) (sources + length left) between new
    → Spends (least_merge sources acts) (sources + length before + 2) old new
merge_spends number sources kind is_emptied before left acts old between new acts_is same fewer first merge =
    subst (λ a. Spends (least_merge sources a) (sources + length before + 2) old new) (sym acts_is)
    (Spends-join_within _ _ first merge (omega (arith, least_merged number sources kind is_emptied before left same)) (omega (arith, fewer)))
