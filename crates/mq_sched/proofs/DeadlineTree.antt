-- A tree of deadlines, and what it says of its leaves.
use Rattle.mq_sched.proofs.Common.{ℕ, zero, suc, ◌+◌, ◌*◌, ◌/◌, ◌<◌, ◌≤◌, ◌≡◌, Bool, true, false, cond, arith, refl, List, length, get_or, set, sym, ◌∙◌}
use Rattle.mq_sched.proofs.Common.{⊎_elim, ◌⊎◌, inl, inr, ap, length-set, if◌then◌else◌, cases_lt, cases_eq, get_or-set_same, get_or-set_other, HasEarlier}
use Rattle.mq_sched.proofs.Common.{IsTreeBut, IsEarliestLeaf, KeepsOther}

-- a node has the earlier deadline in two lists that agree there and below
pub earlier-agree : (nodes other : List ℕ) (i : ℕ) (b : Bool) → get_or other i 0 ≡ get_or nodes i 0 → get_or other (2 * i) 0 ≡ get_or nodes (2 * i) 0
    → get_or other (2 * i + 1) 0 ≡ get_or nodes (2 * i + 1) 0 → HasEarlier nodes i b → HasEarlier other i b
earlier-agree nodes other i true at left right known = (omega (arith, known.0), omega (arith, known.1))
earlier-agree nodes other i false at left right known = (omega (arith, known.0), omega (arith, known.1))

-- a node comes to have the earlier of the two deadlines below it
earlier-written : (nodes : List ℕ) (i : ℕ) (b : Bool) → 1 ≤ i → i < length nodes → (get_or nodes (2 * i) 0 ≤ get_or nodes (2 * i + 1) 0 → b ≡ true) →
    (b ≡ true → get_or nodes (2 * i) 0 ≤ get_or nodes (2 * i + 1) 0)
    → HasEarlier (set nodes i (cond b (get_or nodes (2 * i) 0) (get_or nodes (2 * i + 1) 0))) i b
earlier-written nodes i b some within here there = grind (arith, get_or-set_same, get_or-set_other, cases_lt)

-- one node comes to be in order, and the node above it may be out of it
pub repaired_one : (nodes : List ℕ) (lefts : List Bool) (i : ℕ) (b : Bool) → 1 ≤ i → i < length lefts →
    (get_or nodes (2 * i) 0 ≤ get_or nodes (2 * i + 1) 0 → b ≡ true) → (b ≡ true → get_or nodes (2 * i) 0 ≤ get_or nodes (2 * i + 1) 0)
    → IsTreeBut nodes lefts i → IsTreeBut (set nodes i (cond b (get_or nodes (2 * i) 0) (get_or nodes (2 * i + 1) 0))) (set lefts i b) (i / 2)
repaired_one nodes lefts i b some within here there known =
    grind (arith, length-set, get_or-set_same, earlier-written, get_or-set_other, earlier-agree, cases_eq)

-- a node has the deadline of the first of the two below it, and none of the two is earlier
pub first_has : (nodes : List ℕ) (node : ℕ) (b : Bool) → HasEarlier nodes node b → get_or nodes node 0 ≡ get_or nodes (if b then 2 * node else 2 * node + 1) 0
first_has nodes node true has = has.0
first_has nodes node false has = has.0

pub no_earlier : (nodes : List ℕ) (node : ℕ) (b : Bool) → HasEarlier nodes node b → (get_or nodes node 0 ≤ get_or nodes (2 * node) 0) ×
    (get_or nodes node 0 ≤ get_or nodes (2 * node + 1) 0)
no_earlier nodes node true known = (omega (arith, known.0), omega (arith, known.0, known.1))
no_earlier nodes node false known = (omega (arith, known.0, known.1), omega (arith, known.0))

one_of_two : (node : ℕ) (b : Bool) → ((if b then 2 * node else 2 * node + 1) ≡ 2 * node) ⊎ ((if b then 2 * node else 2 * node + 1) ≡ 2 * node + 1)
one_of_two node true = inl refl
one_of_two node false = inr refl

-- above the top there is nothing that could have another deadline
keeps_at_top : (nodes : List ℕ) (lefts : List Bool) (node : ℕ) → 1 ≤ node → node / 2 ≡ 0 → KeepsOther nodes lefts node
keeps_at_top nodes lefts node some top = grind arith

-- in a tree each node above another has the deadline of the first below it
pub KeepsOther-from_tree : (nodes : List ℕ) (lefts : List Bool) (node but : ℕ) → IsTreeBut nodes lefts but → 1 ≤ node → (node / 2 ≡ but → ⊥) ⊎
    (node / 2 ≡ 0) → node / 2 < length lefts → KeepsOther nodes lefts node
KeepsOther-from_tree nodes lefts node but known some off below = grind (arith, first_has, keeps_at_top, cases_lt)

-- and still where the other one gets another deadline
pub KeepsOther-set : (nodes : List ℕ) (lefts : List Bool) (node w : ℕ) → 1 ≤ node → KeepsOther nodes lefts node → KeepsOther (set nodes node w) lefts node
KeepsOther-set nodes lefts node w some kept = grind (arith, get_or-set_other)

-- a node comes to be in order, and that above it has the deadline of the other one below, if it had
pub next_kept : (nodes : List ℕ) (lefts : List Bool) (i w : ℕ) (b : Bool) → 1 ≤ i → i < length lefts → IsTreeBut nodes lefts i →
    KeepsOther (set nodes i w) (set lefts i b) i
next_kept nodes lefts i w b some below known = grind (arith, get_or-set_other, KeepsOther-set, KeepsOther-from_tree)

module _ (nodes : List ℕ) (lefts : List Bool) (known : IsTreeBut nodes lefts 0) where
  here_below : (i : ℕ) → 1 ≤ i → i < length lefts → ((get_or nodes i 0 ≡ get_or nodes (2 * i) 0) ⊎ (get_or nodes i 0 ≡ get_or nodes (2 * i + 1) 0)) ×
      ((get_or nodes i 0 ≤ get_or nodes (2 * i) 0) × (get_or nodes i 0 ≤ get_or nodes (2 * i + 1) 0))
  here_below i some below =
      let has = known.each i some below (λ same. absurd (omega arith)) in
      let b = get_or lefts i false in
      let first = first_has nodes i b has in (
        ⊎_elim (λ same. inl (first ∙ ap (λ k. get_or nodes k 0) same)) (λ same. inr (first ∙ ap (λ k. get_or nodes k 0) same)) (one_of_two i b),
        no_earlier nodes i b has,
      )

  top_least : (fuel i : ℕ) → i ≤ fuel → 1 ≤ i → i < 2 * length lefts → get_or nodes 1 0 ≤ get_or nodes i 0
  top_least zero i few some below = absurd (omega arith)
  top_least (suc fuel) i few some below =
      ⊎_elim
      (λ (more : 1 < i).
      let up = i / 2 in
      let above = top_least fuel up (omega arith) (omega arith) (omega arith) in
      let low = (here_below up (omega arith) (omega arith)).1 in
      ⊎_elim
      (λ (even : i ≡ 2 * up). let at = ap (λ k. get_or nodes k 0) even in omega (arith, above, low.0, at))
      (λ (odd : i ≡ 2 * up + 1). let at = ap (λ k. get_or nodes k 0) odd in omega (arith, above, low.1, at))
      (halves i))
      (λ (one : i ≤ 1). let same : i ≡ 1 = omega arith in rw same (omega arith))
      (cases_lt 1 i)
    where
      halves : (k : ℕ) → (k ≡ 2 * (k / 2)) ⊎ (k ≡ 2 * (k / 2) + 1)
      halves k = ⊎_elim (λ (low : 2 * (k / 2) < k). inr (omega arith)) (λ (upto : k ≤ 2 * (k / 2)). inl (omega arith)) (cases_lt (2 * (k / 2)) k)

  leaf_like : (fuel i : ℕ) → 2 * length lefts ≤ i + fuel → 1 ≤ i → i < 2 * length lefts → (leaf : ℕ) × (length lefts ≤ leaf) ×
      (leaf < 2 * length lefts) × (get_or nodes leaf 0 ≡ get_or nodes i 0)
  leaf_like zero i few some below = absurd (omega arith)
  leaf_like (suc fuel) i few some below =
      ⊎_elim
      (λ (above : i < length lefts).
      ⊎_elim
      (λ (same : get_or nodes i 0 ≡ get_or nodes (2 * i) 0).
      let found = leaf_like fuel (2 * i) (omega arith) (omega arith) (omega arith) in (found.0, found.1, found.2, found.3 ∙ sym same))
      (λ (same : get_or nodes i 0 ≡ get_or nodes (2 * i + 1) 0).
      let found = leaf_like fuel (2 * i + 1) (omega arith) (omega arith) (omega arith) in (found.0, found.1, found.2, found.3 ∙ sym same))
      (here_below i some above).0)
      (λ (from : length lefts ≤ i). (i, from, below, refl))
      (cases_lt i (length lefts))

  -- the top node has the earliest deadline
  pub top_is_earliest : 0 < length lefts → IsEarliestLeaf nodes (length lefts) (get_or nodes 1 0)
  top_is_earliest some = record {
    leaf = leaf_like (2 * length lefts) 1 (omega arith) (omega arith) (omega arith);
    least = λ leaf from below. top_least leaf leaf (omega arith) (omega arith) below;
  }
