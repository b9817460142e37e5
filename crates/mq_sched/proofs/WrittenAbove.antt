-- The number of nodes written above a node whose deadline changed.
use Rattle.mq_sched.proofs.Common.{ℕ, zero, suc, ◌+◌, ◌*◌, ◌/◌, ◌%◌, ◌<◌, ◌≤◌, ◌≡◌, ◌&&◌, Bool, true, false, cond, eqb, leb, not, refl, arith, sym, ap, ◌∙◌}
use Rattle.mq_sched.proofs.Common.{List, length, get_or, set, ⊎_elim, cases_lt, cond-false, cond-true, eq-eqb, eqb-false, eqb-true, le-leb, false≢true, lt-leb}
use Rattle.mq_sched.proofs.Common.{ne_eqb, get_or-set_other, get_or-set_same, bitlen, bitlen-half, keeps_other, written_above}
use Rattle.std.specs.Bool.{beq}

one_more : (b : Bool) (more : ℕ) → cond b 0 (1 + more) ≤ 1 + more
one_more true more = omega arith
one_more false more = omega arith

-- the test whether the writing ends at a node
abbrev pub stays : (before after : List Bool) → ℕ → Bool
stays before after node = keeps_other before (node / 2) node && keeps_other after (node / 2) node

module _ (before after : List Bool) where
  -- more levels than there are nodes change nothing
  same-levels : (first second node : ℕ) → node ≤ first → node ≤ second → written_above before after first node ≡ written_above before after second node
  unfolding written_above
  same-levels zero zero node low high = refl
  same-levels zero (suc second) node low high = sym (cond-true (leb node 1) 0 _ (le-leb node 1 (omega (arith, low))))
  same-levels (suc first) zero node low high = cond-true (leb node 1) 0 _ (le-leb node 1 (omega (arith, high)))
  same-levels (suc first) (suc second) node low high =
      ap (λ n. cond (leb node 1) 0 (cond (stays before after node) 0 (1 + n))) (same-levels first second (node / 2) (omega (arith, low)) (omega (arith, high)))

  one-level : (node : ℕ) → 1 < node → written_above before after node node
      ≡ cond (stays before after node) 0 (1 + written_above before after (node / 2) (node / 2))
  unfolding written_above
  one-level node some = grind (arith, same-levels, cond-false, lt-leb)

  -- the node above one is written, and those above that
  pub written-next : (node : ℕ) → 1 < node → stays before after node ≡ false → written_above before after node node
      ≡ 1 + written_above before after (node / 2) (node / 2)
  written-next node some goes_on = one-level node some ∙ cond-false (stays before after node) 0 _ goes_on

  -- no node is written above one at which the writing ends
  pub written-ends : (node : ℕ) → 1 < node → stays before after node ≡ true → written_above before after node node ≡ 0
  written-ends node some ends = one-level node some ∙ cond-true (stays before after node) 0 _ ends

  -- nor above the top
  pub written-top : (node : ℕ) → node ≤ 1 → written_above before after node node ≡ 0
  unfolding written_above
  written-top node few = grind (arith, same-levels, cond-true, le-leb)

  few-levels : (levels node : ℕ) → node ≤ levels → written_above before after levels node ≤ bitlen (node / 2)
  unfolding written_above
  few-levels zero node low = omega arith
  few-levels (suc levels) node low =
      ⊎_elim
      (λ (top : node < 2). let none = cond-true (leb node 1) 0 (cond (stays before after node) 0 (1 + written_above before after levels (node / 2)))
      (le-leb node 1 (omega (arith, top))) in omega (arith, none))
      (λ (some : 2 ≤ node).
      let here = cond-false (leb node 1) 0 (cond (stays before after node) 0 (1 + written_above before after levels (node / 2))) (lt-leb node 1 some) in
      let above = few-levels levels (node / 2) (omega (arith, low, some)) in
      let digits = bitlen-half (node / 2) (omega (arith, some)) in
      let few = one_more (stays before after node) (written_above before after levels (node / 2)) in
      omega (arith, here, few, above, digits))
      (cases_lt node 2)

  -- a node is written on each level above at most
  pub written-few : (node : ℕ) → written_above before after node node ≤ bitlen (node / 2)
  written-few node = few-levels node node (omega arith)

-- the test whether a node has the deadline of the other one below, by its side
pub keeps_other-told : (side is_right : Bool) (node : ℕ) → is_right ≡ eqb (node % 2) 1 →
    not (eqb (cond side (2 * (node / 2)) (2 * (node / 2) + 1)) node) ≡ cond side is_right (not is_right)
keeps_other-told side is_right node is = grind (arith, eqb-true, ne_eqb, eq-eqb, eqb-false, cases_lt)

-- a test of two sides says whether they are the same
pub beq-same : (a b : Bool) → beq a b ≡ true → a ≡ b
beq-same a b is = grind (arith, false≢true)

pub beq-other : (a b : Bool) → beq a b ≡ false → a ≡ b → ⊥
beq-other a b differs same = grind (arith, false≢true)

both-keep : (side before is_right : Bool) → side ≡ is_right → side ≡ before → (cond before is_right (not is_right) && cond side is_right (not is_right)) ≡ true
both-keep side before is_right right same = grind (arith, false≢true)

one-does_not : (side before is_right : Bool) → (side ≡ is_right → side ≡ before → ⊥) →
    (cond before is_right (not is_right) && cond side is_right (not is_right)) ≡ false
one-does_not side before is_right differs = grind arith

module _ (before after : List Bool) (node : ℕ) (side : Bool) (told : get_or after (node / 2) false ≡ side) where
  both : stays before after node
      ≡ (cond (get_or before (node / 2) false) (eqb (node % 2) 1) (not (eqb (node % 2) 1)) && cond side (eqb (node % 2) 1) (not (eqb (node % 2) 1)))
  both = grind (arith, keeps_other-told)

  -- the writing ends at a node with the deadline of the other one below it, which it had
  pub ends : side ≡ eqb (node % 2) 1 → side ≡ get_or before (node / 2) false → stays before after node ≡ true
  ends right same = both ∙ both-keep side (get_or before (node / 2) false) (eqb (node % 2) 1) right same

  -- and at no other
  pub goes-on : (side ≡ eqb (node % 2) 1 → side ≡ get_or before (node / 2) false → ⊥) → stays before after node ≡ false
  goes-on differs = both ∙ one-does_not side (get_or before (node / 2) false) (eqb (node % 2) 1) differs

-- the nodes written so far, with that next above
pub written-more : (before lefts : List Bool) (from node written : ℕ) (side : Bool) → 1 < node → node / 2 < length lefts
    → get_or lefts (node / 2) false ≡ get_or before (node / 2) false
    → (side ≡ eqb (node % 2) 1 → side ≡ get_or lefts (node / 2) false → ⊥)
    → ((after : List Bool) → ((i : ℕ) → node ≤ i → get_or after i false ≡ get_or lefts i false) → written_above before after from from
    ≡ written + written_above before after node node)
    → (after : List Bool) → ((i : ℕ) → node / 2 ≤ i → get_or after i false ≡ get_or (set lefts (node / 2) side) i false) →
    written_above before after from from ≡ written + 1 + written_above before after (node / 2) (node / 2)
written-more before lefts from node written side some within same differs so_far after agrees =
    grind (arith, get_or-set_same, get_or-set_other, written-next, goes-on)
