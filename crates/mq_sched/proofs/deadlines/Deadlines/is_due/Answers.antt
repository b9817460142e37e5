use Rattle.mq_sched.proofs.Common.{ℕ, ◌≡◌, ◌<◌, ◌≤◌, Bool, true, false, refl, sym, ap, ◌∙◌, arith, length, get_or, ⊎_elim, nat_le, cases_lt, le-leb, lt-leb}
use Rattle.mq_sched.proofs.Common.{false≢true, get_or_read, Spends-none, DeadlinesState, is_number_due}
use Rattle.mq_sched.proofs.NumbersAtLeaves.{IsLeafOf, due-at, due-none, there-at, there-none}
use Rattle.std.specs.FinMap as map
use Rattle.mq_sched.proofs.deadlines.Deadlines.is_due.Given.{Over}
use Rattle.mq_sched.proofs.deadlines.Deadlines.is_due.Goals as goal
use Rattle.mq_sched.proofs.deadlines.Deadlines.is_due.Goals.{then-leaf-first-via-then-leaf-first, then-leaf-first-via-else-leaf-first+then-leaf-len}
use Rattle.mq_sched.proofs.deadlines.Deadlines.is_due.Goals.{then-leaf-first-via-else-leaf-first+else-leaf-len+then-index-number}

-- a test that says whether one number is at most another
same_test : (b : Bool) (x y : ℕ) → (b ≡ true → x ≤ y) → (x ≤ y → b ≡ true) → b ≡ nat_le x y
same_test true x y says asked = sym (le-leb x y (says refl))
same_test false x y says asked =
    ⊎_elim (λ (above : y < x). sym (lt-leb x y above)) (λ (upto : x ≤ y). absurd (false≢true (asked upto))) (cases_lt y x)

-- no leaf is that of the number
absent_so : (g : Over) (c : goal.Joined-then-leaf-first g) →
    IsLeafOf c.self.inside.numbers.items c.self.inside.tree.count (get_or c.self.inside.leaves.items c.args.number 0) c.args.number → ⊥
absent_so g c =
    let leaves = c.self.inside.leaves.items in
    let numbers = c.self.inside.numbers.items in
    let count = c.self.inside.tree.count in
    let known = c.self.invariant.0 in
    let n = c.args.number in
    let within : n < length leaves = omega (arith, c.requires.number, c.self.invariant.4, ap (λ (s : DeadlinesState). s.room) c.self.view_is) in
    let told : c.index.result.now ≡ get_or leaves n 0 = get_or_read leaves n c.index.result.now within c.index.ensures 0 in
    elim c.then-leaf-first.branch as (λ _. IsLeafOf numbers count (get_or leaves n 0) n → ⊥) [
      | then-leaf-first-via-then-leaf-first w ↦ λ is. omega (
        arith,
        told,
        is.from,
        known.size,
        w.if-leaf-first.true,
        c.len-first.ensures,
        c.self.inside.numbers.ok.0,
      )
      | then-leaf-first-via-else-leaf-first+then-leaf-len w ↦ λ is. omega (
        arith,
        told,
        is.below,
        known.size,
        w.if-leaf-len.true,
        w.len.ensures,
        c.self.inside.numbers.ok.0,
      )
      | then-leaf-first-via-else-leaf-first+else-leaf-len+then-index-number w ↦ λ is.
          let leaf : c.index.result.now < length numbers = omega (arith, w.if-leaf-len.false, w.len.ensures, c.self.inside.numbers.ok.0) in
          w.if-index-number.true (get_or_read numbers c.index.result.now w.index-else-leaf-len.result.now leaf w.index-else-leaf-len.ensures 0 ∙
          ap (λ l. get_or numbers l 0) told ∙ is.has)
    ]

pub returns-then-leaf-first : goal.returns-then-leaf-first
returns-then-leaf-first g c =
    let known = c.self.invariant.0 in
    record {
      due = sym (ap (λ (s : DeadlinesState). is_number_due s.moments c.args.now c.args.number) (sym c.self.view_is) ∙
          due-none c.self.inside.tree.nodes c.self.inside.leaves.items c.self.inside.numbers.items c.self.inside.tree.count known c.args.now
          c.args.number (absent_so g c));
      spent =
          let none = there-none c.self.inside.tree.nodes c.self.inside.leaves.items c.self.inside.numbers.items c.self.inside.tree.count known
          c.args.number (absent_so g c) in
          let told = ap (λ (s : DeadlinesState). map.contains_key s.moments c.args.number) (sym c.self.view_is) ∙ none in
          rw told (Spends-none c.args.m.now);
    }

-- the leaf of the number
told_so : (g : Over) (c : goal.After-reached g) → c.index.result.now ≡ get_or c.self.inside.leaves.items c.args.number 0
told_so g c =
    let within : c.args.number < length c.self.inside.leaves.items =
    omega (arith, c.requires.number, c.self.invariant.4, ap (λ (s : DeadlinesState). s.room) c.self.view_is) in
    get_or_read c.self.inside.leaves.items c.args.number c.index.result.now within c.index.ensures 0

leaf_so : (g : Over) (c : goal.After-reached g) →
    IsLeafOf c.self.inside.numbers.items c.self.inside.tree.count (get_or c.self.inside.leaves.items c.args.number 0) c.args.number
leaf_so g c =
    let numbers = c.self.inside.numbers.items in
    let known = c.self.invariant.0 in
    let leaf : c.index.result.now < length numbers = omega (arith, c.if-leaf-len.false, c.len.ensures, c.self.inside.numbers.ok.0) in
    record {
      from = omega (arith, told_so g c, known.size, c.if-leaf-first.false, c.len-first.ensures, c.self.inside.numbers.ok.0);
      below = omega (arith, told_so g c, known.size, leaf);
      has = ap (λ l. get_or numbers l 0) (sym (told_so g c)) ∙
          sym (get_or_read numbers c.index.result.now c.index-else-leaf-len.result.now leaf c.index-else-leaf-len.ensures 0) ∙ c.if-index-number.false;
    }

pub returns-clause-due : goal.returns-clause-due
returns-clause-due g c =
    let nodes = c.self.inside.tree.nodes in
    let n = c.args.number in
    same_test c.reached.result c.moment.result c.args.now c.reached.ensures.answer.0 c.reached.ensures.answer.1
    ∙ ap (λ moment. nat_le moment c.args.now) (c.moment.ensures ∙ ap (λ l. get_or nodes l 0) (told_so g c))
    ∙ sym (due-at nodes c.self.inside.leaves.items c.self.inside.numbers.items c.self.inside.tree.count c.self.invariant.0 c.args.now n (leaf_so g c))
    ∙ ap (λ (s : DeadlinesState). is_number_due s.moments c.args.now n) c.self.view_is

pub returns-clause-spent : goal.returns-clause-spent
returns-clause-spent g c =
    let there = there-at c.self.inside.tree.nodes c.self.inside.leaves.items c.self.inside.numbers.items c.self.inside.tree.count c.self.invariant.0
    c.args.number (leaf_so g c) in
    let told = ap (λ (s : DeadlinesState). map.contains_key s.moments c.args.number) (sym c.self.view_is) ∙ there in
    rw told c.reached.ensures.spent
