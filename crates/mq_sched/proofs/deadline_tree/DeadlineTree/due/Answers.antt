use Rattle.mq_sched.proofs.Common.{◌<◌, ◌≡◌, ◌+◌, ◌-◌, ◌*◌, ◌≤◌, arith, ap, sym, ◌∙◌, refl, length, get_or, ⊎_elim, rules, get_or_read, cases_lt, false≢true}
use Rattle.mq_sched.proofs.Common.{le-ltb, le-leb, bitlen, bitlen-half, bitlen-zero, Spends-join_within, TreeState}
use Rattle.mq_sched.proofs.{Below.none_below, Leaves.ones-top, Leaves.one-top}
use Rattle.mq_sched.proofs.deadline_tree.DeadlineTree.due.Goals as goal
use Rattle.mq_sched.proofs.deadline_tree.DeadlineTree.due.Goals.{then-len-eq0-via-then-len-eq0, then-len-eq0-via-else-len-eq0+then-not-reached}

pub collect-requires-clause-space : goal.collect-requires-clause-space
collect-requires-clause-space g c =
    let count = ap (λ (s : TreeState). s.count) c.self.view_is in
    let some : 0 < length c.self.inside.lefts.items = omega (arith, c.if-len-eq0.false, c.len.ensures, c.self.inside.lefts.ok.0) in
    rw c.deref-2.ensures.value (omega (arith, ones-top (length c.self.inside.lefts.items) some, count, c.requires.space))

pub returns : goal.returns
returns g c =
    let count = ap (λ (s : TreeState). s.count) c.self.view_is in
    record {
      within =
          let some : 0 < length c.self.inside.lefts.items = omega (arith, c.if-len-eq0.false, c.len.ensures, c.self.inside.lefts.ok.0) in
          let within = rw c.deref-2.ensures.value at c.collect.ensures.within in
          omega (arith, ones-top (length c.self.inside.lefts.items) some, count, within);
      due = λ leaf.
          let nodes = ap (λ (s : TreeState). s.nodes) c.self.view_is in
          let some : 0 < length c.self.inside.lefts.items = omega (arith, c.if-len-eq0.false, c.len.ensures, c.self.inside.lefts.ok.0) in
          let due = rw (c.deref.ensures.value, c.deref-2.ensures.value) at (c.collect.ensures.due leaf) in
          rw (← nodes, ← count) (omega (arith, due, one-top c.self.inside.nodes.items c.args.now leaf (length c.self.inside.lefts.items) some));
      spent =
          let n = length c.self.inside.lefts.items in
          let some : 0 < n = omega (arith, c.if-len-eq0.false, c.len.ensures, c.self.inside.lefts.ok.0) in
          let one : bitlen 1 ≡ 1 = omega (arith, bitlen-half 1 (omega arith), bitlen-zero) in
          let height : bitlen (n - 1) + 1 - bitlen 1 ≡ bitlen (n - 1) = omega (arith, one) in
          let all : c.collect.result - 0 ≡ c.collect.result = omega arith in
          let spent = rw (c.deref-2.ensures.value, ones-top n some, height, all) at c.collect.ensures.spent in
          rw (← count) (Spends-join_within _ _ c.reached.ensures.spent spent (omega arith) (omega arith));
      behind = search rules;
    }

pub returns-then-len-eq0-clause-due : goal.returns-then-len-eq0-clause-due
returns-then-len-eq0-clause-due g c leaf =
    let nodes = ap (λ (s : TreeState). s.nodes) c.self.view_is in
    let count = ap (λ (s : TreeState). s.count) c.self.view_is in
    let n = length c.self.inside.lefts.items in
    rw (← nodes, ← count)
    (elim c.then-len-eq0.branch [
      | then-len-eq0-via-then-len-eq0 w ↦ let none : n ≡ 0 = omega (arith, w.if-len-eq0.true, c.len.ensures, c.self.inside.lefts.ok.0) in
          rw (le-leb n leaf (omega arith), le-ltb leaf (2 * n) (omega arith)) refl
      | then-len-eq0-via-else-len-eq0+then-not-reached w ↦
          let items = c.self.inside.nodes.items in
          let known = c.self.invariant.0 in
          let some : 0 < n = omega (arith, w.if-len-eq0.false, c.len.ensures, c.self.inside.lefts.ok.0) in
          let read = get_or_read items 1 w.index.result.now (omega (arith, known.size, some)) w.index.ensures 0 in
          let later : c.args.now < get_or items 1 0 =
          ⊎_elim (λ (later : c.args.now < get_or items 1 0). later)
          (λ (upto : get_or items 1 0 ≤ c.args.now). absurd
          (false≢true (sym w.if-not-reached.true ∙ w.reached.ensures.answer.1 (omega (arith, read))))) (cases_lt c.args.now (get_or items 1 0)) in
          omega (arith, none_below items c.self.inside.lefts.items c.args.now leaf known 1 (omega arith) later, one-top items c.args.now leaf n some)
    ])

pub collect-requires-clause-counted : goal.collect-requires-clause-counted
collect-requires-clause-counted g c =
    let some : 0 < length c.self.inside.lefts.items = omega (arith, c.if-len-eq0.false, c.len.ensures, c.self.inside.lefts.ok.0) in
    rw c.deref-2.ensures.value (omega (arith, ones-top (length c.self.inside.lefts.items) some, c.self.invariant.1, c.self.invariant.2))
