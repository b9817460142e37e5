use Rattle.mq_sched.proofs.Common.{◌-◌, ◌+◌, ◌<◌, ◌≤◌, ◌≡◌, arith, List, length, get_or, drop, sym, ap, ◌∙◌, ⊎_elim, rules, get_or_read, drop-drop, cases_lt}
use Rattle.mq_sched.proofs.Common.{false≢true, bitlen, bitlen-mono, Spends-within, Spends-none, sum_below, one_if_due}
use Rattle.mq_sched.proofs.Below.{AreBelow-from_tree, ones-below, sum_below-leaf, none_below}
use Rattle.mq_sched.proofs.DueLeaves.{leaf_written, spent_on_one, spent_on_both}
use Rattle.mq_sched.proofs.due_leaves.+collect.Goals as goal

pub bounds-leaves-from : goal.bounds-leaves-from
bounds-leaves-from t c =
    omega (arith, c.requires.space, ones-below (length c.args.lefts.now) c.args.node)

pub returns-then-node-lefts-clause-within : goal.returns-then-node-lefts-clause-within
returns-then-node-lefts-clause-within t c = omega (arith, ones-below (length c.args.lefts.now) c.args.node)

pub returns-then-node-lefts-clause-due : goal.returns-then-node-lefts-clause-due
returns-then-node-lefts-clause-due t c leaf =
    leaf_written (λ x. length c.args.lefts.now + x) c.args.nodes.now c.args.leaves.now (c.args.node - length c.args.lefts.now)
    (omega (arith, c.if-node-lefts.true)) (length c.args.lefts.now) c.args.now c.args.from leaf (bounds-leaves-from t c) c.if-node-lefts.true c.requires.due

pub returns-then-node-lefts-clause-spent : goal.returns-then-node-lefts-clause-spent
returns-then-node-lefts-clause-spent t c =
    let one = sum_below-leaf (λ _. 1) (length c.args.lefts.now) c.args.node c.if-node-lefts.true in
    Spends-within _ _ (Spends-none c.args.m.now) (omega (arith, one)) (omega arith)

pub collect-end-requires : goal.collect-end-requires
collect-end-requires t c =
    let parts = rw (← c.nodes_below-first.ensures.first, ← c.nodes_below-first.ensures.second) at
    (AreBelow-from_tree c.args.nodes.now c.args.lefts.now c.args.node c.requires.tree c.requires.node c.if-node-lefts.false) in
    let both = parts.sums (λ _. 1) in (
      omega (arith, parts.behind, parts.within, c.decreases),
      (
        c.requires.tree,
        (
          omega (arith, parts.behind),
          (
            omega (arith, parts.within, c.requires.tree.size),
            (omega (arith, parts.first, c.requires.due), (c.requires.few, (omega (arith, both, c.requires.counted), omega (arith, both, c.requires.space)))),
          ),
        ),
      ),
    )

pub collect-requires : goal.collect-requires
collect-requires t c =
    let parts = rw (← c.nodes_below-first.ensures.first, ← c.nodes_below-first.ensures.second) at
    (AreBelow-from_tree c.args.nodes.now c.args.lefts.now c.args.node c.requires.tree c.requires.node c.if-node-lefts.false) in
    let both = parts.sums (λ _. 1) in
    let second = c.nodes_below-first.result.1 in
    let read = get_or_read c.args.nodes.now second c.index-nodes-second.result (omega (arith, parts.within, c.requires.tree.size)) c.index-nodes-second.is 0 in
    let due = c.reached.ensures.answer.0 c.if-reached.true in (
      omega (arith, parts.behind, parts.within, c.decreases),
      (
        c.requires.tree,
        (
          omega (arith, parts.behind),
          (
            omega (arith, parts.within, c.requires.tree.size),
            (
              omega (arith, read, due),
              (
                c.requires.few,
                (
                  omega (arith, both, c.requires.counted, c.collect-end.ensures.within),
                  omega (arith, both, c.requires.space, c.collect-end.ensures.within, c.collect-end.auto.leaves),
                ),
              ),
            ),
          ),
        ),
      ),
    )

pub returns-then-reached : goal.returns-then-reached
returns-then-reached t c =
    let parts = rw (← c.nodes_below-first.ensures.first, ← c.nodes_below-first.ensures.second) at
    (AreBelow-from_tree c.args.nodes.now c.args.lefts.now c.args.node c.requires.tree c.requires.node c.if-node-lefts.false) in
    record {
      within = omega (arith, parts.sums (λ _. 1), c.collect-end.ensures.within, c.collect.ensures.within);
      due = λ leaf. omega (arith, parts.sums (one_if_due c.args.nodes.now c.args.now leaf), c.collect-end.ensures.due leaf, c.collect.ensures.due leaf);
      behind =
          let end = c.collect-end.result in
          let last = c.collect.result in
          let split : end + (last - end) ≡ last = omega (arith, c.collect.ensures.some) in
          c.collect.ensures.behind
          ∙ ap (λ k. drop k c.collect-end.new.leaves) (sym split)
          ∙ sym (drop-drop (last - end) end c.collect-end.new.leaves)
          ∙ ap (λ (xs : List _). drop (last - end) xs) c.collect-end.ensures.behind
          ∙ drop-drop (last - end) end c.args.leaves.now
          ∙ ap (λ k. drop k c.args.leaves.now) split;
      spent =
          let n = length c.args.lefts.now in
          let height = bitlen (n - 1) - bitlen c.args.node in
          let digits = bitlen-mono c.args.node (n - 1) (omega (arith, c.if-node-lefts.false)) in
          let same_first : bitlen (n - 1) + 1 - bitlen c.nodes_below-first.result.0 ≡ height = omega (arith, parts.first_deeper) in
          let same_second : bitlen (n - 1) + 1 - bitlen c.nodes_below-first.result.1 ≡ height = omega (arith, parts.second_deeper) in
          let own : bitlen (n - 1) + 1 - bitlen c.args.node ≡ height + 1 = omega (arith, digits) in
          let count : c.collect.result - c.args.from ≡ (c.collect-end.result - c.args.from) + (c.collect.result - c.collect-end.result) =
          omega (arith, c.collect.ensures.some, c.collect-end.ensures.some) in
          let one = rw same_first at c.collect-end.ensures.spent in
          let two = rw same_second at c.collect.ensures.spent in
          rw (own, count, parts.sums (λ _. 1))
          (spent_on_both (c.collect-end.result - c.args.from) (sum_below (λ _. 1) n c.nodes_below-first.result.0)
          (sum_below (λ _. 1) n c.nodes_below-first.result.1) height (omega (arith, c.collect-end.ensures.some))
          (omega (arith, c.collect-end.ensures.within)) (ones-below n c.nodes_below-first.result.1) one c.reached.ensures.spent
          (c.collect.result - c.collect-end.result) (omega (arith, c.collect.ensures.some)) (omega (arith, c.collect.ensures.within)) two);
      some = search rules;
    }

pub returns-else-reached : goal.returns-else-reached
returns-else-reached t c =
    let parts = rw (← c.nodes_below-first.ensures.first, ← c.nodes_below-first.ensures.second) at
    (AreBelow-from_tree c.args.nodes.now c.args.lefts.now c.args.node c.requires.tree c.requires.node c.if-node-lefts.false) in
    record {
      within = omega (arith, parts.sums (λ _. 1), c.collect-end.ensures.within);
      due = λ leaf.
          let second = c.nodes_below-first.result.1 in
          let read = get_or_read c.args.nodes.now second c.index-nodes-second.result (omega (arith, parts.within, c.requires.tree.size))
          c.index-nodes-second.is 0 in
          let later : c.args.now < get_or c.args.nodes.now second 0 =
          ⊎_elim (λ (later : c.args.now < get_or c.args.nodes.now second 0). later)
          (λ (upto : get_or c.args.nodes.now second 0 ≤ c.args.now). absurd
          (false≢true (sym c.if-reached.false ∙ c.reached.ensures.answer.1 (omega (arith, read))))) (cases_lt c.args.now (get_or c.args.nodes.now second 0)) in
          let none = none_below c.args.nodes.now c.args.lefts.now c.args.now leaf c.requires.tree second (omega (arith, parts.behind)) later in
          omega (arith, parts.sums (one_if_due c.args.nodes.now c.args.now leaf), c.collect-end.ensures.due leaf, none);
      spent =
          let n = length c.args.lefts.now in
          let height = bitlen (n - 1) - bitlen c.args.node in
          let digits = bitlen-mono c.args.node (n - 1) (omega (arith, c.if-node-lefts.false)) in
          let same_first : bitlen (n - 1) + 1 - bitlen c.nodes_below-first.result.0 ≡ height = omega (arith, parts.first_deeper) in
          let own : bitlen (n - 1) + 1 - bitlen c.args.node ≡ height + 1 = omega (arith, digits) in
          let one = rw same_first at c.collect-end.ensures.spent in
          rw (own, parts.sums (λ _. 1))
          (spent_on_one (c.collect-end.result - c.args.from) (sum_below (λ _. 1) n c.nodes_below-first.result.0)
          (sum_below (λ _. 1) n c.nodes_below-first.result.1) height (omega (arith, c.collect-end.ensures.some))
          (omega (arith, c.collect-end.ensures.within)) (ones-below n c.nodes_below-first.result.1) one c.reached.ensures.spent);
      some = search rules;
      behind = search rules;
    }

pub overflow_add-result : goal.overflow_add-result
overflow_add-result t c =
    omega (arith, c.requires.counted, ones-below (length c.args.lefts.now) c.args.node)
