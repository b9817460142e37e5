use Rattle.mq_sched.proofs.Common.{◌+◌, ◌*◌, ◌/◌, ◌%◌, ◌<◌, ◌≤◌, ◌≡◌, false, eqb, refl, cond, arith, length, get_or, sym, ◌∙◌, length-set, ⊎_elim, cond-true}
use Rattle.mq_sched.proofs.Common.{cond-false, cases_lt, get_or_read, get_or-set_other, Spends-join, Spends-join_within, Spends-within, bitlen-half}
use Rattle.mq_sched.proofs.Common.{bitlen-zero, bitlen-mono}
use Rattle.mq_sched.proofs.DeadlineTree.{repaired_one, next_kept}
use Rattle.mq_sched.proofs.WrittenAbove.{beq-other, beq-same, ends, written-ends, written-more, written-top}
use Rattle.mq_sched.proofs.repair.repair_above.Goals as goal
use Rattle.mq_sched.proofs.repair.repair_above.Goals.{then-is_left, else-is_left, else-is_left-is_right-via-then-is_left-is_right+else-is_left-lefts}
use Rattle.mq_sched.proofs.repair.repair_above.Goals.{else-is_left-is_right-via-else-is_left-is_right}

pub loop-node-preserved : goal.loop-node-preserved
loop-node-preserved c =
    let nodes = c.loop-node.nodes in
    let lefts = c.loop-node.lefts in
    let i = c.loop-node.node / 2 in
    let known = c.loop-node.invariant in
    let b = c.reached-is_left.result in
    let in_list = known.within (omega arith) in
    let below : i < length lefts = omega (arith, in_list, known.tree.size) in
    let left = get_or_read nodes (2 * i) c.index-nodes-node.result (omega (arith, below, known.tree.size)) c.index-nodes-node.is 0 in
    let right = get_or_read nodes (2 * i + 1) c.index-nodes-node-in-loop-node.result
    (omega (arith, below, known.tree.size)) c.index-nodes-node-in-loop-node.is 0 in
    let is : c.if-is_left.nodes ≡ cond b (get_or nodes (2 * i) 0) (get_or nodes (2 * i + 1) 0) = elim c.if-is_left.branch [
      | then-is_left w ↦ w.nodes-is ∙ left ∙ sym (cond-true b _ _ w.if-is_left.true)
      | else-is_left w ↦ w.nodes-is ∙ right ∙ sym (cond-false b _ _ w.if-is_left.false)
    ] in
    let repaired = repaired_one nodes lefts i b (omega arith) below (rw (← left, ← right) c.reached-is_left.ensures.answer.1)
    (rw (← left, ← right) c.reached-is_left.ensures.answer.0) known.tree in
    let differs : b ≡ eqb (c.loop-node.node % 2) 1 → b ≡ get_or lefts i false →
    ⊥ = elim c.else-is_left-is_right.branch as (λ _. b ≡ eqb (c.loop-node.node % 2) 1 → b ≡ get_or lefts i false → ⊥) [
      | else-is_left-is_right-via-then-is_left-is_right+else-is_left-lefts w ↦ λ right same. beq-other _ _ w.if-is_left-lefts.false same
      | else-is_left-is_right-via-else-is_left-is_right w ↦ λ right same. beq-other _ _ w.if-is_left-is_right.false right
    ] in
    record {
      tree = rw is repaired;
      kept = next_kept nodes lefts i c.if-is_left.nodes b (omega arith) below known.tree;
      within = λ some. omega (arith, length-set nodes i c.if-is_left.nodes);
      leaves =
          λ leaf behind. get_or-set_other nodes i leaf c.if-is_left.nodes 0 (λ same. absurd (omega (arith, below, behind, c.loop-node.auto.lefts))) ∙
          known.leaves leaf behind;
      lower = omega (arith, known.lower);
      spent = Spends-join_within _ _ known.spent c.reached-is_left.ensures.spent
          (omega (arith, bitlen-half i (omega arith), bitlen-mono i (c.args.from / 2) (omega (arith, known.lower))))
          (omega (arith, bitlen-half i (omega arith), bitlen-mono i (c.args.from / 2) (omega (arith, known.lower))));
      below = λ node low. get_or-set_other lefts i node b false (λ is. absurd (omega (arith, low, is))) ∙ known.below node (omega (arith, low));
      moves = (
        known.moves.0 + 1,
        Spends-join known.moves.1 c.count.ensures,
        written-more c.args.lefts.now lefts c.args.from c.loop-node.node known.moves.0 b (omega arith) below
            (known.below i (omega arith)) differs known.moves.2,
      );
    }

pub returns-clause-spent : goal.returns-clause-spent
returns-clause-spent c =
    let top : c.loop-node.node / 2 ≡ 0 = omega arith in
    let none = rw (top, bitlen-zero) at c.loop-node.invariant.spent in
    Spends-within _ _ none
    (⊎_elim (λ (some : 0 < c.args.from / 2). omega (arith, bitlen-half (c.args.from / 2) some)) (λ (low : c.args.from / 2 ≤ 0). omega arith)
    (cases_lt 0 (c.args.from / 2)))
    (omega arith)

pub returns-then-is_left-lefts-clause-spent : goal.returns-then-is_left-lefts-clause-spent
returns-then-is_left-lefts-clause-spent c =
    let i = c.loop-node.node / 2 in
    let known = c.loop-node.invariant in
    let digits = bitlen-half i (omega arith) in
    let most = bitlen-mono i (c.args.from / 2) (omega (arith, known.lower)) in
    Spends-join_within _ _ known.spent c.reached-is_left.ensures.spent (omega arith) (omega (arith, digits, most))

pub returns-clause-moves : goal.returns-clause-moves
returns-clause-moves c =
    let known = c.loop-node.invariant in
    let top = written-top c.args.lefts.now c.loop-node.lefts c.loop-node.node (omega arith) in
    let all = known.moves.2 c.loop-node.lefts (λ i high. refl) in
    Spends-within _ _ known.moves.1 (omega (arith, all, top)) (omega (arith, all, top))

pub returns-then-is_left-lefts-clause-moves : goal.returns-then-is_left-lefts-clause-moves
returns-then-is_left-lefts-clause-moves c =
    let known = c.loop-node.invariant in
    let node = c.loop-node.node in
    let i = node / 2 in
    let lefts = c.loop-node.lefts in
    let right : c.reached-is_left.result ≡ eqb (node % 2) 1 = beq-same _ _ c.if-is_left-is_right.true in
    let same : c.reached-is_left.result ≡ get_or lefts i false = beq-same _ _ c.if-is_left-lefts.true in
    let end = written-ends c.args.lefts.now lefts node (omega arith)
    (ends c.args.lefts.now lefts node c.reached-is_left.result (sym same) right (same ∙ known.below i (omega arith))) in
    let all = known.moves.2 lefts (λ k high. refl) in
    Spends-within _ _ known.moves.1 (omega (arith, all, end)) (omega (arith, all, end))
