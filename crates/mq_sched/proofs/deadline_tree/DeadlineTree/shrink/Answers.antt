use Rattle.mq_sched.proofs.Common.{◌<◌, ◌≤◌, ◌≡◌, ◌-◌, ◌*◌, ◌/◌, ◌⊎◌, inl, inr, arith, ap, length, set, ◌∙◌, Spends-within, Spends-join_within, bitlen-mono}
use Rattle.mq_sched.proofs.Common.{TreeState, common_steps, get_or_read, take_at, length-set, get_or-take}
use Rattle.mq_sched.proofs.{Shrinking.shrunk, Shrinking.pair_below, Shrinking.went_to, WrittenAbove.written-few}
use Rattle.mq_sched.proofs.deadline_tree.DeadlineTree.shrink.Goals as goal
use Rattle.mq_sched.proofs.deadline_tree.DeadlineTree.shrink.Goals.{then-leaf-last, else-leaf-last}

pub repair_above-requires-clause-tree : goal.repair_above-requires-clause-tree
repair_above-requires-clause-tree g c =
    let count = ap (λ (s : TreeState). s.count) c.self.view_is in
    let nodes = c.self.inside.nodes.items in
    let lefts = c.self.inside.lefts.items in
    let known = c.self.invariant.0 in
    let is_last : c.len-last.result - 1 ≡ length lefts - 1 = omega (arith, c.len-last.ensures, c.self.inside.lefts.ok.0) in
    let some : 0 < length lefts = omega (arith, count, c.requires.leaf, c.requires.within) in
    let firsts = rw (c.deref.ensures.value, is_last) at c.nodes_below-earlier.ensures.first in
    let seconds = rw (c.deref.ensures.value, is_last) at c.nodes_below-earlier.ensures.second in
    let x = c.index.result.now in
    let y = c.index-2.result.now in
    let pair = rw (← firsts, ← seconds) at (pair_below lefts (length lefts - 1)) in
    let is_x = get_or_read nodes c.nodes_below-earlier.result.1 x (omega (arith, pair, known.size, some)) c.index.ensures 0 in
    let is_y = get_or_read (set nodes c.args.leaf x) c.nodes_below-earlier.result.0 y
    (omega (arith, pair, known.size, some, length-set nodes c.args.leaf x)) c.index-2.ensures 0 in
    let cases : ((c.args.leaf < 2 * (length lefts - 1)) × (c.if-leaf-last.changed ≡ c.args.leaf)) ⊎
    ((2 * (length lefts - 1) ≤ c.args.leaf) × (c.if-leaf-last.changed ≡ length lefts - 1)) = elim c.if-leaf-last.branch [
      | then-leaf-last w ↦ inl (omega (arith, w.if-leaf-last.true, is_last), w.changed-is)
      | else-leaf-last w ↦ inr (omega (arith, w.if-leaf-last.false, is_last), omega (arith, w.changed-is, is_last))
    ] in
    rw (c.deref_mut.ensures.value, c.deref_mut-2.ensures.value, c.truncate.ensures.items, c.truncate-2.ensures.items, is_last)
    (shrunk nodes lefts c.args.leaf c.if-leaf-last.changed x y known some (omega (arith, count, c.requires.leaf))
    (omega (arith, count, c.requires.within)) (rw (← seconds) is_x) (rw (← firsts) is_y) cases)

pub returns-clause-spent : goal.returns-clause-spent
returns-clause-spent g c =
    let count = ap (λ (s : TreeState). s.count) c.self.view_is in
    let half : c.if-leaf-last.changed / 2 ≤ c.args.self.now.count - 1 = elim c.if-leaf-last.branch [
      | then-leaf-last w ↦ omega (arith, w.if-leaf-last.true, w.changed-is, c.len-last.ensures, c.self.inside.lefts.ok.0, count)
      | else-leaf-last w ↦ omega (arith, w.changed-is, c.len-last.ensures, c.self.inside.lefts.ok.0, count)
    ] in
    let last : c.args.self.now.count - 1 ≤ c.if-leaf-last.changed = elim c.if-leaf-last.branch [
      | then-leaf-last w ↦ omega (arith, w.changed-is, c.requires.leaf)
      | else-leaf-last w ↦ omega (arith, w.changed-is, c.len-last.ensures, c.self.inside.lefts.ok.0, count)
    ] in
    Spends-within _ _ c.repair_above.ensures.spent (omega (arith, last)) (bitlen-mono _ _ half)

pub returns-clause-moves : goal.returns-clause-moves
returns-clause-moves g c =
    let count = ap (λ (s : TreeState). s.count) c.self.view_is in
    let half : c.if-leaf-last.changed / 2 ≤ c.args.self.now.count - 1 = elim c.if-leaf-last.branch [
      | then-leaf-last w ↦ omega (arith, w.if-leaf-last.true, w.changed-is, c.len-last.ensures, c.self.inside.lefts.ok.0, count)
      | else-leaf-last w ↦ omega (arith, w.changed-is, c.len-last.ensures, c.self.inside.lefts.ok.0, count)
    ] in
    let few = written-few c.deref_mut-2.result.now c.repair_above.new.lefts c.if-leaf-last.changed in
    Spends-join_within _ _ c.repair_above.ensures.moves c.count.ensures (omega arith) (omega (arith, few, bitlen-mono _ _ half))

pub returns-clause-leaves : goal.returns-clause-leaves
returns-clause-leaves g c other from below =
    let count = ap (λ (s : TreeState). s.count) c.self.view_is in
    let state = ap (λ (s : TreeState). s.nodes) c.self.view_is in
    let nodes = c.self.inside.nodes.items in
    let lefts = c.self.inside.lefts.items in
    let known = c.self.invariant.0 in
    let last = length lefts - 1 in
    let is_last : c.len-last.result - 1 ≡ last = omega (arith, c.len-last.ensures, c.self.inside.lefts.ok.0) in
    let some : 0 < length lefts = omega (arith, count, c.requires.leaf, c.requires.within) in
    let firsts = rw (c.deref.ensures.value, is_last) at c.nodes_below-earlier.ensures.first in
    let seconds = rw (c.deref.ensures.value, is_last) at c.nodes_below-earlier.ensures.second in
    let x = c.index.result.now in
    let y = c.index-2.result.now in
    let pair = rw (← firsts, ← seconds) at (pair_below lefts last) in
    let is_x = get_or_read nodes c.nodes_below-earlier.result.1 x (omega (arith, pair, known.size, some)) c.index.ensures 0 in
    let is_y = get_or_read (set nodes c.args.leaf x) c.nodes_below-earlier.result.0 y
    (omega (arith, pair, known.size, some, length-set nodes c.args.leaf x)) c.index-2.ensures 0 in
    let size : length c.repair_above.new.nodes ≡ c.truncate.new.self.len = omega (arith, c.repair_above.ensures.size, c.deref_mut.ensures.len) in
    let items = rw is_last at c.truncate.ensures.items in
    let kept = rw (c.deref_mut.ensures.value, items) at
    (c.repair_above.ensures.leaves other (omega (arith, c.deref_mut-2.ensures.len, c.truncate-2.ensures.len, from, count, is_last))) in
    let same : c.args.self.now.count - 1 ≡ last = omega (arith, count) in
    rw (take_at c.repair_above.new.nodes _ c.truncate.new.self.len size, same, ← state)
    (kept ∙ get_or-take (2 * last) _ other 0 (omega (arith, below, count)) ∙
    went_to nodes last c.args.leaf c.nodes_below-earlier.result.0 c.nodes_below-earlier.result.1 x y
    (omega (arith, known.size, count, c.requires.within), omega (arith, known.size, some)) pair.0 is_x is_y other)

pub invariant_of-self : goal.invariant_of-self
invariant_of-self g c = grind (arith, common_steps)

pub returns-clause-count : goal.returns-clause-count
returns-clause-count g c = grind (arith, common_steps)
