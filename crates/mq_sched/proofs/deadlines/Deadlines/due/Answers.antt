use Rattle.mq_sched.proofs.Common.{◌-◌, ◌/◌, ◌≡◌, ◌∙◌, arith, ap, length, take, drop, slice_index, list_map, take_all, take_at, length-drop, length-map}
use Rattle.mq_sched.proofs.Common.{length-take-le, DeadlinesState}
use Rattle.mq_sched.proofs.NumbersAtLeaves.{found_behind, due-numbers}
use Rattle.std.specs.FinMap as map
use Rattle.mq_sched.proofs.deadlines.Deadlines.due.Goals as goal

pub write_numbers-requires : goal.write_numbers-requires
write_numbers-requires g c =
    let nodes = c.self.inside.tree.nodes in
    let leaves = c.self.inside.leaves.items in
    let numbers = c.self.inside.numbers.items in
    let count = c.self.inside.tree.count in
    let known = c.self.invariant.0 in
    let half : c.len-first.result / 2 ≡ count = omega (arith, c.len-first.ensures, c.self.inside.numbers.ok.0, known.size) in
    let all : take (length numbers - count) (drop count numbers) ≡ drop count numbers = take_all (length numbers - count) (drop count numbers)
    (omega (arith, length-drop count numbers)) in
    rw (c.deref.ensures.value, half, all)
    (found_behind nodes leaves numbers count known c.args.now (take c.due-count.result c.due-count.new.leaves) c.due-count.ensures.due)

pub returns-clause-due : goal.returns-clause-due
returns-clause-due g c number =
    let nodes = c.self.inside.tree.nodes in
    let leaves = c.self.inside.leaves.items in
    let numbers = c.self.inside.numbers.items in
    let count = c.self.inside.tree.count in
    let known = c.self.invariant.0 in
    let counted = c.self.invariant.1 in
    let moments = ap (λ (s : DeadlinesState). s.moments) c.self.view_is in
    let half : c.len-first.result / 2 ≡ count = omega (arith, c.len-first.ensures, c.self.inside.numbers.ok.0, known.size) in
    let all : take (length numbers - count) (drop count numbers) ≡ drop count numbers = take_all (length numbers - count) (drop count numbers)
    (omega (arith, length-drop count numbers)) in
    let found = take c.due-count.result c.due-count.new.leaves in
    let len = ap (λ (s : DeadlinesState). map.len s.moments) c.self.view_is in
    let written = rw (c.deref.ensures.value, half, all) at c.write_numbers.ensures in
    let size : length (list_map (slice_index (drop count numbers)) found) ≡ c.due-count.result = length-map found (slice_index (drop count numbers)) ∙
    length-take-le c.due-count.result c.due-count.new.leaves
    (omega (arith, c.due-count.ensures.within, len, counted, c.requires.space, c.due-count.auto.leaves)) in
    rw (
      written,
      take_at (list_map (slice_index (drop count numbers)) found) (drop c.due-count.result c.due-count.new.leaves) c.due-count.result size,
      ← moments,
    ) (due-numbers nodes leaves numbers count known c.args.now found c.due-count.ensures.due number)
