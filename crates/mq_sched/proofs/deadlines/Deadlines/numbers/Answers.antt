use Rattle.mq_sched.proofs.Common.{◌-◌, ◌/◌, ◌≡◌, ◌+◌, arith, ap, length, take, drop, get_or, take_all, length-drop, DeadlinesState}
use Rattle.mq_sched.proofs.NumbersAtLeaves.{dense-leaf, below-room, numbers-once}
use Rattle.mq_sched.proofs.deadlines.Deadlines.numbers.Goals as goal

pub returns : goal.returns
returns g c =
    let nodes = c.self.inside.tree.nodes in
    let leaves = c.self.inside.leaves.items in
    let numbers = c.self.inside.numbers.items in
    let count = c.self.inside.tree.count in
    let known = c.self.invariant.0 in
    let half : c.len-first.result / 2 ≡ count = omega (arith, c.len-first.ensures, c.self.inside.numbers.ok.0, known.size) in
    let all : take (length numbers - count) (drop count numbers) ≡ drop count numbers = take_all (length numbers - count) (drop count numbers)
    (omega (arith, length-drop count numbers)) in
    record {
      each = λ number.
          let moments = ap (λ (s : DeadlinesState). s.moments) c.self.view_is in
          rw (c.deref.ensures.value, half, all, ← moments) (numbers-once nodes leaves numbers count known number);
      within =
          let room = ap (λ (s : DeadlinesState). s.room) c.self.view_is in
          rw (c.deref.ensures.value, half, all, ← room)
          (λ k d here.
          let is = dense-leaf nodes leaves numbers count known k d here in
          omega (arith, below-room nodes leaves numbers count (get_or (drop count numbers) k d) known (count + k) is, c.self.invariant.4));
    }
