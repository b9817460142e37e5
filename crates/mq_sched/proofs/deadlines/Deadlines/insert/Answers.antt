use Rattle.mq_sched.proofs.Common.{◌+◌, ◌*◌, ◌/◌, ◌<◌, ◌≡◌, ◌∙◌, ◌++◌, ◌∷◌, [], cond, arith, ap, refl, length, set, length-set, nat_cmp_total, AreNumbered}
use Rattle.mq_sched.proofs.Common.{DeadlinesState, moments_at}
use Rattle.mq_sched.proofs.NumbersAtLeaves.{first-below, none-of_absent, AreNumbered-grown, moments-made}
use Rattle.std.specs.FinMap as map
use Rattle.mq_sched.proofs.deadlines.Deadlines.insert.Given.{Over}
use Rattle.mq_sched.proofs.deadlines.Deadlines.insert.Goals as goal

pub index_mut-requires : goal.index_mut-requires
index_mut-requires g c =
    let nodes = c.self.inside.tree.nodes in
    let leaves = c.self.inside.leaves.items in
    let numbers = c.self.inside.numbers.items in
    let count = c.self.inside.tree.count in
    let known = c.self.invariant.0 in
    let room = ap (λ (s : DeadlinesState). s.room) c.self.view_is in
    let n = c.args.number in
    let first = c.number_or-first.result in
    let half : c.len-count.result / 2 ≡ count = omega (arith, c.len-count.ensures, c.self.inside.numbers.ok.0, known.size) in
    let within : n < length leaves = omega (arith, c.requires.number, room, c.self.invariant.4) in
    let first_is = rw (c.deref.ensures.value, half) at c.number_or-first.ensures in
    omega (arith, first-below nodes leaves numbers count n known first within first_is, c.self.inside.leaves.ok.0)

-- the moments then
made_so : (g : Over) (c : goal.After-count g) →
    (let i = c.self.inside in let leaves = i.leaves.items in let numbers = i.numbers.items in let count = i.tree.count in let n = c.args.number in
    let first = c.number_or-first.result in let grown = set (set leaves first (2 * count)) n (2 * count + 1) in let more = (numbers ++ first ∷ []) ++ n ∷ [] in
    AreNumbered grown more (count + 1) ×
    (moments_at c.grow.new.self.nodes grown more (count + 1) ≡ map.insert (moments_at i.tree.nodes leaves numbers count) n c.args.due))
made_so g c =
    let nodes = c.self.inside.tree.nodes in
    let leaves = c.self.inside.leaves.items in
    let numbers = c.self.inside.numbers.items in
    let count = c.self.inside.tree.count in
    let known = c.self.invariant.0 in
    let n = c.args.number in
    let first = c.number_or-first.result in
    let half : c.len-count.result / 2 ≡ count = omega (arith, c.len-count.ensures, c.self.inside.numbers.ok.0, known.size) in
    let within : n < length leaves = omega (arith, c.requires.number, ap (λ (s : DeadlinesState). s.room) c.self.view_is, c.self.invariant.4) in
    let first_is = rw (c.deref.ensures.value, half) at c.number_or-first.ensures in
    let absent = none-of_absent nodes leaves numbers count n known (ap (λ (s : DeadlinesState). map.contains_key s.moments n) c.self.view_is ∙
    c.requires.absent) in
    let grow = c.grow.ensures in (
      AreNumbered-grown nodes c.grow.new.self.nodes leaves numbers count n first c.args.due known within absent first_is grow.last grow.moved grow.others,
      moments-made nodes c.grow.new.self.nodes leaves numbers count n first c.args.due known within absent first_is grow.last grow.moved grow.others,
    )

pub invariant_of-self : goal.invariant_of-self
invariant_of-self g c =
    let i = c.self.inside in
    let leaves = i.leaves.items in
    let count = i.tree.count in
    let made = made_so g c in
    let n = c.args.number in
    let first = c.number_or-first.result in
    let room = ap (λ (s : DeadlinesState). s.room) c.self.view_is in
    let half : c.len-count.result / 2 ≡ count = omega (arith, c.len-count.ensures, i.numbers.ok.0, c.self.invariant.0.size) in
    let gone = ap (λ (s : DeadlinesState). map.contains_key s.moments n) c.self.view_is ∙ c.requires.absent in
    let items = rw c.unwrap.ensures at c.push.ensures.items in
    let items_too = rw c.unwrap-2.ensures at c.push-2.ensures.items in
    let sizes : length (set (set leaves first (2 * count)) n (2 * count + 1)) ≡ length leaves =
    length-set (set leaves first (2 * count)) n (2 * count + 1) ∙ length-set leaves first (2 * count) in
    let m = moments_at i.tree.nodes leaves i.numbers.items count in
    let len = ap (λ (s : DeadlinesState). map.len s.moments) c.self.view_is in
    rw (items_too, items, c.grow.ensures.count, half) (
      made.0,
      ap map.len made.1 ∙ map.len-insert nat_cmp_total m n c.args.due ∙ ap (λ b. cond b (map.len m) (map.len m + 1)) gone ∙ ap (λ k. k + 1) c.self.invariant.1,
      c.grow.ensures.room ∙ c.self.invariant.2,
      omega (arith, c.requires.room, len, c.self.invariant.1, room),
      sizes ∙ c.self.invariant.4,
      c.self.invariant.5,
      omega (arith, c.self.invariant.6, c.push.ensures.capacity, c.push-2.ensures.capacity),
    )

pub returns-clause-moments : goal.returns-clause-moments
returns-clause-moments g c =
    let half : c.len-count.result / 2 ≡ c.self.inside.tree.count = omega (arith, c.len-count.ensures, c.self.inside.numbers.ok.0, c.self.invariant.0.size) in
    let items = rw c.unwrap.ensures at c.push.ensures.items in
    let items_too = rw c.unwrap-2.ensures at c.push-2.ensures.items in
    rw (
      items_too,
      items,
      c.grow.ensures.count,
      half,
      (made_so g c).1,
      ap (λ (s : DeadlinesState). s.moments) c.self.view_is,
      ap (λ (s : DeadlinesState). s.room) c.self.view_is,
    ) refl
