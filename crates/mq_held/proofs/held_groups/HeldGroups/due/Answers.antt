use Rattle.mq_held.proofs.Common.{◌≡◌, not, take, length, sym, ap, ◌∙◌, arith, filter, count_by-le-length, Spends-within, is_vacant_at}
use Rattle.std.specs.FinMap as map
use Rattle.mq_sets.proofs.PutInOrder.{in-order-within}
use Rattle.mq_held.proofs.{DueInOrder.few-moved, DueInOrder.few-running, DueInOrder.few-spent, DueInOrder.due-left, DueInOrder.count-left}
use Rattle.mq_held.proofs.{DueInOrder.numbers-left, DueInOrder.is_due_at, DueInOrder.many-moved, DueInOrder.many-spent, DueInOrder.picked_so}
use Rattle.mq_held.proofs.{DueInOrder.picked-once, DueInOrder.picked-ordered, GroupsInOrder.IsOrdered-stored, GroupsInOrder.len-view, GroupsInOrder.len-all}
use Rattle.mq_held.proofs.{GroupsInOrder.all-known, Inside.running-held, KeysByNumber.numbers_in}
use Rattle.mq_held.proofs.held_groups.HeldGroups.due.Given.{Over}
use Rattle.mq_held.proofs.held_groups.HeldGroups.due.Goals as goal

pub due-count-requires : goal.due-count-requires
due-count-requires g c =
    record { space = omega (arith, c.requires.spare, running-held g.K.Key.number c.self.invariant.0 c.self.view_is, few-running c.args.self.now.groups) }

pub slice_bounds-put_in_order-end : goal.slice_bounds-put_in_order-end
slice_bounds-put_in_order-end g c =
    let f = picked_so g.K.Key.number c.self.invariant.0 c.self.view_is c.args.now c.due-count.new.numbers _ c.due-count.ensures.within
    c.due-count.auto.numbers c.requires.spare c.due-count.ensures.due in
    omega (arith, f.within, c.due-count.auto.numbers, c.requires.spare)

pub slice_bounds-put_in_order-end-then-count-lt-WALKED_FROM : goal.slice_bounds-put_in_order-end-then-count-lt-WALKED_FROM
slice_bounds-put_in_order-end-then-count-lt-WALKED_FROM g c =
    let f = picked_so g.K.Key.number c.self.invariant.0 c.self.view_is c.args.now c.due-count.new.numbers _ c.due-count.ensures.within
    c.due-count.auto.numbers c.requires.spare c.due-count.ensures.due in
    sym f.size

pub put_in_order-requires-clause-once : goal.put_in_order-requires-clause-once
put_in_order-requires-clause-once g c = picked-once g.K.Key.number c.self.invariant.0 c.self.view_is c.args.now
    (take c.due-count.result c.due-count.new.numbers) c.due-count.ensures.due

pub put_in_order-requires-clause-space : goal.put_in_order-requires-clause-space
put_in_order-requires-clause-space g c =
    let f = picked_so g.K.Key.number c.self.invariant.0 c.self.view_is c.args.now c.due-count.new.numbers _ c.due-count.ensures.within
    c.due-count.auto.numbers c.requires.spare c.due-count.ensures.due in
    omega (arith, f.size, f.within, c.requires.space, c.clear.ensures.capacity)

pub all-requires : goal.all-requires
all-requires g c =
    record {
      space = omega (
        arith,
        c.requires.space,
        c.clear.ensures.capacity,
        len-view (IsOrdered-stored g.K.Key.number c.self.invariant.0 c.self.view_is) (ap (λ s. s.order) c.self.view_is),
      );
    }

pub leave_due-requires : goal.leave_due-requires
leave_due-requires g c =
    record {
      there = all-known (IsOrdered-stored g.K.Key.number c.self.invariant.0 c.self.view_is)
          (c.all.ensures.numbers ∙ ap (λ s. numbers_in s.order.items) c.self.view_is);
    }

-- the numbers left, if few are due
left_few : (g : Over) (c : goal.After-put_in_order g) → c.put_in_order.new.ordered.items ≡ filter (is_due_at c.args.self.now c.args.now)
    (numbers_in c.args.self.now.order.items)
left_few g c =
    picked-ordered g.K.Key.number c.self.invariant.0 c.self.view_is c.args.now (take c.due-count.result c.due-count.new.numbers)
    c.due-count.ensures.due c.put_in_order.ensures.ascending c.put_in_order.ensures.same

pub returns-then-count-lt-WALKED_FROM-clause-due : goal.returns-then-count-lt-WALKED_FROM-clause-due
returns-then-count-lt-WALKED_FROM-clause-due g c = due-left (IsOrdered-stored g.K.Key.number c.self.invariant.0 c.self.view_is) c.args.now (left_few g c)

pub returns-then-count-lt-WALKED_FROM-clause-numbers : goal.returns-then-count-lt-WALKED_FROM-clause-numbers
returns-then-count-lt-WALKED_FROM-clause-numbers g c = numbers-left (IsOrdered-stored g.K.Key.number c.self.invariant.0 c.self.view_is) c.args.now
    (left_few g c)

pub returns-then-count-lt-WALKED_FROM-clause-count : goal.returns-then-count-lt-WALKED_FROM-clause-count
returns-then-count-lt-WALKED_FROM-clause-count g c = count-left (IsOrdered-stored g.K.Key.number c.self.invariant.0 c.self.view_is) c.args.now (left_few g c)

pub returns-then-count-lt-WALKED_FROM-clause-spent : goal.returns-then-count-lt-WALKED_FROM-clause-spent
returns-then-count-lt-WALKED_FROM-clause-spent g c =
    let f = picked_so g.K.Key.number c.self.invariant.0 c.self.view_is c.args.now c.due-count.new.numbers _ c.due-count.ensures.within
    c.due-count.auto.numbers c.requires.spare c.due-count.ensures.due in
    few-spent c.due-count.result (map.len c.self.inside.moments.moments) (map.len c.args.self.now.groups) f.is
    (running-held g.K.Key.number c.self.invariant.0 c.self.view_is) c.if-count-lt-WALKED_FROM.true f.within c.due-count.ensures.spent
    (rw f.size at c.put_in_order.ensures.spent)

pub returns-then-count-lt-WALKED_FROM-clause-moved : goal.returns-then-count-lt-WALKED_FROM-clause-moved
returns-then-count-lt-WALKED_FROM-clause-moved g c =
    let f = picked_so g.K.Key.number c.self.invariant.0 c.self.view_is c.args.now c.due-count.new.numbers _ c.due-count.ensures.within
    c.due-count.auto.numbers c.requires.spare c.due-count.ensures.due in
    few-moved c.due-count.result (map.len c.args.self.now.groups) f.is c.if-count-lt-WALKED_FROM.true f.within
    (rw f.size at (in-order-within _ _ c.put_in_order.ensures.moved))

-- and where many are
left_many : (g : Over) (c : goal.After-leave_due g) → c.leave_due.new.numbers.items ≡ filter (is_due_at c.args.self.now c.args.now)
    (numbers_in c.args.self.now.order.items)
left_many g c = c.leave_due.ensures.numbers ∙ ap (filter (is_due_at c.args.self.now c.args.now))
    (c.all.ensures.numbers ∙ ap (λ s. numbers_in s.order.items) c.self.view_is)

pub returns-else-count-lt-WALKED_FROM-clause-due : goal.returns-else-count-lt-WALKED_FROM-clause-due
returns-else-count-lt-WALKED_FROM-clause-due g c = due-left (IsOrdered-stored g.K.Key.number c.self.invariant.0 c.self.view_is) c.args.now (left_many g c)

pub returns-else-count-lt-WALKED_FROM-clause-numbers : goal.returns-else-count-lt-WALKED_FROM-clause-numbers
returns-else-count-lt-WALKED_FROM-clause-numbers g c = numbers-left (IsOrdered-stored g.K.Key.number c.self.invariant.0 c.self.view_is) c.args.now
    (left_many g c)

pub returns-else-count-lt-WALKED_FROM-clause-count : goal.returns-else-count-lt-WALKED_FROM-clause-count
returns-else-count-lt-WALKED_FROM-clause-count g c = count-left (IsOrdered-stored g.K.Key.number c.self.invariant.0 c.self.view_is) c.args.now (left_many g c)

pub returns-else-count-lt-WALKED_FROM-clause-spent : goal.returns-else-count-lt-WALKED_FROM-clause-spent
returns-else-count-lt-WALKED_FROM-clause-spent g c =
    let f = picked_so g.K.Key.number c.self.invariant.0 c.self.view_is c.args.now c.due-count.new.numbers _ c.due-count.ensures.within
    c.due-count.auto.numbers c.requires.spare c.due-count.ensures.due in
    let all = len-all (IsOrdered-stored g.K.Key.number c.self.invariant.0 c.self.view_is)
    (c.all.ensures.numbers ∙ ap (λ s. numbers_in s.order.items) c.self.view_is) in
    many-spent c.due-count.result (map.len c.self.inside.moments.moments) (map.len c.args.self.now.groups) (length c.all.new.numbers.items) f.is
    (running-held g.K.Key.number c.self.invariant.0 c.self.view_is) c.if-count-lt-WALKED_FROM.false all c.due-count.ensures.spent
    (Spends-within 0 _ c.leave_due.ensures.spent (omega arith) (count_by-le-length (λ n. not (is_vacant_at c.args.self.now n)) c.all.new.numbers.items))

pub returns-else-count-lt-WALKED_FROM-clause-moved : goal.returns-else-count-lt-WALKED_FROM-clause-moved
returns-else-count-lt-WALKED_FROM-clause-moved g c =
    let f = picked_so g.K.Key.number c.self.invariant.0 c.self.view_is c.args.now c.due-count.new.numbers _ c.due-count.ensures.within
    c.due-count.auto.numbers c.requires.spare c.due-count.ensures.due in
    let all = sym (len-view (IsOrdered-stored g.K.Key.number c.self.invariant.0 c.self.view_is) (ap (λ s. s.order) c.self.view_is)) in
    many-moved c.due-count.result (map.len c.args.self.now.groups) (length c.self.inside.order.items) f.is c.if-count-lt-WALKED_FROM.false f.within
    all c.all.ensures.moved
