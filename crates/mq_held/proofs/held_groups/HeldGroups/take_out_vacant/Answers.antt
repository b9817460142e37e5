use Rattle.mq_held.proofs.Common.{◌≡◌, ◌<◌, ◌≤◌, ◌/◌, ◌^◌, length, not, ap, ◌∙◌, arith, filter, Spends-within, Spends-join, Spends-join_within, is_vacant_at}
use Rattle.mq_held.proofs.{GroupsInOrder.IsOrdered-stored, Inside.len-held, TakenItems.length-vacant, TakenGroups.groups-left, TakenGroups.given-within}
use Rattle.mq_held.proofs.{TakenGroups.inside-left, TakenGroups.has-left, TakenGroups.left-removed, TakenGroups.gone-there, TakenGroups.gone-once}
use Rattle.mq_held.proofs.{TakenGroups.parts-left, TakenGroups.order-left, TakenGroups.left-kept, TakenGroups.all-vacant, TakenGroups.few-searches}
use Rattle.mq_held.proofs.{TakenGroups.few-moves, TakenGroups.many-moves}
use Rattle.mq_held.proofs.held_groups.HeldGroups.take_out_vacant.Given.{Over}
use Rattle.mq_held.proofs.held_groups.HeldGroups.take_out_vacant.Goals as goal

pub remove_each-requires-clause-there : goal.remove_each-requires-clause-there
remove_each-requires-clause-there g c = gone-there g.K.Key.number c.self.invariant.0 c.self.view_is c.args.numbers.now.items c.requires.there
    (c.as_slice.ensures.value ∙ c.leave_vacant.ensures.numbers)

pub remove_each-requires-clause-once : goal.remove_each-requires-clause-once
remove_each-requires-clause-once g c = gone-once g.K.Key.number c.self.invariant.0 c.self.view_is c.args.numbers.now.items c.requires.each
    (c.as_slice.ensures.value ∙ c.leave_vacant.ensures.numbers)

pub keep-requires-clause-parts : goal.keep-requires-clause-parts
keep-requires-clause-parts g c = parts-left g.K.Key.number c.self.invariant.0 c.self.view_is c.part-kept.ensures.kept
    (c.as_slice-else-len.ensures.value ∙ c.part-kept.ensures.gone)

pub keep-requires-clause-in_order : goal.keep-requires-clause-in_order
keep-requires-clause-in_order g c = order-left g.K.Key.number c.self.invariant.0 c.self.view_is c.part-kept.ensures.kept

-- the items left, if they are removed one by one
left_few : (g : Over) (c : goal.After-remove_each g) →
    c.remove_each.new.order.items ≡ filter (λ x. not (is_vacant_at c.args.self.now x.number)) c.self.inside.order.items
left_few g c = c.remove_each.ensures.items ∙
    left-removed g.K.Key.number c.self.invariant.0 c.self.view_is c.args.numbers.now.items c.requires.there c.requires.each c.requires.vacant
    (c.as_slice.ensures.value ∙ c.leave_vacant.ensures.numbers)

few : (g : Over) (c : goal.After-remove_each g) → length c.as_slice.result.now ≤ length c.self.inside.order.items / 32
few g c = omega (arith, c.if-len.true, c.len.ensures, c.as_slice.ensures.len, ap (λ n. n / 32) c.len-2.ensures.len)

pub invariant_of-self : goal.invariant_of-self
invariant_of-self g c = inside-left c.self.inside c.self.invariant c.self.view_is c.remove_each.new.order (left_few g c) c.remove_each.ensures.room

pub returns-then-len-clause-groups : goal.returns-then-len-clause-groups
returns-then-len-clause-groups g c = groups-left g.K.Key.number c.self.invariant.0 c.self.view_is (left_few g c)

pub returns-then-len-clause-numbers : goal.returns-then-len-clause-numbers
returns-then-len-clause-numbers g c address n has = has-left g.K.Key.number c.self.invariant.0 c.self.view_is (left_few g c) has.is

pub returns-then-len-clause-spent : goal.returns-then-len-clause-spent
returns-then-len-clause-spent g c =
    let given = c.args.numbers.now.items in
    let part = length-vacant (is_vacant_at c.args.self.now) given (c.as_slice.ensures.value ∙ c.leave_vacant.ensures.numbers) in
    let small : length c.self.inside.order.items ≤ 2 ^ 16 = omega (arith, c.self.invariant.5, c.self.invariant.6) in
    rw (len-held g.K.Key.number c.self.invariant.0 c.self.view_is)
    (Spends-within _ _ c.remove_each.ensures.spent (omega arith)
    (few-searches (length c.as_slice.result.now) (length given) (length c.self.inside.order.items) (few g c) part small))

pub returns-then-len-clause-moved : goal.returns-then-len-clause-moved
returns-then-len-clause-moved g c =
    let given = c.args.numbers.now.items in
    let within = given-within g.K.Key.number c.self.invariant.0 c.self.view_is given c.requires.there c.requires.each c.requires.vacant in
    let vacant = all-vacant (IsOrdered-stored g.K.Key.number c.self.invariant.0 c.self.view_is) given c.requires.there c.requires.each
    c.requires.vacant (c.as_slice.ensures.value ∙ c.leave_vacant.ensures.numbers) in
    let part = length-vacant (is_vacant_at c.args.self.now) given (c.as_slice.ensures.value ∙ c.leave_vacant.ensures.numbers) in
    let small : length c.self.inside.order.items ≤ 2 ^ 16 = omega (arith, c.self.invariant.5, c.self.invariant.6) in
    rw (len-held g.K.Key.number c.self.invariant.0 c.self.view_is)
    (Spends-join_within _ _ c.leave_vacant.ensures.moved c.remove_each.ensures.moved (omega (arith, vacant))
    (few-moves (length c.as_slice.result.now) (length given) (length c.self.inside.order.items) (few g c) part within small))

-- and where the order is walked
left_many : (g : Over) (c : goal.After-keep g) → c.keep.new.self.items ≡ filter (λ x. not (is_vacant_at c.args.self.now x.number)) c.self.inside.order.items
left_many g c = c.keep.ensures.items ∙ left-kept g.K.Key.number c.self.invariant.0 c.self.view_is c.part-kept.ensures.kept

pub invariant_of-self-else-len : goal.invariant_of-self-else-len
invariant_of-self-else-len g c = inside-left c.self.inside c.self.invariant c.self.view_is c.keep.new.self (left_many g c) c.keep.ensures.room

pub returns-else-len-clause-groups : goal.returns-else-len-clause-groups
returns-else-len-clause-groups g c = groups-left g.K.Key.number c.self.invariant.0 c.self.view_is (left_many g c)

pub returns-else-len-clause-numbers : goal.returns-else-len-clause-numbers
returns-else-len-clause-numbers g c address n has = has-left g.K.Key.number c.self.invariant.0 c.self.view_is (left_many g c) has.is

pub returns-else-len-clause-moved : goal.returns-else-len-clause-moved
returns-else-len-clause-moved g c =
    let size = len-held g.K.Key.number c.self.invariant.0 c.self.view_is in
    let given = c.args.numbers.now.items in
    let within = given-within g.K.Key.number c.self.invariant.0 c.self.view_is given c.requires.there c.requires.each c.requires.vacant in
    let vacant = all-vacant (IsOrdered-stored g.K.Key.number c.self.invariant.0 c.self.view_is) given c.requires.there c.requires.each
    c.requires.vacant c.leave_vacant.ensures.numbers in
    let gone = length c.leave_vacant.new.numbers.items in
    let part = length-vacant (is_vacant_at c.args.self.now) given c.leave_vacant.ensures.numbers in
    let many : length c.self.inside.order.items / 32 < gone =
    omega (arith, c.if-len.false, c.len.ensures, c.leave_vacant.new.numbers.ok.0, ap (λ n. n / 32) c.len-2.ensures.len) in
    let bound = many-moves gone (length given) (length c.self.inside.order.items) many part within in
    rw size
    (Spends-join_within _ _ (Spends-join c.leave_vacant.ensures.moved c.part-kept.ensures.moved) c.keep.ensures.moved
    (omega (arith, vacant, part, within, size)) (omega (arith, bound, size)))
