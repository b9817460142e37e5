use Rattle.mq_link.proofs.Common.{◌≡◌, ◌+◌, ◌*◌, ◌<◌, get_or, length, refl, sym, ap, ◌∙◌, subst, arith, list_map, All, Spends-within, key_in, cleared, group_at}
use Rattle.mq_link.proofs.Common.{sources_of, HasNumber, IsNumber, IsServed, put_by_rows}
use Rattle.std.specs.FinMap as map
use Rattle.mq_link.proofs.{ClearedGroups.none_cleared, ClearedGroups.one_cleared, ClearedGroups.all_cleared, ClearedGroups.served_more}
use Rattle.mq_link.proofs.{GroupNumbers.is_number_stays, GroupNumbers.number_found, GroupNumbers.number_stays, GroupNumbers.number_stayed, Moved.paid_none}
use Rattle.mq_link.proofs.{Moved.paid_by, Moved.paid_join, PaidEdits.few_digits, ReplacedGroups.address_of, ReplacedGroups.all_entries, ReplacedGroups.as_many}
use Rattle.mq_link.proofs.{ReplacedGroups.entry_at, ReplacedGroups.next_group, Rooms.rooms_on}
use Rattle.mq_link.proofs.storage.Storage.clear_groups.Goals as goal

pub loop-number-init : goal.loop-number-init
loop-number-init g c =
    ((0, none_cleared c.args.self.now.held.groups c.args.self.now.meter, paid_none _ _), refl, record { groups = refl; sources = refl }, omega arith)

pub clear_group-requires-clause-number : goal.clear_group-requires-clause-number
clear_group-requires-clause-number g c =
    let named = subst (All (IsNumber c.args.self.now.held)) (sym c.as_slice-number-items.ensures.value) c.all.ensures.numbers in
    is_number_stays c.args.self.now.held c.loop-number.self.held _ c.loop-number.invariant.1 (named c.loop-number.number-index 0 c.loop-number-test.true)

pub clear_group-requires-clause-served : goal.clear_group-requires-clause-served
clear_group-requires-clause-served g c address other =
    let old = c.args.self.now.held in
    let es = map.entries old.groups in
    let i = c.loop-number.number-index in
    let same = ap (list_map (key_in old.order.items)) c.as_slice-number-items.ensures.value ∙ c.all.ensures.all in
    let within : i < length (map.entries old.groups) = omega (arith, as_many (key_in old.order.items) _ es same, c.loop-number-test.true) in
    let known = c.lemma_is_numbered.ensures.known address _ (number_stayed old c.loop-number.self.held address _ c.loop-number.invariant.1 other) in
    let key : address ≡ (entry_at (map.entries old.groups) i).0 = sym known ∙ address_of (key_in old.order.items) _ es same i c.loop-number-test.true in
    let group = ap (group_at c.loop-number.self.held.groups) key ∙
    next_group cleared old.groups es (all_entries old.groups) i c.loop-number.self.held.groups c.loop-number.invariant.0.1.done within in
    subst (IsServed c.loop-number.group.room) (sym group)
    (served_more c.args.group.now.room c.loop-number.group.room _ c.loop-number.invariant.3
    (c.requires.ready.served _ _ ((all_entries old.groups).held i within)))

pub loop-number-preserved : goal.loop-number-preserved
loop-number-preserved g c =
    let old = c.args.self.now.held in
    let current = c.loop-number.self.held in
    let es = map.entries old.groups in
    let i = c.loop-number.number-index in
    let so_far = c.loop-number.invariant.0.1 in
    let same = ap (list_map (key_in old.order.items)) c.as_slice-number-items.ensures.value ∙ c.all.ensures.all in
    let named = subst (All (IsNumber old)) (sym c.as_slice-number-items.ensures.value) c.all.ensures.numbers in
    let within : i < length (map.entries old.groups) = omega (arith, as_many (key_in old.order.items) _ es same, c.loop-number-test.true) in
    let key = address_of (key_in old.order.items) _ es same i c.loop-number-test.true in
    let n = get_or c.as_slice-number-items.result.now i 0 in
    let has = number_stays old current (entry_at es i).0 n c.loop-number.invariant.1
    (subst (λ a. HasNumber old a n) key (number_found old n (named i 0 c.loop-number-test.true))) in
    let size = ap sources_of (next_group cleared old.groups es (all_entries old.groups) i current.groups so_far.done within) in
    let digits = few_digits (map.len current.groups) (omega (arith, so_far.done.len_is, c.requires.ready.few)) in
    let more = one_cleared old.groups c.args.self.now.meter i current.groups c.loop-number.self.meter c.loop-number.invariant.0.0 so_far within
    c.clear_group.new.self.held.groups c.clear_group.new.self.meter _ (c.clear_group.ensures.groups _ has) (c.clear_group.ensures.spent _ has) digits in
    let paid = paid_join (5 * (c.loop-number.invariant.0.0 + sources_of (entry_at es i).1) + 21 * (i + 1)) c.loop-number.invariant.0.2
    (c.clear_group.ensures.moved _ has) (omega (arith, size, digits)) in (
      (c.loop-number.invariant.0.0 + sources_of (entry_at es i).1, more, paid),
      c.clear_group.ensures.order ∙ c.loop-number.invariant.1,
      rooms_on c.loop-number.invariant.2 c.clear_group.ensures.rooms,
      omega (arith, c.loop-number.invariant.3, c.clear_group.ensures.room),
    )

pub returns-clause-groups : goal.returns-clause-groups
returns-clause-groups g c =
    let old = c.args.self.now.held in
    let same = ap (list_map (key_in old.order.items)) c.as_slice-number-items.ensures.value ∙ c.all.ensures.all in
    let many = as_many (key_in old.order.items) _ (map.entries old.groups) same in
    all_cleared old.groups _ c.loop-number.number-index c.loop-number.self.held.groups _ _ c.loop-number.invariant.0.1
    (omega (arith, many, c.loop-number-test.false, map.len-entries old.groups))

pub returns-clause-spent : goal.returns-clause-spent
returns-clause-spent g c =
    let old = c.args.self.now.held in
    let same = ap (list_map (key_in old.order.items)) c.as_slice-number-items.ensures.value ∙ c.all.ensures.all in
    let many = as_many (key_in old.order.items) _ (map.entries old.groups) same in
    let so_far = c.loop-number.invariant.0.1 in
    Spends-within _ _ so_far.spent (omega arith) (omega (arith, many, so_far.weight_is, c.loop-number.auto.number-index-end, map.len-entries old.groups))

pub returns-clause-moved : goal.returns-clause-moved
returns-clause-moved g c =
    let old = c.args.self.now.held in
    let same = ap (list_map (key_in old.order.items)) c.as_slice-number-items.ensures.value ∙ c.all.ensures.all in
    let many = as_many (key_in old.order.items) _ (map.entries old.groups) same in
    let so_far = c.loop-number.invariant.0.1 in
    let listed = paid_by (map.len old.groups) {before = put_by_rows old} {after = put_by_rows old} c.all.ensures.moved (omega arith) in
    paid_join _ listed c.loop-number.invariant.0.2 (omega (arith, many, so_far.weight_is, c.loop-number.auto.number-index-end, map.len-entries old.groups))
