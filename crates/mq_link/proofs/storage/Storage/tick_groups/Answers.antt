use Rattle.mq_link.proofs.Common.{◌≡◌, cond, ◌+◌, ◌*◌, ◌≤◌, ◌<◌, [], ◌∷◌, ◌++◌, get_or, length, refl, sym, ap, ◌∙◌, subst, arith, vec_capacity, is_ok, list_map}
use Rattle.mq_link.proofs.Common.{All, flat_map, take_all, length-map, Spends-join, Spends-join_within, IsAscending, key_in, Sends, group_at, sources_of}
use Rattle.mq_link.proofs.Common.{HasNumber, IsNumber, due_in, most_moved_by_tick, put_by_rows, common_steps}
use Rattle.std.specs.FinMap as map
use Rattle.mq_link.proofs.{DueGroups.all_running, DueGroups.are_due, DueGroups.due_entries, DueGroups.none_have, DueGroups.sent_of_due}
use Rattle.mq_link.proofs.{GroupNumbers.is_number_stays, GroupNumbers.number_found, GroupNumbers.number_stays, GroupNumbers.number_stayed}
use Rattle.mq_link.proofs.{GroupNumbers.stands_once, Moved.paid_none, Moved.paid_by, Moved.paid_join, Moved.spends_none, PaidEdits.few_digits}
use Rattle.mq_link.proofs.{PaidEdits.none_of_all, PaidEdits.some_of, PaidEdits.taken_out_paid, ReplacedGroups.address_of, ReplacedGroups.as_many}
use Rattle.mq_link.proofs.{ReplacedGroups.entry_at, ReplacedGroups.next_group, Rooms.rooms_on, TickedEntries.queries_at, TickedEntries.queries_of_entries}
use Rattle.mq_link.proofs.{TickedFilters.few_turned, TickedFilters.one_turned, TickedFilters.those_turned, TickedFilters.with_answer, TickedNumbers.served_as}
use Rattle.mq_link.proofs.{TickedNumbers.none_ticked, TickedNumbers.one_ticked, TickedNumbers.ticked_left, TickedNumbers.vacant_named}
use Rattle.mq_link.proofs.storage.Storage.tick_groups.Given.{Over}
use Rattle.mq_link.proofs.storage.Storage.tick_groups.Goals as goal
use Rattle.mq_link.proofs.storage.Storage.tick_groups.Goals.{in-Some, in_default}

pub loop-number-init : goal.loop-number-init
loop-number-init g c = (
  (
    0,
    none_ticked g.K.WireKey.PER_QUERY c.args.at.now.timing c.args.at.now.moment c.args.self.now.held.groups g.S.Sink.takes c.args.sink.now
        c.due.new.m,
    paid_none _ _,
  ),
  (λ _. refl),
  refl,
  record { groups = refl; sources = refl },
  omega arith,
  ap (list_map g.K.Key.number) c.requires.empty,
  omega arith,
)

pub tick_group-requires-clause-number : goal.tick_group-requires-clause-number
tick_group-requires-clause-number g c =
    let named = subst (All (IsNumber c.args.self.now.held)) (sym c.as_slice-number-items.ensures.value) c.due.ensures.numbers in
    is_number_stays c.args.self.now.held c.loop-number.self.held _ c.loop-number.invariant.2 (named c.loop-number.number-index 0 c.loop-number-test.true)

pub tick_group-requires-clause-room : goal.tick_group-requires-clause-room
tick_group-requires-clause-room g c address other =
    let now = c.args.at.now.moment in
    let old = c.args.self.now.held in
    let i = c.loop-number.number-index in
    let same = ap (list_map (key_in old.order.items)) c.as_slice-number-items.ensures.value ∙ c.due.ensures.due in
    let within : i < length (due_entries now old.groups) =
    omega (arith, as_many (key_in old.order.items) _ (due_entries now old.groups) same, c.loop-number-test.true) in
    let known = c.lemma_is_numbered.ensures.known address _ (number_stayed old c.loop-number.self.held address _ c.loop-number.invariant.2 other) in
    let key : address ≡ (entry_at (due_entries now old.groups) i).0 = sym known ∙
    address_of (key_in old.order.items) _ (due_entries now old.groups) same i c.loop-number-test.true in
    let group = ap (group_at c.loop-number.self.held.groups) key ∙
    next_group (served_as c.args.at.now.timing now) old.groups (due_entries now old.groups)
    (are_due now old.groups) i c.loop-number.self.held.groups c.loop-number.invariant.0.1.done within in
    let fits = (c.requires.ready.served _ _ ((are_due now old.groups).held i within)).room_for in
    omega (arith, ap sources_of group, fits, c.loop-number.invariant.4)

-- an address that is answered is listed, and nothing else
named_more : (g : Over) (c : goal.Joined-tick_group g) → c.match-tick_group.lists.1.1.1.0.items
    ≡ with_answer c.loop-number.lists.1.1.1.0.items c.tick_group.result
named_more g c =
    let named = c.loop-number.lists.1.1.1.0.items in
    elim c.match-tick_group.branch [
      | in-Some w ↦
          (λ i. (w.lists-is i).1.1.1.0.items)
          ∙ w.push.ensures.items
          ∙ ap (λ r. cond (is_ok r) (named ++ w.in-Some.address ∷ []) named) w.unwrap.ensures
          ∙ sym (ap (with_answer named) w.in-Some.is)
      | in_default w ↦ (λ i. (w.lists-is i).1.1.1.0.items) ∙ sym (ap (with_answer named) w.in_default.is)
    ]

room_stays : (g : Over) (c : goal.Joined-tick_group g) → vec_capacity c.loop-number.lists.1.1.1.0 ≤ vec_capacity c.match-tick_group.lists.1.1.1.0
room_stays g c = elim c.match-tick_group.branch [
  | in-Some w ↦ let left : vec_capacity c.match-tick_group.lists.1.1.1.0 ≡ vec_capacity w.push.new.self = λ i. vec_capacity (w.lists-is i).1.1.1.0 in
      omega (arith, w.push.ensures.capacity, left)
  | in_default w ↦ let left : vec_capacity c.match-tick_group.lists.1.1.1.0 ≡ vec_capacity c.loop-number.lists.1.1.1.0 =
      λ i. vec_capacity (w.lists-is i).1.1.1.0 in omega (arith, left)
]

pub loop-number-preserved : goal.loop-number-preserved
loop-number-preserved g c =
    let now = c.args.at.now.moment in
    let timing = c.args.at.now.timing in
    let old = c.args.self.now.held in
    let current = c.loop-number.self.held in
    let es = due_entries now old.groups in
    let i = c.loop-number.number-index in
    let so_far = c.loop-number.invariant.0.1 in
    let same = ap (list_map (key_in old.order.items)) c.as_slice-number-items.ensures.value ∙ c.due.ensures.due in
    let named = subst (All (IsNumber old)) (sym c.as_slice-number-items.ensures.value) c.due.ensures.numbers in
    let within : i < length (due_entries now old.groups) = omega (arith, as_many (key_in old.order.items) _ es same, c.loop-number-test.true) in
    let key = address_of (key_in old.order.items) _ es same i c.loop-number-test.true in
    let n = get_or c.as_slice-number-items.result.now i 0 in
    let has = number_stays old current (entry_at es i).0 n c.loop-number.invariant.2
    (subst (λ a. HasNumber old a n) key (number_found old n (named i 0 c.loop-number-test.true))) in
    let size = ap sources_of (next_group (served_as timing now) old.groups es (are_due now old.groups) i current.groups so_far.done within) in
    let digits = few_digits (map.len current.groups) (omega (arith, so_far.done.len_is, c.requires.ready.few)) in
    let more = one_ticked g.K.WireKey.PER_QUERY timing now old.groups g.S.Sink.takes c.args.sink.now c.due.new.m i current.groups c.loop-number.sink
    c.loop-number.self.meter c.loop-number.invariant.0.0 so_far within c.tick_group.new.self.held.groups c.tick_group.new.sink
    c.tick_group.new.self.meter _ (c.tick_group.ensures.groups _ has) (c.tick_group.ensures.sent _ has) (c.tick_group.ensures.spent _ has) digits in
    let paid = paid_join (5 * (c.loop-number.invariant.0.0 + sources_of (entry_at es i).1) + 21 * (i + 1)) c.loop-number.invariant.0.2
    (c.tick_group.ensures.moved _ has) (omega (arith, size, digits)) in (
      (c.loop-number.invariant.0.0 + sources_of (entry_at es i).1, more, paid),
      (λ first. absurd (omega arith)),
      c.tick_group.ensures.order ∙ c.loop-number.invariant.2,
      rooms_on c.loop-number.invariant.3 c.tick_group.ensures.rooms,
      omega (arith, c.loop-number.invariant.4, c.tick_group.ensures.room),
      one_turned timing now old.groups i within current.groups c.tick_group.new.self.held.groups so_far.done
          (c.tick_group.ensures.groups _ has) g.K.Key.number c.tick_group.result c.loop-number.lists.1.1.1.0.items
          c.match-tick_group.lists.1.1.1.0.items (c.tick_group.ensures.changed _ has) c.loop-number.invariant.5 (named_more g c),
      omega (arith, c.loop-number.invariant.6, room_stays g c),
    )

pub take_out_vacant-requires-clause-there : goal.take_out_vacant-requires-clause-there
take_out_vacant-requires-clause-there g c k d within =
    is_number_stays c.args.self.now.held c.loop-number.self.held _ c.loop-number.invariant.2 (c.due.ensures.numbers k d within)

pub take_out_vacant-requires-clause-each : goal.take_out_vacant-requires-clause-each
take_out_vacant-requires-clause-each g c number =
    let now = c.args.at.now.moment in
    let old = c.args.self.now.held in
    stands_once (key_in old.order.items) c.due.new.numbers.items
    (subst (IsAscending (λ k. k)) (sym c.due.ensures.due) (are_due now old.groups).ascending) number

pub take_out_vacant-requires-clause-vacant : goal.take_out_vacant-requires-clause-vacant
take_out_vacant-requires-clause-vacant g c number is vacant =
    let now = c.args.at.now.moment in
    let old = c.args.self.now.held in
    let same = ap (list_map (key_in old.order.items)) c.as_slice-number-items.ensures.value ∙ c.due.ensures.due in
    let all : length (due_entries now old.groups) ≤ c.loop-number.number-index =
    omega (arith, as_many (key_in old.order.items) _ (due_entries now old.groups) same, c.loop-number-test.false) in
    let numbered = c.lemma_is_numbered.ensures in
    vacant_named c.args.at.now.timing now c.args.group.now.room old.groups c.requires.ready.served c.loop-number.self.held.groups
    c.loop-number.number-index c.loop-number.invariant.0.1.done all
    old c.loop-number.self.held c.due.new.numbers.items refl refl c.loop-number.invariant.2 c.due.ensures.numbers c.due.ensures.due numbered.of_one
    numbered.one number is vacant

pub take_out_vacant-requires-clause-space : goal.take_out_vacant-requires-clause-space
take_out_vacant-requires-clause-space g c =
    let room = c.requires.space.due in
    omega (arith, c.loop-number.invariant.0.1.done.len_is, c.due.ensures.capacity, room)

pub returns-clause-groups : goal.returns-clause-groups
returns-clause-groups g c =
    let now = c.args.at.now.moment in
    let old = c.args.self.now.held in
    let same = ap (list_map (key_in old.order.items)) c.as_slice-number-items.ensures.value ∙ c.due.ensures.due in
    let all : length (due_entries now old.groups) ≤ c.loop-number.number-index =
    omega (arith, as_many (key_in old.order.items) _ (due_entries now old.groups) same, c.loop-number-test.false) in
    c.take_out_vacant.ensures.groups
    ∙ ticked_left c.args.at.now.timing now c.args.group.now.room old.groups c.requires.ready.served c.loop-number.self.held.groups
    c.loop-number.number-index c.loop-number.invariant.0.1.done all

pub returns-clause-sent : goal.returns-clause-sent
returns-clause-sent g c family is =
    let now = c.args.at.now.moment in
    let timing = c.args.at.now.timing in
    let old = c.args.self.now.held in
    let es = due_entries now old.groups in
    let same = ap (list_map (key_in old.order.items)) c.as_slice-number-items.ensures.value ∙ c.due.ensures.due in
    let all : length (due_entries now old.groups) ≤ c.loop-number.number-index =
    omega (arith, as_many (key_in old.order.items) _ (due_entries now old.groups) same, c.loop-number-test.false) in
    let queries = ap (flat_map (queries_at g.K.WireKey.PER_QUERY timing now)) (take_all c.loop-number.number-index es all)
    ∙ sent_of_due now old.groups c.args.group.now.room g.K.WireKey.PER_QUERY timing c.requires.ready.served
    ∙ ap (λ n. flat_map (queries_at n timing now) (map.entries old.groups)) is
    ∙ sym (queries_of_entries family timing now old.groups)
    in
    subst (λ qs. Sends g.S.Sink.takes c.args.sink.now qs c.loop-number.sink) queries c.loop-number.invariant.0.1.sent

-- the number of listed groups, and the comparisons for that
pub returns-clause-spent : goal.returns-clause-spent
returns-clause-spent g c =
    let now = c.args.at.now.moment in
    let old = c.args.self.now.held in
    let es = due_entries now old.groups in
    let same = ap (list_map (key_in old.order.items)) c.as_slice-number-items.ensures.value ∙ c.due.ensures.due in
    let many = as_many (key_in old.order.items) _ es same in
    let due = are_due now old.groups in
    let running = all_running c.args.group.now.room old.groups c.requires.ready.served in
    let so_far = c.loop-number.invariant.0.1 in
    Spends-join_within _ _ (Spends-join c.due.ensures.spent so_far.spent) c.take_out_vacant.ensures.spent (omega (arith, running))
    (omega (
      arith,
      running,
      many,
      due.few,
      so_far.weight_is,
      so_far.done.len_is,
      c.loop-number.auto.number-index-end,
      some_of (due_in now old.groups) (7 * map.len old.groups),
      some_of (length c.due.new.numbers.items) (map.len c.loop-number.self.held.groups),
    ))

pub returns-clause-quiet : goal.returns-clause-quiet
returns-clause-quiet g c quiet =
    let now = c.args.at.now.moment in
    let old = c.args.self.now.held in
    let none = none_have now old.groups quiet in
    let count = c.due.ensures.count in
    let nothing : length c.as_slice-number-items.result.now ≡ 0 = ap length c.as_slice-number-items.ensures.value ∙ count ∙ none in
    let so_far = c.loop-number.invariant.0.1 in
    let first : c.loop-number.number-index ≡ 0 = omega (arith, nothing, c.loop-number.auto.number-index-end) in
    let looked = rw none at c.due.ensures.spent in
    Spends-join_within 0 1 (Spends-join looked so_far.spent) c.take_out_vacant.ensures.spent (omega arith)
    (omega (arith, first, so_far.weightless first, none_of_all (length c.due.new.numbers.items) (map.len c.loop-number.self.held.groups) (count ∙ none)))

pub returns-clause-moved : goal.returns-clause-moved
returns-clause-moved g c =
    let now = c.args.at.now.moment in
    let old = c.args.self.now.held in
    let current = c.loop-number.self.held in
    let es = due_entries now old.groups in
    let same = ap (list_map (key_in old.order.items)) c.as_slice-number-items.ensures.value ∙ c.due.ensures.due in
    let many = as_many (key_in old.order.items) _ es same in
    let due = are_due now old.groups in
    let so_far = c.loop-number.invariant.0.1 in
    let looked = paid_by (64 * map.len old.groups) {before = put_by_rows old} {after = put_by_rows old} c.due.ensures.moved
    (omega (arith, some_of (due_in now old.groups) (64 * map.len old.groups))) in
    let taken = c.take_out_vacant.ensures in
    let gone = taken_out_paid current c.take_out_vacant.new.self _ _ _ _ taken.groups taken.room taken.source_room taken.ahead taken.moved in
    paid_join (most_moved_by_tick old.groups)
    (paid_join (64 * map.len old.groups + (5 * c.loop-number.invariant.0.0 + 21 * c.loop-number.number-index)) looked c.loop-number.invariant.0.2
    (omega arith)) gone
    (omega (
      arith,
      many,
      due.few,
      so_far.weight_is,
      so_far.done.len_is,
      c.loop-number.auto.number-index-end,
      some_of (length c.due.new.numbers.items) (50 * map.len current.groups),
    ))

pub returns-clause-still : goal.returns-clause-still
returns-clause-still g c quiet =
    let now = c.args.at.now.moment in
    let old = c.args.self.now.held in
    let none = none_have now old.groups quiet in
    let count = c.due.ensures.count in
    let nothing : length c.as_slice-number-items.result.now ≡ 0 = ap length c.as_slice-number-items.ensures.value ∙ count ∙ none in
    let first : c.loop-number.number-index ≡ 0 = omega (arith, nothing, c.loop-number.auto.number-index-end) in
    let looked = spends_none c.due.ensures.moved (none_of_all (due_in now old.groups) (64 * map.len old.groups) none) in
    let gone = spends_none c.take_out_vacant.ensures.moved (none_of_all (length c.due.new.numbers.items) (50 * map.len c.loop-number.self.held.groups)
    (count ∙ none)) in
    gone ∙ c.loop-number.invariant.1 first ∙ looked

pub unwrap-requires : goal.unwrap-requires
unwrap-requires g c =
    let now = c.args.at.now.moment in
    let old = c.args.self.now.held in
    let i = c.loop-number.number-index in
    let named = c.loop-number.lists.1.1.1.0 in
    let same = ap (list_map (key_in old.order.items)) c.as_slice-number-items.ensures.value ∙ c.due.ensures.due in
    let within : i < length (due_entries now old.groups) =
    omega (arith, as_many (key_in old.order.items) _ (due_entries now old.groups) same, c.loop-number-test.true) in
    let few = few_turned c.args.at.now.timing now old.groups i (omega (arith, within)) in
    let listed = ap length c.loop-number.invariant.5 in
    let size = length-map named.items g.K.Key.number in
    let room = c.requires.space.changed in
    c.push.ensures.succeeds (omega (arith, within, few, listed, size, (are_due now old.groups).few, room, c.loop-number.invariant.6, named.ok.0))

pub returns-clause-changed : goal.returns-clause-changed
returns-clause-changed g c =
    let now = c.args.at.now.moment in
    let old = c.args.self.now.held in
    let same = ap (list_map (key_in old.order.items)) c.as_slice-number-items.ensures.value ∙ c.due.ensures.due in
    let all : length (due_entries now old.groups) ≤ c.loop-number.number-index =
    omega (arith, as_many (key_in old.order.items) _ (due_entries now old.groups) same, c.loop-number-test.false) in
    those_turned c.args.at.now.timing now old.groups c.args.group.now.room c.requires.ready.served c.loop-number.self.held.groups
    c.loop-number.number-index c.loop-number.invariant.0.1.done all
    c.take_out_vacant.new.self.groups _ c.take_out_vacant.ensures.groups c.loop-number.invariant.5

pub returns-clause-few : goal.returns-clause-few
returns-clause-few g c =
    let now = c.args.at.now.moment in
    let old = c.args.self.now.held in
    let same = ap (list_map (key_in old.order.items)) c.as_slice-number-items.ensures.value ∙ c.due.ensures.due in
    let many = as_many (key_in old.order.items) _ (due_entries now old.groups) same in
    let i = c.loop-number.number-index in
    let few = few_turned c.args.at.now.timing now old.groups i (omega (arith, many, c.loop-number.auto.number-index-end)) in
    let named = ap length c.loop-number.invariant.5 in
    let size = length-map c.loop-number.lists.1.1.1.0.items g.K.Key.number in
    omega (arith, few, named, size, many, (are_due now old.groups).few, c.loop-number.auto.number-index-end)

pub returns-clause-space : goal.returns-clause-space
returns-clause-space g c = grind (arith, common_steps)
