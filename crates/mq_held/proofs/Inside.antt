-- The groups that a contract sees, by what is stored.
use Rattle.std.proofs.Common.{◌≡◌, ◌==◌, ◌&&◌, Bool, not, ℕ, ◌<◌, true, true≢false, refl, List, [], length, get_or, set, Option, None, Some, is_some}
use Rattle.mq_held.proofs.Common.{sym, ap, ◌∙◌, subst, Contains, unwrap_or, nat_cmp, FinMap, get_or_read, IsAscending, set_of, NumberedKeysState}
use Rattle.mq_held.proofs.Common.{key_in, cells_in, Source, is_include, is_vacant, number_in, len-timers_in, ScheduledGroup, ScheduledHead, Groups, group_at}
use Rattle.mq_held.proofs.Common.{sources_of, sources_in, schedules_in, running_in, unheld, HeldState, HasNumber, IsNumber, group_of, group_by}
use Rattle.mq_held.proofs.Common.{no_head, groups_by, IsStored}
use Rattle.std.specs.FinMap as map
use Rattle.mq_held.proofs.OrderedItems.{item, number_of, key_of, one-key, one-number, has-key, has-number, key-in, number-in, number-within, key-of_number}
use Rattle.mq_held.proofs.OrderedAmounts.{sources-groups, schedules-groups, running-groups, has-moment}
use Rattle.mq_held.proofs.OrderedGroups.{len-groups, get-groups, group-here, groups-changed, contains-groups}
use Rattle.mq_held.proofs.StoredEdits.{group-set, group-other}

module _ {K : Type 0} (number : K → ℕ) {order : NumberedKeysState} {heads : List ScheduledHead} {rows : List (List (Source K))}
    {moments : FinMap nat_cmp ℕ} {schedules : ℕ} (known : IsStored number order.items heads rows moments schedules) {source_room ahead : ℕ}
    {state : HeldState} (was : ◌≡◌ {A = HeldState}
    (record { groups = groups_by number order.items heads rows; order = order; source_room = source_room; ahead = ahead }) state) where
  pub groups_are : groups_by number order.items heads rows ≡ state.groups
  groups_are = ap (λ (s : HeldState). s.groups) was

  pub items_are : order.items ≡ state.order.items
  items_are = ap (λ (s : HeldState). s.order.items) was

  pub room_is : order.room ≡ state.order.room
  room_is = ap (λ (s : HeldState). s.order.room) was

  pub source_room_is : source_room ≡ state.source_room
  source_room_is = ap (λ (s : HeldState). s.source_room) was

  pub ahead_is : ahead ≡ state.ahead
  ahead_is = ap (λ (s : HeldState). s.ahead) was

  -- the item of a number
  pub here : {a n : ℕ} → HasNumber state a n → Contains order.items (item n a)
  here {a} {n} has = subst (λ xs. Contains xs (item n a)) (sym items_are) has.is

  pub has : {a n : ℕ} → Contains order.items (item n a) → HasNumber state a n
  has {a} {n} there = record { is = subst (λ xs. Contains xs (item n a)) items_are there }

  pub numbered : (n : ℕ) → IsNumber state n → set_of number_of order.items n ≡ true
  numbered n is = ap (λ xs. set_of number_of xs n) items_are ∙ is

  pub address-of : (n : ℕ) → IsNumber state n → (a : ℕ) × HasNumber state a n
  address-of n is = let found = has-number order.items n (numbered n is) in (found.0, has found.1)

  pub is-number : {a n : ℕ} → HasNumber state a n → IsNumber state n
  is-number {a} {n} is = ap (λ xs. set_of number_of xs n) (sym items_are) ∙ number-in order.items n a (here is)

  pub within-rows : (n : ℕ) → IsNumber state n → n < length rows
  within-rows n is = let found = has-number order.items n (numbered n is) in number-within order.items n found.0 (length rows) known.within found.1

  pub same-address : {a b n : ℕ} → HasNumber state a n → HasNumber state b n → a ≡ b
  same-address {a} {b} {n} in_a in_b = one-key order.items n a b (known.once n) (here in_a) (here in_b)

  pub same-number : {a n m : ℕ} → HasNumber state a n → HasNumber state a m → n ≡ m
  same-number {a} {n} {m} in_n in_m = one-number order.items a n m known.ascending (here in_n) (here in_m)

  pub contained : {a n : ℕ} → HasNumber state a n → map.contains_key state.groups a ≡ true
  contained {a} {n} is =
      ap (λ groups. map.contains_key groups a) (sym groups_are)
      ∙ contains-groups number order.items heads rows known.ascending a
      ∙ key-in order.items n a (here is)

  pub number-of : (a : ℕ) → map.contains_key state.groups a ≡ true → (n : ℕ) × HasNumber state a n
  number-of a held =
      let found = has-key order.items a (sym (contains-groups number order.items heads rows known.ascending a) ∙
      ap (λ groups. map.contains_key groups a) groups_are ∙ held) in
      (found.0, has found.1)

  pub held-is : (a : ℕ) → map.contains_key state.groups a ≡ set_of key_of order.items a
  held-is a = ap (λ groups. map.contains_key groups a) (sym groups_are) ∙ contains-groups number order.items heads rows known.ascending a

  -- the group of a number
  pub group-of : {a n : ℕ} → HasNumber state a n → group_at state.groups a ≡ group_by number heads rows n
  group-of {a} {n} is =
      ap (λ groups. group_at groups a) (sym groups_are) ∙ group-here number order.items heads rows known.ascending n a (here is)

  pub size-of : {a n : ℕ} → HasNumber state a n → sources_of (group_at state.groups a) ≡ length (get_or rows n [])
  size-of {a} {n} is =
      let within = within-rows n (is-number is) in
      ap sources_of (group-of is) ∙ len-timers_in number (get_or rows n []) (known.rows_ascend n [] within)

  pub head-of : {a n : ℕ} (h : ScheduledHead) (row : List (Source K)) → HasNumber state a n → n < length heads → h ≡ get_or heads n h →
      row ≡ get_or rows n [] → group_of number h row ≡ group_at state.groups a
  head-of {a} {n} h row is within head_is row_is =
      ap (λ x. group_of number x row) (get_or_read heads n h within head_is no_head)
      ∙ ap (group_of number (get_or heads n no_head)) row_is
      ∙ sym (group-of is)

  pub vacant-of : {a n : ℕ} (h : ScheduledHead) (row : List (Source K)) (b : Bool) → HasNumber state a n → n < length heads → h ≡ get_or heads n h →
      row ≡ get_or rows n [] → is_include h.head.mode ≡ b → is_vacant (group_at state.groups a).group ≡ (b && (length row == 0))
  vacant-of {a} {n} h row b is within head_is row_is mode =
      let up = subst (IsAscending (number_in number)) (sym row_is) (known.rows_ascend n [] (within-rows n (is-number is))) in
      ap (λ (e : ScheduledGroup). is_vacant e.group) (sym (head-of h row is within head_is row_is))
      ∙ ap (λ k. is_include h.head.mode && (k == 0)) (len-timers_in number row up)
      ∙ ap (λ b. b && (length row == 0)) mode

  -- it has a moment exactly where it isn't vacant
  pub moment-there : (n : ℕ) (was_vacant : Bool) → IsNumber state n →
      ((a : ℕ) → HasNumber state a n → was_vacant ≡ is_vacant (group_at state.groups a).group) → map.contains_key moments n ≡ not was_vacant
  moment-there n was_vacant is vacant =
      let found = address-of n is in
      has-moment number known n (numbered n is)
      ∙ ap (λ (e : ScheduledGroup). not (is_vacant e.group)) (sym (group-of found.1))
      ∙ ap not (sym (vacant found.0 found.1))

  -- the number of an address, and back
  pub known-key : {a n : ℕ} → HasNumber state a n → key_in state.order.items n ≡ a
  known-key {a} {n} is =
      ap (λ xs. key_in xs n) (sym items_are) ∙ key-of_number order.items n a (known.once n) (here is)

  -- the numbers of groups, sources and schedules
  pub len-held : map.len state.groups ≡ length order.items
  len-held = ap map.len (sym groups_are) ∙ len-groups number order.items heads rows known.ascending

  pub sources-held : sources_in state.groups ≡ cells_in rows
  sources-held = ap sources_in (sym groups_are) ∙ sources-groups number known

  pub schedules-held : schedules_in state.groups ≡ schedules
  schedules-held = ap schedules_in (sym groups_are) ∙ schedules-groups number known

  -- and how many that aren't vacant
  pub running-held : running_in state.groups ≡ map.len moments
  running-held = ap running_in (sym groups_are) ∙ running-groups number known

  -- the group of a number is another
  pub state-set : {a n : ℕ} (h : ScheduledHead) (row : List (Source K)) (e : ScheduledGroup) (left new_left : ℕ) → HasNumber state a n →
      n < length heads → group_of number h row ≡ e → left ≡ new_left
      → ◌≡◌ {A = HeldState}
      (record { groups = groups_by number order.items (set heads n h) (set rows n row); order = order; source_room = source_room; ahead = left })
      (record { groups = map.insert state.groups a e; order = state.order; source_room = state.source_room; ahead = new_left })
  state-set {a} {n} h row e left new_left is within group_is left_is =
      let held = numbered n (is-number is) in
      let in_rows = within-rows n (is-number is) in
      let changed = groups-changed number order.items heads rows known.ascending (set heads n h) (set rows n row) n a e (here is) (known.once n)
      (group-set number known n h row moments held within in_rows ∙ group_is) (group-other number known n h row moments held within in_rows)
      (get-groups number order.items (set heads n h) (set rows n row) known.ascending) in
      let groups = changed ∙ ap (λ groups. map.insert groups a e) groups_are in
      λ i. record { groups = groups i; order = (was i).order; source_room = (was i).source_room; ahead = left_is i }

-- a group that is held is there
pub group_found : (groups : Groups) (address : ℕ) → map.contains_key groups address ≡ true → map.get groups address ≡ Some (group_at groups address)
group_found groups address held = by_found (map.get groups address) held
  where
    by_found : (e : Option ScheduledGroup) → is_some e ≡ true → e ≡ Some (unwrap_or e unheld)
    by_found None is = absurd (true≢false (sym is))
    by_found (Some e) is = refl

-- a number has an address
pub some-address : (state : HeldState) (n : ℕ) → IsNumber state n → (a : ℕ) × HasNumber state a n
some-address state n is = let found = has-number state.order.items n is in (found.0, record { is = found.1 })
