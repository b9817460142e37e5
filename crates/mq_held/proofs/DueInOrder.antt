-- The due groups by their numbers: put in order, or left of all numbers.
use Rattle.mq_held.proofs.Common.{ℕ, ◌+◌, ◌-◌, ◌*◌, ◌<◌, ◌≤◌, ◌≡◌, min, Bool, true, false, not, cond, refl, List, [], ◌∷◌, length, get_or, take, Some, sym, ap}
use Rattle.mq_held.proofs.Common.{◌∙◌, subst, arith, ⊎_elim, All, unwrap_or, nat_cmp, mul-le-mul_left, cases_eq, cases_lt, get_or-map, length-map}
use Rattle.mq_held.proofs.Common.{length-take-le, All-filter, AllPairs-filter, sum_by-cons, length-filter, count_by-le-length, slice_get-get_or, FinMap, Spends}
use Rattle.mq_held.proofs.Common.{Spends-join_within, Spends-within, IsAscending, set_of, NumberedKeysState, key_in, bitlen, times, IsAscending-head}
use Rattle.mq_held.proofs.Common.{IsAscending-tail, bitlen-le, is_cell, is_cell-same, is_cell-other, at_counted, length-counted, Source, is_number_due}
use Rattle.mq_held.proofs.Common.{ScheduledGroup, is_vacant, ScheduledHead, Groups, unheld, group_at, running_in, HeldState, IsNumber, addresses_due, due_in}
use Rattle.mq_held.proofs.Common.{has_due, groups_by, IsStored}
use Rattle.std.specs.Prelude.{map as list_map, filter, slice_get, if◌then◌else◌}
use Rattle.std.specs.FinMap as map
use Rattle.mq_held.proofs.{DueNumbers.due-number, DueNumbers.due-unused, Entries.get-place, GroupsInOrder.IsOrdered, GroupsInOrder.IsOrdered-stored}
use Rattle.mq_held.proofs.{GroupsInOrder.all-numbers, GroupsInOrder.all-addresses, Inside.items_are, Inside.running-held, KeysByNumber.numbers_in}
use Rattle.mq_held.proofs.{KeysByNumber.numbers-ascend, KeysByNumber.map-filter, KeysByNumber.filter-agree, OrderedAmounts.sum_by-map}
use Rattle.mq_held.proofs.{OrderedAmounts.times-filter, OrderedItems.number_of, OrderedItems.has-number, OrderedItems.times-in, OrderedItems.absent-times}
use Rattle.mq_held.proofs.{StoredMoments.one_at_most}

-- lists that ascend and have each number as often are the same
pub same-ordered : (f : ℕ → ℕ) (xs ys : List ℕ) → IsAscending f xs → IsAscending f ys → ((n : ℕ) → times n xs ≡ times n ys) → xs ≡ ys
same-ordered f [] [] up_x up_y same = refl
same-ordered f [] (y ∷ ys) up_x up_y same =
    absurd (omega (arith, same y, sum_by-cons (is_cell y) y ys, is_cell-same y y refl))
same-ordered f (x ∷ xs) [] up_x up_y same =
    absurd (omega (arith, same x, sum_by-cons (is_cell x) x xs, is_cell-same x x refl))
same-ordered f (x ∷ xs) (y ∷ ys) up_x up_y same =
    ⊎_elim
    (λ (is : x ≡ y).
    let rest = same-ordered f xs ys (IsAscending-tail f x xs up_x) (IsAscending-tail f y ys up_y)
    (λ n. omega (arith, same n, sum_by-cons (is_cell n) x xs, sum_by-cons (is_cell n) y ys, ap (is_cell n) is)) in
    ap (λ z. z ∷ xs) is ∙ ap (λ zs. y ∷ zs) rest)
    (λ (differs : x ≡ y → ⊥).
    let in_xs : 1 ≤ times y xs = omega (
      arith,
      same y,
      sum_by-cons (is_cell y) x xs,
      sum_by-cons (is_cell y) y ys,
      is_cell-same y y refl,
      is_cell-other y x differs,
    ) in
    let in_ys : 1 ≤ times x ys = omega (
      arith,
      same x,
      sum_by-cons (is_cell x) x xs,
      sum_by-cons (is_cell x) y ys,
      is_cell-same x x refl,
      is_cell-other x y (λ is. differs (sym is)),
    ) in
    let above : f x < f y = at_counted (λ n. f x < f n) xs y (IsAscending-head f x xs up_x) in_xs in
    let below : f y < f x = at_counted (λ n. f y < f n) ys x (IsAscending-head f y ys up_y) in_ys in
    absurd (omega (arith, above, below)))
    (cases_eq x y)

-- each entry has the group of its address
pub entry-group : (groups : Groups) → All (λ (e : ℕ × ScheduledGroup). e.1 ≡ group_at groups e.0) (map.entries groups)
entry-group groups k d within =
    let e = get_or (map.entries groups) k d in
    let here : slice_get (map.keys groups) k ≡ Some e.0 =
    slice_get-get_or (map.keys groups) k e.0 (omega (arith, within, length-map (map.entries groups) (λ (e : ℕ × ScheduledGroup). e.0)))
    ∙ ap Some (get_or-map (λ (e : ℕ × ScheduledGroup). e.0) (map.entries groups) k d e.0 within) in
    sym (ap (λ o. unwrap_or o unheld) (get-place groups e.0 k here d))

-- the addresses of those that are due, by what stands at each
pub due-addresses : (now : ℕ) (groups : Groups) → addresses_due now groups ≡ filter (λ a. has_due now (group_at groups a)) (map.keys groups)
due-addresses now groups =
    ap (list_map (λ (e : ℕ × ScheduledGroup). e.0))
    (filter-agree (λ (e : ℕ × ScheduledGroup). has_due now e.1) (λ (e : ℕ × ScheduledGroup). has_due now (group_at groups e.0)) (map.entries groups)
    (λ k d within. ap (has_due now) (entry-group groups k d within)))
    ∙ map-filter (λ (e : ℕ × ScheduledGroup). e.0) (λ a. has_due now (group_at groups a)) (map.entries groups)

pub due-counted : (now : ℕ) (groups : Groups) → length (addresses_due now groups) ≡ due_in now groups
due-counted now groups =
    length-map (filter (λ (e : ℕ × ScheduledGroup). has_due now e.1) (map.entries groups)) (λ (e : ℕ × ScheduledGroup). e.0)
    ∙ length-filter (λ (e : ℕ × ScheduledGroup). has_due now e.1) (map.entries groups)
    ∙ sym (sum_by-map (λ e. if has_due now e then 1 else 0) (λ (e : ℕ × ScheduledGroup). e.1) (map.entries groups))

pub few-running : (groups : Groups) → running_in groups ≤ map.len groups
few-running groups =
    omega (
      arith,
      count_by-le-length (λ (e : ScheduledGroup). not (is_vacant e.group)) (map.values groups),
      length-map (map.entries groups) (λ (e : ℕ × ScheduledGroup). e.1),
      map.len-entries groups,
    )

-- the test of a number for a due group
abbrev pub is_due_at : HeldState → ℕ → ℕ → Bool
is_due_at s now n = has_due now (group_at s.groups (key_in s.order.items n))

module _ {s : HeldState} (known : IsOrdered s) (now : ℕ) where
  pub due-left : {ns : List ℕ} → ns ≡ filter (is_due_at s now) (numbers_in s.order.items) → list_map (key_in s.order.items) ns ≡ addresses_due now s.groups
  due-left is =
      ap (list_map (key_in s.order.items)) is
      ∙ map-filter (key_in s.order.items) (λ a. has_due now (group_at s.groups a)) (numbers_in s.order.items)
      ∙ ap (filter (λ a. has_due now (group_at s.groups a))) (all-addresses known refl)
      ∙ sym (due-addresses now s.groups)

  pub count-left : {ns : List ℕ} → ns ≡ filter (is_due_at s now) (numbers_in s.order.items) → length ns ≡ due_in now s.groups
  count-left {ns = ns} is =
      sym (length-map ns (key_in s.order.items)) ∙ ap length (due-left is) ∙ due-counted now s.groups

  pub numbers-left : {ns : List ℕ} → ns ≡ filter (is_due_at s now) (numbers_in s.order.items) → All (IsNumber s) ns
  numbers-left is =
      subst (All (IsNumber s)) (sym is) (All-filter (is_due_at s now) (IsNumber s) (numbers_in s.order.items) (all-numbers known))

  left_ascend : IsAscending (key_in s.order.items) (filter (is_due_at s now) (numbers_in s.order.items))
  left_ascend = AllPairs-filter (λ n m. key_in s.order.items n < key_in s.order.items m) (is_due_at s now) (numbers_in s.order.items)
      (numbers-ascend s.order.items known.ascending known.once)

  pub ordered-left : {ns : List ℕ} → IsAscending (key_in s.order.items) ns →
      ((n : ℕ) → times n ns ≡ times n (filter (is_due_at s now) (numbers_in s.order.items))) → ns ≡ filter (is_due_at s now) (numbers_in s.order.items)
  ordered-left {ns = ns} up same =
      same-ordered (key_in s.order.items) ns (filter (is_due_at s now) (numbers_in s.order.items)) up left_ascend same

-- The first `count` of these numbers are those of the due groups.
pub record IsPicked (state : HeldState) (now : ℕ) (numbers : List ℕ) (count : ℕ) : Type 0 where
  pub is : count ≡ due_in now state.groups
  pub within : count ≤ map.len state.groups
  pub size : length (take count numbers) ≡ count

module _ {K : Type 0} (number : K → ℕ) {order : NumberedKeysState} {heads : List ScheduledHead} {rows : List (List (Source K))}
    {moments : FinMap nat_cmp ℕ} {schedules : ℕ} (known : IsStored number order.items heads rows moments schedules) {source_room ahead : ℕ}
    {state : HeldState} (was : ◌≡◌ {A = HeldState}
    (record { groups = groups_by number order.items heads rows; order = order; source_room = source_room; ahead = ahead }) state) where
  -- how often a number is left
  pub times-left : (now n : ℕ) → times n (filter (is_due_at state now) (numbers_in state.order.items)) ≡ (if is_number_due moments now n then 1 else 0)
  times-left now n =
      times-filter (is_due_at state now) n (numbers_in state.order.items) ∙ by_test (set_of number_of state.order.items n) refl
    where
      once : times n (numbers_in state.order.items) ≤ 1
      once = (IsOrdered-stored number known was).once n

      nothing : (b : Bool) (k : ℕ) → k ≡ 0 → cond b k 0 ≡ 0
      nothing true k is = is
      nothing false k is = refl

      by_test : (b : Bool) → set_of number_of state.order.items n ≡ b → cond (is_due_at state now n) (times n (numbers_in state.order.items)) 0
          ≡ (if is_number_due moments now n then 1 else 0)
      by_test true held =
          let found = has-number state.order.items n held in
          let one : times n (numbers_in state.order.items) ≡ 1 = omega (arith, once, times-in state.order.items n found.0 found.1) in
          ap (λ k. cond (is_due_at state now n) k 0) one ∙ ap (λ b. if b then 1 else 0) (sym (due-number number known was now n held))
      by_test false absent =
          let unused : set_of number_of order.items n ≡ false = ap (λ xs. set_of number_of xs n) (items_are number known was) ∙ absent in
          nothing (is_due_at state now n) (times n (numbers_in state.order.items)) (absent-times state.order.items n absent)
          ∙ ap (λ b. if b then 1 else 0) (sym (due-unused number known was now n unused))

  -- the numbers that the moments tell are as many as there are due groups
  pub picked_so : (now : ℕ) {count : ℕ} (numbers spare : List ℕ) → count ≤ map.len moments → length numbers ≡ length spare →
      map.len state.groups ≤ length spare → ((n : ℕ) → times n (take count numbers) ≡ (if is_number_due moments now n then 1 else 0)) →
      IsPicked state now numbers count
  picked_so now {count} numbers spare few same space each =
      let within : count ≤ map.len state.groups = omega (arith, few, running-held number known was, few-running state.groups) in
      let size = length-take-le count numbers (omega (arith, within, same, space)) in
      record {
        is =
            sym size
            ∙ length-counted (take count numbers) (filter (is_due_at state now) (numbers_in state.order.items)) (λ n. each n ∙ sym (times-left now n))
            ∙ count-left (IsOrdered-stored number known was) now refl;
        within = within;
        size = size;
      }

  pub picked-once : (now : ℕ) (picked : List ℕ) → ((n : ℕ) → times n picked ≡ (if is_number_due moments now n then 1 else 0)) → (n : ℕ) → times n picked ≤ 1
  picked-once now picked each n = omega (arith, each n, one_at_most (is_number_due moments now n))

  pub picked-ordered : (now : ℕ) (picked : List ℕ) → ((n : ℕ) → times n picked ≡ (if is_number_due moments now n then 1 else 0)) → {ns : List ℕ} →
      IsAscending (key_in order.items) ns → ((n : ℕ) → times n ns ≡ times n picked)
      → ns ≡ filter (is_due_at state now) (numbers_in state.order.items)
  picked-ordered now picked each {ns = ns} up same =
      ordered-left (IsOrdered-stored number known was) now (subst (λ xs. IsAscending (key_in xs) ns) (items_are number known was) up)
      (λ n. same n ∙ each n ∙ sym (times-left now n))

-- the cost of few due groups, and of many
few-bound : (count len : ℕ) → count < 64 → count ≤ len → count * bitlen count ≤ min 1 count * (7 * len)
few-bound count len few within =
    ⊎_elim
    (λ (some : 0 < count).
    let one : min 1 count ≡ 1 = omega arith in
    let digits = mul-le-mul_left count (bitlen-le 7 count (omega (arith, few))) in
    rw one (omega (arith, digits, within)))
    (λ (none : count ≤ 0).
    let is : count ≡ 0 = omega (arith, none) in
    rw is (omega arith))
    (cases_lt 0 count)

pub few-spent : {due running : ℕ} (count n len : ℕ) → count ≡ due → running ≡ n → count < 64 → count ≤ len → {old mid new : ℕ}
    → Spends (min (count + 1) n) (min n (1 + count * bitlen (n - 1))) old mid → Spends (count - 1) (count * bitlen count) mid new
    → Spends (min (due + 1) running) (min running (1 + due * bitlen (running - 1)) + min 1 due * (7 * len)) old new
few-spent count n len is running few within first second =
    let bound = few-bound count len few within in
    rw (← is, running) (Spends-join_within _ _ first second (omega arith) (omega (arith, bound)))

pub few-moved : {due : ℕ} (count len : ℕ) → count ≡ due → count < 64 → count ≤ len → {old new : ℕ} → Spends count (count * count) old new →
    Spends due (min 1 due * (64 * len)) old new
few-moved count len is few within moved =
    rw (← is) (Spends-within _ _ moved (omega arith)
    (⊎_elim
    (λ (some : 0 < count).
    let one : min 1 count ≡ 1 = omega arith in
    let square = mul-le-mul_left {m = count} {n = 64} count (omega (arith, few)) in
    rw one (omega (arith, square, within)))
    (λ (none : count ≤ 0). let zero : count ≡ 0 = omega (arith, none) in rw zero (omega arith))
    (cases_lt 0 count)))

pub many-spent : {due running : ℕ} (count n len all : ℕ) → count ≡ due → running ≡ n → 64 ≤ count → all ≡ len → {old mid new : ℕ}
    → Spends (min (count + 1) n) (min n (1 + count * bitlen (n - 1))) old mid → Spends 0 all mid new
    → Spends (min (due + 1) running) (min running (1 + due * bitlen (running - 1)) + min 1 due * (7 * len)) old new
many-spent count n len all is running many size first second =
    let one : min 1 count ≡ 1 = omega arith in
    let bound : all ≤ min 1 count * (7 * len) = rw one (omega (arith, size)) in
    rw (← is, running) (Spends-join_within _ _ first second (omega arith) (omega (arith, bound)))

pub many-moved : {due : ℕ} (count len all : ℕ) → count ≡ due → 64 ≤ count → count ≤ len → all ≡ len → {old new : ℕ} → Spends all all old new →
    Spends due (min 1 due * (64 * len)) old new
many-moved count len all is many within size moved =
    let one : min 1 count ≡ 1 = omega arith in
    let bound : all ≤ min 1 count * (64 * len) = rw one (omega (arith, size)) in
    rw (← is) (Spends-within _ _ moved (omega (arith, within, size)) bound)
