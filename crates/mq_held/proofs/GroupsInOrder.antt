-- The order of the groups as a contract sees it: the rank of each number and of its address.
use Rattle.mq_held.proofs.Common.{ℕ, ◌<◌, ◌≤◌, ◌≡◌, List, length, get_or, Some, sym, ap, ◌∙◌, subst, arith, list_map, slice_get, All, nat_cmp, get_or-map}
use Rattle.mq_held.proofs.Common.{get_or_default, length-map, slice_get-get_or, FinMap, IsAscending, NumberedKey, NumberedKeysState, key_in, times, Source}
use Rattle.mq_held.proofs.Common.{ScheduledGroup, ScheduledHead, HeldState, HasNumber, IsNumber, HasPlace, groups_by, IsStored}
use Rattle.std.specs.FinMap as map
use Rattle.mq_held.proofs.{OrderedGroups.keys-groups, Places.same-address, KeysByNumber.numbers_in, KeysByNumber.keys_in, KeysByNumber.key-of_item}
use Rattle.mq_held.proofs.{KeysByNumber.key-contained, KeysByNumber.keys-by_number, KeysByNumber.number-is}

-- the facts about the order of a storage's groups
pub record IsOrdered (s : HeldState) : Type 0 where
  pub keys : map.keys s.groups ≡ keys_in s.order.items
  pub ascending : IsAscending (λ x. x.key) s.order.items
  pub once : (n : ℕ) → times n (numbers_in s.order.items) ≤ 1

pub IsOrdered-stored : {K : Type 0} (number : K → ℕ) {order : NumberedKeysState} {heads : List ScheduledHead} {rows : List (List (Source K))}
    {moments : FinMap nat_cmp ℕ} {schedules : ℕ} → IsStored number order.items heads rows moments schedules
    → {room ahead : ℕ} {s : HeldState} →
    ◌≡◌ {A = HeldState} (record { groups = groups_by number order.items heads rows; order = order; source_room = room; ahead = ahead }) s → IsOrdered s
IsOrdered-stored number {order = order} {heads = heads} {rows = rows} known was =
    subst IsOrdered was (record { keys = keys-groups number order.items heads rows known.ascending; ascending = known.ascending; once = known.once })

module _ {s : HeldState} (known : IsOrdered s) where
  pub len-ordered : map.len s.groups ≡ length s.order.items
  len-ordered =
      map.len-entries s.groups
      ∙ sym (length-map (map.entries s.groups) (λ (e : ℕ × ScheduledGroup). e.0))
      ∙ ap length known.keys
      ∙ length-map s.order.items (λ (x : NumberedKey). x.key)

  pub len-view : {order : NumberedKeysState} → order ≡ s.order → map.len s.groups ≡ length order.items
  len-view is = len-ordered ∙ sym (ap (λ (o : NumberedKeysState). length o.items) is)

  -- the address of the group of a number, and the number of the item at a rank
  pub address-known : (address n : ℕ) → HasNumber s address n → key_in s.order.items n ≡ address
  address-known address n has = key-contained s.order.items known.once n address has.is

  pub place-ordered : (k : ℕ) (d : NumberedKey) → k < length s.order.items → HasPlace s.groups (get_or s.order.items k d).key k
  place-ordered k d within = record {
    address_is =
        ap (λ ks. slice_get ks k) known.keys
        ∙ slice_get-get_or (keys_in s.order.items) k (get_or s.order.items k d).key
        (omega (arith, within, length-map s.order.items (λ (x : NumberedKey). x.key)))
        ∙ ap Some (get_or-map (λ (x : NumberedKey). x.key) s.order.items k d (get_or s.order.items k d).key within);
  }

  -- the rank is within the groups
  rank-within : (k : ℕ) → k < map.len s.groups → k < length s.order.items
  rank-within k below = omega (arith, below, len-ordered)

  -- the number at a rank is that of the group at that rank
  item-at_rank : (n k : ℕ) (x : NumberedKey) → k < length s.order.items → get_or (numbers_in s.order.items) k 0 ≡ n → (get_or s.order.items k x).number ≡ n
  item-at_rank n k x within at =
      sym (get_or-map (λ (x : NumberedKey). x.number) s.order.items k x 0 within) ∙ at

  pub rank-is : (address n k : ℕ) → k < map.len s.groups → get_or (numbers_in s.order.items) k 0 ≡ n → HasNumber s address n → HasPlace s.groups address k
  rank-is address n k below at has =
      let x : NumberedKey = record { number = n; key = address } in
      let within = rank-within k below in
      let own = item-at_rank n k x within at in
      let key : (get_or s.order.items k x).key ≡ address = sym (key-of_item s.order.items known.once k x within) ∙ ap (key_in s.order.items) own ∙
      address-known address n has in
      subst (λ a. HasPlace s.groups a k) key (place-ordered k x within)

  pub number-of_place : (address n k : ℕ) → k < map.len s.groups → get_or (numbers_in s.order.items) k 0 ≡ n → HasPlace s.groups address k →
      HasNumber s address n
  number-of_place address n k below at has =
      let x : NumberedKey = record { number = n; key = address } in
      let within = rank-within k below in
      let y = get_or s.order.items k x in
      let own : y.number ≡ n = item-at_rank n k x within at in
      let key : y.key ≡ address = same-address s.groups y.key k (place-ordered k x within) address has in
      record { is = (k, within, (λ i. record { number = own i; key = key i })) }

  pub number-at_rank : (n k : ℕ) → k < map.len s.groups → get_or (numbers_in s.order.items) k 0 ≡ n → IsNumber s n
  number-at_rank n k below at =
      let x : NumberedKey = record { number = n; key = 0 } in
      let within = rank-within k below in
      number-is s.order.items n k x within (item-at_rank n k x within at)

  -- all numbers
  pub all-numbers : All (IsNumber s) (numbers_in s.order.items)
  all-numbers k d within =
      let size = length-map s.order.items (λ (x : NumberedKey). x.number) in
      number-at_rank (get_or (numbers_in s.order.items) k d) k (omega (arith, within, size, len-ordered))
      (get_or_default (numbers_in s.order.items) k 0 d within)

  pub all-known : {ns : List ℕ} → ns ≡ numbers_in s.order.items → All (IsNumber s) ns
  all-known is = subst (All (IsNumber s)) (sym is) all-numbers

  pub len-all : {ns : List ℕ} → ns ≡ numbers_in s.order.items → length ns ≡ map.len s.groups
  len-all is = ap length is ∙ length-map s.order.items (λ (x : NumberedKey). x.number) ∙ sym len-ordered

  -- the addresses of all numbers are all addresses
  pub all-addresses : {ns : List ℕ} → ns ≡ numbers_in s.order.items → list_map (key_in s.order.items) ns ≡ map.keys s.groups
  all-addresses is =
      ap (list_map (key_in s.order.items)) is ∙ keys-by_number s.order.items known.once ∙ sym known.keys
