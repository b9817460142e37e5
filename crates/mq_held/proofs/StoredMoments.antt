-- The moments of the numbers, once one is set or removed, and the rows that they name.
use Rattle.mq_held.proofs.Common.{◌≡◌, ℕ, zero, suc, ◌+◌, ◌-◌, ◌<◌, ◌≤◌, Bool, true, false, not, cond, if◌then◌else◌, refl, List, [], ◌∷◌, length, map, get_or}
use Rattle.mq_held.proofs.Common.{set, None, Some, is_some, sym, ap, ◌∙◌, arith, ⊎_elim, nat_le, All, count_by, nat_cmp, nat_cmp_total, FinMap, cases_eq}
use Rattle.mq_held.proofs.Common.{length-map, get_or-map, length-filter_both, count_by-le-length, length-filter, get_or-le-sum_by, sum_by-set, set_of}
use Rattle.mq_held.proofs.Common.{NumberedKey, NumberedKeysState, NamesRows, ahead_after, cells_reserved, moved_for, cells_in, times, Source, is_vacant}
use Rattle.mq_held.proofs.Common.{ScheduledGroup, ScheduledHead, group_at, one_if, running_in, sources_in, sources_of, HeldState, HasNumber, IsNumber}
use Rattle.mq_held.proofs.Common.{ahead_with, moved_by_packing, IsRowWritten, IsReplaced, inl, inr, PoolState, group_by, no_head, groups_by, IsStored}
use Rattle.std.specs.FinMap as map
use Rattle.mq_held.proofs.{Sorted.ties, Sorted.untied, OrderedItems.item, OrderedItems.number_of, OrderedItems.has-number, OrderedGroups.values-groups}
use Rattle.mq_held.proofs.{OrderedAmounts.absent-get, OrderedAmounts.has-moment, OrderedAmounts.len-counted, OrderedAmounts.running-groups}
use Rattle.mq_held.proofs.{StoredEdits.row-none, Inside.address-of, Inside.ahead_is, Inside.group-of, Inside.is-number, Inside.len-held, Inside.numbered}
use Rattle.mq_held.proofs.{Inside.room_is, Inside.running-held, Inside.size-of, Inside.source_room_is, Inside.sources-held, Inside.within-rows}

module _ {X : Type 0} where
  -- nothing is removed where nothing is
  pub remove-absent : (m : FinMap nat_cmp X) (n : ℕ) → map.contains_key m n ≡ false → map.remove m n ≡ m
  remove-absent m n absent =
      map.same_map nat_cmp_total map.nat_cmp-IsAntisymmetric (map.remove m n) m (λ q.
      map.get-remove nat_cmp_total m n q
      ∙ ⊎_elim
      (λ (same : q ≡ n). ap (λ b. cond b None (map.get m q)) (ties q n same) ∙ sym (ap (map.get m) same ∙ absent-get m n absent))
      (λ (differs : q ≡ n → ⊥). ap (λ b. cond b None (map.get m q)) (untied q n differs))
      (cases_eq q n))

  pub contains-insert : (m : FinMap nat_cmp X) (n : ℕ) (v : X) (q : ℕ) → map.contains_key m q ≡ true → map.contains_key (map.insert m n v) q ≡ true
  contains-insert m n v q there =
      ap is_some (map.get-insert nat_cmp_total m n v q)
      ∙ ⊎_elim
      (λ (same : q ≡ n). ap (λ b. is_some (cond b (Some v) (map.get m q))) (ties q n same))
      (λ (differs : q ≡ n → ⊥). ap (λ b. is_some (cond b (Some v) (map.get m q))) (untied q n differs) ∙ there)
      (cases_eq q n)

  -- fewer pass than there are, if one doesn't
  pub count-fewer : (p : X → Bool) (xs : List X) (k : ℕ) (d : X) → k < length xs → p (get_or xs k d) ≡ false → count_by p xs < length xs
  count-fewer p xs k d within fails =
      let part = get_or-le-sum_by (λ x. if not (p x) then 1 else 0) xs k d within in
      let one : ◌≡◌ {A = ℕ} (if not (p (get_or xs k d)) then 1 else 0) 1 = ap (λ b. if not b then 1 else 0) fails in
      omega (arith, part, one, length-filter_both p (λ x. not (p x)) (λ x. refl) xs, length-filter p xs, length-filter (λ x. not (p x)) xs)

-- the number of moments, once one is set
pub len-set : (moments : FinMap nat_cmp ℕ) (n due : ℕ) (was_new : Bool) (numbers : List ℕ) → map.contains_key moments n ≡ not was_new →
    ((m : ℕ) → times m numbers ≡ (if map.contains_key (map.insert moments n due) m then 1 else 0))
    → length numbers ≡ map.len moments + one_if was_new
len-set moments n due was_new numbers there each =
    len-counted numbers (map.insert moments n due) each ∙ map.len-insert nat_cmp_total moments n due ∙
    ap (λ b. cond b (map.len moments) (map.len moments + 1)) there ∙ by_test was_new (map.len moments)
  where
    by_test : (b : Bool) (k : ℕ) → cond (not b) k (k + 1) ≡ k + one_if b
    by_test true k = refl
    by_test false k = omega arith

-- the number of a row's cells
sizes-row : {T : Type 0} (rows : List (List T)) (n : ℕ) → get_or (map length rows) n 0 ≡ length (get_or rows n [])
sizes-row [] n = refl
sizes-row (row ∷ rows) zero = refl
sizes-row (row ∷ rows) (suc n) = sizes-row rows n

pub one_at_most : (b : Bool) → (if b then 1 else 0) ≤ 1
one_at_most true = omega arith
one_at_most false = omega arith

module _ {K : Type 0} (number : K → ℕ) {items : List NumberedKey} {heads : List ScheduledHead} {rows : List (List (Source K))}
    {moments : FinMap nat_cmp ℕ} {schedules : ℕ} (known : IsStored number items heads rows moments schedules) where
  -- the numbers of a map that has all moments name the rows
  pub names-rows : (new : FinMap nat_cmp ℕ) (numbers : List ℕ) → ((n : ℕ) → map.contains_key moments n ≡ true → map.contains_key new n ≡ true)
      → ((n : ℕ) → times n numbers ≡ (if map.contains_key new n then 1 else 0)) → All (λ n. n < length rows) numbers → NamesRows (map length rows) numbers
  names-rows new numbers kept each within = record {
    within = λ k d in_list. omega (arith, within k d in_list, length-map rows (length {A = Source K}));
    once = λ n. let all = each n in let few = one_at_most (map.contains_key new n) in omega (arith, all, few);
    each =
        λ n some.
        let there = by_test n (omega (arith, some, sizes-row rows n)) (set_of number_of items n) refl in
        let one : times n numbers ≡ 1 = each n ∙ ap (λ b. if b then 1 else 0) (kept n there) in
        omega (arith, one);
  }
    where
      by_vacant : (n : ℕ) → 0 < length (get_or rows n []) → set_of number_of items n ≡ true → (b : Bool) →
          is_vacant (group_by number heads rows n).group ≡ b → map.contains_key moments n ≡ true
      by_vacant n some held true vacant =
          let found = has-number items n held in
          let inside = known.within (found.1).0 (item n found.0) (found.1).1 in
          let in_rows : n < length rows = omega (arith, inside, ap number_of (found.1).2) in
          let empty = row-none number (get_or heads n no_head) (get_or rows n []) (known.rows_ascend n [] in_rows) (known.vacant_are_unheld n held vacant) in
          absurd (omega (arith, some, ap length empty))
      by_vacant n some held false other = has-moment number known n held ∙ ap not other

      by_test : (n : ℕ) → 0 < length (get_or rows n []) → (b : Bool) → set_of number_of items n ≡ b → map.contains_key moments n ≡ true
      by_test n some true held = by_vacant n some held (is_vacant (group_by number heads rows n).group) refl
      by_test n some false absent = absurd (omega (arith, some, ap length (known.unused_are_empty n absent)))

  -- where a number's group is vacant, fewer have moments than there are
  pub fewer-running : (n : ℕ) → set_of number_of items n ≡ true → is_vacant (group_by number heads rows n).group ≡ true → map.len moments < length items
  fewer-running n held vacant =
      let found = has-number items n held in
      let there = found.1 in
      let of_item : NumberedKey → ScheduledGroup = λ (x : NumberedKey). group_by number heads rows x.number in
      let runs : ScheduledGroup → Bool = λ (e : ScheduledGroup). not (is_vacant e.group) in
      let size = length-map items of_item in
      let at : get_or (map of_item items) there.0 (of_item (item n found.0)) ≡ group_by number heads rows n =
      get_or-map of_item items there.0 (item n found.0) (of_item (item n found.0)) there.1 ∙ ap of_item there.2 in
      let fails : runs (get_or (map of_item items) there.0 (of_item (item n found.0))) ≡ false = ap runs at ∙ ap not vacant in
      let fewer = count-fewer runs (map of_item items) there.0 (of_item (item n found.0)) (omega (arith, size, there.1)) fails in
      let count : count_by runs (map of_item items) ≡ map.len moments =
      ap (count_by runs) (sym (values-groups number items heads rows known.ascending)) ∙ running-groups number known in
      omega (arith, fewer, count, size)

module _ {K : Type 0} (number : K → ℕ) {order : NumberedKeysState} {heads : List ScheduledHead} {rows : List (List (Source K))}
    {moments : FinMap nat_cmp ℕ} {schedules : ℕ} (known : IsStored number order.items heads rows moments schedules) {source_room ahead : ℕ}
    {state : HeldState} (was : ◌≡◌ {A = HeldState}
    (record { groups = groups_by number order.items heads rows; order = order; source_room = source_room; ahead = ahead }) state) where
  -- there is room for a moment of a group that has none
  pub moment-room : (n room : ℕ) (is_new : Bool) → IsNumber state n →
      ((a : ℕ) → HasNumber state a n → is_new ≡ is_vacant (group_at state.groups a).group) → length order.items ≤ room
      → map.len moments < room + one_if (not is_new)
  moment-room n room is_new is vacant fits =
      let found = address-of number known was n is in
      let own : is_vacant (group_by number heads rows n).group ≡ is_new = ap (λ (e : ScheduledGroup). is_vacant e.group)
      (sym (group-of number known was found.1)) ∙ sym (vacant found.0 found.1) in
      by_test is_new own
    where
      by_test : (b : Bool) → is_vacant (group_by number heads rows n).group ≡ b → map.len moments < room + one_if (not b)
      by_test true own = let fewer = fewer-running number known n (numbered number known was n is) own in omega (arith, fewer, fits)
      by_test false own =
          let held = len-held number known was in
          let few : running_in state.groups ≤ map.len state.groups = few_run in
          omega (arith, fits, few, held, running-held number known was)
        where
          few_run : running_in state.groups ≤ map.len state.groups
          few_run =
              let part = count_by-le-length (λ (e : ScheduledGroup). not (is_vacant e.group)) (map.values state.groups) in
              omega (arith, part, map.len-entries state.groups, length-map (map.entries state.groups) (λ (e : ℕ × ScheduledGroup). e.1))

  -- the room before the rows are packed, and the moves, by the sources that a group had and has
  module _ (n : ℕ) {a : ℕ} (row : List (Source K)) (limit : ℕ) (has : HasNumber state a n) (limit_is : limit ≡ source_room)
      (size : length rows ≡ order.room) where
    ahead-is : ahead_after (record { rows = rows; cell_limit = limit; ahead = ahead }) n row
        ≡ ahead_with state (sources_of (group_at state.groups a)) (length row)
    ahead-is =
        let had = size-of number known was has in
        let within = within-rows number known was n (is-number number known was has) in
        let total = sum_by-set length rows n row [] within in
        let part = get_or-le-sum_by length rows n [] within in
        let sources = sources-held number known was in
        let after : cells_in (set rows n row) ≡ sources_in state.groups - sources_of (group_at state.groups a) + length row =
        omega (arith, total, part, sources, had) in
        let room : length rows ≡ state.order.room = size ∙ room_is number known was in
        let all : limit ≡ state.source_room = limit_is ∙ source_room_is number known was in
        λ i. if nat_le (length row) (sym had i) then ahead_is number known was i
        else if nat_le (length row) (ahead_is number known was i) then ahead_is number known was i - length row
        else cells_reserved (room i) (all i) - after i

    moved-is : (named count : ℕ) → named ≡ count
        → moved_for (record { rows = rows; cell_limit = limit; ahead = ahead }) n row named
        ≡ moved_by_packing count state (sources_of (group_at state.groups a)) (length row)
    moved-is named count named_is =
        let had = size-of number known was has in
        let sources = sources-held number known was in
        λ i. if nat_le (length row) (sym had i) then length row
        else if nat_le (length row) (ahead_is number known was i) then length row
        else length row + (sym sources i - sym had i + named_is i)

    pub row-written : (after : PoolState (Source K)) (own named count moved : ℕ) → named ≡ count
        → IsReplaced (record { rows = rows; cell_limit = limit; ahead = ahead }) n row own named after moved
        → IsRowWritten state (sources_of (group_at state.groups a)) (length row) own count after.ahead moved
    row-written after own named count moved named_is replaced = record {
      how =
          ⊎_elim
          (λ (stays : (after.ahead ≡ ahead) × (moved ≡ own)). inl (stays.0 ∙ ahead_is number known was, stays.1))
          (λ (goes : (after.ahead ≡ ahead_after (record { rows = rows; cell_limit = limit; ahead = ahead }) n row) ×
          (moved ≡ moved_for (record { rows = rows; cell_limit = limit; ahead = ahead }) n row named)).
          inr (goes.0 ∙ ahead-is, goes.1 ∙ moved-is named count named_is))
          replaced.how;
    }
