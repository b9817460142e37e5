-- The map without the vacant groups, and the storage then.
use Rattle.std.proofs.Common.{ℕ, ◌+◌, ◌*◌, ◌/◌, ◌^◌, ◌<◌, ◌≤◌, ◌≡◌, ◌==◌, min, Bool, true, false, true≢false, not, cond, ◌&&◌, refl, List, [], ◌∷◌}
use Rattle.mq_held.proofs.Common.{length, get_or, Option, None, Some, sym, ap, ◌∙◌, subst, arith, ⊎_elim, ◌⊎◌, inl, inr, list_map, filter, T, All, Contains}
use Rattle.mq_held.proofs.Common.{count_by, sum_by, option_and_then, nat_cmp, eq_by_cmp, nat_cmp_total, mul-le-mul_left, eqb-true, cases_lt, length-map}
use Rattle.mq_held.proofs.Common.{All-filter, AllPairs-filter, length-filter, count_by-le-length, any-filter_same, FinMap, find, is_sorted}
use Rattle.mq_held.proofs.Common.{nat_cmp-IsAntisymmetric, below_all, same_entries, IsAscending, set_of, NumberedKey, NumberedKeysState, key_in, items_by}
use Rattle.mq_held.proofs.Common.{bitlen, times, bitlen-le, at_counted, length-counted, Source, is_vacant, ScheduledGroup, ScheduledHead, Groups, unheld}
use Rattle.mq_held.proofs.Common.{group_at, if_running, schedules_of, vacant_in, without_vacant, HeldState, HasNumber, IsNumber, is_vacant_at, entry_of}
use Rattle.mq_held.proofs.Common.{entries_of, group_by, groups_by, IsStored, Inside}
use Rattle.std.specs.FinMap as map
use Rattle.mq_table.proofs.Maps.{get-kept}
use Rattle.mq_held.proofs.{Sorted.first, Sorted.second, Sorted.tied, Sorted.find_below, Sorted.below-all, Sorted.all-below, Sorted.key_of}
use Rattle.mq_held.proofs.{Sorted.ascending-sorted, Sorted.sorted-ascending, DueInOrder.entry-group, GroupsInOrder.IsOrdered, GroupsInOrder.IsOrdered-stored}
use Rattle.mq_held.proofs.{GroupsInOrder.all-addresses, Inside.groups_are, Inside.items_are, Inside.has, Inside.numbered, Inside.group-of}
use Rattle.mq_held.proofs.{KeysByNumber.numbers_in, KeysByNumber.numbers-ascend, KeysByNumber.map-filter, KeysByNumber.filter-agree, KeysByNumber.key-of_item}
use Rattle.mq_held.proofs.{KeysByNumber.number-is, LeftNumbers.number-has, Located.IsStorage, Located.seen, OrderedAmounts.sum_by-map}
use Rattle.mq_held.proofs.{OrderedAmounts.times-filter, OrderedGroups.entries-groups, OrderedItems.number_of, OrderedItems.has-number, OrderedItems.times-in}
use Rattle.mq_held.proofs.{OrderedItems.absent-times, StoredEdits.IsStored-order, TakenItems.is_among, TakenItems.among-none, TakenItems.among-some}
use Rattle.mq_held.proofs.{TakenItems.contains-filter, TakenItems.fewer-once, TakenItems.items-left, TakenItems.length-left, TakenItems.sum-left}

-- the entry found among those that pass
find-filter : {X : Type 0} (a : ℕ) (p : ℕ × X → Bool) (es : List (ℕ × X)) → T (is_sorted nat_cmp es) →
    find nat_cmp a (filter p es) ≡ option_and_then (λ v. cond (p (a, v)) (Some v) None) (find nat_cmp a es)
find-filter a p [] up = refl
find-filter {X = X} a p (e ∷ es) up =
    by_tests (eq_by_cmp nat_cmp a e.0) (p e) refl refl (find-filter a p es (second (below_all nat_cmp e.0 es) (is_sorted nat_cmp es) up))
  where
    left : List (ℕ × X)
    left = filter p es

    absent : a ≡ e.0 → find nat_cmp a left ≡ None
    absent same =
        let above = below-all e.0 es (first (below_all nat_cmp e.0 es) (is_sorted nat_cmp es) up) in
        ap (λ n. find nat_cmp n left) same ∙ find_below e.0 left (all-below e.0 left (All-filter p (λ y. e.0 < key_of y) es above))

    by_tests : (b c : Bool) → eq_by_cmp nat_cmp a e.0 ≡ b → p e ≡ c → find nat_cmp a left ≡ option_and_then (λ v. cond (p (a, v)) (Some v) None)
        (find nat_cmp a es)
        → find nat_cmp a (cond c (e ∷ left) left) ≡ option_and_then (λ v. cond (p (a, v)) (Some v) None) (cond b (Some e.1) (find nat_cmp a es))
    by_tests true true here passes rest =
        let own : p (a, e.1) ≡ true = ap (λ n. p (n, e.1)) (tied a e.0 here) ∙ passes in
        ap (λ t. cond t (Some e.1) (find nat_cmp a left)) here ∙ sym (ap (λ t. cond t (Some e.1) None) own)
    by_tests true false here fails rest =
        let own : p (a, e.1) ≡ false = ap (λ n. p (n, e.1)) (tied a e.0 here) ∙ fails in
        absent (tied a e.0 here) ∙ sym (ap (λ t. cond t (Some e.1) None) own)
    by_tests false true other passes rest = ap (λ t. cond t (Some e.1) (find nat_cmp a left)) other ∙ rest
    by_tests false false other fails rest = rest

-- the entries of those that aren't vacant
abbrev is_running_entry : ℕ × ScheduledGroup → Bool
is_running_entry e = not (is_vacant e.1.group)

pub entries-kept : (groups : Groups) → map.entries (without_vacant groups) ≡ filter is_running_entry (map.entries groups)
entries-kept groups =
    let es = map.entries groups in
    let up = map.entries_sorted groups in
    let after = sorted-ascending (filter is_running_entry es) (AllPairs-filter (λ x y. key_of x < key_of y) is_running_entry es (ascending-sorted es up)) in
    same_entries nat_cmp nat_cmp_total nat_cmp-IsAntisymmetric (map.entries (without_vacant groups)) (filter is_running_entry es)
    (map.entries_sorted (without_vacant groups)) after (λ q.
    sym (map.get-entries (without_vacant groups) q)
    ∙ get-kept if_running groups q
    ∙ ap (option_and_then (if_running q)) (map.get-entries groups q)
    ∙ by_value q (find nat_cmp q es)
    ∙ sym (find-filter q is_running_entry es up))
  where
    by_test : (b : Bool) (e : ScheduledGroup) → cond b None (Some e) ≡ cond (not b) (Some e) None
    by_test true e = refl
    by_test false e = refl

    by_value : (q : ℕ) (o : Option ScheduledGroup) → option_and_then (if_running q) o ≡ option_and_then (λ v. cond (is_running_entry (q, v)) (Some v) None) o
    by_value q None = refl
    by_value q (Some e) = by_test (is_vacant e.group) e

-- the number of groups that pass a test, by their numbers
pub count-numbers : {s : HeldState} (known : IsOrdered s) (p : ScheduledGroup → Bool) →
    count_by p (map.values s.groups) ≡ length (filter (λ n. p (group_at s.groups (key_in s.order.items n))) (numbers_in s.order.items))
count-numbers {s = s} known p =
    let at : ℕ → Bool = λ a. p (group_at s.groups a) in
    let es = map.entries s.groups in
    let ns = numbers_in s.order.items in
    sum_by-map (λ e. cond (p e) 1 0) (λ (e : ℕ × ScheduledGroup). e.1) es
    ∙ sym (length-filter (λ (e : ℕ × ScheduledGroup). p e.1) es)
    ∙ ap length (filter-agree (λ (e : ℕ × ScheduledGroup). p e.1) (λ (e : ℕ × ScheduledGroup). at e.0) es
    (λ k d within. ap p (entry-group s.groups k d within)))
    ∙ sym (length-map (filter (λ (e : ℕ × ScheduledGroup). at e.0) es) (λ (e : ℕ × ScheduledGroup). e.0))
    ∙ ap length (map-filter (λ (e : ℕ × ScheduledGroup). e.0) at es)
    ∙ ap (λ ks. length (filter at ks)) (sym (all-addresses known refl))
    ∙ ap length (sym (map-filter (key_in s.order.items) at ns))
    ∙ length-map (filter (λ n. at (key_in s.order.items n)) ns) (key_in s.order.items)

-- numbers among which each vacant group has its own
module _ {s : HeldState} (known : IsOrdered s) (ns : List ℕ) (there : All (IsNumber s) ns) (once : (n : ℕ) → times n ns ≤ 1)
    (each : (n : ℕ) → IsNumber s n → is_vacant_at s n ≡ true → 1 ≤ times n ns) where
  -- how often a vacant one stands among them
  times-vacant : (n : ℕ) → is_vacant_at s n ≡ true → times n ns ≡ times n (numbers_in s.order.items)
  times-vacant n vacant = by_test (set_of number_of s.order.items n) refl
    where
      by_test : (b : Bool) → set_of number_of s.order.items n ≡ b → times n ns ≡ times n (numbers_in s.order.items)
      by_test true held =
          let found = has-number s.order.items n held in
          omega (arith, once n, each n held vacant, known.once n, times-in s.order.items n found.0 found.1)
      by_test false absent =
          ⊎_elim
          (λ (some : 0 < times n ns).
          let held : IsNumber s n = at_counted (IsNumber s) ns n there (omega (arith, some)) in
          absurd (true≢false (sym held ∙ absent)))
          (λ (none : times n ns ≤ 0). omega (arith, none, absent-times s.order.items n absent))
          (cases_lt 0 (times n ns))

  same-vacant : (n : ℕ) → times n (filter (is_vacant_at s) ns) ≡ times n (filter (is_vacant_at s) (numbers_in s.order.items))
  same-vacant n =
      times-filter (is_vacant_at s) n ns ∙ by_test (is_vacant_at s n) refl ∙ sym (times-filter (is_vacant_at s) n (numbers_in s.order.items))
    where
      by_test : (b : Bool) → is_vacant_at s n ≡ b → cond b (times n ns) 0 ≡ cond b (times n (numbers_in s.order.items)) 0
      by_test true vacant = times-vacant n vacant
      by_test false other = refl

  pub all-vacant : {gone : List ℕ} → gone ≡ filter (is_vacant_at s) ns → vacant_in s.groups ≡ length gone
  all-vacant is =
      count-numbers known (λ e. is_vacant e.group)
      ∙ sym (length-counted (filter (is_vacant_at s) ns) (filter (is_vacant_at s) (numbers_in s.order.items)) same-vacant)
      ∙ ap length (sym is)

  -- they are no more than there are groups
  pub few-given : length ns ≤ length s.order.items
  few-given =
      let all = numbers_in s.order.items in
      let same : (n : ℕ) → times n ns ≡ times n (filter (is_among ns) all) = λ n. by_count n (cases_lt 0 (times n ns)) ∙
      sym (times-filter (is_among ns) n all) in
      omega (
        arith,
        length-counted ns (filter (is_among ns) all) same,
        length-filter (is_among ns) all,
        count_by-le-length (is_among ns) all,
        length-map s.order.items (λ (x : NumberedKey). x.number),
      )
    where
      by_count : (n : ℕ) → (0 < times n ns) ⊎ (times n ns ≤ 0) → times n ns ≡ cond (is_among ns n) (times n (numbers_in s.order.items)) 0
      by_count n (inl some) =
          let held : IsNumber s n = at_counted (IsNumber s) ns n there (omega (arith, some)) in
          let found = has-number s.order.items n held in
          let same : times n ns ≡ times n (numbers_in s.order.items) = omega (arith, some, once n, known.once n, times-in s.order.items n found.0 found.1) in
          same ∙ ap (λ b. cond b (times n (numbers_in s.order.items)) 0) (sym (among-some ns n (omega (arith, some))))
      by_count n (inr none) =
          let is : times n ns ≡ 0 = omega (arith, none) in
          is ∙ ap (λ b. cond b (times n (numbers_in s.order.items)) 0) (sym (among-none ns n is))

  -- the vacant ones among them are those of all
  pub gone-vacant : {gone : List ℕ} → gone ≡ filter (is_vacant_at s) ns → filter (λ x. not (is_among gone x.number)) s.order.items
      ≡ filter (λ x. not (is_vacant_at s x.number)) s.order.items
  gone-vacant {gone = gone} is =
      filter-agree (λ (x : NumberedKey). not (is_among gone x.number)) (λ (x : NumberedKey). not (is_vacant_at s x.number)) s.order.items
      (λ k d within.
      let x = get_or s.order.items k d in
      ap not (tests x.number (number-is s.order.items x.number k d within refl) (is_vacant_at s x.number) refl))
    where
      tests : (n : ℕ) → IsNumber s n → (b : Bool) → is_vacant_at s n ≡ b → is_among gone n ≡ is_vacant_at s n
      tests n held true vacant =
          let some : 1 ≤ times n gone = omega (
            arith,
            ap (times n) is,
            times-filter (is_vacant_at s) n ns,
            ap (λ b. cond b (times n ns) 0) vacant,
            each n held vacant,
          ) in
          among-some gone n some ∙ sym vacant
      tests n held false other =
          let none : times n gone ≡ 0 = ap (times n) is ∙ times-filter (is_vacant_at s) n ns ∙ ap (λ b. cond b (times n ns) 0) other in
          among-none gone n none ∙ sym other

module _ {K : Type 0} (number : K → ℕ) {order : NumberedKeysState} {heads : List ScheduledHead} {rows : List (List (Source K))}
    {moments : FinMap nat_cmp ℕ} {schedules : ℕ} (known : IsStored number order.items heads rows moments schedules) {source_room ahead : ℕ}
    {state : HeldState} (was : ◌≡◌ {A = HeldState}
    (record { groups = groups_by number order.items heads rows; order = order; source_room = source_room; ahead = ahead }) state) where
  abbrev runs : NumberedKey → Bool
  runs x = not (is_vacant_at state x.number)

  vacant-of : (n : ℕ) → set_of number_of order.items n ≡ true → is_vacant_at state n ≡ is_vacant (group_by number heads rows n).group
  vacant-of n held =
      let is : IsNumber state n = ap (λ xs. set_of number_of xs n) (sym (items_are number known was)) ∙ held in
      ap (λ (e : ScheduledGroup). is_vacant e.group) (group-of number known was (number-has state n is))

  vacant-item : All (λ (x : NumberedKey). is_vacant_at state x.number ≡ is_vacant (group_by number heads rows x.number).group) order.items
  vacant-item k d within =
      let x = get_or order.items k d in
      vacant-of x.number (number-is order.items x.number k d within refl)

  left_ascends : IsAscending (λ (x : NumberedKey). x.key) (filter runs order.items)
  left_ascends = AllPairs-filter (λ (x y : NumberedKey). x.key < y.key) runs order.items known.ascending

  pub groups-left : {new : List NumberedKey} → new ≡ filter runs order.items → groups_by number new heads rows ≡ without_vacant state.groups
  groups-left {new = new} is =
      let left = filter runs order.items in
      ap (λ xs. groups_by number xs heads rows) is
      ∙ map.same_entries_map (groups_by number left heads rows) (without_vacant state.groups)
      (entries-groups number left heads rows left_ascends
      ∙ ap (list_map (entry_of number heads rows))
      (filter-agree runs (λ x. is_running_entry (entry_of number heads rows x)) order.items (λ k d within. ap not (vacant-item k d within)))
      ∙ map-filter (entry_of number heads rows) is_running_entry order.items
      ∙ ap (filter is_running_entry) (sym (entries-groups number order.items heads rows known.ascending))
      ∙ ap (λ groups. filter is_running_entry (map.entries groups)) (groups_are number known was)
      ∙ sym (entries-kept state.groups))

  -- which numbers are left
  number-left : (n : ℕ) → set_of number_of (filter runs order.items) n ≡ (not (is_vacant_at state n) && set_of number_of order.items n)
  number-left n =
      any-filter_same (λ (x : NumberedKey). x.number == n) runs (not (is_vacant_at state n))
      (λ x same. ap (λ m. not (is_vacant_at state m)) (eqb-true x.number n same)) order.items

  left_once : (n : ℕ) → times n (numbers_in (filter runs order.items)) ≤ 1
  left_once n =
      subst (λ xs. times n xs ≤ 1) (sym (map-filter number_of (λ m. not (is_vacant_at state m)) order.items))
      (fewer-once (λ m. not (is_vacant_at state m)) (numbers_in order.items) known.once n)

  pub IsStored-left : {new : List NumberedKey} → new ≡ filter runs order.items → IsStored number new heads rows moments schedules
  IsStored-left {new = new} is =
      IsStored-order number known new
      (subst (IsAscending (λ (x : NumberedKey). x.key)) (sym is) left_ascends)
      (λ n. subst (λ xs. times n (numbers_in xs) ≤ 1) (sym is) (left_once n))
      (subst (All (λ (x : NumberedKey). x.number < length rows)) (sym is)
      (All-filter runs (λ (x : NumberedKey). x.number < length rows) order.items known.within))
      (λ n. by_tests n (is_vacant_at state n) refl (set_of number_of order.items n) refl)
      (ap (λ xs. sum_by (λ (e : ℕ × ScheduledGroup). schedules_of e.1) (entries_of number xs heads rows)) is
      ∙ sum_by-map (λ (e : ℕ × ScheduledGroup). schedules_of e.1) (entry_of number heads rows) (filter runs order.items)
      ∙ sum-left (λ x. schedules_of (group_by number heads rows x.number)) runs order.items
      (λ k d within. none_of (get_or order.items k d).number (number-is order.items (get_or order.items k d).number k d within refl))
      ∙ sym (sum_by-map (λ (e : ℕ × ScheduledGroup). schedules_of e.1) (entry_of number heads rows) order.items))
    where
      left_is : (n : ℕ) → set_of number_of new n ≡ (not (is_vacant_at state n) && set_of number_of order.items n)
      left_is n = ap (λ xs. set_of number_of xs n) is ∙ number-left n

      gone-unheld : (n : ℕ) → set_of number_of order.items n ≡ true → is_vacant_at state n ≡ true → group_by number heads rows n ≡ unheld
      gone-unheld n held vacant = known.vacant_are_unheld n held (sym (vacant-of n held) ∙ vacant)

      by_tests : (n : ℕ) (v : Bool) → is_vacant_at state n ≡ v → (b : Bool) → set_of number_of order.items n ≡ b →
          (set_of number_of new n ≡ set_of number_of order.items n) ⊎ (group_by number heads rows n ≡ unheld)
      by_tests n false other b held = inl (left_is n ∙ ap (λ v. not v && set_of number_of order.items n) other)
      by_tests n true vacant false absent = inl (left_is n ∙ ap (λ v. not v && set_of number_of order.items n) vacant ∙ sym absent)
      by_tests n true vacant true held = inr (gone-unheld n held vacant)

      none_of : (n : ℕ) → set_of number_of order.items n ≡ true → not (is_vacant_at state n) ≡ false → schedules_of (group_by number heads rows n) ≡ 0
      none_of n held fails = ap schedules_of (gone-unheld n held (turned (is_vacant_at state n) fails))
        where
          turned : (b : Bool) → not b ≡ false → b ≡ true
          turned true h = refl
          turned false h = absurd (true≢false h)

  -- the numbers that are given are no more than there are
  pub given-within : (ns : List ℕ) → All (IsNumber state) ns → ((n : ℕ) → times n ns ≤ 1) →
      ((n : ℕ) → IsNumber state n → is_vacant_at state n ≡ true → 1 ≤ times n ns) → length ns ≤ length order.items
  given-within ns there once each = omega (arith, few-given (IsOrdered-stored number known was) ns there once each, ap length (items_are number known was))

  -- a group that is left had its number
  pub has-left : {new : List NumberedKey} → new ≡ filter runs order.items → {a n : ℕ} → Contains new (record { number = n; key = a }) → HasNumber state a n
  has-left is {a = a} {n = n} there =
      let x : NumberedKey = record { number = n; key = a } in
      has number known was (contains-filter runs order.items x (subst (λ xs. Contains xs x) is there))

  -- the numbers left once each vacant one is removed
  pub left-removed : (ns : List ℕ) → All (IsNumber state) ns → ((n : ℕ) → times n ns ≤ 1) →
      ((n : ℕ) → IsNumber state n → is_vacant_at state n ≡ true → 1 ≤ times n ns)
      → {gone : List ℕ} → gone ≡ filter (is_vacant_at state) ns → filter (λ x. not (is_among gone x.number)) order.items ≡ filter runs order.items
  left-removed ns there once each {gone = gone} is =
      let same = items_are number known was in
      ap (filter (λ (x : NumberedKey). not (is_among gone x.number))) same
      ∙ gone-vacant (IsOrdered-stored number known was) ns there once each is
      ∙ sym (ap (filter runs) same)

  pub gone-there : (ns : List ℕ) → All (IsNumber state) ns → {gone : List ℕ} → gone ≡ filter (is_vacant_at state) ns →
      All (λ n. set_of number_of order.items n ≡ true) gone
  gone-there ns there is =
      subst (All (λ n. set_of number_of order.items n ≡ true)) (sym is)
      (All-filter (is_vacant_at state) (λ n. set_of number_of order.items n ≡ true) ns
      (λ k d within. numbered number known was (get_or ns k d) (there k d within)))

  pub gone-once : (ns : List ℕ) → ((n : ℕ) → times n ns ≤ 1) → {gone : List ℕ} → gone ≡ filter (is_vacant_at state) ns → (n : ℕ) → times n gone ≤ 1
  gone-once ns once is n = subst (λ xs. times n xs ≤ 1) (sym is) (fewer-once (is_vacant_at state) ns once n)

  -- and where all others are kept
  module _ {kept : List ℕ} (kept_is : kept ≡ filter (λ n. not (is_vacant_at state n)) (numbers_in state.order.items)) where
    kept_here : kept ≡ filter (λ n. not (is_vacant_at state n)) (numbers_in order.items)
    kept_here = kept_is ∙ ap (λ xs. filter (λ n. not (is_vacant_at state n)) (numbers_in xs)) (sym (items_are number known was))

    pub parts-left : {gone : List ℕ} → gone ≡ filter (is_vacant_at state) (numbers_in state.order.items) → (n : ℕ) →
        times n kept + times n gone ≡ times n (numbers_in order.items)
    parts-left is n =
        let all = numbers_in order.items in
        let gone_here = is ∙ ap (λ xs. filter (is_vacant_at state) (numbers_in xs)) (sym (items_are number known was)) in
        omega (
          arith,
          ap (times n) kept_here,
          ap (times n) gone_here,
          times-filter (λ m. not (is_vacant_at state m)) n all,
          times-filter (is_vacant_at state) n all,
          both (is_vacant_at state n) (times n all),
        )
      where
        both : (b : Bool) (k : ℕ) → cond (not b) k 0 + cond b k 0 ≡ k
        both true k = omega arith
        both false k = omega arith

    pub order-left : IsAscending (key_in order.items) kept
    order-left =
        subst (IsAscending (key_in order.items)) (sym kept_here)
        (AllPairs-filter (λ n m. key_in order.items n < key_in order.items m) (λ n. not (is_vacant_at state n)) (numbers_in order.items)
        (numbers-ascend order.items known.ascending known.once))

    pub left-kept : items_by (key_in order.items) kept ≡ filter runs order.items
    left-kept =
        ap (items_by (key_in order.items)) kept_here ∙ items-left (key_in order.items) (λ n. not (is_vacant_at state n)) order.items
        (key-of_item order.items known.once)

-- the cost if few are removed one by one
pub few-searches : (gone given len : ℕ) → gone ≤ len / 32 → gone ≤ given → len ≤ 2 ^ 16 → gone * (bitlen len + 2) ≤ min 1 given * len
few-searches gone given len few part small =
    ⊎_elim
    (λ (some : 0 < given).
    let one : min 1 given ≡ 1 = omega arith in
    let digits = bitlen-le 17 len (omega (arith, small)) in
    let each = mul-le-mul_left {m = bitlen len + 2} {n = 19} gone (omega (arith, digits)) in
    rw one (omega (arith, each, few)))
    (λ (none : given ≤ 0). let zero : gone ≡ 0 = omega (arith, none, part) in rw zero (omega arith))
    (cases_lt 0 given)

pub few-moves : (gone given len : ℕ) → gone ≤ len / 32 → gone ≤ given → given ≤ len → len ≤ 2 ^ 16 →
    given + gone * (1023 + len / 128) ≤ min 1 given * (50 * len)
few-moves gone given len few part within small =
    ⊎_elim
    (λ (some : 0 < given).
    let one : min 1 given ≡ 1 = omega arith in
    let each = mul-le-mul_left {m = 1023 + len / 128} {n = 1535} gone (omega (arith, small)) in
    rw one (omega (arith, each, few, within)))
    (λ (none : given ≤ 0).
    let zero : gone ≡ 0 = omega (arith, none, part) in
    let no : given ≡ 0 = omega (arith, none) in
    rw (zero, no) (omega arith))
    (cases_lt 0 given)

-- and where the order is walked
pub many-moves : (gone given len : ℕ) → len / 32 < gone → gone ≤ given → given ≤ len → given + (2 * len + (2 * len + 2)) ≤ min 1 given * (50 * len)
many-moves gone given len many part within =
    let one : min 1 given ≡ 1 = omega (arith, many, part) in
    rw one (omega (arith, many, part, within))

-- the storage without them
pub inside-left : {K A : Type 0} {number : K → ℕ} (s : Inside K A) {state : HeldState} → IsStorage number s → seen number s ≡ state →
    (new : NumberedKeysState) → new.items ≡ filter (λ x. not (is_vacant_at state x.number)) s.order.items → new.room ≡ s.order.room
    → IsStorage number (record s { order = new })
inside-left {number = number} s {state} inside was new left room = (
  IsStored-left number inside.0 was left,
  inside.1,
  inside.2 ∙ sym room,
  inside.3 ∙ sym room,
  inside.4 ∙ sym room,
  omega (arith, room, inside.5),
  omega (arith, room, inside.6, length-left (λ (x : NumberedKey). not (is_vacant_at state x.number)) s.order.items left),
)
