-- The storage once the group of a number has changed, or once another order has the same groups without vacant ones.
use Rattle.std.proofs.Common.{◌≡◌, ℕ, ◌+◌, ◌-◌, ◌*◌, ◌<◌, ◌≤◌, Bool, true, false, true≢false, cond, if◌then◌else◌, ◌&&◌, ◌==◌, refl, List, [], ◌∷◌}
use Rattle.mq_held.proofs.Common.{length, map, get_or, set, None, Some, is_some, sym, ap, ◌∙◌, subst, arith, ◌⊎◌, inl, inr, ⊎_elim, replicate, All, Contains}
use Rattle.mq_held.proofs.Common.{sum_by, nat_cmp, eq_by_cmp, nat_cmp_total, FinMap, cases_lt, cases_eq, eqb-true, eq-eqb, length-map, length-set, get_or-map}
use Rattle.mq_held.proofs.Common.{get_or-set_same, get_or-set_other, get_or_past, get_or_read, get_or-replicate, length-replicate, same_lists, nil_from_length}
use Rattle.mq_held.proofs.Common.{All-set, All-replicate, sum_by-cons, sum_by-set, get_or-le-sum_by, IsAscending, set_of, NumberedKey, times, Source}
use Rattle.mq_held.proofs.Common.{FilterMode, Include, Exclude, SourceTimer, GroupState, IsWellFormed, is_vacant, is_include, is_running, number_in, timers_in}
use Rattle.mq_held.proofs.Common.{state_of, len-timers_in, ScheduledGroup, ScheduleState, ScheduledHead, unheld, one_if, schedules_of, moments_of, group_of}
use Rattle.mq_held.proofs.Common.{group_by, no_head, entry_of, entries_of, groups_by, earliest_of, IsStored}
use Rattle.std.specs.FinMap as map
use Rattle.mq_table.specs.declared.heads.Head.{Head}
use Rattle.mq_held.proofs.{Sorted.ties, Sorted.untied, OrderedItems.item, OrderedItems.number_of, OrderedItems.key_of, OrderedItems.one-place}
use Rattle.mq_held.proofs.{OrderedItems.has-number, OrderedAmounts.no-moments}

abbrev pub schedules_at : ℕ × ScheduledGroup → ℕ
schedules_at e = schedules_of e.1

-- a group has two schedules at most
pub few_schedules : (es : List (ℕ × ScheduledGroup)) → sum_by schedules_at es ≤ 2 * length es
few_schedules [] = omega arith
few_schedules (e ∷ es) =
    let rest = few_schedules es in
    omega (arith, rest, one (is_some e.1.schedule.group_query), one (is_some e.1.schedule.sources_due), sum_by-cons schedules_at e es)
  where
    one : (b : Bool) → one_if b ≤ 1
    one true = omega arith
    one false = omega arith

-- no head and no sources are the group that isn't held, and back
pub group_of-none : {K : Type 0} (number : K → ℕ) → group_of number no_head [] ≡ unheld
group_of-none number =
    let none : timers_in number [] ≡ map.empty = map.empty_of_len (timers_in number [])
    (len-timers_in number [] (λ i j d before in_list. absurd (omega (arith, in_list)))) in
    ap (λ timers. let e : ScheduledGroup =
    record { group = record { mode = Include; sources = timers; v1 = None; v2 = None }; schedule = record { group_query = None; sources_due = None } }
    in e) none

pub unheld-vacant : is_vacant unheld.group ≡ true
unheld-vacant = eq-eqb (map.len (map.empty {X = SourceTimer} {R = nat_cmp})) 0 (map.len-empty nat_cmp SourceTimer)

pub head-none : {K : Type 0} (number : K → ℕ) (x : ScheduledHead) (row : List (Source K)) → group_of number x row ≡ unheld → x ≡ no_head
head-none number x row is = λ i. record {
  head = record { mode = (is i).group.mode; v1 = (is i).group.v1; v2 = (is i).group.v2 };
  schedule = (is i).schedule;
}

pub row-none : {K : Type 0} (number : K → ℕ) (x : ScheduledHead) (row : List (Source K)) → IsAscending (number_in number) row →
    group_of number x row ≡ unheld → row ≡ []
row-none number x row up is =
    nil_from_length row (sym (len-timers_in number row up) ∙ ap (λ (e : ScheduledGroup). map.len e.group.sources) is ∙ map.len-empty nat_cmp SourceTimer)

-- the number of schedules in a head
pub schedules-read : {K : Type 0} (number : K → ℕ) (heads : List ScheduledHead) (rows : List (List (Source K))) (n : ℕ) (h : ScheduledHead) →
    n < length heads → h ≡ get_or heads n h
    → one_if (is_some h.schedule.group_query) + one_if (is_some h.schedule.sources_due) ≡ schedules_of (group_by number heads rows n)
schedules-read number heads rows n h within here = ap (λ x. schedules_of (group_of number x (get_or rows n []))) (get_or_read heads n h within here no_head)

-- a group with its schedule, put in its parts
pub group-of-parts : {K : Type 0} (number : K → ℕ) (head : Head) (schedule : ScheduleState) (row : List (Source K)) (g : GroupState) →
    timers_in number row ≡ g.sources → g ≡ state_of head g.sources
    → group_of number (record { head = head; schedule = schedule }) row ≡ record { group = g; schedule = schedule }
group-of-parts number head schedule row g timers is =
    ap (λ m. let e : ScheduledGroup = record { group = state_of head m; schedule = schedule } in e) timers ∙
    ap (λ (h : GroupState). let e : ScheduledGroup = record { group = h; schedule = schedule } in e) (sym is)

-- a well-formed group isn't vacant
pub well_formed-other : (g : GroupState) → IsWellFormed g → is_vacant g ≡ false
well_formed-other g held = by_test (is_vacant g) refl
  where
    by_mode : (mode : FilterMode) → g.mode ≡ mode → (is_include mode && (map.len g.sources == 0)) ≡ true → ⊥
    by_mode (Exclude d) is vacant = true≢false (sym vacant)
    by_mode Include is vacant =
        let found = held.has_source is in
        let none : g.sources ≡ map.empty = map.empty_of_len g.sources (eqb-true (map.len g.sources) 0 vacant) in
        true≢false (sym found.1 ∙ ap (λ (sources : FinMap nat_cmp SourceTimer). is_running (map.get sources found.0)) none ∙
        ap is_running (map.get-empty nat_cmp found.0))

    by_test : (b : Bool) → is_vacant g ≡ b → is_vacant g ≡ false
    by_test true vacant = absurd (by_mode g.mode refl vacant)
    by_test false other = other

-- the fact about a stored group
abbrev IsUnheldIfVacant : ScheduledGroup → Type 0
IsUnheldIfVacant e = is_vacant e.group ≡ true → e ≡ unheld

abbrev IsHeldIfOther : ScheduledGroup → Type 0
IsHeldIfOther e = is_vacant e.group ≡ false → IsWellFormed e.group

module _ {K : Type 0} (number : K → ℕ) {items : List NumberedKey} {heads : List ScheduledHead} {rows : List (List (Source K))}
    {moments : FinMap nat_cmp ℕ} {schedules : ℕ} (known : IsStored number items heads rows moments schedules) where
  pub schedules_fit : schedules ≤ 2 * length items
  schedules_fit = omega (arith, known.schedules_are, few_schedules (entries_of number items heads rows), length-map items (entry_of number heads rows))

  -- the schedules of the group of a number are among them
  pub schedules_part : (n : ℕ) → set_of number_of items n ≡ true → schedules_of (group_by number heads rows n) ≤ schedules
  schedules_part n held =
      let found = has-number items n held in
      let there = found.1 in
      let x = item n found.0 in
      let d = entry_of number heads rows x in
      let part = get_or-le-sum_by schedules_at (entries_of number items heads rows) there.0 d
      (omega (arith, there.1, length-map items (entry_of number heads rows))) in
      let at : schedules_at (get_or (entries_of number items heads rows) there.0 d) ≡ schedules_of (group_by number heads rows n) =
      ap schedules_at (get_or-map (entry_of number heads rows) items there.0 x d there.1 ∙ ap (entry_of number heads rows) there.2) in
      omega (arith, part, at, known.schedules_are)

  -- a number that no group has is vacant, and so is each that has no moment
  pub group-unused : (n : ℕ) → set_of number_of items n ≡ false → group_by number heads rows n ≡ unheld
  group-unused n absent =
      ap (λ x. group_of number x (get_or rows n [])) (known.unused_are_vacant n absent)
      ∙ ap (group_of number no_head) (known.unused_are_empty n absent)
      ∙ group_of-none number

  -- The group of one number is another.
  module _ (n : ℕ) (h : ScheduledHead) (row : List (Source K)) (new : FinMap nat_cmp ℕ) (held : set_of number_of items n ≡ true)
      (heads_within : n < length heads) (rows_within : n < length rows) where
    pub group-set : group_by number (set heads n h) (set rows n row) n ≡ group_of number h row
    group-set =
        ap (λ x. group_of number x (get_or (set rows n row) n [])) (get_or-set_same heads n h no_head heads_within)
        ∙ ap (group_of number h) (get_or-set_same rows n row [] rows_within)

    pub group-other : (m : ℕ) → (m ≡ n → ⊥) → group_by number (set heads n h) (set rows n row) m ≡ group_by number heads rows m
    group-other m differs =
        ap (λ x. group_of number x (get_or (set rows n row) m [])) (get_or-set_other heads n m h no_head differs)
        ∙ ap (group_of number (get_or heads m no_head)) (get_or-set_other rows n m row [] differs)

    entries-set : (a : ℕ) (there : Contains items (item n a)) → entries_of number items (set heads n h) (set rows n row)
        ≡ set (entries_of number items heads rows) there.0 (a, group_of number h row)
    entries-set a there =
        let now = entry_of number (set heads n h) (set rows n row) in
        let old = entry_of number heads rows in
        let p = there.0 in
        let y : ℕ × ScheduledGroup = (a, group_of number h row) in
        let size_now = length-map items now in
        let size_old = length-map items old in
        same_lists (map now items) (set (map old items) p y) (omega (arith, size_now, size_old, length-set (map old items) p y)) (λ k d in_list.
        let inside : k < length items = omega (arith, in_list, size_now) in
        get_or-map now items k (item n a) d inside
        ∙ ⊎_elim
        (λ (same : k ≡ p).
        let own : get_or items k (item n a) ≡ item n a = ap (λ j. get_or items j (item n a)) same ∙ there.2 in
        let e : now (item n a) ≡ y = λ i. (a, group-set i) in
        ap now own ∙ e ∙ sym (get_or-set_same (map old items) p y d (omega (arith, there.1, size_old))) ∙
        ap (λ j. get_or (set (map old items) p y) j d) (sym same))
        (λ (differs : k ≡ p → ⊥).
        let x = get_or items k (item n a) in
        let other : x.number ≡ n → ⊥ = λ same.
        let size = length-map items number_of in
        let at_p : get_or (map number_of items) p 0 ≡ n = get_or-map number_of items p (item n a) 0 there.1 ∙ ap number_of there.2 in
        let at_k : get_or (map number_of items) k 0 ≡ n = get_or-map number_of items k (item n a) 0 inside ∙ same in
        differs (one-place (map number_of items) n k p (known.once n) (omega (arith, inside, size)) (omega (arith, there.1, size)) at_k at_p) in
        let e : now x ≡ old x = λ i. (x.key, group-other x.number other i) in
        e ∙ sym (get_or-map old items k (item n a) d inside) ∙ sym (get_or-set_other (map old items) p k y d differs))
        (cases_eq k p))

    schedules-set : sum_by schedules_at (entries_of number items (set heads n h) (set rows n row)) + schedules_of (group_by number heads rows n)
        ≡ schedules + schedules_of (group_of number h row)
    schedules-set =
        let found = has-number items n held in
        let there = found.1 in
        let old = entry_of number heads rows in
        let x = item n found.0 in
        let y : ℕ × ScheduledGroup = (found.0, group_of number h row) in
        let total = sum_by-set schedules_at (entries_of number items heads rows) there.0 y (old x) (omega (arith, there.1, length-map items old)) in
        let at : schedules_at (get_or (entries_of number items heads rows) there.0 (old x)) ≡ schedules_of (group_by number heads rows n) =
        ap schedules_at (get_or-map old items there.0 x (old x) there.1 ∙ ap old there.2) in
        omega (arith, total, at, known.schedules_are, ap (sum_by schedules_at) (entries-set found.0 there))

    abbrev now : ℕ → ScheduledGroup
    now m = group_by number (set heads n h) (set rows n row) m

    pub IsStored-set : IsAscending (number_in number) row
        → ((m : ℕ) → map.get new m ≡ cond (eq_by_cmp nat_cmp m n) (earliest_of (moments_of (group_of number h row))) (map.get moments m))
        → (is_vacant (group_of number h row).group ≡ true → group_of number h row ≡ unheld)
        → (is_vacant (group_of number h row).group ≡ false → IsWellFormed (group_of number h row).group)
        → IsStored number items (set heads n h)
        (set rows n row) new (schedules - schedules_of (group_by number heads rows n) + schedules_of (group_of number h row))
    IsStored-set row_up moment vacant other = record {
      ascending = known.ascending;
      once = known.once;
      within = λ k d in_list. omega (arith, known.within k d in_list, length-set rows n row);
      rows_ascend = All-set (IsAscending (number_in number)) rows n row row_up known.rows_ascend;
      unused_are_empty = λ m absent. get_or-set_other rows n m row [] (apart m absent) ∙ known.unused_are_empty m absent;
      unused_are_vacant =
          λ m absent. get_or-set_other heads n m h no_head (apart m absent) ∙ known.unused_are_vacant m absent;
      moments_are =
          λ m.
          ⊎_elim
          (λ (same : m ≡ n).
          moment m
          ∙ ap (λ b. cond b (earliest_of (moments_of (group_of number h row))) (map.get moments m)) (ties m n same)
          ∙ ap (λ (e : ScheduledGroup). earliest_of (moments_of e)) (sym (ap now same ∙ group-set))
          ∙ ap (λ b. if b then earliest_of (moments_of (now m)) else None) (sym (ap (set_of number_of items) same ∙ held)))
          (λ (differs : m ≡ n → ⊥).
          moment m
          ∙ ap (λ b. cond b (earliest_of (moments_of (group_of number h row))) (map.get moments m)) (untied m n differs)
          ∙ known.moments_are m
          ∙ ap (λ (e : ScheduledGroup). if set_of number_of items m then earliest_of (moments_of e) else None) (sym (group-other m differs)))
          (cases_eq m n);
      vacant_are_unheld =
          λ m m_held.
          ⊎_elim
          (λ (same : m ≡ n). let is = ap now same ∙ group-set in subst IsUnheldIfVacant (sym is) vacant)
          (λ (differs : m ≡ n → ⊥). subst IsUnheldIfVacant (sym (group-other m differs)) (known.vacant_are_unheld m m_held))
          (cases_eq m n);
      others_are_held =
          λ m m_held.
          ⊎_elim
          (λ (same : m ≡ n). let is = ap now same ∙ group-set in subst IsHeldIfOther (sym is) other)
          (λ (differs : m ≡ n → ⊥). subst IsHeldIfOther (sym (group-other m differs)) (known.others_are_held m m_held))
          (cases_eq m n);
      schedules_are = omega (arith, schedules-set, schedules_part n held);
    }
      where
        apart : (m : ℕ) → set_of number_of items m ≡ false → m ≡ n → ⊥
        apart m absent same = true≢false (sym held ∙ ap (set_of number_of items) (sym same) ∙ absent)

  -- The group of one number is vacant from then on.
  pub IsStored-cleared : (n : ℕ) → set_of number_of items n ≡ true → n < length heads → n < length rows
      → IsStored number items (set heads n no_head) (set rows n []) (map.remove moments n) (schedules - schedules_of (group_by number heads rows n))
  IsStored-cleared n held heads_within rows_within =
      let none = group_of-none number in
      let no_moment : earliest_of (moments_of (group_of number no_head [])) ≡ None = ap (λ (e : ScheduledGroup). earliest_of (moments_of e)) none ∙
      no-moments in
      let total : schedules - schedules_of (group_by number heads rows n) + schedules_of (group_of number no_head [])
      ≡ schedules - schedules_of (group_by number heads rows n) = omega arith in
      subst (IsStored number items (set heads n no_head) (set rows n []) (map.remove moments n)) total
      (IsStored-set n no_head [] (map.remove moments n) held heads_within rows_within (λ i j d before in_list. absurd (omega (arith, in_list)))
      (λ m. map.get-remove nat_cmp_total moments n m ∙ ap (λ o. cond (eq_by_cmp nat_cmp m n) o (map.get moments m)) (sym no_moment))
      (λ vacant. none)
      (λ other. absurd (true≢false (sym (ap (λ (e : ScheduledGroup). is_vacant e.group) none ∙ unheld-vacant) ∙ other))))

  -- The group of one number is well formed from then on.
  pub IsStored-written : (n : ℕ) (h : ScheduledHead) (row : List (Source K)) (e : ScheduledGroup) (due : ℕ) → set_of number_of items n ≡ true →
      n < length heads → n < length rows → IsAscending (number_in number) row
      → group_of number h row ≡ e → IsWellFormed e.group → earliest_of (moments_of e) ≡ Some due
      → IsStored number items (set heads n h) (set rows n row) (map.insert moments n due)
      (schedules - schedules_of (group_by number heads rows n) + schedules_of (group_of number h row))
  IsStored-written n h row e due held heads_within rows_within row_up is well_formed earliest =
      let formed : IsWellFormed (group_of number h row).group = subst (λ (e : ScheduledGroup). IsWellFormed e.group) (sym is) well_formed in
      IsStored-set n h row (map.insert moments n due) held heads_within rows_within row_up
      (λ m. map.get-insert nat_cmp_total moments n due m ∙ ap (λ o. cond (eq_by_cmp nat_cmp m n) o (map.get moments m))
      (sym (ap (λ (e : ScheduledGroup). earliest_of (moments_of e)) is ∙ earliest)))
      (λ vacant. absurd (true≢false (sym vacant ∙ well_formed-other (group_of number h row).group formed)))
      (λ other. formed)

  -- Another order has the same groups, but for some that aren't held.
  pub IsStored-order : (new : List NumberedKey) → IsAscending key_of new → ((n : ℕ) → times n (map number_of new) ≤ 1) →
      All (λ (x : NumberedKey). x.number < length rows) new
      → ((n : ℕ) → (set_of number_of new n ≡ set_of number_of items n) ⊎ (group_by number heads rows n ≡ unheld))
      → sum_by schedules_at (entries_of number new heads rows) ≡ sum_by schedules_at (entries_of number items heads rows)
      → IsStored number new heads rows moments schedules
  IsStored-order new up once within differ sums = record {
    ascending = up;
    once = once;
    within = within;
    rows_ascend = known.rows_ascend;
    unused_are_empty =
        λ n absent.
        ⊎_elim
        (λ (same : set_of number_of new n ≡ set_of number_of items n). known.unused_are_empty n (sym same ∙ absent))
        (λ (gone : group_by number heads rows n ≡ unheld). empty n gone (cases_lt n (length rows)))
        (differ n);
    unused_are_vacant =
        λ n absent.
        ⊎_elim
        (λ (same : set_of number_of new n ≡ set_of number_of items n). known.unused_are_vacant n (sym same ∙ absent))
        (λ (gone : group_by number heads rows n ≡ unheld). head-none number (get_or heads n no_head) (get_or rows n []) gone)
        (differ n);
    moments_are =
        λ n.
        ⊎_elim
        (λ (same : set_of number_of new n ≡ set_of number_of items n).
        known.moments_are n ∙ ap (λ b. if b then earliest_of (moments_of (group_by number heads rows n)) else None) (sym same))
        (λ (gone : group_by number heads rows n ≡ unheld).
        known.moments_are n
        ∙ none_either n gone (set_of number_of items n)
        ∙ sym (none_either n gone (set_of number_of new n)))
        (differ n);
    vacant_are_unheld =
        λ n held vacant.
        ⊎_elim
        (λ (same : set_of number_of new n ≡ set_of number_of items n). known.vacant_are_unheld n (sym same ∙ held) vacant)
        (λ (gone : group_by number heads rows n ≡ unheld). gone)
        (differ n);
    others_are_held =
        λ n held other.
        ⊎_elim
        (λ (same : set_of number_of new n ≡ set_of number_of items n). known.others_are_held n (sym same ∙ held) other)
        (λ (gone : group_by number heads rows n ≡ unheld). absurd
        (true≢false (sym unheld-vacant ∙ sym (ap (λ (e : ScheduledGroup). is_vacant e.group) gone) ∙ other)))
        (differ n);
    schedules_are = known.schedules_are ∙ sym sums;
  }
    where
      empty : (n : ℕ) → group_by number heads rows n ≡ unheld → (n < length rows) ⊎ (length rows ≤ n) → get_or rows n [] ≡ []
      empty n gone (inl within) = row-none number (get_or heads n no_head) (get_or rows n []) (known.rows_ascend n [] within) gone
      empty n gone (inr past) = get_or_past rows n [] past

      none_either : (n : ℕ) → group_by number heads rows n ≡ unheld → (b : Bool) →
          (if b then earliest_of (moments_of (group_by number heads rows n)) else None) ≡ None
      none_either n gone true = ap (λ (e : ScheduledGroup). earliest_of (moments_of e)) gone ∙ no-moments
      none_either n gone false = refl

-- no groups
module _ {K : Type 0} (number : K → ℕ) (room : ℕ) where
  nothing : {X : Type 0} (d : X) (n : ℕ) → get_or (replicate room d) n d ≡ d
  nothing d n =
      ⊎_elim
      (λ (within : n < room). get_or-replicate room n d d within)
      (λ (past : room ≤ n). get_or_past (replicate room d) n d (omega (arith, past, length-replicate room d)))
      (cases_lt n room)

  pub IsStored-none : IsStored number [] (replicate room no_head) (replicate room []) map.empty 0
  IsStored-none = record {
    ascending = λ i j d before in_list. absurd (omega (arith, in_list));
    once = λ n. omega arith;
    within = λ k d in_list. absurd (omega (arith, in_list));
    rows_ascend = All-replicate (IsAscending (number_in number)) room [] (λ i j d before in_list. absurd (omega (arith, in_list)));
    unused_are_empty = λ n absent. nothing [] n;
    unused_are_vacant = λ n absent. nothing no_head n;
    moments_are = λ n. map.get-empty nat_cmp n;
    vacant_are_unheld = λ n held vacant. absurd (true≢false (sym held));
    others_are_held = λ n held other. absurd (true≢false (sym held));
    schedules_are = refl;
  }

-- and the map of none
pub groups_by-none : {K : Type 0} (number : K → ℕ) (heads : List ScheduledHead) (rows : List (List (Source K))) → groups_by number [] heads rows ≡ map.empty
groups_by-none number heads rows =
    map.empty_of_len (groups_by number [] heads rows) (map.len-entries (groups_by number [] heads rows) ∙ ap length (map.entries-from_sorted nat_cmp [] tt))
