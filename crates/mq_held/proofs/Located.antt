-- The group of a number, where it is stored.
use Rattle.std.proofs.Common.{◌≡◌, ℕ, ◌+◌, ◌-◌, ◌^◌, ◌<◌, ◌≤◌, Bool, true, false, not, if◌then◌else◌, refl, List, [], length, length-set, get_or, set, None}
use Rattle.mq_held.proofs.Common.{Some, is_some, sym, ap, ◌∙◌, subst, arith, get_or-set_same, get_or_read, IsAscending, set_of, PoolState, bitlen, set-same}
use Rattle.mq_held.proofs.Common.{Source, IsWellFormed, is_vacant, number_in, DeadlinesState, ScheduledGroup, Inside, ScheduledHead, group_at, one_if}
use Rattle.mq_held.proofs.Common.{running_in, schedules_of, sources_of, HasNumber, HeldState, IsNumber, moments_of, IsStored, earliest_of, group_by, group_of}
use Rattle.mq_held.proofs.Common.{groups_by, no_head}
use Rattle.std.specs.FinMap as map
use Rattle.mq_held.proofs.{Inside.ahead_is, Inside.group-of, Inside.numbered, Inside.running-held, Inside.size-of, Inside.state-set, Inside.within-rows}
use Rattle.mq_held.proofs.{OrderedAmounts.has-moment, OrderedItems.number_of, StoredEdits.IsStored-written, StoredEdits.row-none, StoredEdits.schedules-read}
use Rattle.mq_held.proofs.{StoredEdits.schedules_part}

-- the row of a number, and its group
abbrev pub row_of : {K A : Type 0} → Inside K A → ℕ → List (Source K)
row_of s n = get_or s.sources.rows n []

abbrev pub group_in : {K A : Type 0} → (K → ℕ) → Inside K A → ℕ → ScheduledGroup
group_in number s n = group_by number s.heads.items s.sources.rows n

-- the state of a storage that a contract sees, and the facts about each
abbrev pub seen : {K A : Type 0} → (K → ℕ) → Inside K A → HeldState
seen number s =
    record { groups = groups_by number s.order.items s.heads.items s.sources.rows; order = s.order; source_room = s.source_room; ahead = s.sources.ahead }

abbrev pub IsStorage : {K A : Type 0} → (K → ℕ) → Inside K A → Type 0
IsStorage number s =
    IsStored number s.order.items s.heads.items s.sources.rows s.moments.moments s.scheduled
    × (s.source_room ≡ s.sources.cell_limit)
    × (length s.sources.rows ≡ s.order.room)
    × (length s.heads.items ≡ s.order.room)
    × (s.moments.room ≡ s.order.room)
    × (s.order.room ≤ 2 ^ 16)
    × (length s.order.items ≤ s.order.room)

-- A group has the number `n`. Its head and its row are there, and a contract sees the group that they make.
pub record Located {K A : Type 0} (number : K → ℕ) (s : Inside K A) (state : HeldState) (n : ℕ) : Type 0 where
  pub inside : IsStorage number s
  pub was : seen number s ≡ state
  pub is : IsNumber state n
  pub held : set_of number_of s.order.items n ≡ true
  pub in_rows : n < length s.sources.rows
  pub in_heads : n < length s.heads.items
  pub up : IsAscending (number_in number) (row_of s n)
  pub head : (h : ScheduledHead) → h ≡ get_or s.heads.items n h → get_or s.heads.items n no_head ≡ h
  pub group : {a : ℕ} → HasNumber state a n → group_at state.groups a ≡ group_in number s n
  pub size : {a : ℕ} → HasNumber state a n → sources_of (group_at state.groups a) ≡ length (row_of s n)
  pub running : running_in state.groups ≡ map.len s.moments.moments
  pub others : bitlen (running_in state.groups - 1) ≡ bitlen (map.len s.moments.moments - 1)
  pub part : schedules_of (group_in number s n) ≤ s.scheduled
  pub own : (h : ScheduledHead) → h ≡ get_or s.heads.items n h
      → one_if (is_some h.schedule.group_query) + one_if (is_some h.schedule.sources_due) ≡ schedules_of (group_in number s n)
  -- where it has a source, it isn't vacant, and has a moment, its earliest
  pub other : 0 < length (row_of s n) → is_vacant (group_in number s n).group ≡ false
  pub moment : 0 < length (row_of s n) → map.contains_key s.moments.moments n ≡ true
  pub earliest : (earliest : ℕ) → map.get s.moments.moments n ≡ Some earliest → earliest_of (moments_of (group_in number s n)) ≡ Some earliest

pub located : {K A : Type 0} (number : K → ℕ) (s : Inside K A) {state : HeldState} {n : ℕ} → IsStorage number s → seen number s ≡ state → IsNumber state n
    → Located number s state n
located {K} {A} number s {state} {n} inside was is = record {
  inside = inside;
  was = was;
  is = is;
  held = held;
  in_rows = in_rows;
  in_heads = in_heads;
  up = inside.0.rows_ascend n [] in_rows;
  head = λ h here. sym (get_or_read s.heads.items n h in_heads here no_head);
  group = λ has. group-of number inside.0 was has;
  size = λ has. size-of number inside.0 was has;
  running = running-held number inside.0 was;
  others = ap (λ k. bitlen (k - 1)) (running-held number inside.0 was);
  part = schedules_part number inside.0 n held;
  own = λ h here. schedules-read number s.heads.items s.sources.rows n h in_heads here;
  other = other;
  moment = λ some. has-moment number inside.0 n held ∙ ap not (other some);
  earliest = λ earliest first. ap (λ b. if b then earliest_of (moments_of (group_in number s n)) else None) (sym held) ∙ sym (inside.0.moments_are n) ∙ first;
}
  where
    held : set_of number_of s.order.items n ≡ true
    held = numbered number inside.0 was n is

    in_rows : n < length s.sources.rows
    in_rows = within-rows number inside.0 was n is

    in_heads : n < length s.heads.items
    in_heads = omega (arith, in_rows, inside.2, inside.3)

    by_test : (b : Bool) → is_vacant (group_in number s n).group ≡ b → 0 < length (row_of s n) → is_vacant (group_in number s n).group ≡ false
    by_test true vacant some =
        let up = inside.0.rows_ascend n [] in_rows in
        let empty = row-none number (get_or s.heads.items n no_head) (row_of s n) up (inside.0.vacant_are_unheld n held vacant) in
        absurd (omega (arith, some, ap length empty))
    by_test false other some = other

    other : 0 < length (row_of s n) → is_vacant (group_in number s n).group ≡ false
    other = by_test (is_vacant (group_in number s n).group) refl

-- its earliest moment, by the head that is read
pub first-held : {K A : Type 0} {number : K → ℕ} {s : Inside K A} {state : HeldState} {n : ℕ} (l : Located number s state n) {h : ScheduledHead} {earliest : ℕ}
    → h ≡ get_or s.heads.items n h → map.get s.moments.moments n ≡ Some earliest → earliest_of (moments_of (group_of number h (row_of s n))) ≡ Some earliest
first-held {number = number} {s = s} {n = n} l {h} {earliest} here first =
    ap (λ g. earliest_of (moments_of (group_of number g (row_of s n)))) (sym (l.head h here)) ∙ l.earliest earliest first

-- It is another: what is stored then
abbrev pub IsStoredWith : {K A : Type 0} → (K → ℕ) → Inside K A → ℕ → ScheduledHead → List (Source K) → ℕ → Type 0
IsStoredWith number s n h row due =
    IsStored number s.order.items (set s.heads.items n h) (set s.sources.rows n row) (map.insert s.moments.moments n due)
    (s.scheduled - schedules_of (group_in number s n) + schedules_of (group_of number h row))

pub stored-written : {K A : Type 0} {number : K → ℕ} {s : Inside K A} {state : HeldState} {n : ℕ} → Located number s state n
    → (h : ScheduledHead) (row : List (Source K)) {e : ScheduledGroup} {due : ℕ}
    → IsAscending (number_in number) row → group_of number h row ≡ e → IsWellFormed e.group → earliest_of (moments_of e) ≡ Some due
    → IsStoredWith number s n h row due
stored-written {number = number} {n = n} l h row {e} {due} up is formed first =
    IsStored-written number l.inside.0 n h row e due l.held l.in_heads l.in_rows up is formed first

-- Its row is another, and its head stays.
module _ {K A : Type 0} {number : K → ℕ} {s : Inside K A} {state : HeldState} {n : ℕ} (l : Located number s state n)
    (row : List (Source K)) {t : PoolState (Source K)} {ahead : ℕ} (rows_are : t ≡ record s.sources { rows = set s.sources.rows n row; ahead = ahead }) where
  pub row-read : {cells : List (Source K)} → cells ≡ get_or t.rows n [] → cells ≡ row
  row-read cells = cells ∙ ap (λ (t : PoolState (Source K)). get_or t.rows n []) rows_are ∙ get_or-set_same s.sources.rows n row [] l.in_rows

  pub rows-len : length t.rows ≡ length s.sources.rows
  rows-len = ap (λ (t : PoolState (Source K)). length t.rows) rows_are ∙ length-set s.sources.rows n row

  module _ {h : ScheduledHead} (here : h ≡ get_or s.heads.items n h) where
    pub row-inside : {m : DeadlinesState} {due : ℕ} → IsAscending (number_in number) row → IsWellFormed (group_of number h row).group
        → earliest_of (moments_of (group_of number h row)) ≡ Some due → m ≡ record s.moments { moments = map.insert s.moments.moments n due }
        → IsStorage number (record s { sources = t; moments = m })
    row-inside {due = due} up formed first moments =
        let stored = stored-written l h row up refl formed first in
        let own : schedules_of (group_in number s n) ≡ schedules_of (group_of number h row) =
        ap (λ g. schedules_of (group_of number g (row_of s n))) (l.head h here) in
        let total : s.scheduled - schedules_of (group_in number s n) + schedules_of (group_of number h row) ≡ s.scheduled = omega (arith, l.part, own) in
        rw (rows_are, moments) (
          subst (λ (hs : List ScheduledHead). IsStored number s.order.items hs (set s.sources.rows n row) (map.insert s.moments.moments n due) s.scheduled)
              (set-same s.heads.items n h l.in_heads here)
              (subst (IsStored number s.order.items (set s.heads.items n h) (set s.sources.rows n row) (map.insert s.moments.moments n due)) total stored),
          l.inside.1,
          length-set s.sources.rows n row ∙ l.inside.2,
          l.inside.3,
          l.inside.4,
          l.inside.5,
          l.inside.6,
        )

    pub row-seen : {a : ℕ} (e : ScheduledGroup) → HasNumber state a n → group_of number h row ≡ e
        → seen number (record s { sources = t }) ≡ record state { groups = map.insert state.groups a e; ahead = ahead }
    row-seen e has group_is =
        let same = sym (set-same s.heads.items n h l.in_heads here) in
        (λ i. record {
          groups = groups_by number s.order.items (same i) (rows_are i).rows;
          order = s.order;
          source_room = s.source_room;
          ahead = (rows_are i).ahead;
        })
        ∙ state-set number l.inside.0 l.was h row e ahead ahead has l.in_heads group_is refl

    -- where the rows have as much room before they are packed
    pub row-seen_still : {a : ℕ} (e : ScheduledGroup) → HasNumber state a n → group_of number h row ≡ e → ahead ≡ s.sources.ahead
        → seen number (record s { sources = t }) ≡ record state { groups = map.insert state.groups a e }
    row-seen_still {a} e has group_is still =
        row-seen e has group_is
        ∙ (λ i. record state { groups = map.insert state.groups a e; ahead = (still ∙ ahead_is number l.inside.0 l.was) i })

-- A source is at its place in a row.
pub record Placed {K : Type 0} (number : K → ℕ) (row : List (Source K)) (source place : ℕ) (x : Source K) : Type 0 where
  pub within : place < length row
  pub some : 0 < length row
  pub here : x ≡ get_or row place x
  pub is : number x.address ≡ source

pub placed : {K : Type 0} (number : K → ℕ) {row cells : List (Source K)} {source place : ℕ} {x : Source K} → cells ≡ row → place < length cells
    → ((d : Source K) → number_in number (get_or cells place d) ≡ source) → x ≡ get_or cells place x → Placed number row source place x
placed number {place = place} {x = x} cells within found here = record {
  within = omega (arith, within, ap length cells);
  some = omega (arith, within, ap length cells);
  here = here ∙ ap (λ xs. get_or xs place x) cells;
  is = ap (number_in number) here ∙ found x;
}
