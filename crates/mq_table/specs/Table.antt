-- The tables for a record and its group: RFC 3376 sections 6.4.1 and 6.4.2, RFC 3810 sections 7.4.1 and 7.4.2. They are
-- for a group whose expired timers have been handled. So the sources with a running timer are those whose timer is
-- above zero.
use Rattle.std.specs.Prelude.{◌≡◌, ℕ, ◌+◌, Bool, true, false, if◌then◌else◌, Option, None, Some}
use Rattle.std.specs.Option.{unwrap_or}
use Rattle.std.specs.Ordering.{nat_cmp}
use Rattle.std.specs.FinSet as set
use Rattle.std.specs.FinSet.{FinSet}
use Rattle.mq_table.specs.declared.kind.Kind.{Kind}
use Rattle.mq_table.specs.declared.kind.Kind.TheVariants.{IsIn, IsEx, ToIn, ToEx, Allow, Block}
use Rattle.mq_table.specs.declared.timing.Timing.{Timing}
use Rattle.mq_table.specs.Sets.{Set, ∅, ◌∪◌, ◌∩◌, ◌∖◌}
use Rattle.mq_table.specs.Maps.{by_rule}
use Rattle.mq_table.specs.Group.{GroupState, FilterMode, Include, Exclude, SourceTimer, Stopped, Running, running, stopped, timer_at, group_deadline, deadline_of, retransmissions_of}
use Rattle.mq_table.specs.Timing.{membership_interval}

-- The sources that a record names; it doesn't matter how often it names one. RFC 3376 sections 4.2.9 and 4.2.15, RFC
-- 3810 sections 5.2.9 and 5.2.12.
abbrev pub NamedSources : Type 0
NamedSources = FinSet nat_cmp

-- One row of the tables: the new state, INCLUDE(x) or EXCLUDE(x,y), and the actions. The timers of the sources of
-- `restart` are set to the group membership interval, those of `copy` to the group timer before the record. A querier
-- sends Q(G,query), for those of `query` whose timers are above the last member query time, and Q(G) if `query_group`
-- is true. The actions "(B-A)=0" and "delete" are in the new X and Y, and "group timer=GMI" is in the mode.
pub record TableRow : Type 0 where
  pub mode : FilterMode
  pub x : Set
  pub y : Set
  pub restart : Set
  pub copy : Set
  pub query : Set
  pub query_group : Bool

-- a new state without actions
abbrev pub include : Set → TableRow
include A =
    record { mode = Include; x = A; y = ∅; restart = ∅; copy = ∅; query = ∅; query_group = false }

abbrev pub exclude : ℕ → Set → Set → TableRow
exclude d X Y =
    record { mode = Exclude d; x = X; y = Y; restart = ∅; copy = ∅; query = ∅; query_group = false }

-- The twelve rows. `gmi` is the deadline of a timer that is set to the group membership interval, and `d` that of the
-- group timer.
abbrev pub table_row : ℕ → FilterMode → Kind → Set → Set → Set → TableRow
-- Current-state records (RFC 3376 section 6.4.1, RFC 3810 section 7.4.1).
-- INCLUDE(A), IS_IN(B): INCLUDE(A+B), (B)=GMI
table_row gmi Include IsIn A Y B = record (include (A ∪ B)) { restart = B }
-- INCLUDE(A), IS_EX(B): EXCLUDE(A*B,B-A), (B-A)=0, delete (A-B), group timer=GMI
table_row gmi Include IsEx A Y B = exclude gmi (A ∩ B) (B ∖ A)
-- EXCLUDE(X,Y), IS_IN(A): EXCLUDE(X+A,Y-A), (A)=GMI
table_row gmi (Exclude d) IsIn X Y A = record (exclude d (X ∪ A) (Y ∖ A)) { restart = A }
-- EXCLUDE(X,Y), IS_EX(A): EXCLUDE(A-Y,Y*A), (A-X-Y)=GMI, delete (X-A), delete (Y-A), group timer=GMI
table_row gmi (Exclude d) IsEx X Y A = record (exclude gmi (A ∖ Y) (Y ∩ A)) { restart = A ∖ X ∖ Y }
-- State-change records (RFC 3376 section 6.4.2, RFC 3810 section 7.4.2).
-- INCLUDE(A), ALLOW(B): INCLUDE(A+B), (B)=GMI
table_row gmi Include Allow A Y B = record (include (A ∪ B)) { restart = B }
-- INCLUDE(A), BLOCK(B): INCLUDE(A), send Q(G,A*B)
table_row gmi Include Block A Y B = record (include A) { query = A ∩ B }
-- INCLUDE(A), TO_EX(B): EXCLUDE(A*B,B-A), (B-A)=0, delete (A-B), send Q(G,A*B), group timer=GMI
table_row gmi Include ToEx A Y B = record (exclude gmi (A ∩ B) (B ∖ A)) { query = A ∩ B }
-- INCLUDE(A), TO_IN(B): INCLUDE(A+B), (B)=GMI, send Q(G,A-B)
table_row gmi Include ToIn A Y B = record (include (A ∪ B)) { restart = B; query = A ∖ B }
-- EXCLUDE(X,Y), ALLOW(A): EXCLUDE(X+A,Y-A), (A)=GMI
table_row gmi (Exclude d) Allow X Y A = record (exclude d (X ∪ A) (Y ∖ A)) { restart = A }
-- EXCLUDE(X,Y), BLOCK(A): EXCLUDE(X+(A-Y),Y), (A-X-Y)=group timer, send Q(G,A-Y)
table_row gmi (Exclude d) Block X Y A =
    record (exclude d (X ∪ (A ∖ Y)) Y) { copy = A ∖ X ∖ Y; query = A ∖ Y }
-- EXCLUDE(X,Y), TO_EX(A): EXCLUDE(A-Y,Y*A), (A-X-Y)=group timer, delete (X-A), delete (Y-A),
-- send Q(G,A-Y), group timer=GMI
table_row gmi (Exclude d) ToEx X Y A =
    record (exclude gmi (A ∖ Y) (Y ∩ A)) { copy = A ∖ X ∖ Y; query = A ∖ Y }
-- EXCLUDE(X,Y), TO_IN(A): EXCLUDE(X+A,Y-A), (A)=GMI, send Q(G,X-A), send Q(G)
table_row gmi (Exclude d) ToIn X Y A =
    record (exclude d (X ∪ A) (Y ∖ A)) { restart = A; query = X ∖ A; query_group = true }

-- The timer of source s after a row of the tables. `before` is its timer before the record. A source that no action of
-- the row names keeps its deadline. A source that was running keeps its retransmissions to go, and every other has
-- none. (No row copies the group timer of INCLUDE, which has none, or keeps the deadline of a source that has none.)
abbrev pub timer_by : TableRow → ℕ → FilterMode → ℕ → Option SourceTimer → Option SourceTimer
timer_by row gmi mode s before =
    let group = unwrap_or (group_deadline mode) 0 in
    let kept = unwrap_or (deadline_of before) 0 in
    let deadline = if row.restart s then gmi else (if row.copy s then group else kept) in
    if row.x s then Some (Running deadline (retransmissions_of before)) else (if row.y s then Some Stopped else None)

-- The new group and its queries. Host-present timers stay.
pub record GroupChange : Type 0 where
  pub group : GroupState
  pub query : Set
  pub query_group : Bool

abbrev pub table_row_met : Timing → ℕ → GroupState → Kind → NamedSources → TableRow
table_row_met timing now g kind named =
    table_row (now + membership_interval timing) g.mode kind (running g) (stopped g) (set.contains named)

abbrev pub change_of : Timing → ℕ → GroupState → Kind → NamedSources → GroupChange
change_of timing now g kind named =
    let l = table_row_met timing now g kind named in
    let timer = λ (s : ℕ). timer_by l (now + membership_interval timing) g.mode s (timer_at g s) in
    record {
      group = record { mode = l.mode; sources = by_rule g.sources named timer; v1 = g.v1; v2 = g.v2 };
      query = l.query;
      query_group = l.query_group;
    }

-- the change is that of the tables for this record
abbrev pub Table : Timing → ℕ → GroupState → Kind → NamedSources → GroupChange → Type 0
Table timing now g kind named change = change ≡ change_of timing now g kind named
