-- The state of one group in a router (RFC 3376 section 6.2, RFC 3810 section 7.2).
use Rattle.std.specs.Prelude.{◌≡◌, ℕ, Bool, true, false, not, ◌&&◌, ◌==◌, ◌⊎◌, nat_lt, Option, None, Some, IsTrue}
use Rattle.std.specs.Ordering.{nat_cmp}
use Rattle.std.specs.FinMap as map
use Rattle.std.specs.FinMap.{FinMap}
use Rattle.mq_table.specs.Sets.{Set}
-- The timer of a source, and the filter mode. A timer is stopped, so at zero, which the tables write as a source of Y.
-- Or it runs until a deadline, which they write as a source of X. A running timer has a number of
-- group-and-source-specific queries that are still to go (RFC 3376 sections 6.2.3 and 6.6.3.2, RFC 3810 sections 7.2.3
-- and 7.6.3.2). EXCLUDE has the deadline of the group timer, which RFC 3810 calls the filter timer (RFC 3376 sections
-- 6.2.1 and 6.2.2, RFC 3810 sections 7.2.1 and 7.2.2).
pub use Rattle.mq_table.specs.declared.timers.SourceTimer.{SourceTimer}
pub use Rattle.mq_table.specs.declared.timers.SourceTimer.TheVariants.{Stopped, Running}
pub use Rattle.mq_table.specs.declared.timers.FilterMode.{FilterMode}
pub use Rattle.mq_table.specs.declared.timers.FilterMode.TheVariants.{Include, Exclude}

-- A group: its mode, the timers of its sources, and the moments until which older hosts are assumed to be there. They
-- are hosts of version 1 or 2 (RFC 3376 section 7.3.2). MLD has version 1 alone (RFC 3810 section 8.3.2).
pub record GroupState : Type 0 where
  pub mode : FilterMode
  pub sources : FinMap nat_cmp SourceTimer
  pub v1 : Option ℕ
  pub v2 : Option ℕ

abbrev pub is_include : FilterMode → Bool
is_include Include = true
is_include (Exclude d) = false

-- the deadline of the group timer, in EXCLUDE
abbrev pub group_deadline : FilterMode → Option ℕ
group_deadline Include = None
group_deadline (Exclude d) = Some d

abbrev pub is_running : Option SourceTimer → Bool
is_running None = false
is_running (Some Stopped) = false
is_running (Some (Running d n)) = true

abbrev pub is_stopped : Option SourceTimer → Bool
is_stopped None = false
is_stopped (Some Stopped) = true
is_stopped (Some (Running d n)) = false

-- the deadline of a timer, if it runs
abbrev pub deadline_of : Option SourceTimer → Option ℕ
deadline_of None = None
deadline_of (Some Stopped) = None
deadline_of (Some (Running d n)) = Some d

-- there is a deadline after this moment, so a timer runs on then
abbrev pub is_ahead : ℕ → Option ℕ → Bool
is_ahead moment None = false
is_ahead moment (Some deadline) = nat_lt moment deadline

-- The number of retransmissions of a source. RFC 3376 section 6.6.3.2 sets it to the last member query count before the
-- first query goes, so that query counts too. RFC 3810 section 7.6.3.2 has the Source Retransmission Counter.
abbrev pub retransmissions_of : Option SourceTimer → ℕ
retransmissions_of None = 0
retransmissions_of (Some Stopped) = 0
retransmissions_of (Some (Running d n)) = n

-- the timer of source s, if the group holds it
abbrev pub timer_at : GroupState → ℕ → Option SourceTimer
timer_at g s = map.get g.sources s

-- X, the sources with a running timer
abbrev pub running : GroupState → Set
running g s = is_running (timer_at g s)

-- Y, the sources with a stopped timer
abbrev pub stopped : GroupState → Set
stopped g s = is_stopped (timer_at g s)

-- The group wants source s. INCLUDE(A) wants the sources of A, and EXCLUDE(X,Y) all but those of Y (RFC 3376 section
-- 6.3, RFC 3810 section 7.3).
abbrev pub wants : FilterMode → Option SourceTimer → Bool
wants Include timer = is_running timer
wants (Exclude d) timer = not (is_stopped timer)

abbrev pub forwards_in : GroupState → Set
forwards_in g s = wants g.mode (timer_at g s)

-- INCLUDE({}), the state of every group that isn't held
abbrev pub vacant : GroupState
vacant = record { mode = Include; sources = map.empty; v1 = None; v2 = None }

abbrev pub is_vacant : GroupState → Bool
is_vacant g = is_include g.mode && map.len g.sources == 0

-- A group that is held: INCLUDE has a source, and none that is stopped.
pub record IsWellFormed (g : GroupState) : Type 0 where
  pub has_source : g.mode ≡ Include → (s : ℕ) × IsTrue (running g s)
  pub none_stopped : g.mode ≡ Include → (s : ℕ) → stopped g s ≡ false

-- The state of any group, held or not.
abbrev pub IsAnyGroup : GroupState → Type 0
IsAnyGroup g = (g ≡ vacant) ⊎ IsWellFormed g
