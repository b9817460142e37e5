-- Expiry of timers in a group. RFC 3376 sections 6.2.2, 6.2.3, 6.3, 6.5 and 7.3.2; RFC 3810 sections 7.2.2, 7.2.3, 7.3,
-- 7.5 and 8.3.2. A timer has expired if its deadline is at or before now.
use Rattle.std.specs.Prelude.{ℕ, ◌<◌, IfSome, if◌then◌else◌, nat_lt, Option, None, Some}
use Rattle.std.specs.Option.{option_and_then}
use Rattle.mq_table.specs.Maps.{kept}
use Rattle.mq_table.specs.Group.{GroupState, FilterMode, Include, Exclude, SourceTimer, Stopped, Running, vacant, is_vacant, group_deadline, deadline_of, timer_at}

-- the deadline, if it is still ahead
abbrev pub ahead : ℕ → ℕ → Option ℕ
ahead now deadline = if nat_lt now deadline then Some deadline else None

-- the mode after the end of the group timer, which makes the group INCLUDE
abbrev pub mode_expired : ℕ → FilterMode → FilterMode
mode_expired now Include = Include
mode_expired now (Exclude d) = if nat_lt now d then Exclude d else Include

-- a source whose timer has ended: none in INCLUDE, and a source of Y in EXCLUDE
abbrev pub at_zero : FilterMode → Option SourceTimer
at_zero Include = None
at_zero (Exclude d) = Some Stopped

-- the source's timer at `now`; if it runs on, it stays as it is
abbrev pub source_expired : FilterMode → ℕ → SourceTimer → Option SourceTimer
source_expired mode now Stopped = at_zero mode
source_expired mode now (Running d n) = if nat_lt now d then Some (Running d n) else at_zero mode

-- the group, or the vacant group for INCLUDE({}), which isn't held; its host-present timers go with it
abbrev pub held_or_vacant : GroupState → GroupState
held_or_vacant g = if is_vacant g then vacant else g

-- The group after the expiry of its timers. Sources come before the group, so a source that expires together with the
-- group timer is removed. Its rule is that of the mode after the end of the group timer.
abbrev pub expired : ℕ → GroupState → GroupState
expired now g =
    let mode = mode_expired now g.mode in
    held_or_vacant (record {
      mode = mode;
      sources = kept (λ s. source_expired mode now) g.sources;
      v1 = option_and_then (ahead now) g.v1;
      v2 = option_and_then (ahead now) g.v2;
    })

-- every timer of the group ends after `now`
pub record AllAhead (now : ℕ) (g : GroupState) : Type 0 where
  pub group : IfSome (group_deadline g.mode) (λ deadline. now < deadline)
  pub sources : (s : ℕ) → IfSome (deadline_of (timer_at g s)) (λ deadline. now < deadline)
  pub v1 : IfSome g.v1 (λ deadline. now < deadline)
  pub v2 : IfSome g.v2 (λ deadline. now < deadline)
