-- A held group after a statement, which is held: its sources stay, with lowered timers.
use Rattle.mq_link.proofs.Common.{◌≡◌, ℕ, Bool, true, false, cond, Option, None, Some, IfSome, option_map, Kind, ToIn, Timing, GroupState, is_vacant, IsHeld}
use Rattle.mq_link.proofs.Common.{hosts_of, translated, older_report, NamedSources, GroupChange, change_of, IsWellFormed-change_of, IsWellFormed-older_report}
use Rattle.mq_link.proofs.Common.{ScheduleState, ScheduledGroup, settled, acted, after_change, after_round, held_acted, held_after_round, Statement, RecordOf}
use Rattle.mq_link.proofs.Common.{OlderJoin, OlderLeave, asking_nothing, change_stated}
use Rattle.std.specs.FinSet as set
use Rattle.mq_link.proofs.Quiet.{not_vacant}

-- whatever kind of record a statement acts as
held_by_table : (timing : Timing) (now : ℕ) (g : GroupState) → IsHeld g → (acts : Option (Kind × NamedSources)) →
    IfSome (option_map (λ (r : Kind × NamedSources). change_of timing now g r.0 r.1) acts) (λ c. IsHeld c.group)
held_by_table timing now g held None = tt
held_by_table timing now g held (Some act) = IsWellFormed-change_of timing now g act.0 act.1 held

pub held_stated : (mutes muted : Bool) (timing : Timing) (now : ℕ) (st : Statement) (g : GroupState) → IsHeld g →
    IfSome (change_stated mutes muted timing now st g) (λ c. IsHeld c.group)
held_stated mutes muted timing now (RecordOf kind named) g held = held_by_table timing now g held (translated mutes muted (hosts_of g now) kind named)
held_stated mutes muted timing now (OlderJoin version) g held = by_test muted
  where
    by_test : (b : Bool) → IfSome (cond b None (Some (asking_nothing (older_report version timing now g)))) (λ c. IsHeld c.group)
    by_test true = tt
    by_test false = IsWellFormed-older_report version timing now g
held_stated mutes muted timing now OlderLeave g held = held_by_table timing now g held (translated mutes muted (hosts_of g now) ToIn set.empty)

-- nor do its queries end it
pub stays_held : (q : Bool) (timing : Timing) (now : ℕ) (change : GroupChange) (schedule : ScheduleState) → IsHeld change.group →
    is_vacant (after_round timing now (after_change q timing now change schedule)).group ≡ false
stays_held q timing now change schedule held =
    let e : ScheduledGroup = record { group = change.group; schedule = settled change.group schedule } in
    not_vacant _ (held_after_round timing now (acted q timing now change.query_group change.query e)
    (held_acted q timing now change.query_group change.query e held))
