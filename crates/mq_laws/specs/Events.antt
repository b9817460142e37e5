-- The events of a check, in order, and its findings.
use Rattle.std.specs.Prelude.{◌≡◌, ℕ, Bool, false, List, [], ◌∷◌, ◌++◌, fold, Option}
use Rattle.mq_table.specs.declared.timing.Timing.{Timing}
use Rattle.mq_check.specs.declared.asked.Asked.{Asked}
use Rattle.mq_check.specs.declared.check_terms.CheckFlags.{CheckFlags}
use Rattle.mq_check.specs.declared.finding.Finding.{Finding}
use Rattle.mq_check.specs.declared.headers.HeaderFault.{HeaderFault}
use Rattle.mq_check.specs.declared.standing.Standing.{Standing}
use Rattle.mq_check.specs.declared.terms.Terms.{Terms}
use Rattle.mq_check.specs.General.{silence_up_to}
use Rattle.mq_check.specs.Checking.{CheckingValue, checking_at_start, told, purged, subject_wanted, specific_seen, general_seen, with_fault, role_lost, role_returned, all_changed, told_at_end, with_all_excused, with_s_judged, groups_refused}

-- An event of a check. A moment comes, the link sends a query about these things, which is expected, or a query about
-- these was seen. `is_again` is set if a tick of the link sends it again. For a seen query `standing` has the standing of
-- each of them in the link. A general query was seen, with the expected one. The router loses the role of querier, or is
-- querier again. A query's packet has a fault in its headers. Hosts make changes that may make a querier ask for these
-- things, or none; `terms` has the terms of a query for each group, or for its sources. The link refused a record of a
-- message that names these groups. S is judged of the queries that no Report of
-- this moment can change, or of all. `is_set` has the timers that run up to a limit or longer.
pub data CheckEvent : Type 0 where
  Comes : (moment : ℕ) → CheckEvent
  Wants : (is_again : Bool) → Terms ℕ → List (Asked ℕ) → CheckEvent
  Sees : Terms ℕ → (standing : Asked ℕ → Standing) → List (Asked ℕ) → CheckEvent
  SeesGeneral : (terms wanted : Terms ℕ) → CheckEvent
  LosesRole : CheckEvent
  HasRoleAgain : CheckEvent
  SeesFault : (number : ℕ) → HeaderFault → CheckEvent
  Changes : (terms : ℕ → Terms ℕ) → List (Asked ℕ) → CheckEvent
  Judges : (moment : Option ℕ) → (is_set : (limit : ℕ) → Asked ℕ → Bool) → CheckEvent
  Refuses : (groups : List ℕ) → CheckEvent

-- the moment after an event
abbrev pub moment_behind : (now : ℕ) → CheckEvent → ℕ
moment_behind now (Comes moment) = moment
moment_behind now (Wants is_again terms asked) = now
moment_behind now (Sees terms standing asked) = now
moment_behind now (SeesGeneral terms wanted) = now
moment_behind now LosesRole = now
moment_behind now HasRoleAgain = now
moment_behind now (SeesFault number fault) = now
moment_behind now (Changes terms asked) = now
moment_behind now (Judges moment is_set) = now
moment_behind now (Refuses groups) = now

-- a check after one event, and the findings by it
abbrev pub check_by : (within : ℕ) → Timing → (now : ℕ) → CheckEvent → CheckingValue → CheckingValue
check_by within timing now (Comes moment) c = purged moment c
check_by within timing now (Wants is_again terms asked) c = fold (subject_wanted now is_again terms) c asked
check_by within timing now (Sees terms standing asked) c = specific_seen now terms standing asked c
check_by within timing now (SeesGeneral terms wanted) c = general_seen within timing now terms wanted c
check_by within timing now LosesRole c = role_lost within timing now c
check_by within timing now HasRoleAgain c = role_returned within now c
check_by within timing now (SeesFault number fault) c = with_fault now number c fault
check_by within timing now (Changes terms asked) c = all_changed now terms asked c
check_by within timing now (Judges moment is_set) c = with_s_judged within moment is_set c
check_by within timing now (Refuses groups) c = groups_refused groups c

abbrev pub told_by : (within : ℕ) → CheckEvent → CheckingValue → List (Finding ℕ)
told_by within (Comes moment) c = told within moment c
told_by within (Wants is_again terms asked) c = []
told_by within (Sees terms standing asked) c = []
told_by within (SeesGeneral terms wanted) c = []
told_by within LosesRole c = []
told_by within HasRoleAgain c = []
told_by within (SeesFault number fault) c = []
told_by within (Changes terms asked) c = []
told_by within (Judges moment is_set) c = []
told_by within (Refuses groups) c = []

-- the moment, the check and the findings after several events
abbrev pub moment_behind_all : (now : ℕ) → List CheckEvent → ℕ
moment_behind_all now [] = now
moment_behind_all now (e ∷ es) = moment_behind_all (moment_behind now e) es

abbrev pub check_by_all : (within : ℕ) → Timing → (now : ℕ) → List CheckEvent → CheckingValue → CheckingValue
check_by_all within timing now [] c = c
check_by_all within timing now (e ∷ es) c = check_by_all within timing (moment_behind now e) es (check_by within timing now e c)

abbrev pub told_by_all : (within : ℕ) → Timing → (now : ℕ) → List CheckEvent → CheckingValue → List (Finding ℕ)
told_by_all within timing now [] c = []
told_by_all within timing now (e ∷ es) c = told_by within e c ++ told_by_all within timing (moment_behind now e) es (check_by within timing now e c)

-- The check of a capture with these events up to its end, at a moment, and all its findings. `flags` say what it
-- accepts.
abbrev pub checked_by : (within : ℕ) → Timing → (flags : CheckFlags) → List CheckEvent → CheckingValue
checked_by within timing flags events = check_by_all within timing 0 events (checking_at_start within timing flags)

-- The check at the end of a capture: expired entries are removed, and a pending query needn't be sent if its partner may
-- still come. Then the check after the events that are due just after the end.
abbrev pub at_the_end : (within end : ℕ) → CheckingValue → CheckingValue
at_the_end within end c = with_all_excused within end (purged end c)

abbrev pub checked_ahead : (within : ℕ) → Timing → (end : ℕ) → (ahead : List CheckEvent) → CheckingValue → CheckingValue
checked_ahead within timing end ahead c = check_by_all within timing end ahead (at_the_end within end c)

-- the findings from the end on
abbrev pub found_from : (within : ℕ) → Timing → (end : ℕ) → (ahead : List CheckEvent) → CheckingValue → List (Finding ℕ)
found_from within timing end ahead c =
    told within end c ++ told_by_all within timing end ahead (at_the_end within end c)
    ++ told_at_end within timing end (silence_up_to within timing end c.phase) (checked_ahead within timing end ahead c)

abbrev pub found_by : (within : ℕ) → Timing → (flags : CheckFlags) → (end : ℕ) → (events ahead : List CheckEvent) → List (Finding ℕ)
found_by within timing flags end events ahead =
    told_by_all within timing 0 events (checking_at_start within timing flags)
    ++ found_from within timing end ahead (checked_by within timing flags events)

-- there was room for all pending entries
abbrev pub HasRoom : (within : ℕ) → Timing → (flags : CheckFlags) → (end : ℕ) → (events ahead : List CheckEvent) → Type 0
HasRoom within timing flags end events ahead =
    (checked_ahead within timing end ahead (checked_by within timing flags events)).waiting.is_full ≡ false
