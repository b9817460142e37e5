-- The order of a check's events, and the times of general queries.
use Rattle.std.specs.Prelude.{◌≡◌, ◌⊎◌, ℕ, ◌+◌, ◌<◌, ◌≤◌, Bool, true, false, List, [], ◌∷◌, Option, None, Some, ⊤}
use Rattle.std.specs.List.{AllByRecursion}
use Rattle.mq_table.specs.declared.timing.Timing.{Timing}
use Rattle.mq_table.specs.Timing.{query_interval, startup_interval}
use Rattle.mq_check.specs.declared.phase.Phase.{Phase}
use Rattle.mq_check.specs.declared.phase.Phase.TheVariants.{NotQuerier}
use Rattle.mq_check.specs.declared.terms.Terms.{Terms}
use Rattle.mq_check.specs.Checking.{is_querier_in}
use Rattle.mq_check.specs.Entries.{terms_differ}
use Rattle.mq_check.specs.General.{phase_again, phase_at_start, wrong_interval, phase_behind, silence_up_to}
use Rattle.mq_laws.specs.Events.{CheckEvent, Comes, Wants, Sees, SeesGeneral, LosesRole, HasRoleAgain, SeesFault, Changes, Judges, Refuses}

-- moments come in order, up to the end
abbrev pub AreInOrder : (now : ℕ) → List CheckEvent → (end : ℕ) → Type 0
AreInOrder now [] end = now ≤ end
AreInOrder now (Comes moment ∷ es) end = (now ≤ moment) × AreInOrder moment es end
AreInOrder now (Wants is_again terms asked ∷ es) end = AreInOrder now es end
AreInOrder now (Sees terms standing asked ∷ es) end = AreInOrder now es end
AreInOrder now (SeesGeneral terms wanted ∷ es) end = AreInOrder now es end
AreInOrder now (LosesRole ∷ es) end = AreInOrder now es end
AreInOrder now (HasRoleAgain ∷ es) end = AreInOrder now es end
AreInOrder now (SeesFault number fault ∷ es) end = AreInOrder now es end
AreInOrder now (Changes terms asked ∷ es) end = AreInOrder now es end
AreInOrder now (Judges moment is_set ∷ es) end = AreInOrder now es end
AreInOrder now (Refuses groups ∷ es) end = AreInOrder now es end

-- An event of a tick. After the end of a capture there are only these, in order, up to the tolerance after the end.
abbrev pub IsOfTick : CheckEvent → Type 0
IsOfTick (Comes moment) = ⊤
IsOfTick (Wants is_again terms asked) = ⊤
IsOfTick (Sees terms standing asked) = ⊥
IsOfTick (SeesGeneral terms wanted) = ⊥
IsOfTick LosesRole = ⊥
IsOfTick HasRoleAgain = ⊤
IsOfTick (SeesFault number fault) = ⊥
IsOfTick (Changes terms asked) = ⊥
IsOfTick (Judges moment is_set) = ⊤
IsOfTick (Refuses groups) = ⊥

pub record AreAhead (within end : ℕ) (ahead : List CheckEvent) : Type 0 where
  pub order : AreInOrder end ahead (end + within)
  pub of_ticks : AllByRecursion IsOfTick ahead

-- The fields of a general query are compared with the expected ones while the router is querier. (A query that is seen
-- before the router is querier again is compared with the query that it then sends.)
abbrev pub IsAsWantedThen : (is_querier : Bool) → (terms wanted : Terms ℕ) → Type 0
IsAsWantedThen true terms wanted = terms_differ terms wanted ≡ []
IsAsWantedThen false terms wanted = ⊤

-- General queries come at expected intervals, each with the expected fields, until the role is lost or until the end.
-- `last` is the moment of the last one. No query's packet has a fault in its headers. The link refuses no record.
abbrev pub AreOnTime : (within : ℕ) → Timing → Phase → (last : Option ℕ) → (now : ℕ) → List CheckEvent → (end : ℕ) → Type 0
AreOnTime within timing phase last now [] end = silence_up_to within timing end phase ≡ None
AreOnTime within timing phase last now (Comes moment ∷ es) end = AreOnTime within timing phase last moment es end
AreOnTime within timing phase last now (Wants is_again terms asked ∷ es) end = AreOnTime within timing phase last now es end
AreOnTime within timing phase last now (Sees terms standing asked ∷ es) end = AreOnTime within timing phase last now es end
AreOnTime within timing phase last now (SeesGeneral terms wanted ∷ es) end =
    (wrong_interval within timing now phase ≡ None) × IsAsWantedThen (is_querier_in phase) terms wanted
    × AreOnTime within timing (phase_behind within timing now phase) (Some now) now es end
AreOnTime within timing phase last now (LosesRole ∷ es) end =
    (silence_up_to within timing now phase ≡ None) × AreOnTime within timing NotQuerier last now es end
AreOnTime within timing phase last now (HasRoleAgain ∷ es) end = AreOnTime within timing (phase_again within now last) last now es end
AreOnTime within timing phase last now (SeesFault number fault ∷ es) end = ⊥
AreOnTime within timing phase last now (Changes terms asked ∷ es) end = AreOnTime within timing phase last now es end
AreOnTime within timing phase last now (Judges moment is_set ∷ es) end = AreOnTime within timing phase last now es end
AreOnTime within timing phase last now (Refuses groups ∷ es) end = (groups ≡ []) × AreOnTime within timing phase last now es end

abbrev pub IsOnTime : (within : ℕ) → Timing → (end : ℕ) → List CheckEvent → Type 0
IsOnTime within timing end events = AreOnTime within timing (phase_at_start timing) None 0 events end

-- two times are equal within the tolerance
pub record IsClose (within a b : ℕ) : Type 0 where
  pub not_above : a ≤ b + within
  pub not_below : b ≤ a + within

-- An expected interval: the query interval, or that of a start. The second is expected at a start, while some of its
-- intervals may still come.
abbrev pub IsWantedInterval : (within : ℕ) → Timing → (startup interval : ℕ) → Type 0
IsWantedInterval within timing startup interval =
    IsClose within interval (query_interval timing) ⊎ (0 < startup) × IsClose within interval (startup_interval timing)
