use Rattle.mq_examples.proofs.Common.{[], ◌∷◌, None, Some, refl, Include, Running, refreshed}
use Rattle.mq_examples.proofs.Explicit.{known_sends}
use Rattle.mq_examples.proofs.schedules.a_round_in_time_and_late.Goals as goal

pub returns-clause-late : goal.returns-clause-late
returns-clause-late c = known_sends 3900 Include ((1, Running 262500 1) ∷ (2, Running 4000 1) ∷ []) None None refreshed.schedule tt tt refl refl

pub returns-clause-late_with_more_to_go : goal.returns-clause-late_with_more_to_go
returns-clause-late_with_more_to_go c = known_sends 5500 Include ((1, Running 262500 2) ∷ []) None None
    (record { group_query = None; sources_due = Some 3000 }) tt tt refl refl
