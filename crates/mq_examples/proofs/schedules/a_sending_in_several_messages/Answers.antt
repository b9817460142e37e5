use Rattle.mq_examples.proofs.Common.{[], ◌∷◌, None, Some, refl, ◌∙◌, Include, Running, default_timing}
use Rattle.mq_examples.proofs.Explicit.{sent-known}
use Rattle.mq_examples.proofs.schedules.a_sending_in_several_messages.Goals as goal

pub returns-clause-first : goal.returns-clause-first
returns-clause-first c =
    sent-known 2 default_timing 2000 Include
    ((1, Running 4000 2) ∷ (2, Running 4000 2) ∷ (3, Running 4000 2) ∷ (4, Running 4000 2) ∷ (5, Running 4000 2) ∷ []) None None
    (record { group_query = None; sources_due = Some 2000 }) tt ∙ refl

pub returns-clause-second : goal.returns-clause-second
returns-clause-second c =
    sent-known 2 default_timing 3000 Include
    ((1, Running 262500 1) ∷ (2, Running 4000 1) ∷ (3, Running 4000 1) ∷ (4, Running 262500 1) ∷ (5, Running 4000 1) ∷ []) None None
    (record { group_query = None; sources_due = Some 3000 }) tt ∙ refl
