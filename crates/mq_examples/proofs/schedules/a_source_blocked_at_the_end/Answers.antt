use Rattle.mq_examples.proofs.Common.{false, [], ◌∷◌, refl, arith, nat_tests, gets, members, Block, Exclude, default_timing, until, change_of, group_in, naming}
use Rattle.mq_examples.proofs.Common.{get-by_rule, get-kept, held_or_vacant-none, same_group, no_schedule}
use Rattle.mq_examples.proofs.Explicit.{change_sends}
use Rattle.mq_examples.proofs.schedules.a_source_blocked_at_the_end.Goals as goal

pub returns-clause-nothing_asked : goal.returns-clause-nothing_asked
returns-clause-nothing_asked c =
    change_sends 260000 (change_of default_timing 260000 (group_in (Exclude 261000) []) Block (naming (1 ∷ []))) no_schedule (Exclude 261000)
    ((1, until 261000) ∷ []) false (1 ∷ [])
    (same_group _ _ _ _ _ (λ s. grind (arith, nat_tests, get-by_rule, gets, members))) (λ s. grind (arith, nat_tests, gets, members))
    refl tt tt tt refl refl

pub returns-clause-gone : goal.returns-clause-gone
returns-clause-gone c = held_or_vacant-none _ _ _ (λ s. grind (arith, nat_tests, get-kept, gets))
