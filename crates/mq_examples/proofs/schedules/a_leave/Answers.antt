use Rattle.mq_examples.proofs.Common.{true, [], refl, arith, nat_tests, gets, members, ToIn, Exclude, default_timing, change_of, heard_v2, get-by_rule}
use Rattle.mq_examples.proofs.Common.{get-kept, held_or_vacant-none, same_group, no_schedule}
use Rattle.mq_examples.proofs.Explicit.{change_sends}
use Rattle.std.specs.FinSet as set
use Rattle.mq_examples.proofs.schedules.a_leave.Goals as goal

pub returns-clause-first_sending : goal.returns-clause-first_sending
returns-clause-first_sending c =
    change_sends 2000 (change_of default_timing 2000 heard_v2 ToIn set.empty) no_schedule (Exclude 261000) [] true []
    (same_group _ _ _ _ _ (λ s. grind (arith, nat_tests, get-by_rule, gets, members))) (λ s. grind (arith, nat_tests, gets, members))
    refl tt tt tt refl refl

pub returns-clause-gone : goal.returns-clause-gone
returns-clause-gone c = held_or_vacant-none _ _ _ (λ s. grind (arith, nat_tests, get-kept, gets))

pub returns-clause-reported_again : goal.returns-clause-reported_again
returns-clause-reported_again c = same_group _ _ _ _ _ (λ s. grind (arith, nat_tests, get-by_rule, gets, members))
