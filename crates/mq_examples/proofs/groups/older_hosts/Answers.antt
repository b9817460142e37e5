use Rattle.mq_examples.proofs.Common.{arith, rules, nat_tests, gets, members, get-by_rule, same_group}
use Rattle.mq_examples.proofs.Leaving.{leaves}
use Rattle.mq_examples.proofs.groups.older_hosts.Goals as goal

pub returns : goal.returns
returns c = record {
  report_v2 = same_group _ _ _ _ _ (λ s. grind (arith, nat_tests, get-by_rule, gets, members));
  report_v1 = same_group _ _ _ _ _ (λ s. grind (arith, nat_tests, get-by_rule, gets, members));
  leave_after_v2 = leaves (λ s. grind (arith, nat_tests, get-by_rule, gets, members)) (λ s. grind (arith, nat_tests, gets, members));
  leave_after_v1 = search rules;
  done_after_v1 = leaves (λ s. grind (arith, nat_tests, get-by_rule, gets, members)) (λ s. grind (arith, nat_tests, gets, members));
  block_under_v2 = search rules;
  block_under_v1 = search rules;
  to_ex_under_v2 = leaves (λ s. grind (arith, nat_tests, get-by_rule, gets, members)) (λ s. grind (arith, nat_tests, gets, members));
  allow_under_v1 = leaves (λ s. grind (arith, nat_tests, get-by_rule, gets, members)) (λ s. grind (arith, nat_tests, gets, members));
  block_later = leaves (λ s. grind (arith, nat_tests, get-by_rule, gets, members)) (λ s. grind (arith, nat_tests, gets, members));
}
