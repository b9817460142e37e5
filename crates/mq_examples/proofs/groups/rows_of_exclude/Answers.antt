use Rattle.mq_examples.proofs.Common.{arith, nat_tests, gets, members, get-by_rule}
use Rattle.mq_examples.proofs.Leaving.{leaves}
use Rattle.mq_examples.proofs.groups.rows_of_exclude.Goals as goal

pub returns : goal.returns
returns c = record {
  is_in = leaves (λ s. grind (arith, nat_tests, get-by_rule, gets, members)) (λ s. grind (arith, nat_tests, gets, members));
  is_ex = leaves (λ s. grind (arith, nat_tests, get-by_rule, gets, members)) (λ s. grind (arith, nat_tests, gets, members));
  allow = leaves (λ s. grind (arith, nat_tests, get-by_rule, gets, members)) (λ s. grind (arith, nat_tests, gets, members));
  block = leaves (λ s. grind (arith, nat_tests, get-by_rule, gets, members)) (λ s. grind (arith, nat_tests, gets, members));
  to_ex = leaves (λ s. grind (arith, nat_tests, get-by_rule, gets, members)) (λ s. grind (arith, nat_tests, gets, members));
  to_in = leaves (λ s. grind (arith, nat_tests, get-by_rule, gets, members)) (λ s. grind (arith, nat_tests, gets, members));
}
