use Rattle.mq_examples.proofs.Common.{arith, nat_tests, nat_cmp_total, members, same_set, gets, nat_cmp-IsAntisymmetric, get-by_rule}
use Rattle.mq_examples.proofs.Leaving.{leaves}
use Rattle.mq_examples.proofs.groups.first_records.Goals as goal

pub returns : goal.returns
returns c = record {
  allowed = leaves (λ s. grind (arith, nat_tests, get-by_rule, gets, members)) (λ s. grind (arith, nat_tests, gets, members));
  excluded = leaves (λ s. grind (arith, nat_tests, get-by_rule, gets, members)) (λ s. grind (arith, nat_tests, gets, members));
  allowed_then = leaves (λ s. grind (arith, nat_tests, get-by_rule, gets, members)) (λ s. grind (arith, nat_tests, gets, members));
  nothing_blocked = leaves (λ s. grind (arith, nat_tests, get-by_rule, gets, members)) (λ s. grind (arith, nat_tests, gets, members));
  nothing_included = leaves (λ s. grind (arith, nat_tests, get-by_rule, gets, members)) (λ s. grind (arith, nat_tests, gets, members));
  repeated = same_set nat_cmp_total nat_cmp-IsAntisymmetric _ _ (λ s. grind (arith, nat_tests, members));
}
