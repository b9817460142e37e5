use Rattle.mq_examples.proofs.Common.{arith, nat_tests, gets}
use Rattle.mq_examples.proofs.groups.forwarding.Goals as goal

pub returns : goal.returns
returns c = record {
  held_by_include = grind (arith, nat_tests, gets);
  not_held_by_include = grind (arith, nat_tests, gets);
  running_in_exclude = grind (arith, nat_tests, gets);
  stopped_in_exclude = grind (arith, nat_tests, gets);
  not_held_by_exclude = grind (arith, nat_tests, gets);
  of_no_group = grind (arith, nat_tests, gets);
}
