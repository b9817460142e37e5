use Rattle.mq_examples.proofs.Common.{None, arith, nat_tests, gets, Running, get-kept, same_group, held_or_vacant-some, held_or_vacant-none}
use Rattle.mq_examples.proofs.groups.ends_of_timers.Goals as goal

pub returns : goal.returns
returns c = record {
  nothing_before = same_group _ _ _ _ _ (λ s. grind (arith, nat_tests, get-kept, gets));
  group_at_its_end = held_or_vacant-some _ _ None None 1 (Running 300000 0) (simp gets) (λ s. grind (arith, nat_tests, get-kept, gets));
  both_one_after_the_other = held_or_vacant-none _ _ _ (λ s. grind (arith, nat_tests, get-kept, gets));
  both_at_once = held_or_vacant-none _ _ _ (λ s. grind (arith, nat_tests, get-kept, gets));
  source_of_exclude = same_group _ _ _ _ _ (λ s. grind (arith, nat_tests, get-kept, gets));
  source_of_include = held_or_vacant-some _ _ None None 2 (Running 5001 0) (simp gets) (λ s. grind (arith, nat_tests, get-kept, gets));
  hosts_gone = same_group _ _ _ _ _ (λ s. grind (arith, nat_tests, get-kept, gets));
  gone_with_the_group = held_or_vacant-none _ _ _ (λ s. grind (arith, nat_tests, get-kept, gets));
}
