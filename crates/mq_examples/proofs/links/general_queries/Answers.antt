use Rattle.mq_examples.proofs.Common.{refl, rules}
use Rattle.mq_examples.proofs.Worked.{ticks_to}
use Rattle.mq_examples.proofs.links.general_queries.Goals as goal

pub returns : goal.returns
returns c = record {
  begins = search rules;
  at_the_start = ticks_to _ _ _ _ _ refl refl refl refl;
  between = ticks_to _ _ _ _ _ refl refl refl refl;
  second = ticks_to _ _ _ _ _ refl refl refl refl;
  third = ticks_to _ _ _ _ _ refl refl refl refl;
  missed = ticks_to _ _ _ _ _ refl refl refl refl;
  back = ticks_to _ _ _ _ _ refl refl refl refl;
}
