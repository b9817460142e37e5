use Rattle.mq_examples.proofs.Common.{refl, fault_of, read_of}
use Rattle.mq_examples.proofs.Worked.{comes, ticks_to}
use Rattle.mq_examples.proofs.links.another_querier.Goals as goal

pub returns : goal.returns
unfolding read_of fault_of
returns c = record {
  heard = comes _ _ _ _ _ _ _ _ refl refl refl refl refl;
  silent = ticks_to _ _ _ _ _ refl refl refl refl;
  returns = ticks_to _ _ _ _ _ refl refl refl refl;
  goes_on = ticks_to _ _ _ _ _ refl refl refl refl;
  dropped = comes _ _ _ _ _ _ _ _ refl refl refl refl refl;
}
