use Rattle.mq_examples.proofs.Common.{refl, fault_of, read_of}
use Rattle.mq_examples.proofs.Worked.{counts_to}
use Rattle.mq_examples.proofs.links.what_is_counted.Goals as goal

pub returns : goal.returns
unfolding read_of fault_of
returns c = record {
  repeated = counts_to _ _ _ _ _ _ _ _ _ refl;
  cut = counts_to _ _ _ _ _ _ _ _ _ refl;
  own = counts_to _ _ _ _ _ _ _ _ _ refl;
  older = counts_to _ _ _ _ _ _ _ _ _ refl;
  reported = counts_to _ _ _ _ _ _ _ _ _ refl;
  left = counts_to _ _ _ _ _ _ _ _ _ refl;
  full = counts_to _ _ _ _ _ _ _ _ _ refl;
}
