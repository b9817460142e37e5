use Rattle.mq_examples.proofs.Common.{refl, fault_of, read_of}
use Rattle.mq_examples.proofs.Worked.{comes}
use Rattle.mq_examples.proofs.links.the_source_specific_range.Goals as goal

pub returns : goal.returns
unfolding read_of fault_of
returns c = record {
  reported = comes _ _ _ _ _ _ _ _ refl refl refl refl refl;
  to_ex = comes _ _ _ _ _ _ _ _ refl refl refl refl refl;
  left = comes _ _ _ _ _ _ _ _ refl refl refl refl refl;
  left_without_the_flag = comes _ _ _ _ _ _ _ _ refl refl refl refl refl;
  another_group = comes _ _ _ _ _ _ _ _ refl refl refl refl refl;
  another_group_left = comes _ _ _ _ _ _ _ _ refl refl refl refl refl;
}
