use Rattle.mq_examples.proofs.Common.{refl, fault_of, read_of}
use Rattle.mq_examples.proofs.Worked.{comes}
use Rattle.mq_examples.proofs.links.families.messages_dropped.Goals as goal

pub returns : goal.returns
unfolding read_of fault_of
returns c = record {
  own = comes _ _ _ _ _ _ _ _ refl refl refl refl refl;
  zero = comes _ _ _ _ _ _ _ _ refl refl refl refl refl;
  version_1 = comes _ _ _ _ _ _ _ _ refl refl refl refl refl;
  own_of_version_1 = comes _ _ _ _ _ _ _ _ refl refl refl refl refl;
  all_systems = comes _ _ _ _ _ _ _ _ refl refl refl refl refl;
  report_from_zero = comes _ _ _ _ _ _ _ _ refl refl refl refl refl;
}
