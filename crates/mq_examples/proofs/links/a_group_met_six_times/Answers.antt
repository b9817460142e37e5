use Rattle.mq_examples.proofs.Common.{refl, fault_of, read_of}
use Rattle.mq_examples.proofs.Worked.{comes}
use Rattle.mq_examples.proofs.links.a_group_met_six_times.Goals as goal

pub returns : goal.returns
unfolding read_of fault_of
returns c = comes _ _ _ _ _ _ _ _ refl refl refl refl refl
