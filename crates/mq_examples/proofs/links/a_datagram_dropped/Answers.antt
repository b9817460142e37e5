use Rattle.mq_examples.proofs.Common.{refl, fault_of, read_of}
use Rattle.mq_examples.proofs.Worked.{comes}
use Rattle.mq_examples.proofs.links.a_datagram_dropped.Goals as goal

pub returns : goal.returns
unfolding read_of fault_of
returns c = record { cut = comes _ _ _ _ _ _ _ _ refl refl refl refl refl; length = comes _ _ _ _ _ _ _ _ refl refl refl refl refl }
