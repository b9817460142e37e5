use Rattle.mq_examples.proofs.Common.{refl, fault_of, read_of}
use Rattle.mq_examples.proofs.Worked.{comes, ticks_to}
use Rattle.mq_examples.proofs.links.older_hosts.Goals as goal

pub returns : goal.returns
unfolding read_of fault_of
returns c = record {
  reported = comes _ _ _ _ _ _ _ _ refl refl refl refl refl;
  left = comes _ _ _ _ _ _ _ _ refl refl refl refl refl;
  asked_again = ticks_to _ _ _ _ _ refl refl refl refl;
  gone = ticks_to _ _ _ _ _ refl refl refl refl;
  reported_again = comes _ _ _ _ _ _ _ _ refl refl refl refl refl;
  suppressed = ticks_to _ _ _ _ _ refl refl refl refl;
  reported_v1 = comes _ _ _ _ _ _ _ _ refl refl refl refl refl;
  muted = comes _ _ _ _ _ _ _ _ refl refl refl refl refl;
}
