use Rattle.mq_examples.proofs.Common.{refl, fault_of, read_of}
use Rattle.mq_examples.proofs.Worked.{comes, ticks_to}
use Rattle.mq_examples.proofs.links.a_source_allowed_and_blocked.Goals as goal

pub returns : goal.returns
unfolding read_of fault_of
returns c = record {
  allowed = comes _ _ _ _ _ _ _ _ refl refl refl refl refl;
  blocked = comes _ _ _ _ _ _ _ _ refl refl refl refl refl;
  asked_again = ticks_to _ _ _ _ _ refl refl refl refl;
  gone = ticks_to _ _ _ _ _ refl refl refl refl;
  gone_late = ticks_to _ _ _ _ _ refl refl refl refl;
}
