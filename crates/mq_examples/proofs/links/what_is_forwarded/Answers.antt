use Rattle.mq_examples.proofs.Common.{refl}
use Rattle.mq_examples.proofs.KnownMoments.{forwards_so}
use Rattle.mq_examples.proofs.links.what_is_forwarded.Goals as goal

pub returns : goal.returns
returns c = record {
  held = forwards_so _ _ _ _ refl;
  unnamed = forwards_so _ _ _ _ refl;
  running = forwards_so _ _ _ _ refl;
  stopped = forwards_so _ _ _ _ refl;
  unexcluded = forwards_so _ _ _ _ refl;
  unheld = forwards_so _ _ _ _ refl;
}
