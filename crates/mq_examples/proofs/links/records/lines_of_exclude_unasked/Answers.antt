use Rattle.mq_examples.proofs.Common.{refl}
use Rattle.mq_examples.proofs.Worked.{becomes}
use Rattle.mq_examples.proofs.links.records.lines_of_exclude_unasked.Goals as goal

pub returns : goal.returns
returns c = record {
  is_in = becomes _ _ _ _ _ _ refl refl refl;
  is_ex = becomes _ _ _ _ _ _ refl refl refl;
  to_in = becomes _ _ _ _ _ _ refl refl refl;
  to_ex = becomes _ _ _ _ _ _ refl refl refl;
  allow = becomes _ _ _ _ _ _ refl refl refl;
  block = becomes _ _ _ _ _ _ refl refl refl;
}
