use Rattle.mq_examples.proofs.Common.{refl}
use Rattle.mq_examples.proofs.Worked.{becomes}
use Rattle.mq_examples.proofs.links.records.records_ignored.Goals as goal

pub returns : goal.returns
returns c = record {
  unknown = becomes _ _ _ _ _ _ refl refl refl;
  all_systems = becomes _ _ _ _ _ _ refl refl refl;
  unicast = becomes _ _ _ _ _ _ refl refl refl;
  unknown_and_long = becomes _ _ _ _ _ _ refl refl refl;
  nothing = becomes _ _ _ _ _ _ refl refl refl;
}
