use Rattle.mq_examples.proofs.Common.{refl}
use Rattle.mq_examples.proofs.Worked.{becomes}
use Rattle.mq_examples.proofs.links.records.records_at_each_limit.Goals as goal

pub returns : goal.returns
returns c = record {
  groups = becomes _ _ _ _ _ _ refl refl refl;
  groups_below = becomes _ _ _ _ _ _ refl refl refl;
  group_sources = becomes _ _ _ _ _ _ refl refl refl;
  group_sources_below = becomes _ _ _ _ _ _ refl refl refl;
  sources = becomes _ _ _ _ _ _ refl refl refl;
  sources_below = becomes _ _ _ _ _ _ refl refl refl;
  scheduled = becomes _ _ _ _ _ _ refl refl refl;
  scheduled_below = becomes _ _ _ _ _ _ refl refl refl;
  asked_once = becomes _ _ _ _ _ _ refl refl refl;
}
