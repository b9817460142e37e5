use Rattle.mq_examples.proofs.Common.{refl}
use Rattle.mq_examples.proofs.KnownMoments.{next_is}
use Rattle.mq_examples.proofs.links.the_next_moment.Goals as goal

pub returns : goal.returns
returns c = record {
  general = next_is _ _ refl;
  other_querier = next_is _ _ refl;
  group = next_is _ _ refl;
  source = next_is _ _ refl;
  version_one = next_is _ _ refl;
  version_two = next_is _ _ refl;
  group_query = next_is _ _ refl;
  sources_query = next_is _ _ refl;
  stopped = next_is _ _ refl;
  of_two = next_is _ _ refl;
}
