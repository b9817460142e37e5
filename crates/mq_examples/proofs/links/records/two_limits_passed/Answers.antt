use Rattle.mq_examples.proofs.Common.{refl, fault_of, read_of}
use Rattle.mq_examples.proofs.Worked.{becomes, comes}
use Rattle.mq_examples.proofs.links.records.two_limits_passed.Goals as goal

pub returns : goal.returns
unfolding read_of fault_of
returns c = record {
  groups_and_sources = becomes _ _ _ _ _ _ refl refl refl;
  group_sources_and_sources = becomes _ _ _ _ _ _ refl refl refl;
  sources_and_scheduled = becomes _ _ _ _ _ _ refl refl refl;
  older_report = comes _ _ _ _ _ _ _ _ refl refl refl refl refl;
  group_sources_and_scheduled = becomes _ _ _ _ _ _ refl refl refl;
}
