use Rattle.mq_examples.proofs.Common.{refl, fault_of, read_of}
use Rattle.mq_examples.proofs.Worked.{comes}
use Rattle.mq_examples.proofs.links.families.a_report_of_mld.Goals as goal

pub returns : goal.returns
unfolding read_of fault_of
returns c = record {
  allowed = comes _ _ _ _ _ _ _ _ refl refl refl refl refl;
  hop_limit = comes _ _ _ _ _ _ _ _ refl refl refl refl refl;
  no_alert = comes _ _ _ _ _ _ _ _ refl refl refl refl refl;
  unspecified = comes _ _ _ _ _ _ _ _ refl refl refl refl refl;
  checksum = comes _ _ _ _ _ _ _ _ refl refl refl refl refl;
  lowest = comes _ _ _ _ _ _ _ _ refl refl refl refl refl;
  lower = comes _ _ _ _ _ _ _ _ refl refl refl refl refl;
}
