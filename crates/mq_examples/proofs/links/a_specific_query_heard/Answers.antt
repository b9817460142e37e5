use Rattle.mq_examples.proofs.Common.{refl, fault_of, read_of}
use Rattle.mq_examples.proofs.Worked.{comes, ticks_to}
use Rattle.mq_examples.proofs.links.a_specific_query_heard.Goals as goal

pub returns : goal.returns
unfolding read_of fault_of
returns c = record {
  lower = comes _ _ _ _ _ _ _ _ refl refl refl refl refl;
  gone = ticks_to _ _ _ _ _ refl refl refl refl;
  higher = comes _ _ _ _ _ _ _ _ refl refl refl refl refl;
  announcing = comes _ _ _ _ _ _ _ _ refl refl refl refl refl;
}
