use Rattle.mq_examples.proofs.Common.{refl, code_of}
use Rattle.mq_examples.proofs.links.families.queries_as_sent.Goals as goal

pub returns : goal.returns
unfolding code_of
returns c = record {
  general = refl;
  general_of_mld = refl;
  source = refl;
  group = refl;
  suppressing = refl;
  two_sources = refl;
  suppressing_a_source = refl;
  the_other_source = refl;
}
