use Rattle.mq_examples.proofs.Common.{refl, code_of}
use Rattle.mq_examples.proofs.links.families.queries_of_many_sources.Goals as goal

pub returns : goal.returns
unfolding code_of
returns c = record { full = refl; one = refl; full_of_mld = refl; one_of_mld = refl }
