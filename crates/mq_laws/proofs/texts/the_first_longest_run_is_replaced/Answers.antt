use Rattle.mq_laws.proofs.Common.{is_first_longest}
use Rattle.mq_laws.proofs.texts.the_first_longest_run_is_replaced.Goals as goal

pub returns : goal.returns
returns c = is_first_longest
