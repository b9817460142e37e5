use Rattle.mq_count.proofs.Spent.{spending_is_a_number}
use Rattle.mq_count.proofs.metering.counts_are_numbers.Goals as goal

pub returns : goal.returns
returns c = spending_is_a_number
