use Rattle.mq_sets.proofs.Bitlen.{bitlen_is_least}
use Rattle.mq_sets.proofs.searching.binary_digits_bound_a_number.Goals as goal

pub returns : goal.returns
returns c = bitlen_is_least
