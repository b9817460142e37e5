use Rattle.mq_convert.proofs.Common.{◌≡◌, length, interface_in, options_of, with_options}
use Rattle.mq_convert.proofs.interfaces.interface_in.Given as goal

abbrev pub invariant-loop-code : goal.invariant-loop-code
invariant-loop-code l = interface_in l.order l.body ≡ with_options l.order l.interface (options_of l.order l.rest)

abbrev pub decreases-loop-code : goal.decreases-loop-code
decreases-loop-code l = length l.rest
