use Rattle.mq_convert.proofs.Common.{◌≡◌, length, number_after, number_option, options_of}
use Rattle.mq_convert.proofs.dropped.number_option.Given as goal

abbrev pub invariant-loop-found : goal.invariant-loop-found
invariant-loop-found l = number_option l.order l.code l.options ≡ number_after l.order l.code l.number (options_of l.order l.rest)

abbrev pub decreases-loop-found : goal.decreases-loop-found
decreases-loop-found l = length l.rest
