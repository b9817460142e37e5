-- A frame that is none of those so far.
use Rattle.mq_convert.proofs.Common.{◌≡◌, drop, list_any, framed, is_again}
use Rattle.mq_convert.proofs.sieve.Sieve.has_gone.Given as goal

abbrev pub invariant-loop-place : goal.invariant-loop-place
invariant-loop-place g l =
    list_any (is_again l.moment (framed l.frame)) l.self.gone ≡ list_any (is_again l.moment (framed l.frame)) (drop l.place l.self.gone)
