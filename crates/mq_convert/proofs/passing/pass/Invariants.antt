use Rattle.mq_convert.proofs.Common.{◌-◌, input_of}
use Rattle.mq_convert.proofs.Passed.{IsPassedFrom}
use Rattle.mq_convert.proofs.passing.pass.Given as goal

abbrev pub invariant-loop-count : goal.invariant-loop-count
invariant-loop-count g l =
    let state = input_of g.R.Read.remaining in
    IsPassedFrom (state l.initial.reader) (state l.reader) l.from l.count l.to

abbrev pub decreases-loop-count : goal.decreases-loop-count
decreases-loop-count g l = l.to - l.count
