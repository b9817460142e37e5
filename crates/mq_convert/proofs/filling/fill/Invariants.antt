use Rattle.mq_convert.proofs.Common.{◌-◌, input_of}
use Rattle.mq_convert.proofs.Filled.{IsFilledFrom}
use Rattle.mq_convert.proofs.filling.fill.Given as goal

abbrev pub invariant-loop-count : goal.invariant-loop-count
invariant-loop-count g l =
    let state = input_of g.R.Read.remaining in
    IsFilledFrom (state l.initial.reader) (state l.reader) l.initial.buffer l.buffer l.from l.count l.to

abbrev pub decreases-loop-count : goal.decreases-loop-count
decreases-loop-count g l = l.to - l.count
