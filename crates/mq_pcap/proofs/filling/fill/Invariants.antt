use Rattle.std.proofs.Common.{◌-◌, length}
use Rattle.mq_pcap.{proofs.Filled.IsFilledTo, specs.Filling.input_of}
use Rattle.mq_pcap.proofs.filling.fill.Given as goal

abbrev pub invariant-loop-count : goal.invariant-loop-count
invariant-loop-count g l =
    let state = input_of g.R.Read.remaining in
    IsFilledTo (state l.initial.reader) (state l.reader) l.buffer l.count

abbrev pub decreases-loop-count : goal.decreases-loop-count
decreases-loop-count g l = length l.initial.buffer - l.count
