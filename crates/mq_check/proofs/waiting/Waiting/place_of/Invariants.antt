-- none of the entries so far is free
use Rattle.mq_check.proofs.Common.{◌-◌, length, numbered_asked}
use Rattle.mq_check.proofs.MarkedEntries.{AreNoneBefore}
use Rattle.mq_check.proofs.waiting.Waiting.place_of.Given as goal

abbrev pub invariant-loop-place : goal.invariant-loop-place
invariant-loop-place g l = AreNoneBefore l.side (numbered_asked g.F.Address.Key.number l.asked) l.from l.self.entries l.place

abbrev pub decreases-loop-place : goal.decreases-loop-place
decreases-loop-place g l = length l.self.entries - l.place
