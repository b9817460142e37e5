-- none of the slot so far is free
use Rattle.mq_check.proofs.Common.{◌-◌, length, AreNoneOf}
use Rattle.mq_check.proofs.waiting.Waiting.near_place.Given as goal

abbrev pub invariant-loop-place : goal.invariant-loop-place
invariant-loop-place g l = AreNoneOf g.F.Address.WireKey.WIDTH l.slot l.from l.self.entries l.place

abbrev pub decreases-loop-place : goal.decreases-loop-place
decreases-loop-place g l = length l.self.entries - l.place
