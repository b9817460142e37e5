use Rattle.mq_c.proofs.Common.{stored_octets}
use Rattle.mq_c.proofs.ToldAddresses.{StandSoFar}
use Rattle.mq_c.proofs.changed.put_addresses.Given as goal

-- the addresses so far stand at the front
abbrev pub invariant-loop-i : goal.invariant-loop-i
invariant-loop-i g l = StandSoFar (stored_octets g.F.Address.Key.number g.F.CFamily.octets_with) l.from l.fn.out l.out l.i
