use Rattle.mq_wire.proofs.WrittenParts.{IsWritten}
use Rattle.mq_wire.proofs.writing.write_sources.Given as goal

-- the sources so far stand before the place, and the rest is unchanged
abbrev pub invariant-loop-source : goal.invariant-loop-source
invariant-loop-source g l = IsWritten g.K.WireKey.WIDTH l.place l.fn.sources l.source-iterator l.fn.out l.out
