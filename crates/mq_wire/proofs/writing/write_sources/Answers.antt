use Rattle.mq_wire.proofs.Common.{arith, length-bytes_high_first}
use Rattle.mq_wire.proofs.WrittenParts.{one_more}
use Rattle.mq_wire.proofs.writing.write_sources.Goals as goal

pub loop-source-preserved : goal.loop-source-preserved
loop-source-preserved g c =
    let before = c.loop-source.invariant in
    rw c.WIDTH-place.ensures
    (one_more g.K.WireKey.WIDTH c.loop-source.place c.args.sources c.loop-source.source-iterator c.next.new.self c.args.out.now c.loop-source.out
    c.write.new.out (g.K.Key.number c.in-Some.source) (omega (arith, c.loop-source.auto.place-fits)) before c.in-Some.ensures.steps
    (length-bytes_high_first g.K.WireKey.WIDTH (g.K.Key.number c.in-Some.source)) c.write.ensures)
