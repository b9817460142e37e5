use Rattle.mq_wire.proofs.Common.{length, ◌-◌, arith}
use Rattle.mq_wire.proofs.Spans.{addresses_cut, addresses_fit, addresses_end}
use Rattle.mq_wire.proofs.fields.addresses_end.Goals as goal

pub returns-then-whole-count : goal.returns-then-whole-count
returns-then-whole-count g c =
    addresses_cut _ g.K.WireKey.WIDTH _ c.args.place (length c.args.bytes.now - c.args.place) c.WIDTH.result c.WIDTH-then-whole-count.result _
    g.met.K.WireKey.has_bytes c.WIDTH.ensures c.WIDTH-then-whole-count.ensures c.from-count.ensures (omega arith) c.if-whole-count.true

pub returns : goal.returns
returns g c =
    let fits = addresses_fit _ g.K.WireKey.WIDTH _ c.args.place (length c.args.bytes.now - c.args.place) c.WIDTH.result _ g.met.K.WireKey.has_bytes
    c.WIDTH.ensures c.from-count.ensures (omega arith) c.if-whole-count.false in
    addresses_end c.args.count g.K.WireKey.WIDTH (length c.args.bytes.now) c.args.place c.WIDTH-2.result c.from-count.result c.WIDTH-2.ensures
    c.from-count.ensures fits
