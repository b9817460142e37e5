use Rattle.mq_wire.proofs.Common.{◌+◌, ◌∙◌, refl, arith, common_steps}
use Rattle.mq_wire.proofs.{Addresses.bytes_behind, RecordLists.record_bounds}
use Rattle.mq_wire.proofs.records.record_at.Goals as goal

pub overflow_mul-auxiliary : goal.overflow_mul-auxiliary
overflow_mul-auxiliary g c =
    let bounds = record_bounds g.K.WireKey.WIDTH c.args.place c.WIDTH.result c.WIDTH-2.result c.from.result _ c.args.bytes.now c.WIDTH.ensures
    c.WIDTH-2.ensures (c.from.ensures ∙ c.number_at-count.ensures) refl c.requires in
    omega (arith, bounds)

pub overflow_add-auxiliary : goal.overflow_add-auxiliary
overflow_add-auxiliary g c =
    let bounds = record_bounds g.K.WireKey.WIDTH c.args.place c.WIDTH.result c.WIDTH-2.result c.from.result _ c.args.bytes.now c.WIDTH.ensures
    c.WIDTH-2.ensures (c.from.ensures ∙ c.number_at-count.ensures) refl c.requires in
    omega (arith, bounds)

pub in_place-requires : goal.in_place-requires
in_place-requires g c =
    let bounds = record_bounds g.K.WireKey.WIDTH c.args.place c.WIDTH.result g.K.WireKey.WIDTH c.number_at-count.result _ c.args.bytes.now
    c.WIDTH.ensures refl c.number_at-count.ensures refl c.requires in
    bytes_behind (c.args.place + 4 + c.WIDTH.result) _ c.args.bytes.now (omega (arith, bounds))

pub overflow_add-result : goal.overflow_add-result
overflow_add-result g c =
    let bounds = record_bounds g.K.WireKey.WIDTH c.args.place c.WIDTH.result c.WIDTH-2.result c.from.result c.from-2.result c.args.bytes.now
    c.WIDTH.ensures c.WIDTH-2.ensures (c.from.ensures ∙ c.number_at-count.ensures) c.from-2.ensures c.requires in
    omega (arith, bounds)

pub returns-clause-end : goal.returns-clause-end
returns-clause-end g c = grind (arith, common_steps)
