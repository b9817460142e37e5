use Rattle.mq_c.proofs.Common.{ap, ◌∙◌, arith, stored_octets}
use Rattle.mq_c.proofs.ToldAddresses.{stand_more, stand_whole}
use Rattle.mq_c.proofs.changed.put_addresses.Goals as goal

pub loop-i-preserved : goal.loop-i-preserved
loop-i-preserved g c =
    let form = stored_octets g.F.Address.Key.number g.F.CFamily.octets_with in
    stand_more form c.args.from.now c.args.out.now c.loop-i.out c.loop-i.i c.index-from-i.result _
    (c.octets_in_c.ensures ∙ ap form c.index-from-i.is) c.loop-i-test.true (omega arith) c.loop-i.invariant

pub returns : goal.returns
returns g c =
    stand_whole (stored_octets g.F.Address.Key.number g.F.CFamily.octets_with) c.args.from.now c.args.out.now c.loop-i.out c.loop-i.i
    c.loop-i.auto.i-end c.loop-i-test.false c.loop-i.invariant
