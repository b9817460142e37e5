use Rattle.mq_c.proofs.Common.{ap, ◌∙◌, set, arith, stored_form}
use Rattle.mq_c.proofs.ShownGroups.{one_more, all_put}
use Rattle.mq_c.proofs.pages.put_sources.Goals as goal

pub loop-i-preserved : goal.loop-i-preserved
loop-i-preserved g c =
    let form = stored_form g.F.Address.Key.number g.F.CFamily.source_with in
    ap (set c.loop-i.out c.loop-i.i) (c.source_of.ensures ∙ ap form c.index-from-i.is)
    ∙ one_more form c.args.from.now c.args.out.now c.loop-i.out c.loop-i.i c.index-from-i.result c.loop-i-test.true
    (omega (arith, c.requires.room)) c.loop-i.invariant

pub returns : goal.returns
returns g c =
    all_put (stored_form g.F.Address.Key.number g.F.CFamily.source_with) c.args.from.now c.args.out.now c.loop-i.out c.loop-i.i c.loop-i.auto.i-end
    c.loop-i-test.false c.loop-i.invariant
