use Rattle.mq_sets.proofs.Common.{refl, arith}
use Rattle.mq_sets.proofs.{Narrowing.IsNarrowed-to_above, Narrowing.IsNarrowed-to_below, Narrowing.spent_to_found, Narrowing.place_left, Placing.set_of-absent}
use Rattle.mq_sets.proofs.searching.find.Goals as goal

pub loop-low-preserved-in-Less : goal.loop-low-preserved-in-Less
loop-low-preserved-in-Less g c =
    IsNarrowed-to_above g.T.Keyed.key_number c.args.items.now _ _ _ c.requires.ascending (omega (arith, c.loop-low.invariant.within))
    c.index-items-middle.is c.loop-low.invariant c.loop-low-test.true refl (rw c.key.ensures at c.in-Less.ensures.answer) c.order.ensures.spent

pub returns-in-Equal-clause-spent : goal.returns-in-Equal-clause-spent
returns-in-Equal-clause-spent g c =
    spent_to_found g.T.Keyed.key_number c.args.items.now _ c.loop-low.invariant c.loop-low-test.true c.order.ensures.spent

pub loop-low-preserved : goal.loop-low-preserved
loop-low-preserved g c =
    IsNarrowed-to_below g.T.Keyed.key_number c.args.items.now _ _ _ c.requires.ascending (omega (arith, c.loop-low.invariant.within))
    c.index-items-middle.is c.loop-low.invariant c.loop-low-test.true refl (rw c.key.ensures at c.in-Greater.ensures.answer) c.order.ensures.spent

pub returns-clause-member : goal.returns-clause-member
returns-clause-member g c =
    set_of-absent g.T.Keyed.key_number c.args.items.now _ c.loop-low.low (place_left _ _ _ c.loop-low.invariant c.loop-low-test.false)
