use Rattle.mq_table.proofs.Common.{arith, length, Spends-within, bitlen-few}
use Rattle.mq_table.proofs.InOrder.{some_held}
use Rattle.mq_table.proofs.retransmissions.ask_among.Goals as goal

pub returns-then-asked-eq1-clause-spent : goal.returns-then-asked-eq1-clause-spent
returns-then-asked-eq1-clause-spent g c =
    let one = c.if-asked-eq1.true in
    let some = some_held g.K.Key.number c.args.asked.now c.args.sources.now.items c.requires.held in
    let few = bitlen-few (length c.args.sources.now.items) in
    Spends-within _ _ c.ask_one.ensures.spent (omega (arith, one, some)) (omega (arith, one, some, few))
