use Rattle.mq_table.proofs.Common.{◌≡◌, ◌+◌, ◌-◌, take, drop, ap, sym, ◌∙◌, arith, list_any, item_has_retransmissions, common_steps}
use Rattle.mq_table.proofs.Places.{none_in_front}
use Rattle.mq_table.proofs.retransmission_places.without_in_front.Goals as goal

pub by_block-preserved : goal.by_block-preserved
by_block-preserved g c =
    let row = c.args.row.now in
    let place = c.by_block.place in
    let count : (place + 16) - place ≡ 16 = omega arith in
    let block = ap (λ n. list_any item_has_retransmissions (take n (drop place row))) (sym count) ∙ sym c.any_in_block.ensures ∙ c.if-not-any_in_block.true in
    record { within = c.by_block-test.true; none = none_in_front item_has_retransmissions row place 16 c.by_block.invariant.none block }

pub by_source-preserved : goal.by_source-preserved
by_source-preserved g c = grind (arith, common_steps)

pub returns-else-not-has_retransmissions-clause-next : goal.returns-else-not-has_retransmissions-clause-next
returns-else-not-has_retransmissions-clause-next g c = grind (arith, common_steps)
