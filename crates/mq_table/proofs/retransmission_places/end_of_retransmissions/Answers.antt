use Rattle.mq_table.proofs.Common.{◌≡◌, ◌+◌, ◌-◌, take, drop, ap, sym, ◌∙◌, arith, list_any, item_has_retransmissions, common_steps}
use Rattle.mq_table.proofs.Places.{none_behind_more}
use Rattle.mq_table.proofs.retransmission_places.end_of_retransmissions.Goals as goal

pub by_block-preserved : goal.by_block-preserved
by_block-preserved g c =
    let row = c.args.row.now in
    let end = c.by_block.end in
    let start = end - 16 in
    let test = c.by_block-test.true in
    let count : end - start ≡ 16 = omega (arith, test) in
    let back : end ≡ start + 16 = omega (arith, test) in
    let block = ap (λ n. list_any item_has_retransmissions (take n (drop start row))) (sym count) ∙ sym c.any_in_block.ensures ∙ c.if-not-any_in_block.true in
    record {
      ordered = omega (arith, test);
      within = omega (arith, c.by_block.invariant.within);
      none = none_behind_more item_has_retransmissions row start 16
          (ap (λ n. list_any item_has_retransmissions (drop n row)) (sym back) ∙ c.by_block.invariant.none) block;
    }

pub by_source-preserved : goal.by_source-preserved
by_source-preserved g c = grind (arith, common_steps)
