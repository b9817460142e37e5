use Rattle.mq_table.proofs.Common.{◌≡◌, ◌≤◌, false, length, drop, list_any, item_has_retransmissions}
use Rattle.mq_table.proofs.retransmission_places.end_of_retransmissions.Given as goal

-- no source from the end on has a retransmission
abbrev pub invariant-by_block : goal.invariant-by_block
invariant-by_block g l = record {
  ordered : l.fn.first ≤ l.end;
  within : l.end ≤ length l.row;
  none : list_any item_has_retransmissions (drop l.end l.row) ≡ false;
}

abbrev pub decreases-by_block : goal.decreases-by_block
decreases-by_block g l = l.end

abbrev pub invariant-by_source : goal.invariant-by_source
invariant-by_source g l = record {
  ordered : l.fn.first ≤ l.end;
  within : l.end ≤ length l.row;
  none : list_any item_has_retransmissions (drop l.end l.row) ≡ false;
}

abbrev pub decreases-by_source : goal.decreases-by_source
decreases-by_source g l = l.end
