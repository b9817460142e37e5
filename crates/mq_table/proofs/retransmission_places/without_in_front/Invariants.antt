use Rattle.mq_table.proofs.Common.{◌≡◌, ◌-◌, ◌≤◌, false, length, take, list_any, item_has_retransmissions}
use Rattle.mq_table.proofs.retransmission_places.without_in_front.Given as goal

-- no source passed has a retransmission
abbrev pub invariant-by_block : goal.invariant-by_block
invariant-by_block g l = record {
  within : l.place ≤ length l.row;
  none : list_any item_has_retransmissions (take l.place l.row) ≡ false;
}

abbrev pub decreases-by_block : goal.decreases-by_block
decreases-by_block g l = length l.row - l.place

abbrev pub invariant-by_source : goal.invariant-by_source
invariant-by_source g l = record {
  within : l.place ≤ length l.row;
  none : list_any item_has_retransmissions (take l.place l.row) ≡ false;
}

abbrev pub decreases-by_source : goal.decreases-by_source
decreases-by_source g l = length l.row - l.place
