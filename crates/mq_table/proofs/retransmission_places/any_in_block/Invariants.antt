use Rattle.mq_table.proofs.Common.{◌≡◌, take, list_any, item_has_retransmissions}
use Rattle.mq_table.proofs.retransmission_places.any_in_block.Given as goal

-- the test of the passed sources for a retransmission
abbrev pub invariant-loop-source : goal.invariant-loop-source
invariant-loop-source g l = l.some ≡ list_any item_has_retransmissions (take l.source-index l.row)
