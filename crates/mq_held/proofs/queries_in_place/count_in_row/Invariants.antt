use Rattle.mq_held.proofs.Common.{◌≡◌, [], Some, length, take, drop, get_or, set, count_by, filter_map, list_any, Spends, item_counted}
use Rattle.mq_held.proofs.Common.{item_has_retransmissions}
use Rattle.mq_held.proofs.queries_in_place.count_in_row.Given as goal

-- the passed places have the results of their sources; the rest, and the other rows, are unchanged
abbrev pub invariant-loop-place : goal.invariant-loop-place
invariant-loop-place g l = record {
  rows : l.rows ≡ record l.initial.rows { rows = set l.initial.rows.rows l.fn.number (get_or l.rows.rows l.fn.number []) };
  len : length (get_or l.rows.rows l.fn.number []) ≡ length (get_or l.initial.rows.rows l.fn.number []);
  made : take l.place (get_or l.rows.rows l.fn.number []) ≡ filter_map (λ x. Some (item_counted x)) (take l.place (get_or l.initial.rows.rows l.fn.number []));
  rest : drop l.place (get_or l.rows.rows l.fn.number []) ≡ drop l.place (get_or l.initial.rows.rows l.fn.number []);
  left : l.left ≡ list_any item_has_retransmissions (take l.place (get_or l.rows.rows l.fn.number []));
  moved : Spends (count_by item_has_retransmissions (take l.place (get_or l.initial.rows.rows l.fn.number [])))
      (count_by item_has_retransmissions (take l.place (get_or l.initial.rows.rows l.fn.number []))) l.initial.moves l.moves;
}
