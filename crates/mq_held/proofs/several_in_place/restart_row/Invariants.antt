use Rattle.mq_held.proofs.Common.{◌≡◌, ◌+◌, [], get_or, set, Spends}
use Rattle.mq_held.proofs.RestartedRows.{IsRestarted}
use Rattle.mq_held.proofs.several_in_place.restart_row.Given as goal

abbrev pub invariant-loop-name : goal.invariant-loop-name
invariant-loop-name g l = record {
  rows : l.rows ≡ record l.fn.rows { rows = set l.fn.rows.rows l.fn.number (get_or l.rows.rows l.fn.number []) };
  row : IsRestarted g.K.Key.number l.fn.deadline l.fn.earliest (get_or l.fn.rows.rows l.fn.number []) l.fn.named
      (get_or l.rows.rows l.fn.number []) l.from l.name-index l.were.is_stopped l.were.is_later;
  spent : Spends l.name-index (l.from + l.name-index) l.fn.m l.m;
  moved : Spends l.name-index l.name-index l.fn.moves l.moves;
}
