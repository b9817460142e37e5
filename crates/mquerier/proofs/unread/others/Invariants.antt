use Rattle.mquerier.proofs.Common.{◌≡◌, drop, others}
use Rattle.mquerier.proofs.unread.others.Given as goal

-- the rest after the rows so far
abbrev pub invariant-loop-row : goal.invariant-loop-row
invariant-loop-row l = others l.left (drop l.row-index l.rows) ≡ others l.count l.rows
