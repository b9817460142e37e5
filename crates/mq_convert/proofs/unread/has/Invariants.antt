use Rattle.mq_convert.proofs.Common.{◌≡◌, take, list_any, is_of}
use Rattle.mq_convert.proofs.unread.has.Given as goal

-- the test of the rows so far
abbrev pub invariant-loop-row : goal.invariant-loop-row
invariant-loop-row l = l.found ≡ list_any (is_of l.link) (take l.row-index l.rows)
