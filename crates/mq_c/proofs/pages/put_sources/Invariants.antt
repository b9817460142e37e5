use Rattle.mq_c.proofs.Common.{◌≡◌, ◌++◌, take, drop, list_map, stored_form}
use Rattle.mq_c.proofs.pages.put_sources.Given as goal

-- the sources so far stand at the front
abbrev pub invariant-loop-i : goal.invariant-loop-i
invariant-loop-i g l = l.out ≡ list_map (stored_form g.F.Address.Key.number g.F.CFamily.source_with) (take l.i l.from) ++ drop l.i l.fn.out
