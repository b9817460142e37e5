-- the findings so far, and those of the entries that still wait, are the findings of all
use Rattle.mq_check.proofs.Common.{◌≡◌, ℕ, List, ◌++◌, length, Ok, flat_map, output_of, LineFault, Finding, found_of_last, Tells}
use Rattle.mq_check.proofs.purging.tell_rest.Given as goal

abbrev pub invariant-loop-entry : goal.invariant-loop-entry
invariant-loop-entry g l =
    (done : List (Finding ℕ)) ×
    (flat_map (found_of_last l.excuses.within l.end l.excuses.changed l.excuses.refused.now) l.fn.waiting.entries ≡ done ++ flat_map
    (found_of_last l.excuses.within l.end l.excuses.changed l.excuses.refused.now) l.waiting.entries)
    × Tells {T = Unit} {E = LineFault} g.F.Address.LineKey.family done l.fn.told l.told (output_of g.W.Write.contents l.fn.writer)
    (output_of g.W.Write.contents l.writer) (Ok tt)

abbrev pub decreases-loop-entry : goal.decreases-loop-entry
decreases-loop-entry g l = length l.waiting.entries
