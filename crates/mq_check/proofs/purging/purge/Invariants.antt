-- the findings so far, and those of the entries that still wait, are the findings of all
use Rattle.mq_check.proofs.Common.{◌≡◌, ℕ, List, ◌++◌, length, Ok, output_of, LineFault, Finding, Tells}
use Rattle.mq_check.specs.Waiting.{told, purged}
use Rattle.mq_check.proofs.purging.purge.Given as goal

abbrev pub invariant-loop-entry : goal.invariant-loop-entry
invariant-loop-entry g l =
    record {
      found : (done : List (Finding ℕ)) × (told l.expiry.keep l.excuses.within l.expiry.moment l.excuses.changed l.excuses.refused.now l.fn.waiting
          ≡ done ++ told l.expiry.keep l.excuses.within l.expiry.moment l.excuses.changed l.excuses.refused.now l.waiting)
          × Tells {T = Unit} {E = LineFault} g.F.Address.LineKey.family done l.fn.told l.told (output_of g.W.Write.contents l.fn.writer)
          (output_of g.W.Write.contents l.writer) (Ok tt);
      rest : purged l.expiry.keep l.expiry.moment l.fn.waiting ≡ purged l.expiry.keep l.expiry.moment l.waiting;
    }

abbrev pub decreases-loop-entry : goal.decreases-loop-entry
decreases-loop-entry g l = length l.waiting.entries
