use Rattle.std.{proofs.Common.◌≡◌, proofs.Common.ℕ, proofs.Common.List, proofs.Common.◌++◌, proofs.Common.length, specs.Io.KnownBytes.Appends}
use Rattle.mq_count.specs.Streams.{inner_of, has_failed}
use Rattle.mq_text.proofs.printing.print.Given as goal

-- the bytes written so far and those left are the text
abbrev pub invariant-loop-rest : goal.invariant-loop-rest
invariant-loop-rest g l =
    record {
      grows : (written : List ℕ) × (l.text ≡ written ++ l.rest)
          × Appends (g.W.Write.contents (inner_of l.fn.writer)) (g.W.Write.contents (inner_of l.writer)) written;
      same : has_failed l.writer ≡ has_failed l.fn.writer;
    }

abbrev pub decreases-loop-rest : goal.decreases-loop-rest
decreases-loop-rest g l = length l.rest
