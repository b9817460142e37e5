use Rattle.mq_convert.proofs.Common.{◌≡◌, ◌-◌, ◌≤◌, length, inner_of, has_failed, input_of, Passes, context_of, endless, written_of, most_seen}
use Rattle.mq_convert.proofs.SoFar.{IsReadTo}
use Rattle.mq_convert.proofs.converting.put_capture.Given as goal

-- the blocks that were read, and that the capture of their packets was put
abbrev pub invariant-loop-sieve : goal.invariant-loop-sieve
invariant-loop-sieve g l =
    let old = input_of g.R.Read.remaining l.fn.reader in
    let now = input_of g.R.Read.remaining l.reader in
    record {
      put : (r : IsReadTo l.fn.sieve.choice old now (context_of l.context) l.number l.sieve)
          × Passes (g.W.Write.contents (inner_of l.fn.writer)) (g.W.Write.contents (inner_of l.writer)) l.fn.buffer.items l.buffer.items
          (written_of l.fn.sieve.choice r.blocks);
      few : l.number ≤ endless;
      room : most_seen ≤ length l.block;
      read : has_failed l.reader ≡ has_failed l.fn.reader;
      written : has_failed l.writer ≡ has_failed l.fn.writer;
    }

abbrev pub decreases-loop-sieve : goal.decreases-loop-sieve
decreases-loop-sieve g l = endless - l.number
