use Rattle.mq_lines.proofs.Common.{◌≡◌, ℕ, List, ◌++◌, Passes, items_from, source_item, source_items}
use Rattle.mq_lines.proofs.lines.put_sources.Given as goal

-- the text so far and that of the sources left are the whole text
abbrev pub invariant-loop-source : goal.invariant-loop-source
invariant-loop-source g l =
    record {
      put : (done : List ℕ)
          × (source_items l.fn.json g.K.LineKey.family l.fn.sources
          ≡ done ++ items_from (source_item l.fn.json g.K.LineKey.family) l.is_first l.source-iterator)
          × Passes (g.O.Output.held l.fn.writer) (g.O.Output.held l.writer) l.fn.buffer.items l.buffer.items done;
      same : g.O.Output.failed l.writer ≡ g.O.Output.failed l.fn.writer;
      same_loan : g.O.Output.loan l.writer ≡ g.O.Output.loan l.fn.writer;
    }
