use Rattle.mq_lines.proofs.Common.{◌≡◌, ℕ, List, ◌++◌, Passes, items_from, record_item, record_items}
use Rattle.mq_lines.proofs.lines.put_records.Given as goal

-- the text so far and that of the records left are the whole text
abbrev pub invariant-loop-view : goal.invariant-loop-view
invariant-loop-view g l =
    record {
      put : (done : List ℕ)
          × (record_items l.fn.json g.K.LineKey.family l.fn.records ≡ done ++ items_from (record_item l.fn.json g.K.LineKey.family) l.is_first l.view-iterator)
          × Passes (g.O.Output.held l.fn.writer) (g.O.Output.held l.writer) l.fn.buffer.items l.buffer.items done;
      same : g.O.Output.failed l.writer ≡ g.O.Output.failed l.fn.writer;
      same_loan : g.O.Output.loan l.writer ≡ g.O.Output.loan l.fn.writer;
    }
