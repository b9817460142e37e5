use Rattle.mquerier.proofs.Common.{codes, decimal}
use Rattle.mquerier.proofs.Lines.{in_three, dropped_some}
use Rattle.mquerier.proofs.counts.put_dropped.Goals as goal

pub returns-then-count-gt0-clause-text : goal.returns-then-count-gt0-clause-text
returns-then-count-gt0-clause-text c =
    rw (dropped_some c.args.count c.if-count-gt0.true, c.put-then-count-gt0.ensures.text, c.put_decimal.ensures.text, c.put.ensures.text)
    (in_three c.args.line.now.items (codes "mquerier: the file records ") (decimal c.args.count) (codes " dropped packets\n"))
