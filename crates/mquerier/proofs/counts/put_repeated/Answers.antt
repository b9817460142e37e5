use Rattle.mquerier.proofs.Common.{codes, decimal}
use Rattle.mquerier.proofs.Lines.{in_three, repeated_some}
use Rattle.mquerier.proofs.counts.put_repeated.Goals as goal

pub returns-then-count-gt0-clause-text : goal.returns-then-count-gt0-clause-text
returns-then-count-gt0-clause-text c =
    rw (repeated_some c.args.count c.if-count-gt0.true, c.put-then-count-gt0.ensures.text, c.put_decimal.ensures.text, c.put.ensures.text)
    (in_three c.args.line.now.items (codes "mquerier: ") (decimal c.args.count) (codes " packets that came again are left out\n"))
