use Rattle.mq_link.proofs.Common.{◌<◌, length, ◌∙◌, arith, nat_tests}
use Rattle.mq_link.proofs.LoweredSoFar.{lowered_as_set}
use Rattle.mq_link.proofs.query_heard.lower.Goals as goal

pub returns-else-is_empty-clause-state : goal.returns-else-is_empty-clause-state
returns-else-is_empty-clause-state g c =
    let some : 0 < length c.in-Current.fields.sources = grind (arith, nat_tests, c.is_empty.ensures, c.if-is_empty.false) in
    rw (c.in-Current.is, c.if-fields.false) (c.lower_sources.ensures.state ∙ lowered_as_set c.args.timing.now c.args.now _ _ some)
