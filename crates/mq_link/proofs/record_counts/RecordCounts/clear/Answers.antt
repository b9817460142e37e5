use Rattle.mq_link.proofs.Common.{sym, arith, subst, AreListed}
use Rattle.mq_link.proofs.ListedNumbers.{listed_each, none_listed}
use Rattle.mq_link.proofs.record_counts.RecordCounts.clear.Goals as goal

pub invariant_of-self : goal.invariant_of-self
invariant_of-self g c = (
  subst (AreListed c.set_to_zero.new.counts.items) (sym c.clear.ensures.items) (none_listed c.set_to_zero.new.counts.items c.set_to_zero.ensures.none),
  omega (arith, c.self.invariant.1, c.set_to_zero.ensures.len, c.clear.ensures.capacity),
)

pub set_to_zero-requires-clause-each : goal.set_to_zero-requires-clause-each
set_to_zero-requires-clause-each g c =
    rw c.deref.ensures.value (listed_each c.self.inside.counts.items c.self.inside.numbers.items c.self.invariant.0)
