use Rattle.mq_check.proofs.Common.{ap, list_map, refused}
use Rattle.mq_check.proofs.refused.Refused.new.Goals as goal

pub invariant_of-result : goal.invariant_of-result
invariant_of-result g c = c.in_ok-with_capacity.ensures.room.1

pub returns-in_err-with_capacity-clause-memory : goal.returns-in_err-with_capacity-clause-memory
returns-in_err-with_capacity-clause-memory g c = refused c.from_residual.result c.from_residual.ensures.0 c.in_err-with_capacity.ensures.memory

pub returns-clause-none : goal.returns-clause-none
returns-clause-none g c = ap (list_map g.F.Address.Key.number) c.in_ok-with_capacity.ensures.room.0

pub returns-clause-memory : goal.returns-clause-memory
returns-clause-memory g c = c.in_ok-with_capacity.ensures.memory
