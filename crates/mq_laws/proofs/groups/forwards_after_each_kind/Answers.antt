use Rattle.mq_laws.proofs.Common.{ap, get-empty, nat_cmp, is_running, IsIn, IsEx, ToIn, ToEx, Allow, Block}
use Rattle.mq_laws.proofs.ChangedSources.{forwards_in-group_after}
use Rattle.mq_laws.proofs.groups.forwards_after_each_kind.Goals as goal

pub returns-clause-is_in : goal.returns-clause-is_in
returns-clause-is_in c = forwards_in-group_after IsIn

pub returns-clause-to_in : goal.returns-clause-to_in
returns-clause-to_in c = forwards_in-group_after ToIn

pub returns-clause-allow : goal.returns-clause-allow
returns-clause-allow c = forwards_in-group_after Allow

pub returns-clause-is_ex : goal.returns-clause-is_ex
returns-clause-is_ex c = forwards_in-group_after IsEx

pub returns-clause-to_ex : goal.returns-clause-to_ex
returns-clause-to_ex c = forwards_in-group_after ToEx

pub returns-clause-block : goal.returns-clause-block
returns-clause-block c = forwards_in-group_after Block

pub returns-clause-not_held : goal.returns-clause-not_held
returns-clause-not_held c s = ap is_running (get-empty nat_cmp s)
