use Rattle.mq_laws.proofs.Common.{IsAnyGroup-expired}
use Rattle.mq_table.proofs.Ahead.{AllAhead-expired}
use Rattle.mq_laws.proofs.groups.expiry_keeps_form.Goals as goal

pub returns-clause-form : goal.returns-clause-form
returns-clause-form c = IsAnyGroup-expired

pub returns-clause-ahead : goal.returns-clause-ahead
returns-clause-ahead c = AllAhead-expired
