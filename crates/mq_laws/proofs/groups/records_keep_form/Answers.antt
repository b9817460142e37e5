use Rattle.mq_laws.proofs.Common.{IsAnyGroup-change_of, IsWellFormed-change_of}
use Rattle.mq_laws.proofs.groups.records_keep_form.Goals as goal

pub returns-clause-any : goal.returns-clause-any
returns-clause-any c r = IsAnyGroup-change_of r.timing r.now r.group r.kind r.named

pub returns-clause-held : goal.returns-clause-held
returns-clause-held c r = IsWellFormed-change_of r.timing r.now r.group r.kind r.named
