use Rattle.mq_laws.proofs.ChangedSources.{restarted, copied, retransmissions_kept, known, deadline_kept, unnamed_as_before}
use Rattle.mq_laws.proofs.groups.records_change_what_they_name.Goals as goal

pub returns-clause-known : goal.returns-clause-known
returns-clause-known c r = known r.timing r.now r.group r.kind r.named

pub returns-clause-kept : goal.returns-clause-kept
returns-clause-kept c r = deadline_kept r.timing r.now r.group r.kind r.named

pub returns-clause-unnamed : goal.returns-clause-unnamed
returns-clause-unnamed c r = unnamed_as_before r.timing r.now r.group r.kind r.named

pub returns-clause-restarted : goal.returns-clause-restarted
returns-clause-restarted c r = restarted r.timing r.now r.group r.kind r.named

pub returns-clause-copied : goal.returns-clause-copied
returns-clause-copied c r = copied r.timing r.now r.group r.kind r.named

pub returns-clause-retransmissions : goal.returns-clause-retransmissions
returns-clause-retransmissions c r = retransmissions_kept r.timing r.now r.group r.kind r.named
