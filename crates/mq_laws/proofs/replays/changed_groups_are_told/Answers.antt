use Rattle.mq_replay.proofs.ChangedGroups.{received_those, ticked_those}
use Rattle.mq_laws.proofs.replays.changed_groups_are_told.Goals as goal

pub returns-clause-ticked : goal.returns-clause-ticked
returns-clause-ticked c = ticked_those

pub returns-clause-received : goal.returns-clause-received
returns-clause-received c = received_those
