-- computed
use Rattle.mq_examples.proofs.Common.{refl, with_general, with_seen, with_wanted, begun, gone_on, schedules_seen, schedules_wanted, with_cause, without_next}
use Rattle.mq_examples.proofs.Common.{purged, told, with_entry, with_partner}
use Rattle.mq_examples.proofs.checks.changes_that_come_close.Goals as goal

pub returns-clause-missing : goal.returns-clause-missing
unfolding begun gone_on schedules_seen schedules_wanted purged told with_cause with_entry with_general with_partner with_seen with_wanted
    without_next
returns-clause-missing c = refl

pub returns-clause-apart : goal.returns-clause-apart
unfolding begun gone_on schedules_seen schedules_wanted purged told with_cause with_entry with_general with_partner with_seen with_wanted
    without_next
returns-clause-apart c = refl

pub returns-clause-strict : goal.returns-clause-strict
unfolding begun gone_on schedules_seen schedules_wanted purged told with_cause with_entry with_general with_partner with_seen with_wanted
    without_next
returns-clause-strict c = refl

pub returns-clause-extra : goal.returns-clause-extra
unfolding begun gone_on schedules_seen schedules_wanted purged told with_cause with_entry with_general with_partner with_seen with_wanted
    without_next
returns-clause-extra c = refl

pub returns-clause-at_last : goal.returns-clause-at_last
unfolding begun gone_on schedules_seen schedules_wanted purged told with_cause with_entry with_general with_partner with_seen with_wanted
    without_next
returns-clause-at_last c = refl

pub returns-clause-over : goal.returns-clause-over
unfolding begun gone_on schedules_seen schedules_wanted purged told with_cause with_entry with_general with_partner with_seen with_wanted
    without_next
returns-clause-over c = refl
