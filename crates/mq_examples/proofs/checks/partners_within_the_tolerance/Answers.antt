-- computed
use Rattle.mq_examples.proofs.Common.{refl, with_general, with_seen, with_wanted, begun, gone_on, schedules_seen, schedules_wanted, with_cause, without_next}
use Rattle.mq_examples.proofs.Common.{purged, told, with_entry, with_partner}
use Rattle.mq_examples.proofs.checks.partners_within_the_tolerance.Goals as goal

pub returns-clause-late : goal.returns-clause-late
unfolding begun gone_on schedules_seen schedules_wanted purged told with_cause with_entry with_general with_partner with_seen with_wanted
    without_next
returns-clause-late c = refl

pub returns-clause-too_late : goal.returns-clause-too_late
unfolding begun gone_on schedules_seen schedules_wanted purged told with_cause with_entry with_general with_partner with_seen with_wanted
    without_next
returns-clause-too_late c = refl

pub returns-clause-early : goal.returns-clause-early
unfolding begun gone_on schedules_seen schedules_wanted purged told with_cause with_entry with_general with_partner with_seen with_wanted
    without_next
returns-clause-early c = refl

pub returns-clause-too_early : goal.returns-clause-too_early
unfolding begun gone_on schedules_seen schedules_wanted purged told with_cause with_entry with_general with_partner with_seen with_wanted
    without_next
returns-clause-too_early c = refl
