-- computed
use Rattle.mq_examples.proofs.Common.{refl, with_general, with_seen, with_wanted, begun, gone_on, schedules_seen, schedules_wanted, with_cause, without_next}
use Rattle.mq_examples.proofs.Common.{purged, told, with_entry, with_partner}
use Rattle.mq_examples.proofs.checks.groups_from_before_the_capture.Goals as goal

pub returns-clause-once : goal.returns-clause-once
unfolding begun gone_on schedules_seen schedules_wanted purged told with_cause with_entry with_general with_partner with_seen with_wanted
    without_next
returns-clause-once c = refl

pub returns-clause-twice : goal.returns-clause-twice
unfolding begun gone_on schedules_seen schedules_wanted purged told with_cause with_entry with_general with_partner with_seen with_wanted
    without_next
returns-clause-twice c = refl

pub returns-clause-thrice : goal.returns-clause-thrice
unfolding begun gone_on schedules_seen schedules_wanted purged told with_cause with_entry with_general with_partner with_seen with_wanted
    without_next
returns-clause-thrice c = refl

pub returns-clause-at_last : goal.returns-clause-at_last
unfolding begun gone_on schedules_seen schedules_wanted purged told with_cause with_entry with_general with_partner with_seen with_wanted
    without_next
returns-clause-at_last c = refl

pub returns-clause-too_late : goal.returns-clause-too_late
unfolding begun gone_on schedules_seen schedules_wanted purged told with_cause with_entry with_general with_partner with_seen with_wanted
    without_next
returns-clause-too_late c = refl

pub returns-clause-long_behind : goal.returns-clause-long_behind
unfolding begun gone_on schedules_seen schedules_wanted purged told with_cause with_entry with_general with_partner with_seen with_wanted
    without_next
returns-clause-long_behind c = refl

pub returns-clause-unasked : goal.returns-clause-unasked
unfolding begun gone_on schedules_seen schedules_wanted purged told with_cause with_entry with_general with_partner with_seen with_wanted
    without_next
returns-clause-unasked c = refl

pub returns-clause-at_first : goal.returns-clause-at_first
unfolding begun gone_on schedules_seen schedules_wanted purged told with_cause with_entry with_general with_partner with_seen with_wanted
    without_next
returns-clause-at_first c = refl

pub returns-clause-began : goal.returns-clause-began
unfolding begun gone_on schedules_seen schedules_wanted purged told with_cause with_entry with_general with_partner with_seen with_wanted
    without_next
returns-clause-began c = refl
