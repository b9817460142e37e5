-- computed
use Rattle.mq_examples.proofs.Common.{refl, with_general, with_seen, with_wanted, begun, gone_on, schedules_seen, schedules_wanted, with_cause, without_next}
use Rattle.mq_examples.proofs.Common.{purged, told, with_entry, with_partner}
use Rattle.mq_examples.proofs.checks.reasons_of_an_extra_query.Goals as goal

pub returns-clause-muted : goal.returns-clause-muted
unfolding begun gone_on schedules_seen schedules_wanted purged told with_cause with_entry with_general with_partner with_seen with_wanted
    without_next
returns-clause-muted c = refl

pub returns-clause-as_host : goal.returns-clause-as_host
unfolding begun gone_on schedules_seen schedules_wanted purged told with_cause with_entry with_general with_partner with_seen with_wanted
    without_next
returns-clause-as_host c = refl
