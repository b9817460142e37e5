-- computed
use Rattle.mq_examples.proofs.Common.{refl, with_general, with_seen, with_wanted, begun, gone_on, schedules_seen, schedules_wanted, with_cause, without_next}
use Rattle.mq_examples.proofs.Common.{purged, told, with_entry, with_partner}
use Rattle.mq_examples.proofs.checks.intervals_of_general_queries.Goals as goal

pub returns-clause-minute : goal.returns-clause-minute
unfolding begun gone_on schedules_seen schedules_wanted purged told with_cause with_entry with_general with_partner with_seen with_wanted
    without_next
returns-clause-minute c = refl

pub returns-clause-interval : goal.returns-clause-interval
unfolding begun gone_on schedules_seen schedules_wanted purged told with_cause with_entry with_general with_partner with_seen with_wanted
    without_next
returns-clause-interval c = refl
