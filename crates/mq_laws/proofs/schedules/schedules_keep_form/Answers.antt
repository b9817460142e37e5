use Rattle.mq_laws.proofs.Common.{◌<◌, ap, arith, Variables}
use Rattle.mq_sched.proofs.Fits.{fits_after_record, fits_after_expiry, fits_acted, fits_after_round, fits_cleared}
use Rattle.mq_laws.proofs.schedules.schedules_keep_form.Goals as goal

pub returns-clause-record_came : goal.returns-clause-record_came
returns-clause-record_came c r schedule = fits_after_record r.timing r.now r.group schedule r.kind r.named

pub returns-clause-timers_ended : goal.returns-clause-timers_ended
returns-clause-timers_ended c = fits_after_expiry

pub returns-clause-asked : goal.returns-clause-asked
returns-clause-asked c r is =
    let positive : 0 < r.timing.robustness = omega (arith, c.is_in_range.ensures.robustness.at_least, ap (λ (t : Variables). t.robustness) is) in
    fits_acted r.is_querier r.timing r.now r.query_group r.query r.before positive

pub returns-clause-round_sent : goal.returns-clause-round_sent
returns-clause-round_sent c r = fits_after_round r.timing r.now r.before

pub returns-clause-all_dropped : goal.returns-clause-all_dropped
returns-clause-all_dropped c = fits_cleared
