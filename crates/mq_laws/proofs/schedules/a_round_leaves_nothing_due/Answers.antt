use Rattle.mq_laws.proofs.Common.{◌≡◌, ◌<◌, ap, arith, Variables, state_after, quiet_after_round, quiet_is_silent}
use Rattle.mq_laws.proofs.schedules.a_round_leaves_nothing_due.Goals as goal

-- the last member query interval isn't 0
positive : (c : goal.After-is_in_range) (timing : Variables) → timing ≡ c.args.timing → 0 < timing.last_member_interval
positive c timing is = omega (arith, c.is_in_range.ensures.last_member_interval.at_least, ap (λ (t : Variables). t.last_member_interval) is)

pub returns-clause-later : goal.returns-clause-later
returns-clause-later c r is = quiet_after_round r.timing r.now r.before (positive c r.timing is)

pub returns-clause-silent : goal.returns-clause-silent
returns-clause-silent c r is =
    quiet_is_silent r.per_query r.timing r.now r.address (state_after r) (quiet_after_round r.timing r.now r.before (positive c r.timing is))
