use Rattle.mq_laws.proofs.Common.{◌<◌, ap, arith, Variables}
use Rattle.mq_sched.proofs.Electing.{later_moment}
use Rattle.mq_laws.proofs.schedules.a_tick_leaves_nothing_due.Goals as goal

pub returns : goal.returns
returns c now e is =
    let configured : 0 < c.args.configured.query_seconds = omega (arith, c.is_in_range.ensures.query_seconds.at_least) in
    let in_force : 0 < e.timing.query_seconds = omega (arith, c.is_in_range-2.ensures.query_seconds.at_least, ap (λ (t : Variables). t.query_seconds) is) in
    later_moment c.args.configured now e configured in_force
