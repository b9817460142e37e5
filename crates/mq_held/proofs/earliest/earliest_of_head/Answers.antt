use Rattle.mq_held.proofs.Common.{group_deadline, group_due, arith, Spends-join, Spends-within}
use Rattle.mq_held.proofs.{HeldMoments.earliest-five, MomentCounts.compared-five}
use Rattle.mq_held.proofs.earliest.earliest_of_head.Goals as goal

pub returns-clause-earliest : goal.returns-clause-earliest
returns-clause-earliest c =
    let five = earliest-five (group_deadline c.args.mode) c.args.v1 c.args.v2 (group_due c.args.schedule.group_query) c.args.schedule.sources_due in
    rw (
      c.earlier.ensures.earliest,
      c.earlier-timers.ensures.earliest,
      c.earlier-hosts.ensures.earliest,
      c.earlier-queries.ensures.earliest,
      c.deadline.ensures,
      c.group_due.ensures,
      c.group_query.ensures,
      c.sources_due.ensures,
    ) five

pub returns-clause-compared : goal.returns-clause-compared
returns-clause-compared c =
    let joined = Spends-join
    (Spends-join (Spends-join c.earlier-hosts.ensures.compared c.earlier-timers.ensures.compared) c.earlier-queries.ensures.compared)
    c.earlier.ensures.compared in
    let five = compared-five (group_deadline c.args.mode) c.args.v1 c.args.v2 (group_due c.args.schedule.group_query) c.args.schedule.sources_due in
    let told = rw (
      c.earlier-timers.ensures.earliest,
      c.earlier-hosts.ensures.earliest,
      c.earlier-queries.ensures.earliest,
      c.deadline.ensures,
      c.group_due.ensures,
      c.group_query.ensures,
      c.sources_due.ensures,
    ) at joined in
    Spends-within _ _ told (omega (arith, five)) (omega (arith, five))
