use Rattle.mq_laws.proofs.Common.{◌≤◌, ◌+◌, Bool, ap, arith, true, false, keep_in}
use Rattle.mq_laws.proofs.Courses.{kept-long}
use Rattle.mq_laws.proofs.checks.queries_are_kept_for_these_times.Goals as goal

pub returns-clause-strict : goal.returns-clause-strict
returns-clause-strict c within timing flags is = ap (keep_in within timing) is

pub returns-clause-least : goal.returns-clause-least
returns-clause-least c = kept-long

pub returns-clause-most : goal.returns-clause-most
returns-clause-most c within timing flags = by_readings flags.strict
  where
    by_readings : (strict : Bool) → keep_in within timing strict ≤ within + timing.last_member_interval
    by_readings true = omega arith
    by_readings false = omega arith
