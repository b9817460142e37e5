use Rattle.mq_check.proofs.Common.{◌≡◌, ℕ, None, false, ap, sym, ◌∙◌, Groups}
use Rattle.mq_table.specs.Group.{deadline_of, timer_at}
use Rattle.mq_sched.specs.Schedule.{ScheduledGroup}
use Rattle.mq_link.{specs.State.group_at, proofs.KeptGroups.absent_unheld}
use Rattle.std.specs.FinMap as map
use Rattle.mq_check.proofs.standing.source_timer.Goals as goal

-- no timer runs in a group that isn't held
none_runs : (groups : Groups) (group source : ℕ) → map.contains_key groups group ≡ false → deadline_of (timer_at (group_at groups group).group source) ≡ None
none_runs groups group source absent = ap (λ (e : ScheduledGroup). deadline_of (timer_at e.group source)) (absent_unheld groups group absent) ∙
    ap deadline_of (map.get-empty _ source)

pub returns-in-None : goal.returns-in-None
returns-in-None g c = sym (none_runs _ _ (g.F.Address.Key.number c.args.source) (sym c.in-None.ensures.held))
