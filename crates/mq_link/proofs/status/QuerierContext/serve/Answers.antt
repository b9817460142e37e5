use Rattle.mq_link.proofs.Common.{◌≤◌, sym, ap, ◌∙◌, arith, Spends-join_within, filter_of, size_of, ScheduledGroup}
use Rattle.mq_link.proofs.{Bounds.expired_size, KeptFilters.alike_after, KeptFilters.round_keeps_filter}
use Rattle.mq_link.proofs.status.QuerierContext.serve.Goals as goal

-- the round keeps the filter that the end of the timers leaves
pub returns-clause-changes : goal.returns-clause-changes
returns-clause-changes g c =
    let ended : ScheduledGroup = record { group = c.expire-changes.new.self.state; schedule = c.settle.new.self } in
    let same = ap (λ (e : ScheduledGroup). filter_of e.group) c.round.ensures.after ∙ round_keeps_filter c.args.self.now.timing c.args.self.now.moment ended in
    c.expire-changes.ensures.changes_filter ∙ sym (alike_after c.args.group.now.state c.round.new.group.state ended.group same)

pub returns-clause-spent : goal.returns-clause-spent
returns-clause-spent g c =
    let size = ap size_of c.expire-changes.ensures.state in
    let fewer : _ ≤ size_of c.args.group.now.state = expired_size c.args.self.now.moment c.args.group.now.state in
    Spends-join_within _ _ c.expire-changes.ensures.spent c.round.ensures.spent (omega arith) (omega arith)
