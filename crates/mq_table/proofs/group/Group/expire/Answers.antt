use Rattle.mq_table.proofs.Common.{Some, sym, ap, ◌∙◌, not, arith, beq, Spends-join, Spends-within, moments-few, IsAscending-filter_map, deadline_of}
use Rattle.mq_table.proofs.Common.{FilterMode, is_include, source_left, number_in}
use Rattle.mq_table.proofs.{SourceLists.len-timers_in, Ended.left_keeps, Ended.expired_of, EndedFilters.expired_changes}
use Rattle.mq_table.proofs.group.Group.expire.Goals as goal

pub invariant_of-self : goal.invariant_of-self
invariant_of-self g c =
    let number = number_in g.K.Key.number in
    let mode = c.mode_left-mode.result in
    rw c.leave_sources-ran_out.ensures.items
    (IsAscending-filter_map number number (source_left mode c.args.now)
    (left_keeps g.K.Key.number mode c.args.now) c.self.inside.sources.items c.self.invariant)

pub returns-clause-state : goal.returns-clause-state
returns-clause-state g c =
    expired_of g.K.Key.number c.args.now c.self.inside.mode c.self.inside.v1 c.self.inside.v2 c.self.inside.sources.items c.self.invariant
    c.args.self.now.state (ap (λ s. s.state) c.self.view_is)
    c.mode_left-mode.result c.leave_sources-ran_out.new.sources.items c.still_ahead-self-inside.result c.still_ahead-self-inside-2.result
    c.let_go_if_vacant.new.self.state
    c.mode_left-mode.ensures.mode c.leave_sources-ran_out.ensures.items c.still_ahead-self-inside.ensures.ahead
    c.still_ahead-self-inside-2.ensures.ahead c.let_go_if_vacant.ensures.state

pub returns-clause-spent : goal.returns-clause-spent
returns-clause-spent g c =
    let few = moments-few (λ x. deadline_of (Some x.timer)) c.self.inside.sources.items in
    let all = Spends-join
    (Spends-join (Spends-join c.mode_left-mode.ensures.spent c.leave_sources-ran_out.ensures.spent) c.still_ahead-self-inside.ensures.spent)
    c.still_ahead-self-inside-2.ensures.spent in
    rw (← c.self.view_is, len-timers_in g.K.Key.number c.self.inside.sources.items c.self.invariant) (Spends-within 0 _ all (omega arith) (omega (arith, few)))

pub returns-clause-changes_filter : goal.returns-clause-changes_filter
returns-clause-changes_filter g c =
    sym (expired_changes g.K.Key.number c.args.now c.self.inside.mode c.self.inside.v1 c.self.inside.v2 c.self.inside.sources.items c.self.invariant
    c.args.self.now.state (ap (λ s. s.state) c.self.view_is)
    c.leave_sources-ran_out.result c.is_unlike-ends.result c.let_go_if_vacant.new.self.state
    (returns-clause-state g c) c.leave_sources-ran_out.ensures.ran_out
    (c.is_unlike-ends.ensures ∙ ap (λ (m : FilterMode). not (beq (is_include c.self.inside.mode) (is_include m))) c.mode_left-mode.ensures.mode))
