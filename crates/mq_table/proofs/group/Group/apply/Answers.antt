use Rattle.mq_table.proofs.Common.{◌+◌, ◌∙◌, sym, subst, IsSome, List, Result, Ok, Err, ap, refl, arith, filter_map, merged_lists, Rule, Source, mode_after}
use Rattle.mq_table.proofs.Common.{number_in, named_in, size_of, source_made, GroupState, timer_at}
use Rattle.std.specs.Result.{OnErr}
use Rattle.mq_table.proofs.{TableRows.asked_is_held, SourceLists.len-timers_in}
use Rattle.mq_table.proofs.Changed.{made_ascends, asked_ascends, recorded_group, recorded_query, recorded_query_group}
use Rattle.mq_table.proofs.group.Group.apply.Goals as goal

-- a fact that holds also holds after an error
on_error : {T E P : Type 0} (r : Result T E) → P → OnErr r P
on_error (Ok x) p = tt
on_error (Err e) p = p

pub invariant_of-result : goal.invariant_of-result
invariant_of-result g c =
    let up = rw c.as_slice.ensures.members at c.as_slice.ensures.ascending in
    rw (rw (c.as_slice-held.ensures.value, c.as_slice.ensures.members) at c.in_ok-push_changes.ensures.sources)
    (made_ascends g.K.Key.number _ c.self.inside.sources.items c.args.named.now.members c.self.invariant up)

pub returns-clause-ascending : goal.returns-clause-ascending
returns-clause-ascending g c =
    let up = rw c.as_slice.ensures.members at c.as_slice.ensures.ascending in
    rw (rw (c.as_slice-held.ensures.value, c.as_slice.ensures.members) at c.in_ok-push_changes.ensures.asked)
    (asked_ascends g.K.Key.number _ c.self.inside.sources.items c.args.named.now.members c.self.invariant up)

pub returns-clause-group : goal.returns-clause-group
returns-clause-group g c =
    let up = rw c.as_slice.ensures.members at c.as_slice.ensures.ascending in
    let end = c.after.ensures.later ∙ ap (λ n. c.args.now + n) c.membership_interval.ensures in
    recorded_group g.K.Key.number c.args.timing.now c.args.now c.self.inside.mode c.args.kind c.self.inside.v1 c.self.inside.v2
    c.self.inside.sources.items c.args.named.now.members c.self.invariant up
    c.args.self.now.state c.after.result end (ap (λ s. s.state) c.self.view_is)
    c.mode_after.result c.push_changes.new.sources.items c.mode_after.ensures
    (rw (c.as_slice-held.ensures.value, c.as_slice.ensures.members) at c.in_ok-push_changes.ensures.sources)

pub returns-clause-query : goal.returns-clause-query
returns-clause-query g c =
    let up = rw c.as_slice.ensures.members at c.as_slice.ensures.ascending in
    let end = c.after.ensures.later ∙ ap (λ n. c.args.now + n) c.membership_interval.ensures in
    recorded_query g.K.Key.number c.args.timing.now c.args.now c.self.inside.mode c.args.kind c.self.inside.v1 c.self.inside.v2
    c.self.inside.sources.items c.args.named.now.members c.self.invariant up
    c.args.self.now.state c.after.result end (ap (λ s. s.state) c.self.view_is)
    c.push_changes.new.asked.items (rw (c.as_slice-held.ensures.value, c.as_slice.ensures.members) at c.in_ok-push_changes.ensures.asked)

pub returns-clause-query_group : goal.returns-clause-query_group
returns-clause-query_group g c =
    let up = rw c.as_slice.ensures.members at c.as_slice.ensures.ascending in
    let end = c.after.ensures.later ∙ ap (λ n. c.args.now + n) c.membership_interval.ensures in
    recorded_query_group g.K.Key.number c.args.timing.now c.args.now c.self.inside.mode c.args.kind c.self.inside.v1 c.self.inside.v2
    c.self.inside.sources.items c.args.named.now.members c.self.invariant up
    c.args.self.now.state c.after.result end (ap (λ s. s.state) c.self.view_is)
    c.asks_group.result c.asks_group.ensures

pub returns-clause-compares : goal.returns-clause-compares
returns-clause-compares g c =
    rw (← c.self.view_is, len-timers_in g.K.Key.number c.self.inside.sources.items c.self.invariant)
    (rw (c.as_slice-held.ensures.value, c.as_slice.ensures.members) at c.in_ok-push_changes.ensures.compares)

pub returns-clause-compares_at_most : goal.returns-clause-compares_at_most
returns-clause-compares_at_most g c =
    rw (← c.self.view_is, len-timers_in g.K.Key.number c.self.inside.sources.items c.self.invariant)
    (rw (c.as_slice-held.ensures.value, c.as_slice.ensures.members) at c.in_ok-push_changes.ensures.compares_at_most)

pub returns-in_err-push_changes-clause-compares_at_most : goal.returns-in_err-push_changes-clause-compares_at_most
returns-in_err-push_changes-clause-compares_at_most g c =
    rw (← c.self.view_is, len-timers_in g.K.Key.number c.self.inside.sources.items c.self.invariant)
    (rw (c.as_slice-held.ensures.value, c.as_slice.ensures.members) at c.in_err-push_changes.ensures.compares_at_most)

pub returns-in_err-push_changes-clause-memory : goal.returns-in_err-push_changes-clause-memory
returns-in_err-push_changes-clause-memory g c =
    let up = rw c.as_slice.ensures.members at c.as_slice.ensures.ascending in
    let end = c.after.ensures.later ∙ ap (λ n. c.args.now + n) c.membership_interval.ensures in
    let number = g.K.Key.number in
    let rule : Rule = record { kind = c.args.kind; mode = c.self.inside.mode; interval_end = c.after.result } in
    let left : List (Source g.row.K.Denot) = filter_map (source_made rule)
    (merged_lists (number_in number) number c.self.inside.sources.items c.args.named.now.members) in
    let some = rw (c.as_slice-held.ensures.value, c.as_slice.ensures.members) at c.in_err-push_changes.ensures.memory in
    let same = recorded_group g.K.Key.number c.args.timing.now c.args.now c.self.inside.mode c.args.kind c.self.inside.v1 c.self.inside.v2
    c.self.inside.sources.items c.args.named.now.members c.self.invariant up c.args.self.now.state c.after.result end
    (ap (λ s. s.state) c.self.view_is) (mode_after c.after.result c.self.inside.mode c.args.kind) left refl refl in
    let size = len-timers_in number left (made_ascends number rule c.self.inside.sources.items c.args.named.now.members c.self.invariant up) in
    on_error c.from_residual.result (omega (arith, some, ap size_of same, size))

pub returns-clause-held : goal.returns-clause-held
returns-clause-held g c s is_asked =
    let P : GroupState → Type 0 = λ g. IsSome (timer_at g s) in
    subst P (sym (returns-clause-group g c))
    (asked_is_held c.args.timing.now c.args.now c.args.self.now.state c.args.kind (named_in g.K.Key.number c.args.named.now.members) s
    (sym (returns-clause-query g c s) ∙ is_asked))
