use Rattle.mq_table.proofs.Common.{◌≡◌, ◌+◌, length, vec_capacity, IsSome, ap, refl, sym, subst, ◌∙◌, arith, filter_map, IsAscending, merged_lists}
use Rattle.mq_table.proofs.Common.{membership_interval, number_in, named_in, state_of, timers_in, source_made, source_asked, LooksByHalves, GroupState}
use Rattle.mq_table.proofs.Common.{timer_at, is_include, not, beq}
use Rattle.mq_table.proofs.TableRows.{asked_is_held}
use Rattle.mq_table.proofs.Changed.{made_ascends, asked_ascends, recorded_group, recorded_query, recorded_query_group, recorded_filter}
use Rattle.mq_table.proofs.group.Group.load_changed.Given.{Over}
use Rattle.mq_table.proofs.group.Group.load_changed.Goals as goal

pub push_within-turned-requires-clause-room : goal.push_within-turned-requires-clause-room
push_within-turned-requires-clause-room g c =
    let room : vec_capacity c.self.inside.sources ≡ c.args.self.now.room = ap (λ s. s.room) c.self.view_is in
    omega (arith, room, c.requires.room, c.clear.ensures.capacity, ap length c.as_slice.ensures.members)

pub push_within-turned-requires-clause-asked_room : goal.push_within-turned-requires-clause-asked_room
push_within-turned-requires-clause-asked_room g c =
    omega (arith, c.requires.asked_room, c.clear-2.ensures.capacity, ap length c.as_slice.ensures.members)

-- the timers run up to the group membership interval from now
interval_end : (g : Over) (c : goal.After-is_unlike g) → c.after.result ≡ c.args.now + membership_interval c.args.timing.now
interval_end g c = c.after.ensures.later ∙ ap (λ n. c.args.now + n) c.membership_interval.ensures

-- the pushed sources
made : (g : Over) (c : goal.After-is_unlike g) → c.push_within-turned.new.sources.items
    ≡ filter_map (source_made (record { kind = c.args.kind; mode = c.args.head.now.mode; interval_end = c.after.result }))
    (merged_lists (number_in g.K.Key.number) g.K.Key.number c.args.row.now c.args.named.now.members)
made g c = rw c.as_slice.ensures.members at c.push_within-turned.ensures.sources

asked : (g : Over) (c : goal.After-is_unlike g) → c.push_within-turned.new.asked.items
    ≡ filter_map (source_asked (record { kind = c.args.kind; mode = c.args.head.now.mode; interval_end = c.after.result }))
    (merged_lists (number_in g.K.Key.number) g.K.Key.number c.args.row.now c.args.named.now.members)
asked g c = rw c.as_slice.ensures.members at c.push_within-turned.ensures.asked

named_ascends : (g : Over) (c : goal.After-is_unlike g) → IsAscending g.K.Key.number c.args.named.now.members
named_ascends g c = rw c.as_slice.ensures.members at c.as_slice.ensures.ascending

pub invariant_of-self : goal.invariant_of-self
invariant_of-self g c = rw (made g c) (made_ascends g.K.Key.number _ c.args.row.now c.args.named.now.members c.requires.row_ascending (named_ascends g c))

pub returns-clause-ascending : goal.returns-clause-ascending
returns-clause-ascending g c =
    rw (asked g c) (asked_ascends g.K.Key.number _ c.args.row.now c.args.named.now.members c.requires.row_ascending (named_ascends g c))

pub returns-clause-group : goal.returns-clause-group
returns-clause-group g c =
    recorded_group g.K.Key.number c.args.timing.now c.args.now c.args.head.now.mode c.args.kind c.args.head.now.v1 c.args.head.now.v2 c.args.row.now
    c.args.named.now.members c.requires.row_ascending (named_ascends g c)
    (state_of c.args.head.now (timers_in g.K.Key.number c.args.row.now)) c.after.result (interval_end g c) refl
    c.mode_after-self-inside.result c.push_within-turned.new.sources.items c.mode_after-self-inside.ensures (made g c)

pub returns-clause-query : goal.returns-clause-query
returns-clause-query g c =
    recorded_query g.K.Key.number c.args.timing.now c.args.now c.args.head.now.mode c.args.kind c.args.head.now.v1 c.args.head.now.v2 c.args.row.now
    c.args.named.now.members c.requires.row_ascending (named_ascends g c)
    (state_of c.args.head.now (timers_in g.K.Key.number c.args.row.now)) c.after.result (interval_end g c) refl
    c.push_within-turned.new.asked.items (asked g c)

pub returns-clause-query_group : goal.returns-clause-query_group
returns-clause-query_group g c =
    recorded_query_group g.K.Key.number c.args.timing.now c.args.now c.args.head.now.mode c.args.kind c.args.head.now.v1 c.args.head.now.v2
    c.args.row.now c.args.named.now.members c.requires.row_ascending (named_ascends g c)
    (state_of c.args.head.now (timers_in g.K.Key.number c.args.row.now)) c.after.result (interval_end g c) refl
    c.asks_group.result c.asks_group.ensures

pub returns-clause-spent : goal.returns-clause-spent
returns-clause-spent g c = rw c.as_slice.ensures.members at c.push_within-turned.ensures.compares

pub returns-clause-by_halves : goal.returns-clause-by_halves
unfolding LooksByHalves
returns-clause-by_halves g c = λ one kept. c.push_within-turned.ensures.by_halves (ap length c.as_slice.ensures.members ∙ one) kept

pub returns-clause-held : goal.returns-clause-held
returns-clause-held g c s is_asked =
    let P : GroupState → Type 0 = λ g. IsSome (timer_at g s) in
    subst P (sym (returns-clause-group g c))
    (asked_is_held c.args.timing.now c.args.now (state_of c.args.head.now (timers_in g.K.Key.number c.args.row.now)) c.args.kind
    (named_in g.K.Key.number c.args.named.now.members) s (sym (returns-clause-query g c s) ∙ is_asked))

pub returns-clause-changes_filter : goal.returns-clause-changes_filter
returns-clause-changes_filter g c =
    sym (recorded_filter g.K.Key.number c.args.timing.now c.args.now c.args.head.now.mode c.args.kind c.args.head.now.v1 c.args.head.now.v2
    c.args.row.now c.args.named.now.members c.requires.row_ascending (named_ascends g c)
    (state_of c.args.head.now (timers_in g.K.Key.number c.args.row.now)) c.after.result (interval_end g c) refl
    c.mode_after-self-inside.result c.push_within-turned.new.sources.items c.push_within-turned.result c.is_unlike.result
    c.mode_after-self-inside.ensures (made g c)
    (rw c.as_slice.ensures.members at c.push_within-turned.ensures.turned)
    (c.is_unlike.ensures ∙ ap (λ m. not (beq (is_include c.args.head.now.mode) (is_include m))) c.mode_after-self-inside.ensures))
