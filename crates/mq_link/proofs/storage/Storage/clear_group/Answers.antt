use Rattle.mq_link.proofs.Common.{◌≡◌, sym, ap, ◌∙◌, arith, Spends-within, ScheduleState, ScheduledGroup, no_schedule, cleared, sources_of}
use Rattle.std.specs.FinMap as map
use Rattle.mq_link.proofs.{ClearedGroups.none_of, ClearedGroups.left_alone, ClearedGroups.cleared_held, ClearedGroups.cleared_size, GroupNumbers.number_found}
use Rattle.mq_link.proofs.{KeptGroups.kept_held, Moved.paid_none, Moved.paid_within}
use Rattle.mq_link.proofs.storage.Storage.clear_group.Goals as goal

pub load-schedule-requires-clause-room : goal.load-schedule-requires-clause-room
load-schedule-requires-clause-room g c address has = (c.requires.served address has).room_for

pub put-requires-clause-held : goal.put-requires-clause-held
put-requires-clause-held g c not_vacant =
    let has = number_found c.args.self.now.held c.args.number c.requires.number in
    let before : ScheduledGroup = record { group = c.load-schedule.new.into.state; schedule = c.load-schedule.result } in
    let left : ScheduledGroup = record { group = c.clear.new.group.state; schedule = c.clear.new.self } in
    cleared_held left before c.clear.ensures.cleared
    (rw (ap (λ (e : ScheduledGroup). e.group) (c.load-schedule.ensures.group _ has)) (c.requires.served _ has).held)

pub put-requires-clause-fits : goal.put-requires-clause-fits
put-requires-clause-fits g c address has =
    let before : ScheduledGroup = record { group = c.load-schedule.new.into.state; schedule = c.load-schedule.result } in
    let left : ScheduledGroup = record { group = c.clear.new.group.state; schedule = c.clear.new.self } in
    let loaded = ap sources_of (c.load-schedule.ensures.group address has) in
    omega (arith, cleared_size left before c.clear.ensures.cleared, loaded, c.lemma_sources_fit.ensures)

pub returns-then-is_some-clause-groups : goal.returns-then-is_some-clause-groups
returns-then-is_some-clause-groups g c address has =
    let left : ScheduledGroup = record { group = c.clear.new.group.state; schedule = c.clear.new.self } in
    let before : ScheduledGroup = record { group = c.load-schedule.new.into.state; schedule = c.load-schedule.result } in
    let held = cleared_held left before c.clear.ensures.cleared (rw (ap (λ (e : ScheduledGroup). e.group) (c.load-schedule.ensures.group address has))
    (c.requires.served address has).held) in
    c.put.ensures.groups address has
    ∙ ap (map.insert c.args.self.now.held.groups address)
    (kept_held left held ∙ c.clear.ensures.cleared ∙ ap cleared (c.load-schedule.ensures.group address has))

pub returns-then-is_some-clause-spent : goal.returns-then-is_some-clause-spent
returns-then-is_some-clause-spent g c address has =
    let before : ScheduledGroup = record { group = c.load-schedule.new.into.state; schedule = c.load-schedule.result } in
    let left : ScheduledGroup = record { group = c.clear.new.group.state; schedule = c.clear.new.self } in
    let loaded = ap sources_of (c.load-schedule.ensures.group address has) in
    let fewer = cleared_size left before c.clear.ensures.cleared in
    Spends-within _ _ c.put.ensures.spent (omega arith) (omega (arith, fewer, loaded))

pub returns-then-is_some-clause-moved : goal.returns-then-is_some-clause-moved
returns-then-is_some-clause-moved g c address has =
    let before : ScheduledGroup = record { group = c.load-schedule.new.into.state; schedule = c.load-schedule.result } in
    let left : ScheduledGroup = record { group = c.clear.new.group.state; schedule = c.clear.new.self } in
    let loaded = ap sources_of (c.load-schedule.ensures.group address has) in
    let fewer = cleared_size left before c.clear.ensures.cleared in
    paid_within _ c.put.ensures.moved (omega (arith, fewer, loaded))

pub returns-else-is_some-2-clause-groups : goal.returns-else-is_some-2-clause-groups
returns-else-is_some-2-clause-groups g c address has =
    let schedule = c.load-schedule.result in
    let query = none_of schedule.group_query (ap Rattle.std.specs.Option.is_some (sym c.group_query.ensures) ∙ sym c.is_some.ensures ∙ c.if-is_some.false) in
    let sources = none_of schedule.sources_due (ap Rattle.std.specs.Option.is_some (sym c.sources_due.ensures) ∙ sym c.is_some-else-is_some.ensures ∙
    c.if-is_some-2.false) in
    let silent : ◌≡◌ {A = ScheduleState} schedule no_schedule = λ i. record { group_query = query i; sources_due = sources i } in
    left_alone c.args.self.now.held.groups c.args.group.now.room address (c.lemma_is_numbered.ensures.of_one _ _ has) (c.requires.served address has)
    (ap (λ (e : ScheduledGroup). e.schedule) (sym (c.load-schedule.ensures.group address has)) ∙ silent)

pub returns-else-is_some-2-clause-moved : goal.returns-else-is_some-2-clause-moved
returns-else-is_some-2-clause-moved g c address has = paid_within _ (paid_none _ _) (omega arith)
