use Rattle.mq_link.proofs.Common.{◌+◌, ◌*◌, sym, ap, ◌∙◌, subst, arith, option_map, Spends-join_within, ScheduledGroup, messages_due, Sends, bitlen, group_at}
use Rattle.mq_link.proofs.Common.{sources_of, changes_filter, group_expired}
use Rattle.std.specs.FinMap as map
use Rattle.mq_link.proofs.{Moved.paid_within, ServedGroups.served_held, ServedGroups.served_size, TickedFilters.named_where, TickedFilters.put_changes}
use Rattle.mq_link.proofs.storage.Storage.tick_group.Goals as goal

pub put-requires-clause-held : goal.put-requires-clause-held
put-requires-clause-held g c not_vacant =
    let before : ScheduledGroup = record { group = c.load-schedule.new.into.state; schedule = c.load-schedule.result } in
    let left : ScheduledGroup = record { group = c.serve-changes.new.group.state; schedule = c.serve-changes.new.schedule } in
    served_held c.args.at.now.timing c.args.at.now.moment before left c.serve-changes.ensures.left not_vacant

pub put-requires-clause-fits : goal.put-requires-clause-fits
put-requires-clause-fits g c address has =
    let left = ap sources_of c.serve-changes.ensures.left in
    let loaded = ap sources_of (c.load-schedule.ensures.group address has) in
    let fewer = served_size c.args.at.now.timing c.args.at.now.moment (record { group = c.load-schedule.new.into.state; schedule = c.load-schedule.result }) in
    omega (arith, left, loaded, fewer, c.lemma_sources_fit.ensures)

pub returns-clause-changed : goal.returns-clause-changed
returns-clause-changed g c address has =
    let same = c.lemma_is_numbered.ensures.same _ address _ c.address-address.ensures.address has in
    let loaded = ap (λ (e : ScheduledGroup). changes_filter e.group c.serve-changes.new.group.state) (c.load-schedule.ensures.group address has) in
    let left : ScheduledGroup = record { group = c.serve-changes.new.group.state; schedule = c.serve-changes.new.schedule } in
    let put = put_changes c.args.self.now.held.groups c.put.new.self.held.groups address left (c.put.ensures.groups address has) in
    ap (option_map g.K.Key.number) c.then_some.ensures
    ∙ named_where g.K.Key.number c.address-address.result address c.serve-changes.result _ same (c.serve-changes.ensures.changes ∙ loaded ∙ sym put)

pub returns-clause-sent : goal.returns-clause-sent
returns-clause-sent g c address has =
    let same = c.lemma_is_numbered.ensures.same _ address _ c.address-address.ensures.address has in
    subst (λ queries. Sends g.S.Sink.takes c.args.sink.now queries c.serve-changes.new.sink)
    (λ i. messages_due g.K.WireKey.PER_QUERY c.args.at.now.timing c.args.at.now.moment (same i)
    (group_expired c.args.at.now.moment (c.load-schedule.ensures.group address has i)))
    c.serve-changes.ensures.sent

pub returns-clause-spent : goal.returns-clause-spent
returns-clause-spent g c address has =
    let left = ap sources_of c.serve-changes.ensures.left in
    let loaded = ap sources_of (c.load-schedule.ensures.group address has) in
    let fewer = served_size c.args.at.now.timing c.args.at.now.moment (record { group = c.load-schedule.new.into.state; schedule = c.load-schedule.result }) in
    Spends-join_within _ _ c.serve-changes.ensures.spent c.put.ensures.spent (omega arith) (omega (arith, left, loaded, fewer))

pub returns-clause-moved : goal.returns-clause-moved
returns-clause-moved g c address has =
    let left = ap sources_of c.serve-changes.ensures.left in
    let loaded = ap sources_of (c.load-schedule.ensures.group address has) in
    let fewer = served_size c.args.at.now.timing c.args.at.now.moment (record { group = c.load-schedule.new.into.state; schedule = c.load-schedule.result }) in
    let most = 5 * sources_of (group_at c.args.self.now.held.groups address) + 5 + bitlen (map.len c.args.self.now.held.groups) in
    paid_within most c.put.ensures.moved (omega (arith, left, loaded, fewer))
