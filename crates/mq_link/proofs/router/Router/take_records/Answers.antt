use Rattle.mq_link.proofs.Common.{◌≡◌, ◌+◌, ◌*◌, ◌≤◌, ◌||◌, length, refl, sym, ap, ◌∙◌, subst, arith, list_map, sum_by, Spends, Spends-join_within, HeldState}
use Rattle.mq_link.proofs.Common.{own_cost, AreThose, changed_by_all, least_all, IsPaid, own_moves, with_outcomes, all_judged, HasReceipt, RouterValue}
use Rattle.mq_link.proofs.Common.{router_of, silent_step, state_of, met_in, AreSound, Groups, sources_in, HasSpace, KeepsRoom, put_by_rows, WorkspaceState}
use Rattle.mq_link.proofs.Common.{with_changed}
use Rattle.std.specs.FinMap as map
use Rattle.mq_link.proofs.{GrownGroups.all_judged_grow, LinkStored.stored_next, ListedGroups.few_inside, ListedGroups.listed_within}
use Rattle.mq_link.proofs.{ListedGroups.numbers_marked, Moved.paid_join, Rooms.enough_groups, Rooms.enough_room, Rooms.room_on, Rooms.workspace_next}
use Rattle.mq_link.proofs.{RouterSteps.enough_inside}
use Rattle.mq_link.proofs.router.Router.take_records.Given.{Over}
use Rattle.mq_link.proofs.router.Router.take_records.Goals as goal

pub take_each-received-requires-clause-room : goal.take_each-received-requires-clause-room
take_each-received-requires-clause-room g c =
    let enough = enough_inside c.self.view_is c.work.view_is c.requires.enough in
    enough_room c.self.inside.status.config.room _ _ enough _ c.work.invariant

pub list_changed-requires-clause-room : goal.list_changed-requires-clause-room
list_changed-requires-clause-room g c =
    let enough = enough_inside c.self.view_is c.work.view_is c.requires.enough in
    let room = enough_room c.self.inside.status.config.room _ _ enough _ c.work.invariant in
    let left = c.take_each-received.ensures in
    omega (arith, room.changed, left.room.changed, left.rooms.groups, c.self.invariant.group_room)

-- the marks are as many as the groups of the workspace
marks : (g : Over) (c : goal.After-list_changed g) → length c.take_each-received.new.work.changed ≡ c.work.inside.groups
marks g c = c.take_each-received.ensures.room.changed ∙ c.work.invariant.marks

pub list_changed-requires-clause-space : goal.list_changed-requires-clause-space
list_changed-requires-clause-space g c =
    subst (λ n. HasSpace n c.work.inside.lists) (sym (c.take_each-received.ensures.room.changed ∙ c.work.invariant.marks)) c.work.invariant.list_room

pub list_changed-requires-clause-few : goal.list_changed-requires-clause-few
list_changed-requires-clause-few g c =
    let enough = enough_inside c.self.view_is c.work.view_is c.requires.enough in
    let limits = ap (λ (r : RouterValue). r.at.config.room.groups) c.self.view_is in
    let few = few_inside g.F.Address.Key.number c.work.inside.lists _ _ _ c.work.view_is refl c.requires.few_changed in
    omega (arith, few, limits, enough_groups c.self.inside.status.config.room _ _ enough, c.take_each-received.ensures.room.changed, c.work.invariant.marks)

pub list_changed-requires-clause-marked : goal.list_changed-requires-clause-marked
list_changed-requires-clause-marked g c = numbers_marked _ _ _ c.take_each-received.ensures.changed

pub list_changed-requires-clause-ascending : goal.list_changed-requires-clause-ascending
list_changed-requires-clause-ascending g c = c.work.invariant.ascending

pub invariant_of-self : goal.invariant_of-self
invariant_of-self g c =
    let parts = c.self.inside in
    let left = c.take_each-received.ensures in
    let held = c.list_changed.ensures.held in
    stored_next parts.status parts.status parts.storage c.list_changed.new.self c.self.invariant refl
    (subst (AreSound parts.status) (ap (λ (h : HeldState). h.groups) (sym held)) left.sound)
    (record {
      groups = ap (λ (h : HeldState). h.order.room) held ∙ left.rooms.groups;
      sources = ap (λ (h : HeldState). h.source_room) held ∙
          left.rooms.sources;
    })

pub invariant_of-work : goal.invariant_of-work
invariant_of-work g c =
    let taken = c.take_each-received.new.work in
    let listed = c.list_changed.ensures in
    let cleared : KeepsRoom taken (record taken { met = c.clear.new.self; changed = c.list_changed.new.marks }) =
    record { group = omega arith; named = refl; asked = omega arith; met = c.clear.ensures.room; changed = listed.len } in
    let enough = enough_inside c.self.view_is c.work.view_is c.requires.enough in
    let limits = ap (λ (r : RouterValue). r.at.config.room.groups) c.self.view_is in
    let few = few_inside g.F.Address.Key.number c.work.inside.lists _ _ _ c.work.view_is refl c.requires.few_changed in
    workspace_next _ _ _ c.work.invariant (room_on c.take_each-received.ensures.room cleared)
    (subst (λ n. HasSpace n c.list_changed.new.lists) (marks g c) listed.space) c.clear.ensures.none listed.none listed.ascending
    (omega (arith, listed.count, few, limits, enough_groups c.self.inside.status.config.room _ _ enough, marks g c))

pub returns-clause-receipt : goal.returns-clause-receipt
returns-clause-receipt g c =
    let parts = c.self.inside in
    let left = c.take_each-received.new in
    let did = c.take_each-received.ensures.outcomes in
    let after = router_of parts.status c.list_changed.new.self left.counts in
    let groups = ap (λ (h : HeldState). h.groups) c.list_changed.ensures.held ∙ did.groups_are in
    subst (λ (r : RouterValue). HasReceipt g.S.Sink.takes
    (with_outcomes (silent_step (state_of r)) (all_judged r.at map.empty c.args.records.now r.groups)) c.take_each-received.result r after
    c.args.sink.now left.sink) c.self.view_is (record {
      step = record {
        leaves = record {
          config = refl;
          state_is = λ i. record { groups = groups i; election = parts.status.election; last = parts.status.now; counters = did.counters_are i };
        };
        sent = did.sent;
      };
      answer_is = did.answer_is;
    })

pub returns-clause-workspace : goal.returns-clause-workspace
returns-clause-workspace g c = λ i. with_changed (c.work.view_is i) (list_map g.F.Address.Key.number c.list_changed.new.lists.changed.items)

pub returns-clause-changed : goal.returns-clause-changed
returns-clause-changed g c by_tick those =
    let before = subst (λ (w : WorkspaceState). AreThose by_tick w.changed) (sym c.work.view_is) those in
    let listed = list_map g.F.Address.Key.number c.list_changed.new.lists.changed.items in
    subst (λ (r : RouterValue). AreThose (λ address. by_tick address || changed_by_all r.at map.empty c.args.records.now r.groups address) listed)
    c.self.view_is
    (c.list_changed.ensures.changed by_tick _ before c.take_each-received.ensures.changed)

pub returns-clause-spent : goal.returns-clause-spent
returns-clause-spent g c =
    let groups = c.self.inside.storage.held.groups in
    let records = c.args.records.now in
    let few = few_inside g.F.Address.Key.number c.work.inside.lists _ _ (length c.args.work.now.changed) c.work.view_is refl (omega arith) in
    let spent = Spends-join_within (least_all c.self.inside.status map.empty records groups)
    (24 * sources_in groups + sum_by own_cost records + (length c.args.work.now.changed + 7 * length records)) c.take_each-received.ensures.spent
    c.list_changed.ensures.spent (omega arith) (omega (arith, few, c.take_each-received.ensures.few_changed)) in
    subst (λ (r : RouterValue). Spends (least_all r.at map.empty records r.groups)
    (24 * sources_in r.groups + sum_by own_cost records + (length c.args.work.now.changed + 7 * length records)) r.spent
    c.list_changed.new.self.meter) c.self.view_is spent

pub returns-clause-moved : goal.returns-clause-moved
returns-clause-moved g c =
    let parts = c.self.inside in
    let groups = parts.storage.held.groups in
    let records = c.args.records.now in
    let left = c.list_changed.new.self in
    let did = c.take_each-received.ensures in
    let grown : map.len c.take_each-received.new.storage.held.groups ≤ map.len groups + length records =
    subst (λ (m : Groups). map.len m ≤ map.len groups + length records) (sym did.outcomes.groups_are) (all_judged_grow parts.status map.empty records groups) in
    let within = listed_within (met_in c.take_each-received.new.work.changed) (length records) (map.len c.take_each-received.new.storage.held.groups)
    (map.len groups) did.few_changed grown in
    let moved = paid_join (24 * sources_in groups + sum_by own_moves records + (map.len groups + 65 * length records)) did.moved
    c.list_changed.ensures.moved (omega (arith, within)) in
    subst (λ (r : RouterValue). IsPaid (24 * sources_in r.groups + sum_by own_moves records + (map.len r.groups + 65 * length records)) r.put_by
    (put_by_rows left.held) r.moved left.moves) c.self.view_is moved
