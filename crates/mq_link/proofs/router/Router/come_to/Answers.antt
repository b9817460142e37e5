use Rattle.mq_link.proofs.Common.{◌≡◌, ℕ, ◌+◌, ◌*◌, ◌<◌, max, true, false, Some, refl, ap, sym, ◌∙◌, subst, arith, list_map, length-map}
use Rattle.mq_link.proofs.Common.{Spends, Spends-join_within, Spends-within, ticked, ScheduledGroup, Sends, has_due, QuerierContext, Configuration}
use Rattle.mq_link.proofs.Common.{AreThose, changed_by_tick, changes, least_ticked}
use Rattle.mq_link.proofs.Common.{KeepsIntervals, IsPaid, most_moved_by_tick, Setting, HasStep, RouterValue, link_of, router_of, state_of, TakesQuery, begun}
use Rattle.mq_link.proofs.Common.{LinkState, cost_of, held_of, sources_in, HasSpace, put_by_rows, groups_after_round, groups_expired, moment_of, next_of}
use Rattle.mq_link.proofs.Common.{queries_due, tick_of, TickCosts, with_changed}
use Rattle.std.specs.FinMap as map
use Rattle.mq_link.proofs.{DueSent.due_sent, Faultless.timing_in_range, LinkStored.ready_in, LinkStored.stored_next, LinkStored.none_due, LinkTicked.HasDone}
use Rattle.mq_link.proofs.{LinkTicked.does_tick, LinkTicked.sound_after_tick, Moved.paid_moves, PaidEdits.put_by_few, Rooms.enough_groups, Rooms.enough_room}
use Rattle.mq_link.proofs.{Rooms.enough_space, Rooms.ready_counted, Rooms.still_space, Rooms.workspace_next, RouterSteps.enough_inside}
use Rattle.mq_link.proofs.{TickedFilters.ascending_keys}
use Rattle.mq_link.proofs.router.Router.come_to.Given.{Over}
use Rattle.mq_link.proofs.router.Router.come_to.Goals as goal
use Rattle.mq_link.proofs.router.Router.come_to.Goals.{After-tick_groups}

pub tick_groups-requires-clause-ready : goal.tick_groups-requires-clause-ready
tick_groups-requires-clause-ready g c =
    let inside = c.self.inside in
    let enough = enough_inside c.self.view_is c.work.view_is c.requires.enough in
    let room = enough_room inside.status.config.room _ _ enough _ c.work.invariant in
    ready_counted _ inside.storage c.tick-is_due.new.m
    (ready_in inside.status inside.storage c.lemma_is_sound.ensures.faultless c.self.invariant.sound c.self.invariant.within _ room.group)

pub tick_groups-requires-clause-space : goal.tick_groups-requires-clause-space
tick_groups-requires-clause-space g c =
    let inside = c.self.inside in
    let enough = enough_inside c.self.view_is c.work.view_is c.requires.enough in
    let space = enough_space inside.status.config.room _ _ enough _ c.work.invariant in
    let most = c.self.invariant.sound.within.group_count in
    let room = c.self.invariant.within.groups in
    let due = space.due in
    let spare = space.spare in
    let changed = space.changed in
    let by_tick = space.by_tick in
    let by_records = space.by_records in
    record {
      due = omega (arith, most, room, due);
      spare = omega (arith, most, room, spare);
      changed = omega (arith, most, room, changed, c.clear.ensures.capacity);
      by_tick = omega (arith, most, room, by_tick);
      by_records = omega (arith, most, room, by_records);
    }

pub tick-is_due-requires : goal.tick-is_due-requires
tick-is_due-requires g c =
    omega (arith, c.later-now.ensures.later, c.moment.ensures, c.lemma_is_sound.ensures.in_range, c.requires.in_range)

-- the moment is the later of the two
at_moment : (g : Over) (c : After-tick_groups g) → c.later-now.result ≡ max c.self.inside.status.now c.args.now
at_moment g c = c.later-now.ensures.later ∙ ap (λ n. max n c.args.now) c.moment.ensures

-- the timing and the moment in force
timing_so : (g : Over) (c : After-tick_groups g) → (let before = c.self.inside.status in
    c.in_force-at.result.timing ≡ (ticked before.config.timing c.later-now.result before.election).timing)
timing_so g c = ap (λ (f : QuerierContext). f.timing) c.in_force-at.ensures.in_force ∙ ap (λ (s : Setting). s.election.timing) c.tick-is_due.ensures.ticked

moment_so : (g : Over) (c : After-tick_groups g) → c.in_force-at.result.moment ≡ c.later-now.result
moment_so g c = ap (λ (f : QuerierContext). f.moment) c.in_force-at.ensures.in_force ∙ ap (λ (s : Setting). s.now) c.tick-is_due.ensures.ticked

-- the due work is done
did : (g : Over) (c : After-tick_groups g) → (let parts = c.self.inside in
    HasDone g.O.QueryOutlet.takes g.F.Family.FAMILY c.later-now.result (router_of parts.status parts.storage parts.counts)
    (router_of c.tick-is_due.new.self c.tick_groups.new.self parts.counts) c.args.sender.now c.tick_groups.new.sink)
did g c =
    let now = c.later-now.result in
    let before = c.self.inside.status in
    let groups = c.self.inside.storage.held.groups in
    let family = g.F.Family.FAMILY in
    let at = c.in_force-at.result in
    let timing = timing_so g c in
    let moment = moment_so g c in
    let begun_is = c.begin.ensures ∙ ap (λ k. begun k at.timing c.args.sender.now)
    (c.config.ensures ∙ ap (λ (s : Setting). s.config) c.tick-is_due.ensures.ticked) in
    record {
      status_is = c.tick-is_due.ensures.ticked;
      groups_are = c.tick_groups.ensures.groups ∙ (λ i. groups_after_round (timing i) (moment i) (groups_expired (moment i) groups));
      counters_are = refl;
      sent =
          due_sent g.O.QueryOutlet.takes family before.config now before.election groups at.timing c.args.sender.now c.begin.new.self c.send_general.new.sender
          c.tick_groups.new.sink c.tick-is_due.result timing begun_is c.tick-is_due.ensures.sent c.send_general.ensures
          (subst (λ n. Sends (TakesQuery g.O.QueryOutlet.takes family) c.send_general.new.sender
          (queries_due family at.timing n (groups_expired n groups)) c.tick_groups.new.sink) moment
          (c.tick_groups.ensures.sent family g.met.F.Family.per_query));
    }

pub invariant_of-self : goal.invariant_of-self
invariant_of-self g c =
    let parts = c.self.inside in
    let sure = c.lemma_is_sound.ensures in
    stored_next parts.status c.tick-is_due.new.self parts.storage c.tick_groups.new.self c.self.invariant
    (does_tick _ _ c.args.now _ _ _ _ _ sure.family (at_moment g c) (did g c)).leaves.config
    (sound_after_tick _ _ c.args.now _ _ _ _ _ sure.family (at_moment g c) (did g c)
    (timing_in_range parts.status.config sure.faultless) sure.timing c.self.invariant.sound)
    (record { groups = c.tick_groups.ensures.rooms.groups; sources = c.tick_groups.ensures.rooms.sources })

pub invariant_of-work : goal.invariant_of-work
invariant_of-work g c =
    let enough = enough_inside c.self.view_is c.work.view_is c.requires.enough in
    let most = c.self.invariant.sound.within.group_count in
    let room = c.self.invariant.within.groups in
    let space = c.work.invariant.list_room in
    let due = space.due in
    let spare = space.spare in
    let changed = space.changed in
    let by_tick = space.by_tick in
    let by_records = space.by_records in
    let cleared : HasSpace c.work.inside.groups (record c.work.inside.lists { changed = c.clear.new.self }) =
    record {
      due = omega arith;
      spare = omega arith;
      changed = omega (arith, changed, c.clear.ensures.capacity);
      by_tick = omega arith;
      by_records =
          omega arith;
    } in
    workspace_next g.F.Address.Key.number _ _ c.work.invariant
    (record { group = c.tick_groups.ensures.room; named = refl; asked = omega arith; met = refl; changed = refl })
    (still_space c.work.inside.groups cleared c.tick_groups.ensures.space)
    c.work.invariant.none_met
    c.work.invariant.none_changed
    (ascending_keys g.F.Address.Key.number c.tick_groups.new.lists.changed.items c.tick_groups.ensures.changed.ascending)
    (omega (arith, c.tick_groups.ensures.few, most, room, enough_groups c.self.inside.status.config.room _ _ enough))

pub returns-clause-step : goal.returns-clause-step
returns-clause-step g c =
    let parts = c.self.inside in
    let after = router_of c.tick-is_due.new.self c.tick_groups.new.self parts.counts in
    subst (λ (r : RouterValue). let step = tick_of r.at.config c.args.now (state_of r) in
    HasStep (TakesQuery g.O.QueryOutlet.takes g.F.Family.FAMILY) step r after (begun r.at.config step.timing c.args.sender.now)
    c.tick_groups.new.sink) c.self.view_is
    (does_tick _ _ c.args.now _ _ after _ _ c.lemma_is_sound.ensures.family (at_moment g c) (did g c))

pub returns-clause-workspace : goal.returns-clause-workspace
returns-clause-workspace g c = λ i. with_changed (c.work.view_is i) (list_map g.F.Address.Key.number c.tick_groups.new.lists.changed.items)

pub returns-clause-changed : goal.returns-clause-changed
returns-clause-changed g c =
    let parts = c.self.inside in
    let inside = router_of parts.status parts.storage parts.counts in
    let after = router_of c.tick-is_due.new.self c.tick_groups.new.self parts.counts in
    let listed = list_map g.F.Address.Key.number c.tick_groups.new.lists.changed.items in
    let left = (does_tick _ _ c.args.now _ inside after _ _ c.lemma_is_sound.ensures.family (at_moment g c) (did g c)).leaves.state_is in
    let there = subst (λ (s : LinkState). AreThose (changes inside.groups s.groups) listed) left c.tick_groups.ensures.changed in
    subst (λ (r : RouterValue). AreThose (changed_by_tick r.at.config c.args.now (state_of r)) listed) c.self.view_is there

pub returns-clause-few : goal.returns-clause-few
returns-clause-few g c =
    let size = length-map c.tick_groups.new.lists.changed.items g.F.Address.Key.number in
    let groups = ap (λ (r : RouterValue). map.len r.groups) c.self.view_is in
    omega (arith, size, groups, c.tick_groups.ensures.few)

pub returns-clause-costs : goal.returns-clause-costs
returns-clause-costs g c =
    let parts = c.self.inside in
    let inside = router_of parts.status parts.storage parts.counts in
    let after = router_of c.tick-is_due.new.self c.tick_groups.new.self parts.counts in
    let groups = inside.groups in
    let most = 4 * sources_in groups + 44 * map.len groups + 3 in
    let served = c.tick_groups.ensures in
    let first = Spends-join_within 2 2 c.later-now.ensures.spent c.tick-is_due.ensures.spent (omega arith) (omega arith) in
    let least = rw (moment_so g c) at served.spent in
    let spent = subst (λ m. Spends (2 + least_ticked m groups) most inside.spent after.spent) (at_moment g c)
    (Spends-join_within (2 + least_ticked c.later-now.result groups) most first least (omega arith) (omega arith)) in
    let none_due_then : moment_of (state_of inside) c.args.now < next_of (state_of inside) →
    (address : ℕ) (e : ScheduledGroup) → map.get groups address ≡ Some e → has_due c.in_force-at.result.moment e ≡ false =
    λ before. none_due (state_of inside) c.in_force-at.result.moment
    (subst (λ m. m < next_of (state_of inside)) (sym (moment_so g c ∙ at_moment g c)) before) in
    let costs : TickCosts true c.args.now (link_of inside) (link_of after) = record {
      spent = Spends-within 0 most spent (omega arith) (omega arith);
      least = λ _. spent;
      bounded = Spends-within 0 (cost_of 0 (held_of (state_of inside))) spent (omega arith) (omega arith);
      moved = paid_moves (6 * sources_in groups + 136 * map.len groups) served.moved (omega (arith, put_by_few parts.storage.held));
      quiet = λ before. Spends-join_within 2 3 first (served.quiet (none_due_then before)) (omega arith) (omega arith);
      still = λ before. served.still (none_due_then before);
    } in
    subst (λ (r : RouterValue). TickCosts true c.args.now (link_of r) (link_of after)) c.self.view_is costs

pub returns-clause-paid : goal.returns-clause-paid
returns-clause-paid g c =
    let left = c.tick_groups.new.self in
    subst (λ (r : RouterValue). IsPaid (most_moved_by_tick r.groups) r.put_by (put_by_rows left.held) r.moved left.moves) c.self.view_is
    c.tick_groups.ensures.moved

pub begin-requires : goal.begin-requires
begin-requires g c =
    let timing = ap (λ (f : QuerierContext). f.timing) c.in_force-at.ensures.in_force in
    subst (λ (k : Configuration). KeepsIntervals k.timing c.in_force-at.result.timing) (sym c.config.ensures)
    (subst (KeepsIntervals c.tick-is_due.new.self.config.timing) (sym timing) c.lemma_is_sound-2.ensures.intervals)
