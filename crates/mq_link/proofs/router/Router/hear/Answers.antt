use Rattle.mq_link.proofs.Common.{◌+◌, ◌*◌, refl, ap, subst, arith, Spends, source_count, numbered_query, query_heard, IsPaid, Setting, Leaves, RouterValue}
use Rattle.mq_link.proofs.Common.{router_of, state_of, sources_in, Lists, KeepsSpace, put_by_rows}
use Rattle.std.specs.FinMap as map
use Rattle.mq_link.proofs.{Faultless.few_sources, Faultless.timing_in_range, LinkStored.ready_in, LinkStored.stored_next, Rooms.enough_room, Rooms.enough_space}
use Rattle.mq_link.proofs.{Rooms.still_space, Rooms.workspace_next, RouterSteps.enough_inside, RouterSteps.sound_heard}
use Rattle.mq_link.proofs.router.Router.hear.Goals as goal

pub hear_query-requires-clause-ready : goal.hear_query-requires-clause-ready
hear_query-requires-clause-ready g c =
    let enough = enough_inside c.self.view_is c.work.view_is c.requires.enough in
    let room = enough_room c.self.inside.status.config.room _ _ enough _ c.work.invariant in
    ready_in c.self.inside.status c.self.inside.storage c.lemma_is_sound.ensures.faultless c.self.invariant.sound c.self.invariant.within _ room.group

pub hear_query-requires-clause-small : goal.hear_query-requires-clause-small
hear_query-requires-clause-small g c address =
    omega (arith, c.self.invariant.sound.within.group_sources address, few_sources c.self.inside.status.config c.lemma_is_sound.ensures.faultless)

pub invariant_of-self : goal.invariant_of-self
invariant_of-self g c =
    let parts = c.self.inside in
    let inside = router_of parts.status parts.storage parts.counts in
    let sure = c.lemma_is_sound.ensures in
    let heard = c.hear_query.ensures in
    stored_next parts.status c.hear_query.new.self parts.storage c.hear_query.new.storage c.self.invariant
    (ap (λ (s : Setting). s.config) heard.election)
    (sound_heard inside _ (numbered_query g.F.Address.Key.number c.args.query.now) c.hear_query.new.self c.hear_query.new.storage.held.groups
    (timing_in_range inside.at.config sure.faultless) c.requires.carried sure.timing c.self.invariant.sound heard.election heard.groups)
    heard.rooms

pub invariant_of-work : goal.invariant_of-work
invariant_of-work g c =
    let heard = c.hear_query.ensures in
    let was = c.work.invariant in
    let lists : Lists _ _ = record c.work.inside.lists { due = c.hear_query.new.numbers } in
    let kept : KeepsSpace c.work.inside.lists lists = record { due = heard.capacity; spare = refl; changed = omega arith; by_tick = refl; by_records = refl } in
    workspace_next _ _ _ was (record { group = heard.room; named = refl; asked = omega arith; met = refl; changed = refl })
    (still_space _ was.list_room kept) was.none_met was.none_changed was.ascending was.few

pub returns-clause-leaves : goal.returns-clause-leaves
returns-clause-leaves g c =
    let heard = c.hear_query.ensures in
    let source = g.F.Address.Key.number c.args.source in
    let query = numbered_query g.F.Address.Key.number c.args.query.now in
    let after = router_of c.hear_query.new.self c.hear_query.new.storage c.self.inside.counts in
    subst (λ (r : RouterValue). Leaves (query_heard r.at.config r.at.now source query (state_of r)) r after) c.self.view_is (record {
      config = ap (λ (s : Setting). s.config) heard.election;
      state_is = λ i. record {
        groups = heard.groups i;
        election = (heard.election i).election;
        last = (heard.election i).now;
        counters =
            c.self.inside.counts;
      };
    })

pub returns-clause-spent : goal.returns-clause-spent
returns-clause-spent g c =
    subst (λ (r : RouterValue). Spends 1 (2 * sources_in r.groups + 20 * map.len r.groups + 12 * source_count c.args.query.now.version + 40) r.spent
    c.hear_query.new.storage.meter) c.self.view_is c.hear_query.ensures.spent

pub hear_query-requires-clause-space : goal.hear_query-requires-clause-space
hear_query-requires-clause-space g c =
    let enough = enough_inside c.self.view_is c.work.view_is c.requires.enough in
    let space = enough_space c.self.inside.status.config.room _ _ enough _ c.work.invariant in
    omega (arith, c.self.invariant.sound.within.group_count, c.self.invariant.within.groups, space.due)

pub returns-clause-moved : goal.returns-clause-moved
returns-clause-moved g c =
    let left = c.hear_query.new.storage in
    subst (λ (r : RouterValue). IsPaid (10 * sources_in r.groups + 22 * map.len r.groups + 21) r.put_by (put_by_rows left.held) r.moved left.moves)
    c.self.view_is c.hear_query.ensures.moved
