use Rattle.mq_link.proofs.Common.{◌≡◌, ◌+◌, ◌*◌, ◌≤◌, cond, refl, sym, ap, ◌∙◌, subst, arith, Spends, Spends-none, Spends-within, Spends-join}
use Rattle.mq_link.proofs.Common.{Spends-join_within, StoredGroup, loses_role, own_sources, numbered_query, QuerierContext, Storage, groups_cleared}
use Rattle.mq_link.proofs.Common.{groups_lowered, MovesWithin, Setting, KeepsRooms, put_by_rows}
use Rattle.std.specs.FinMap as map
use Rattle.mq_held.specs.Groups.{group_at, sources_of, sources_in}
use Rattle.mq_link.proofs.{HeardGroups.cleared_ready, HeardGroups.cleared_sources, HeardGroups.cleared_small, Moved.paid_none, Moved.paid_within}
use Rattle.mq_link.proofs.{Moved.paid_join, Rooms.ready_counted, Rooms.rooms_on}
use Rattle.mq_link.proofs.status.Status.hear_query.Goals as goal
use Rattle.mq_link.proofs.status.Status.hear_query.Goals.{then-hear, else-hear}

pub lower_held-requires-clause-ready : goal.lower_held-requires-clause-ready
lower_held-requires-clause-ready g c = elim c.if-hear.branch [
  | then-hear w ↦
      rw (w.storage-is, w.group-is)
      (cleared_ready c.args.group.now.room w.clear_groups.new.group.room _ _
      (ready_counted c.args.group.now.room c.args.storage.now c.hear.new.m c.requires.ready) w.clear_groups.ensures.groups w.clear_groups.ensures.room)
  | else-hear w ↦ rw (w.storage-is, w.group-is) (ready_counted c.args.group.now.room c.args.storage.now c.hear.new.m c.requires.ready)
]

pub clear_groups-requires : goal.clear_groups-requires
clear_groups-requires g c = record { space = c.requires.space; ready = ready_counted c.args.group.now.room c.args.storage.now c.hear.new.m c.requires.ready }

pub lower_held-requires-clause-small : goal.lower_held-requires-clause-small
lower_held-requires-clause-small g c address = elim c.if-hear.branch [
  | then-hear w ↦
      subst (λ groups. sources_of (group_at groups address) ≤ 1024)
      (sym (ap (λ (s : Storage _ _). s.held.groups) w.storage-is ∙ w.clear_groups.ensures.groups))
      (cleared_small 1024 c.args.storage.now.held.groups address (c.requires.small address))
  | else-hear w ↦ subst (λ (s : Storage _ _). sources_of (group_at s.held.groups address) ≤ 1024) (sym w.storage-is) (c.requires.small address)
]

pub returns-clause-election : goal.returns-clause-election
returns-clause-election g c =
    let before : Setting = c.args.self.now in
    c.hear.ensures.heard ∙
    ap (λ a. let after : Setting =
    record before {
      election = Rattle.mq_sched.specs.Election.heard before.config.timing before.config.own before.now
          (g.F.Address.Key.number c.args.source) a before.election;
    } in after) c.announcement-announced.ensures

pub returns-clause-groups : goal.returns-clause-groups
returns-clause-groups g c =
    let before : Setting = c.args.self.now in
    let source = g.F.Address.Key.number c.args.source in
    let query = numbered_query g.F.Address.Key.number c.args.query.now in
    let groups = c.args.storage.now.held.groups in
    let loses = loses_role before.config.own source before.election.role in
    let left : c.if-hear.storage.held.groups ≡ cond loses (groups_cleared groups) groups = elim c.if-hear.branch [
      | then-hear w ↦
          ap (λ (s : Storage _ _). s.held.groups) w.storage-is ∙ w.clear_groups.ensures.groups ∙ ap (λ b. cond b (groups_cleared groups) groups)
          (sym w.if-hear.true ∙ c.hear.ensures.lost)
      | else-hear w ↦
          ap (λ (s : Storage _ _). s.held.groups) w.storage-is ∙ ap (λ b. cond b (groups_cleared groups) groups) (sym w.if-hear.false ∙ c.hear.ensures.lost)
    ] in
    let moment = ap (λ (f : QuerierContext). f.moment) c.in_force-at.ensures.in_force ∙ ap (λ (s : Setting). s.now) c.hear.ensures.heard in
    let timing = ap (λ (f : QuerierContext). f.timing) c.in_force-at.ensures.in_force ∙ ap (λ (s : Setting). s.election.timing) (returns-clause-election g c) in
    c.lower_held.ensures.groups ∙ (λ i. groups_lowered (timing i) (moment i) query (left i))

pub returns-clause-rooms : goal.returns-clause-rooms
returns-clause-rooms g c = elim c.if-hear.branch [
  | then-hear w ↦ rooms_on
      (subst (KeepsRooms c.args.storage.now) (sym w.storage-is)
      (record { groups = w.clear_groups.ensures.rooms.groups; sources = w.clear_groups.ensures.rooms.sources })) c.lower_held.ensures.rooms
  | else-hear w ↦ rooms_on (subst (KeepsRooms c.args.storage.now) (sym w.storage-is) (record { groups = refl; sources = refl })) c.lower_held.ensures.rooms
]

pub returns-clause-room : goal.returns-clause-room
returns-clause-room g c = elim c.if-hear.branch [
  | then-hear w ↦ omega (arith, w.clear_groups.ensures.room, ap (λ (x : StoredGroup). x.room) w.group-is, c.lower_held.ensures.room)
  | else-hear w ↦ omega (arith, ap (λ (x : StoredGroup). x.room) w.group-is, c.lower_held.ensures.room)
]

pub returns-clause-spent : goal.returns-clause-spent
returns-clause-spent g c =
    let groups = c.args.storage.now.held.groups in
    let asked = g.F.Address.Key.number c.args.query.now.group in
    let between : Spends 0 (sources_in groups + 20 * map.len groups) c.hear.new.m c.if-hear.storage.meter = elim c.if-hear.branch [
      | then-hear w ↦ rw w.storage-is w.clear_groups.ensures.spent
      | else-hear w ↦ rw w.storage-is (Spends-within 0 (sources_in groups + 20 * map.len groups) (Spends-none c.hear.new.m) (omega arith) (omega arith))
    ] in
    let fewer : sources_in c.if-hear.storage.held.groups ≤ sources_in groups = elim c.if-hear.branch [
      | then-hear w ↦ rw (w.storage-is, w.clear_groups.ensures.groups) (cleared_sources groups)
      | else-hear w ↦ rw w.storage-is (omega arith)
    ] in
    let own = own_sources c.if-hear.storage.held.groups asked in
    Spends-join_within _ _ (Spends-join c.hear.ensures.spent between) c.lower_held.ensures.spent (omega arith) (omega (arith, own, fewer))

pub returns-clause-moved : goal.returns-clause-moved
returns-clause-moved g c =
    let groups = c.args.storage.now.held.groups in
    let asked = g.F.Address.Key.number c.args.query.now.group in
    let between : MovesWithin (5 * sources_in groups + 22 * map.len groups) c.args.storage.now c.if-hear.storage = elim c.if-hear.branch [
      | then-hear w ↦ rw w.storage-is w.clear_groups.ensures.moved
      | else-hear w ↦ rw w.storage-is
          (paid_within (5 * sources_in groups + 22 * map.len groups) (paid_none (put_by_rows c.args.storage.now.held) c.args.storage.now.moves) (omega arith))
    ] in
    let fewer : sources_in c.if-hear.storage.held.groups ≤ sources_in groups = elim c.if-hear.branch [
      | then-hear w ↦ rw (w.storage-is, w.clear_groups.ensures.groups) (cleared_sources groups)
      | else-hear w ↦ rw w.storage-is (omega arith)
    ] in
    let own = own_sources c.if-hear.storage.held.groups asked in
    paid_join _ between c.lower_held.ensures.moved (omega (arith, own, fewer))
