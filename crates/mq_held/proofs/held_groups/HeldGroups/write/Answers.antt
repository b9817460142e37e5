use Rattle.std.proofs.Common.{◌≡◌, ◌+◌, ◌-◌, ◌*◌, ◌≤◌, ◌∙◌, not, length, length-set, set, refl, arith, ap, sym, subst}
use Rattle.std.specs.FinMap as map
use Rattle.mq_held.proofs.Common.{Spends-join_within, bitlen, ScheduledHead, group_at, one_if, running_in, sources_of, IsRowWritten}
use Rattle.mq_held.proofs.Common.{group_of}
use Rattle.mq_held.proofs.{MomentCounts.Spends-both, Inside.address-of, Inside.moment-there, Inside.source_room_is, Inside.sources-held}
use Rattle.mq_held.proofs.{Inside.state-set}
use Rattle.mq_held.proofs.{Located.IsStoredWith, Located.Located, Located.located, Located.stored-written, StoredEdits.group-of-parts}
use Rattle.mq_held.proofs.{StoredEdits.schedules_fit, StoredMoments.contains-insert, StoredMoments.len-set, StoredMoments.moment-room}
use Rattle.mq_held.proofs.{StoredMoments.names-rows, StoredMoments.row-written}
use Rattle.mq_held.proofs.held_groups.HeldGroups.write.Given.{Over}
use Rattle.mq_held.proofs.held_groups.HeldGroups.write.Goals as goal
use Rattle.mq_held.proofs.held_groups.HeldGroups.write.Goals.{After-head, After-replace, After-self}

-- the group of the number
at_so : (g : Over) (c : After-self g) → Located g.K.Key.number c.self.inside c.args.self.now c.args.number
at_so g c = located g.K.Key.number c.self.inside c.self.invariant c.self.view_is c.requires.number

-- its head then, and so its group
abbrev head_of : (g : Over) (c : After-head g) → ScheduledHead
head_of g c = record { head = c.head.result; schedule = c.args.schedule }

group_so : (g : Over) (c : After-head g)
    → group_of g.K.Key.number (head_of g c) c.sources.result.now ≡ record { group = c.args.group.now.state; schedule = c.args.schedule }
group_so g c = group-of-parts g.K.Key.number c.head.result c.args.schedule c.sources.result.now c.args.group.now.state c.sources.ensures.timers c.head.ensures

-- the storage then
stored_so : (g : Over) (c : After-head g)
    → IsStoredWith g.K.Key.number c.self.inside c.args.number (head_of g c) c.sources.result.now c.earliest_moment-due.result
stored_so g c =
    let l = located g.K.Key.number c.self.inside c.self.invariant c.self.view_is c.requires.number in
    stored-written l (head_of g c) _ c.sources.ensures.ascending (group_so g c) c.requires.held c.earliest_moment-due.ensures.earliest

pub index-before-requires : goal.index-before-requires
index-before-requires g c =
    let l = at_so g (goal.at.index-before-requires g c).After-self in
    omega (arith, l.in_heads, c.self.inside.heads.ok.0)

pub set_moment-requires-clause-number : goal.set_moment-requires-clause-number
set_moment-requires-clause-number g c =
    let l = at_so g (goal.at.set_moment-requires-clause-number g c).After-self in
    omega (arith, l.in_rows, c.self.invariant.2, c.self.invariant.4)

pub set_moment-requires-clause-new : goal.set_moment-requires-clause-new
set_moment-requires-clause-new g c =
    moment-there g.K.Key.number c.self.invariant.0 c.self.view_is c.args.number c.args.was_vacant c.requires.number c.requires.was

pub set_moment-requires-clause-room : goal.set_moment-requires-clause-room
set_moment-requires-clause-room g c =
    moment-room g.K.Key.number c.self.invariant.0 c.self.view_is c.args.number c.self.inside.moments.room c.args.was_vacant c.requires.number c.requires.was
    (omega (arith, c.self.invariant.4, c.self.invariant.6))

pub replace-requires-clause-number : goal.replace-requires-clause-number
replace-requires-clause-number g c = (at_so g (goal.at.replace-requires-clause-number g c).After-self).in_rows

pub replace-requires-clause-fits : goal.replace-requires-clause-fits
replace-requires-clause-fits g c =
    let l = at_so g (goal.at.replace-requires-clause-fits g c).After-self in
    let found = address-of g.K.Key.number c.self.invariant.0 c.self.view_is c.args.number c.requires.number in
    let all = sources-held g.K.Key.number c.self.invariant.0 c.self.view_is in
    let room = source_room_is g.K.Key.number c.self.invariant.0 c.self.view_is in
    omega (arith, c.requires.fits found.0 found.1, all, l.size found.1, room, c.self.invariant.1, c.sources.ensures.len)

pub replace-requires-clause-named : goal.replace-requires-clause-named
replace-requires-clause-named g c =
    let moments = c.self.inside.moments.moments in
    let each = rw c.set_moment.ensures.moments at c.numbers.ensures.each in
    let within = rw c.set_moment.ensures.moments at c.numbers.ensures.within in
    let due = c.earliest_moment-due.result in
    names-rows g.K.Key.number c.self.invariant.0 (map.insert moments c.args.number due) c.numbers.result.now (contains-insert moments c.args.number due) each
    (λ k d in_list. omega (arith, within k d in_list, c.self.invariant.4, c.self.invariant.2))

pub index_mut-requires : goal.index_mut-requires
index_mut-requires g c =
    let l = at_so g (goal.at.index_mut-requires g c).After-self in
    omega (arith, l.in_heads, c.self.inside.heads.ok.0)

pub overflow_sub-self : goal.overflow_sub-self
overflow_sub-self g c =
    let l = at_so g (goal.at.overflow_sub-self g c).After-self in
    omega (arith, c.count_schedules.ensures, l.part, l.own c.index-before.result.now c.index-before.ensures)

pub overflow_add-self : goal.overflow_add-self
overflow_add-self g c =
    let at = goal.at.overflow_add-self g c in
    let own = (at_so g at.After-self).own c.index-before.result.now c.index-before.ensures in
    let few : c.self.inside.scheduled - c.count_schedules.result + c.count_schedules-2.result ≤ 2 * length c.self.inside.order.items =
    rw (c.count_schedules.ensures, own, c.count_schedules-2.ensures) (schedules_fit g.K.Key.number (stored_so g at.After-head)) in
    omega (arith, few, c.self.invariant.5, c.self.invariant.6)

-- the rows then
rows_so : (g : Over) (c : After-replace g) → (let s = c.self.inside.sources in
    c.replace.new.self ≡ record { rows = set s.rows c.args.number c.sources.result.now; cell_limit = s.cell_limit; ahead = c.replace.new.self.ahead })
rows_so g c =
    let is = c.replace.ensures.1 in
    let ahead = c.replace.new.self.ahead in
    λ i. record { rows = is.rows i; cell_limit = is.limit i; ahead = ahead }

pub invariant_of-self : goal.invariant_of-self
invariant_of-self g c =
    let at = goal.at.invariant_of-self g c in
    let is = c.replace.ensures.1 in
    let own = (at_so g at.After-self).own c.index-before.result.now c.index-before.ensures in (
      rw (is.rows, c.set_moment.ensures.moments, c.count_schedules.ensures, own, c.count_schedules-2.ensures) (stored_so g at.After-head),
      c.self.invariant.1 ∙ sym is.limit,
      ap length is.rows ∙ length-set c.self.inside.sources.rows c.args.number c.sources.result.now ∙ c.self.invariant.2,
      length-set c.self.inside.heads.items c.args.number _ ∙ c.self.invariant.3,
      rw c.set_moment.ensures.moments c.self.invariant.4,
      c.self.invariant.5,
      c.self.invariant.6,
    )

pub returns-clause-groups : goal.returns-clause-groups
returns-clause-groups g c address has =
    let at = goal.at.returns-clause-groups g c in
    let number = g.K.Key.number in
    let known = c.self.invariant in
    let row = c.sources.result.now in
    let ahead = c.replace.new.self.ahead in
    rw c.replace.ensures.1.rows
    (state-set number known.0 c.self.view_is (head_of g at.After-head) row _ ahead ahead has
    (at_so g at.After-self).in_heads (group_so g at.After-head) refl)

pub returns-clause-spent : goal.returns-clause-spent
returns-clause-spent g c =
    let first = Spends-both c.earliest_moment-due.ensures.compared c.earliest_moment-due.ensures.spent in
    rw (at_so g (goal.at.returns-clause-spent g c).After-self).running (Spends-join_within _ _ first c.set_moment.ensures.spent (omega arith) (omega arith))

pub returns-clause-moved : goal.returns-clause-moved
returns-clause-moved g c address has =
    let number = g.K.Key.number in
    let known = c.self.invariant in
    let n = c.args.number in
    let was = c.args.was_vacant in
    let running = (at_so g (goal.at.returns-clause-moved g c).After-self).running in
    let there = moment-there number known.0 c.self.view_is n was c.requires.number c.requires.was in
    let each = rw c.set_moment.ensures.moments at c.numbers.ensures.each in
    let named = len-set c.self.inside.moments.moments n c.earliest_moment-due.result was c.numbers.result.now there each in
    let count = named ∙ ap (λ k. k + one_if was) (sym running) in
    let limit = c.self.inside.sources.cell_limit in
    let written = row-written number known.0 c.self.view_is n c.sources.result.now limit has (sym known.1) known.2 c.replace.new.self
    (length c.sources.result.now) (length c.numbers.result.now) (running_in c.args.self.now.groups + one_if was) c.replace.ensures.0 count
    c.replace.ensures.1 in
    let digits = ap (λ k. bitlen (k - one_if (not was))) running in (
      c.replace.ensures.0,
      subst (λ k. IsRowWritten c.args.self.now (sources_of (group_at c.args.self.now.groups address)) k k
          (running_in c.args.self.now.groups + one_if was) c.replace.new.self.ahead c.replace.ensures.0) c.sources.ensures.len written,
      Spends-join_within _ _ c.set_moment.ensures.moved c.replace.ensures.2 (omega arith) (omega (arith, digits)),
    )
