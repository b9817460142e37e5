use Rattle.std.proofs.Common.{◌∙◌, [], arith, length-set}
use Rattle.mq_held.proofs.Common.{unheld, no_head}
use Rattle.mq_held.proofs.{Inside.ahead_is, Inside.moment-there, Inside.state-set, Located.located, StoredEdits.IsStored-cleared, StoredEdits.group_of-none}
use Rattle.mq_held.proofs.held_groups.HeldGroups.make_vacant.Goals as goal

pub index-before-requires : goal.index-before-requires
index-before-requires g c =
    let l = located g.K.Key.number c.self.inside c.self.invariant c.self.view_is c.requires.number in
    omega (arith, l.in_heads, c.self.inside.heads.ok.0)

pub remove_moment-requires : goal.remove_moment-requires
remove_moment-requires g c =
    record { there = moment-there g.K.Key.number c.self.invariant.0 c.self.view_is c.args.number c.args.was_vacant c.requires.number c.requires.was }

pub remove_row-requires : goal.remove_row-requires
remove_row-requires g c = record { number = (located g.K.Key.number c.self.inside c.self.invariant c.self.view_is c.requires.number).in_rows }

pub index_mut-requires : goal.index_mut-requires
index_mut-requires g c =
    let l = located g.K.Key.number c.self.inside c.self.invariant c.self.view_is c.requires.number in
    omega (arith, l.in_heads, c.self.inside.heads.ok.0)

pub overflow_sub-self : goal.overflow_sub-self
overflow_sub-self g c =
    let l = located g.K.Key.number c.self.inside c.self.invariant c.self.view_is c.requires.number in
    omega (arith, c.count_schedules.ensures, l.part, l.own c.index-before.result.now c.index-before.ensures)

pub invariant_of-self : goal.invariant_of-self
invariant_of-self g c =
    let l = located g.K.Key.number c.self.inside c.self.invariant c.self.view_is c.requires.number in
    let own = l.own c.index-before.result.now c.index-before.ensures in
    let stored = IsStored-cleared g.K.Key.number c.self.invariant.0 c.args.number l.held l.in_heads l.in_rows in (
      rw (c.remove_row.ensures, c.vacant_head.ensures, c.remove_moment.ensures.moments, c.count_schedules.ensures, own) stored,
      rw c.remove_row.ensures c.self.invariant.1,
      rw c.remove_row.ensures (length-set c.self.inside.sources.rows c.args.number [] ∙ c.self.invariant.2),
      length-set c.self.inside.heads.items c.args.number c.vacant_head.result ∙ c.self.invariant.3,
      rw c.remove_moment.ensures.moments c.self.invariant.4,
      c.self.invariant.5,
      c.self.invariant.6,
    )

pub returns-clause-groups : goal.returns-clause-groups
returns-clause-groups g c address has =
    let l = located g.K.Key.number c.self.inside c.self.invariant c.self.view_is c.requires.number in
    let number = g.K.Key.number in
    rw (c.remove_row.ensures, c.vacant_head.ensures)
    (state-set number c.self.invariant.0 c.self.view_is no_head [] unheld c.self.inside.sources.ahead c.args.self.now.ahead has l.in_heads
    (group_of-none number) (ahead_is number c.self.invariant.0 c.self.view_is))

pub returns-clause-spent : goal.returns-clause-spent
returns-clause-spent g c = rw (located g.K.Key.number c.self.inside c.self.invariant c.self.view_is c.requires.number).running c.remove_moment.ensures.spent

pub returns-clause-moved : goal.returns-clause-moved
returns-clause-moved g c = rw (located g.K.Key.number c.self.inside c.self.invariant c.self.view_is c.requires.number).running c.remove_moment.ensures.moved
