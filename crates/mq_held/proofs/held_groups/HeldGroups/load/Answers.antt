use Rattle.mq_held.proofs.Common.{◌∙◌, length, arith, ap, ScheduledGroup}
use Rattle.mq_held.proofs.{Inside.address-of, Inside.head-of, Located.located}
use Rattle.mq_held.proofs.held_groups.HeldGroups.load.Goals as goal

pub index-item-requires : goal.index-item-requires
index-item-requires g c =
    let l = located g.K.Key.number c.self.inside c.self.invariant c.self.view_is c.requires.number in
    omega (arith, l.in_heads, c.self.inside.heads.ok.0)

pub row-requires : goal.row-requires
row-requires g c = record { number = (located g.K.Key.number c.self.inside c.self.invariant c.self.view_is c.requires.number).in_rows }

pub load-requires-clause-ascending : goal.load-requires-clause-ascending
load-requires-clause-ascending g c = rw c.row.ensures.cells (located g.K.Key.number c.self.inside c.self.invariant c.self.view_is c.requires.number).up

pub load-requires-clause-room : goal.load-requires-clause-room
load-requires-clause-room g c =
    let l = located g.K.Key.number c.self.inside c.self.invariant c.self.view_is c.requires.number in
    let found = address-of g.K.Key.number c.self.invariant.0 c.self.view_is c.args.number c.requires.number in
    omega (arith, ap length c.row.ensures.cells, l.size found.1, c.requires.room found.0 found.1)

pub returns-clause-group : goal.returns-clause-group
returns-clause-group g c address has =
    let l = located g.K.Key.number c.self.inside c.self.invariant c.self.view_is c.requires.number in
    let h = c.index-item.result.now in
    ap (λ s. let e : ScheduledGroup = record { group = s; schedule = h.schedule } in e) c.load.ensures.state
    ∙ head-of g.K.Key.number c.self.invariant.0 c.self.view_is h c.row.result.now has l.in_heads c.index-item.ensures c.row.ensures.cells
