use Rattle.std.proofs.Common.{◌∙◌, length, arith, ap, sym}
use Rattle.mq_held.proofs.{Inside.head-of, Located.located}
use Rattle.mq_held.proofs.held_groups.HeldGroups.entry_of.Goals as goal

pub index-item-requires : goal.index-item-requires
index-item-requires g c =
    let l = located g.K.Key.number c.self.inside c.self.invariant c.self.view_is c.requires.number in
    omega (arith, l.in_heads, c.self.inside.heads.ok.0)

pub row-requires : goal.row-requires
row-requires g c = record { number = (located g.K.Key.number c.self.inside c.self.invariant c.self.view_is c.requires.number).in_rows }

pub returns-clause-group : goal.returns-clause-group
returns-clause-group g c address has =
    let l = located g.K.Key.number c.self.inside c.self.invariant c.self.view_is c.requires.number in
    head-of g.K.Key.number c.self.invariant.0 c.self.view_is c.index-item.result.now c.row.result.now has l.in_heads c.index-item.ensures c.row.ensures.cells

pub returns-clause-ascending : goal.returns-clause-ascending
returns-clause-ascending g c = rw c.row.ensures.cells (located g.K.Key.number c.self.inside c.self.invariant c.self.view_is c.requires.number).up

pub returns-clause-len : goal.returns-clause-len
returns-clause-len g c address has = ap length c.row.ensures.cells ∙
    sym ((located g.K.Key.number c.self.inside c.self.invariant c.self.view_is c.requires.number).size has)
