use Rattle.std.proofs.Common.{◌∙◌, true, false, refl, arith, ap, sym, true≢false}
use Rattle.mq_table.specs.Group.{is_include}
use Rattle.mq_held.proofs.{Inside.vacant-of, Located.located, Located.row_of}
use Rattle.mq_held.proofs.held_groups.HeldGroups.is_vacant.Goals as goal
use Rattle.mq_held.proofs.held_groups.HeldGroups.is_vacant.Goals.{in-Include, in_default}

pub row-requires : goal.row-requires
row-requires g c = record { number = (located g.K.Key.number c.self.inside c.self.invariant c.self.view_is c.requires.number).in_rows }

pub index-requires : goal.index-requires
index-requires g c =
    let l = located g.K.Key.number c.self.inside c.self.invariant c.self.view_is c.requires.number in
    omega (arith, l.in_heads, c.self.inside.heads.ok.0)

pub returns-then-matches : goal.returns-then-matches
returns-then-matches g c address has =
    let l = located g.K.Key.number c.self.inside c.self.invariant c.self.view_is c.requires.number in
    let vacant = vacant-of g.K.Key.number c.self.invariant.0 c.self.view_is c.index.result.now c.row.result.now true has l.in_heads c.index.ensures
    c.row.ensures.cells in
    elim c.match-matches.branch [
      | in-Include w ↦ c.is_empty.ensures ∙ sym (vacant (ap is_include w.in-Include.is))
      | in_default w ↦ absurd (true≢false (sym c.if-matches.true ∙ w.matches-is))
    ]

pub returns-else-matches : goal.returns-else-matches
returns-else-matches g c address has =
    let l = located g.K.Key.number c.self.inside c.self.invariant c.self.view_is c.requires.number in
    let vacant = vacant-of g.K.Key.number c.self.invariant.0 c.self.view_is c.index.result.now (row_of c.self.inside c.args.number) false has
    l.in_heads c.index.ensures refl in
    elim c.match-matches.branch [
      | in-Include w ↦ absurd (true≢false (sym w.matches-is ∙ c.if-matches.false))
      | in_default w ↦ w.matches-is ∙ sym (vacant (ap is_include w.in_default.is))
    ]
