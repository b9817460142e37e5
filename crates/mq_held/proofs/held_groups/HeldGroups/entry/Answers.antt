use Rattle.std.proofs.Common.{get_or, ap, ◌∙◌, sym, arith}
use Rattle.mq_held.proofs.KeysByNumber.{numbers_in}
use Rattle.mq_held.proofs.GroupsInOrder.{IsOrdered-stored, len-view, rank-is, number-at_rank, number-of_place}
use Rattle.mq_held.proofs.held_groups.HeldGroups.entry.Goals as goal

pub number-requires : goal.number-requires
number-requires g c =
    let known = IsOrdered-stored g.K.Key.number c.self.invariant.0 c.self.view_is in
    record { rank = omega (arith, c.requires.rank, len-view known (ap (λ s. s.order) c.self.view_is)) }

pub entry_of-requires : goal.entry_of-requires
entry_of-requires g c =
    let known = IsOrdered-stored g.K.Key.number c.self.invariant.0 c.self.view_is in
    let at = ap (λ s. get_or (numbers_in s.order.items) c.args.rank 0) (sym c.self.view_is) ∙ sym c.number.ensures in
    record { number = number-at_rank known c.number.result c.args.rank c.requires.rank at }

pub returns-clause-rank : goal.returns-clause-rank
returns-clause-rank g c =
    let known = IsOrdered-stored g.K.Key.number c.self.invariant.0 c.self.view_is in
    let at = ap (λ s. get_or (numbers_in s.order.items) c.args.rank 0) (sym c.self.view_is) ∙ sym c.number.ensures in
    rank-is known (g.K.Key.number c.entry_of.result.address) c.number.result c.args.rank c.requires.rank at c.entry_of.ensures.address

pub returns-clause-group : goal.returns-clause-group
returns-clause-group g c address has =
    let known = IsOrdered-stored g.K.Key.number c.self.invariant.0 c.self.view_is in
    let at = ap (λ s. get_or (numbers_in s.order.items) c.args.rank 0) (sym c.self.view_is) ∙ sym c.number.ensures in
    c.entry_of.ensures.group address (number-of_place known address c.number.result c.args.rank c.requires.rank at has)

pub returns-clause-ascending : goal.returns-clause-ascending
returns-clause-ascending g c = c.entry_of.ensures.ascending

pub returns-clause-len : goal.returns-clause-len
returns-clause-len g c address has =
    let known = IsOrdered-stored g.K.Key.number c.self.invariant.0 c.self.view_is in
    let at = ap (λ s. get_or (numbers_in s.order.items) c.args.rank 0) (sym c.self.view_is) ∙ sym c.number.ensures in
    c.entry_of.ensures.len address (number-of_place known address c.number.result c.args.rank c.requires.rank at has)
