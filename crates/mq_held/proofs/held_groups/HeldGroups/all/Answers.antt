use Rattle.std.proofs.Common.{ap, ◌∙◌, arith}
use Rattle.mq_held.proofs.KeysByNumber.{numbers_in}
use Rattle.mq_held.proofs.GroupsInOrder.{IsOrdered-stored, len-view, all-addresses, all-known}
use Rattle.mq_held.proofs.held_groups.HeldGroups.all.Goals as goal

pub all-requires : goal.all-requires
all-requires g c =
    let known = IsOrdered-stored g.K.Key.number c.self.invariant.0 c.self.view_is in
    record { space = omega (arith, c.requires.space, len-view known (ap (λ s. s.order) c.self.view_is)) }

pub returns-clause-all : goal.returns-clause-all
returns-clause-all g c =
    let known = IsOrdered-stored g.K.Key.number c.self.invariant.0 c.self.view_is in
    all-addresses known (c.all.ensures.numbers ∙ ap (λ s. numbers_in s.order.items) c.self.view_is)

pub returns-clause-numbers : goal.returns-clause-numbers
returns-clause-numbers g c =
    let known = IsOrdered-stored g.K.Key.number c.self.invariant.0 c.self.view_is in
    all-known known (c.all.ensures.numbers ∙ ap (λ s. numbers_in s.order.items) c.self.view_is)

pub returns-clause-moved : goal.returns-clause-moved
returns-clause-moved g c =
    let known = IsOrdered-stored g.K.Key.number c.self.invariant.0 c.self.view_is in
    rw (len-view known (ap (λ s. s.order) c.self.view_is)) c.all.ensures.moved
