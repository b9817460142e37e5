use Rattle.mq_table.proofs.Common.{◌∙◌, ap, refl, IsAscending-map, item_has_retransmissions, source_cleared, source_recounted, NoneLeft, number_in}
use Rattle.mq_table.proofs.{Rows.replaced_state, Places.all_between}
use Rattle.mq_table.proofs.group.Group.clear_retransmissions.Goals as goal

pub recount_each-requires : goal.recount_each-requires
recount_each-requires g c =
    all_between item_has_retransmissions c.self.inside.sources.items c.len-end.result (c.len-end.ensures ∙ c.self.inside.sources.ok.0)

pub invariant_of-self : goal.invariant_of-self
invariant_of-self g c =
    rw c.recount_each.ensures.items (IsAscending-map (number_in g.K.Key.number) (source_recounted NoneLeft) c.self.inside.sources.items c.self.invariant)

pub returns-clause-state : goal.returns-clause-state
returns-clause-state g c =
    replaced_state g.K.Key.number (λ s. source_cleared) (source_recounted NoneLeft) (λ x. refl)
    c.self.inside.mode c.self.inside.v1 c.self.inside.v2 c.self.inside.sources.items c.recount_each.new.sources.items c.args.self.now.state
    (ap (λ s. s.state) c.self.view_is) c.recount_each.ensures.items
