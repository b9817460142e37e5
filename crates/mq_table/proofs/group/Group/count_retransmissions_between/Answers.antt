use Rattle.mq_table.proofs.Common.{ap, refl, sym, ◌∙◌, ltb, IsAscending-map, retransmissions_of, source_counted, source_recounted, OneFewer, number_in}
use Rattle.mq_table.proofs.{Rows.any_in_row, Rows.replaced_state, Places.between_in_row}
use Rattle.mq_table.proofs.group.Group.count_retransmissions_between.Goals as goal

pub recount_each-requires : goal.recount_each-requires
recount_each-requires g c =
    between_in_row g.K.Key.number c.args.self.now.state c.self.inside.sources.items c.self.invariant (ap (λ s. s.state.sources) c.self.view_is)
    c.args.places.first c.args.places.end c.requires

pub invariant_of-self : goal.invariant_of-self
invariant_of-self g c =
    rw c.recount_each.ensures.items (IsAscending-map (number_in g.K.Key.number) (source_recounted OneFewer) c.self.inside.sources.items c.self.invariant)

pub returns-clause-state : goal.returns-clause-state
returns-clause-state g c =
    replaced_state g.K.Key.number (λ s. source_counted) (source_recounted OneFewer) (λ x. refl)
    c.self.inside.mode c.self.inside.v1 c.self.inside.v2 c.self.inside.sources.items c.recount_each.new.sources.items c.args.self.now.state
    (ap (λ s. s.state) c.self.view_is) c.recount_each.ensures.items

pub returns-clause-left : goal.returns-clause-left
returns-clause-left g c = c.recount_each.ensures.left ∙
    sym (any_in_row g.K.Key.number (λ s timer. ltb 0 (retransmissions_of timer)) c.recount_each.new.sources.items
    (rw c.recount_each.ensures.items (IsAscending-map (number_in g.K.Key.number) (source_recounted OneFewer) c.self.inside.sources.items c.self.invariant)))
