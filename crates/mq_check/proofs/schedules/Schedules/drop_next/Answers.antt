use Rattle.mq_check.proofs.Common.{ap, refl, ◌∙◌, numbered_asked, SchedulesValue, next_in}
use Rattle.mq_check.{specs.Schedules.terms_of, proofs.Earlier.next_dropped}
use Rattle.mq_check.proofs.schedules.Schedules.drop_next.Goals as goal

pub returns : goal.returns
returns g c =
    let asked = numbered_asked g.F.Address.Key.number c.args.asked in
    let next = c.terms_of.ensures ∙ ap terms_of c.first-next.ensures ∙ ap (λ (s : SchedulesValue). terms_of (next_in asked s)) c.self.view_is in
    c.drop_query.ensures ∙ next_dropped asked _ c.args.self.now _ _ refl next refl
