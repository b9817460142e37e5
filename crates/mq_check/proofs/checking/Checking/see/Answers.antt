use Rattle.mq_check.proofs.Common.{ap, sym, ◌∙◌, CheckingValue, numbered_asked, numbered_terms, caused, followed}
use Rattle.mq_check.proofs.Entering.{has_terms, seen_put}
use Rattle.mq_check.proofs.checking.Checking.see.Goals as goal

pub returns : goal.returns
returns g c =
    let number = g.F.Address.Key.number in
    let terms = numbered_terms number c.args.terms in
    let asked = numbered_asked number c.args.asked in
    let has = c.is_some-has_partner.ensures ∙ sym (has_terms number c.pair-partner.result) in
    let follows = c.is_some-follows.ensures ∙ sym (has_terms number c.followed-next.result) in
    let goes_on = c.followed-next.ensures
    ∙ ap (λ (v : CheckingValue). followed c.args.moment c.args.standing.is_above asked v.schedules) c.self-2.view_is in
    let causes = c.caused-caused.ensures ∙ ap (λ (v : CheckingValue). caused c.args.moment asked v.schedules) c.self-2.view_is in
    let is_above_7 = c.is_above_7-above_7.ensures ∙ ap (λ (v : CheckingValue). v.schedules.repeats.above_7) c.self.view_is in
    seen_put c.args.moment terms c.args.standing asked _ _ _ _ _ _ _ _ _ _ _ _ _ _ _ _ _ _
    c.near-from.ensures is_above_7 c.self-3.view_is c.forget.ensures c.alone-alone.ensures goes_on
    causes c.note_unmuted.ensures c.pair-partner.ensures.partner c.pair-partner.ensures.paired has follows
    c.is_possible-is_possible.ensures c.first_of-either.ensures c.place.ensures c.s_for-s.ensures c.put_seen.ensures
