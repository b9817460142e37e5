use Rattle.mq_check.proofs.Common.{ap, sym, ◌∙◌, is_some}
use Rattle.mq_check.proofs.Entering.{has_terms, wanted_put}
use Rattle.mq_check.proofs.checking.Checking.want.Goals as goal

pub returns : goal.returns
returns g c =
    let found = c.is_some-is_found.ensures ∙ sym (has_terms g.F.Address.Key.number c.join.result) ∙ ap is_some c.join.ensures.terms in
    wanted_put _ _ _ _ _ _ _ _ _ _ _ _ _ _ c.near-from.ensures c.self.view_is c.forget.ensures c.need-need.ensures c.want.ensures c.drop_next.ensures
    found c.join.ensures.joined c.put.ensures
