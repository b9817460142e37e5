use Rattle.mq_check.proofs.Common.{ℕ, ap, ◌∙◌, silence_up_to}
use Rattle.mq_check.proofs.Entering.{lost_put}
use Rattle.mq_check.proofs.checking.Checking.lose_role.Goals as goal

pub returns : goal.returns
returns g c =
    let passed = c.silence-passed.ensures ∙ ap (λ (m : ℕ). silence_up_to c.args.within c.args.configured m c.self.inside.phase) c.ms.ensures in
    lost_put _ _ _ _ _ _ _ _ _ c.self.view_is c.moment.ensures.same passed c.put_silence.ensures c.drop_all_next.ensures
