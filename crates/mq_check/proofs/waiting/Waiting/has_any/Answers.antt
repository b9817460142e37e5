use Rattle.mq_check.proofs.Common.{ℕ, ap, ◌∙◌, numbered_asked}
use Rattle.mq_check.specs.Waiting.{has_free}
use Rattle.mq_check.proofs.waiting.Waiting.has_any.Goals as goal

pub returns : goal.returns
returns g c =
    c.has_free.ensures ∙ ap (λ (from : ℕ). has_free c.args.side (numbered_asked g.F.Address.Key.number c.args.asked) from c.args.self.now) c.start.ensures
