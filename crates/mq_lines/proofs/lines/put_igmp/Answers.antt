use Rattle.mq_lines.proofs.Common.{[], Igmp}
use Rattle.mq_lines.proofs.Answered.{answer_put}
use Rattle.mq_lines.proofs.lines.put_igmp.Goals as goal

pub returns-clause-text : goal.returns-clause-text
returns-clause-text g c =
    answer_put c.args.json _ _ _ _ Igmp [] _ c.read_igmp.result _ (λ m same. (c.read_igmp.ensures.message m).0 same)
    (λ f same. (c.read_igmp.ensures.fault f).0 same) c.put_answer.ensures.text
