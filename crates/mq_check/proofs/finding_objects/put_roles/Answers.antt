use Rattle.mq_check.proofs.Common.{codes, truth_object, count_text, last_lost}
use Rattle.mq_check.{specs.Basis.is_unseen, proofs.Texts.five_parts}
use Rattle.mq_check.proofs.finding_objects.put_roles.Goals as goal

pub returns : goal.returns
returns c =
    let basis = c.args.basis.now in
    rw (
      c.put-2.ensures.text,
      c.put_truth.ensures.text,
      c.is_unseen.ensures,
      c.put.ensures.text,
      c.put_last_lost.ensures.text,
      c.put_count.ensures.text,
    ) (five_parts c.args.text.now.items (count_text (codes ",\"roles\":{\"lost\":") basis.lost) (last_lost basis) (codes ",\"unseen\":")
    (truth_object (is_unseen basis)) (codes "}"))
