use Rattle.mq_check.proofs.Common.{◌∙◌, sym, ap, codes, not, truth_object}
use Rattle.std.{proofs.Math.Bool.not-not, specs.Prelude.is_none}
use Rattle.mq_check.{specs.FindingLines.judged_fields, specs.FindingLines.why_object, proofs.Texts.four_parts}
use Rattle.mq_check.proofs.finding_objects.put_judged.Goals as goal

pub returns-clause-text : goal.returns-clause-text
unfolding judged_fields
returns-clause-text c =
    rw (
      c.put-3.ensures.text,
      c.why_object.ensures.text,
      c.put-2.ensures.text,
      c.put_truth.ensures.text,
      sym (ap not c.is_none.ensures ∙ not-not _),
      c.put.ensures.text,
    ) (four_parts c.args.text.now.items (codes "{\"summary\":{\"judged\":") (truth_object (is_none c.args.why)) (codes ",\"why\":")
    (why_object c.args.why))
