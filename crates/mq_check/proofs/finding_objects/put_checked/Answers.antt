use Rattle.mq_check.proofs.Common.{codes, querier_object}
use Rattle.mq_check.{specs.FindingLines.variables_field, proofs.Texts.three_parts}
use Rattle.mq_check.proofs.finding_objects.put_checked.Goals as goal

pub returns : goal.returns
returns c =
    let basis = c.args.basis.now in
    rw (c.put_variables.ensures, c.put_querier_object.ensures.text, c.put.ensures.text)
    (three_parts c.args.text.now.items (codes ",\"querier\":") (querier_object basis.own) (variables_field basis.variables))
