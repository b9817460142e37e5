use Rattle.mquerier.proofs.Common.{◌∙◌}
use Rattle.mquerier.proofs.Telling.{told_by_printing}
use Rattle.mquerier.proofs.unopened.refuse_file.Goals as goal

pub returns-clause-line : goal.returns-clause-line
returns-clause-line g c =
    told_by_printing _ _ _ _ _ _ c.print.result c.print.ensures.text c.print.ensures.failed (c.as_slice.ensures ∙ c.unopened_line_of.ensures)
