use Rattle.mquerier.proofs.Common.{◌∙◌}
use Rattle.mquerier.proofs.Telling.{told_by_printing}
use Rattle.mquerier.proofs.program.tell_object.Goals as goal

pub returns : goal.returns
returns g c =
    told_by_printing _ _ _ _ _ _ c.print.result c.print.ensures.text c.print.ensures.failed (c.as_slice.ensures ∙ c.counts_object_of.ensures)
