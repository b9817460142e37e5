use Rattle.mquerier.proofs.Common.{refl}
use Rattle.mquerier.proofs.Telling.{told_by_printing}
use Rattle.mquerier.proofs.unopened.tell_late_querier.Goals as goal

pub returns-clause-line : goal.returns-clause-line
returns-clause-line g c = told_by_printing _ _ _ _ _ _ c.print.result c.print.ensures.text c.print.ensures.failed refl
