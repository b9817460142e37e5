use Rattle.mquerier.proofs.Common.{refl}
use Rattle.mquerier.proofs.Telling.{told_by_printing}
use Rattle.mquerier.proofs.unopened.tell_no_querier.Goals as goal

pub returns : goal.returns
returns g c = told_by_printing _ _ _ _ _ _ c.print.result c.print.ensures.text c.print.ensures.failed refl
