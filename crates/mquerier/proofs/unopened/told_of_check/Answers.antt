use Rattle.mquerier.proofs.Common.{ℕ, List, subst, ◌∙◌, output_by, IsTold}
use Rattle.mquerier.proofs.{Checkings.explained, Telling.told_by_printing}
use Rattle.mquerier.proofs.unopened.told_of_check.Goals as goal

pub returns-in-NotAnAddress-clause-line : goal.returns-in-NotAnAddress-clause-line
returns-in-NotAnAddress-clause-line g c =
    rw c.in-NotAnAddress.is
    (told_by_printing _ _ _ _ _ _ c.print.result c.print.ensures.text c.print.ensures.failed (c.as_slice.ensures ∙ c.no_address_line_of.ensures))

pub returns-in_default : goal.returns-in_default
returns-in_default g c = record {
  status = c.told.ensures.status;
  line = subst (λ (t : List ℕ). IsTold (output_by g.E.Write.contents c.args.errors.now c.told.new.errors) t)
      (explained c.args.querier.now c.args.failure c.in_default.not-NotAnAddress) c.told.ensures.line;
}
