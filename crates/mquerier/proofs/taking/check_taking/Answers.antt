use Rattle.mquerier.proofs.Common.{refl, ap, Some, None, Ok, Err, err_from_is_err_and, numbered_announced, Failure}
use Rattle.mquerier.proofs.Takings.{as_found}
use Rattle.mquerier.proofs.taking.check_taking.Goals as goal

pub returns-in_err-totals-in-Ok-Some : goal.returns-in_err-totals-in-Ok-Some
returns-in_err-totals-in-Ok-Some g c =
    let p = err_from_is_err_and c.from_residual.result c.from_residual.ensures.1 in
    rw (p.1, p.2)
    (record {
      found = Ok (Some (numbered_announced g.F.Address.Key.number c.in-Ok-Some.found));
      announces =
          as_found _ _ _ _ _ _ c.in-Ok-Some.field-0-is c.in-Ok-Some.ensures.announces;
      checks = c.in_err-totals-in-Ok-Some.ensures;
    })

pub returns-in-Ok-None : goal.returns-in-Ok-None
returns-in-Ok-None g c =
    record { found = Ok None; announces = as_found _ _ _ _ _ None c.in-Ok-None.field-0-is c.in-Ok-None.ensures.announces; checks = (refl, (refl, refl)) }

pub returns-in-Err : goal.returns-in-Err
returns-in-Err g c =
    record { found = Err c.in-Err.fault; announces = c.in-Err.ensures.announces; checks = (ap (λ (f : Failure). Err f) c.first_failure.ensures, (refl, refl)) }
