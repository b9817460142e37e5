use Rattle.mquerier.proofs.Common.{subst, CheckTerms, Settings, Choice, input_by, output_by, PerformsCheck, PerformsConversion}
use Rattle.mquerier.{specs.CheckRuns.checked_settings, proofs.Checkings.check_performed, proofs.Conversions.conversion_performed}
use Rattle.mquerier.proofs.program.perform.Goals as goal

pub returns-in-Convert-clause-performs : goal.returns-in-Convert-clause-performs
returns-in-Convert-clause-performs g c =
    let input = input_by g.R.Read.remaining c.args.input.now c.perform_conversion.new.input in
    let output = output_by g.W.Write.contents c.args.console.now.output c.perform_conversion.new.console.output in
    let errors = output_by g.E.Write.contents c.args.console.now.errors c.perform_conversion.new.console.errors in
    let performs = subst (λ (choice : Choice). PerformsConversion choice c.in-Convert.json input output errors c.perform_conversion.result)
    c.choice_of-choice.ensures c.perform_conversion.ensures.performs in
    rw c.in-Convert.is (conversion_performed _ _ _ _ _ _ input output errors c.perform_conversion.result performs)

pub returns-in-Check-clause-performs : goal.returns-in-Check-clause-performs
returns-in-Check-clause-performs g c =
    let input = input_by g.R.Read.remaining c.args.input.now c.perform_check.new.input in
    let output = output_by g.W.Write.contents c.args.console.now.output c.perform_check.new.console.output in
    let errors = output_by g.E.Write.contents c.args.console.now.errors c.perform_check.new.console.errors in
    let limited = subst
    (λ (settings : Settings). PerformsCheck (record { protocol = c.in-Check.protocol; settings = settings; terms = c.terms_of.result })
    c.in-Check.querier.now input output errors c.perform_check.result) c.checked_settings.ensures c.perform_check.ensures.performs in
    let performs = subst
    (λ (terms : CheckTerms). PerformsCheck (record { protocol = c.in-Check.protocol; settings = checked_settings c.in-Check.settings; terms = terms })
    c.in-Check.querier.now input output errors c.perform_check.result) c.terms_of.ensures limited in
    rw c.in-Check.is (check_performed _ _ _ _ _ _ _ _ _ input output errors c.perform_check.result performs)
