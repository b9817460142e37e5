use Rattle.mquerier.proofs.Common.{refl, input_by, output_by}
use Rattle.mquerier.proofs.Checkings.{check_concluded, check_failed, not_two}
use Rattle.mquerier.proofs.program.perform_check.Goals as goal

pub returns-in-Ok-clause-performs : goal.returns-in-Ok-clause-performs
returns-in-Ok-clause-performs g c =
    let input = input_by g.R.Read.remaining c.args.input.now c.check_capture.new.input in
    let output = output_by g.W.Write.contents c.args.console.now.output c.check_capture.new.output in
    let errors = output_by g.E.Write.contents c.args.console.now.errors c.status_of_totals.new.errors in
    check_concluded c.args.options.now _ input output errors _ _ c.in-Ok.ensures.works c.status_of_totals.ensures

pub returns-in-Ok-clause-refused : goal.returns-in-Ok-clause-refused
returns-in-Ok-clause-refused g c = λ two. not_two _ _ _ c.status_of_totals.ensures two

pub returns-in-Ok-clause-unasked : goal.returns-in-Ok-clause-unasked
returns-in-Ok-clause-unasked g c = λ two. not_two _ _ _ c.status_of_totals.ensures two

pub returns-in-Err-clause-performs : goal.returns-in-Err-clause-performs
returns-in-Err-clause-performs g c =
    let input = input_by g.R.Read.remaining c.args.input.now c.check_capture.new.input in
    let output = output_by g.W.Write.contents c.args.console.now.output c.check_capture.new.output in
    let errors = output_by g.E.Write.contents c.args.console.now.errors c.told_of_check.new.errors in
    check_failed c.args.options.now _ input output errors _ _ c.in-Err.ensures.works
    (λ none. rw (c.in-Err.ensures.unread none) refl) (λ none. rw (c.in-Err.ensures.unwritten none) refl) c.told_of_check.ensures.status
    c.told_of_check.ensures.line
