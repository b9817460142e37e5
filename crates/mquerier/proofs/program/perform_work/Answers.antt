use Rattle.mquerier.proofs.Common.{refl, input_by, output_by}
use Rattle.mquerier.proofs.Checkings.{work_failed}
use Rattle.mquerier.proofs.program.perform_work.Goals as goal

pub returns-in-Err-clause-performs : goal.returns-in-Err-clause-performs
returns-in-Err-clause-performs g c =
    let input = input_by g.R.Read.remaining c.args.input.now c.work.new.input in
    let output = output_by g.W.Write.contents c.args.console.now.output c.work.new.output in
    let errors = output_by g.E.Write.contents c.args.console.now.errors c.told.new.errors in
    work_failed c.args.request.now c.args.console.now.in_words input output errors _ _ c.requires.converts_nothing c.requires.checks_nothing
    c.in-Err.ensures.works (λ none. rw (c.in-Err.ensures.unwritten none) refl) (λ message. rw (c.in-Err.ensures.unread message) refl)
    (λ two. rw (c.in-Err.ensures.refused two) refl) c.told.ensures.status c.told.ensures.line
