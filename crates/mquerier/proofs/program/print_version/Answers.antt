use Rattle.mquerier.proofs.Common.{◌∙◌, output_by}
use Rattle.mq_command.specs.declared.TheConstants.{VERSION}
use Rattle.mquerier.proofs.Telling.{version_failed}
use Rattle.mquerier.proofs.program.print_version.Goals as goal

pub returns-in-Err-clause-prints : goal.returns-in-Err-clause-prints
returns-in-Err-clause-prints g c =
    let output = output_by g.W.Write.contents c.args.console.now.output c.print_whole.new.output in
    let errors = output_by g.E.Write.contents c.args.console.now.errors c.told.new.errors in
    version_failed VERSION.now _ output errors _ _ c.told.result (c.as_slice.ensures ∙ c.version_line_of.ensures) c.in-Err.ensures
    c.told.ensures.status c.told.ensures.line
