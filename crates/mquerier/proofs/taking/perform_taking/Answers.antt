use Rattle.mquerier.proofs.Common.{input_by, output_by}
use Rattle.mquerier.proofs.Takings.{as_result, taking_done, taking_failed, taking_nothing}
use Rattle.mquerier.proofs.taking.perform_taking.Goals as goal

pub returns-in-Ok-Some-clause-performs : goal.returns-in-Ok-Some-clause-performs
returns-in-Ok-Some-clause-performs g c =
    let first = input_by g.Q.Read.remaining c.args.first.now c.check_named.new.first in
    let input = input_by g.R.Read.remaining c.args.input.now c.check_named.new.input in
    let output = output_by g.W.Write.contents c.args.console.now.output c.check_named.new.output in
    let errors = output_by g.E.Write.contents c.args.console.now.errors c.status_of_totals.new.errors in
    taking_done c.args.options.now first input output errors _ _
    (as_result _ _ _ _ _ _ _ c.in-Ok-Some.field-0-is c.in-Ok-Some.ensures) c.status_of_totals.ensures

pub returns-in-Ok-None-clause-performs : goal.returns-in-Ok-None-clause-performs
returns-in-Ok-None-clause-performs g c =
    let first = input_by g.Q.Read.remaining c.args.first.now c.check_named.new.first in
    let input = input_by g.R.Read.remaining c.args.input.now c.check_named.new.input in
    let output = output_by g.W.Write.contents c.args.console.now.output c.check_named.new.output in
    let errors = output_by g.E.Write.contents c.args.console.now.errors c.tell_no_querier.new.errors in
    taking_nothing c.args.options.now first input output errors
    (as_result _ _ _ _ _ _ _ c.in-Ok-None.field-0-is c.in-Ok-None.ensures) c.tell_no_querier.ensures

pub returns-in-Err-clause-performs : goal.returns-in-Err-clause-performs
returns-in-Err-clause-performs g c =
    let first = input_by g.Q.Read.remaining c.args.first.now c.check_named.new.first in
    let input = input_by g.R.Read.remaining c.args.input.now c.check_named.new.input in
    let output = output_by g.W.Write.contents c.args.console.now.output c.check_named.new.output in
    let errors = output_by g.E.Write.contents c.args.console.now.errors c.told.new.errors in
    taking_failed c.args.options.now first input output errors _ _ c.in-Err.ensures c.told.ensures.status c.told.ensures.line
