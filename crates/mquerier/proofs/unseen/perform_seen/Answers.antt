use Rattle.mquerier.proofs.Common.{refl, input_by, output_by, output_of}
use Rattle.mquerier.proofs.Seen.{is_performed, not_performed}
use Rattle.mquerier.proofs.unseen.perform_seen.Goals as goal

pub returns-in-Some-clause-performs : goal.returns-in-Some-clause-performs
returns-in-Some-clause-performs g c =
    let input = input_by g.R.Read.remaining c.args.input.now c.args.input.now in
    let output = output_by g.W.Write.contents c.args.console.now.output c.args.console.now.output in
    let errors = output_by g.E.Write.contents c.args.console.now.errors c.refusal_of.new.errors in
    record {
      found = c.seek-found.result;
      seeks = c.seek-found.ensures;
      performs = not_performed _ _ input output errors _ _ c.in-Some.ensures (refl, refl);
    }

pub returns-in-None-clause-performs : goal.returns-in-None-clause-performs
returns-in-None-clause-performs g c =
    let input = input_by g.R.Read.remaining c.args.input.now c.perform.new.input in
    let output = output_by g.W.Write.contents c.args.console.now.output c.perform.new.console.output in
    let old = output_of g.E.Write.contents c.args.console.now.errors in
    let mid = output_of g.E.Write.contents c.refusal_of.new.errors in
    let new = output_of g.E.Write.contents c.perform.new.console.errors in
    record {
      found = c.seek-found.result;
      seeks = c.seek-found.ensures;
      performs = is_performed _ _ input output old mid new _ _ c.in-None.ensures c.perform.ensures.performs;
    }
