use Rattle.mquerier.proofs.Common.{input_by, output_by}
use Rattle.mquerier.proofs.Worked.{worked}
use Rattle.mquerier.proofs.work.work.Goals as goal

pub returns-in-Message-clause-works : goal.returns-in-Message-clause-works
returns-in-Message-clause-works g c =
    let input = input_by g.R.Read.remaining c.args.input.now c.args.input.now in
    let output = output_by g.W.Write.contents c.args.output.now c.message.new.output in
    rw c.in-Message.is (worked c.in-Message.json c.in-Message.protocol c.in-Message.hex c.in-Message.from c.in-Message.to input output
    c.message.result c.message.ensures.works)
