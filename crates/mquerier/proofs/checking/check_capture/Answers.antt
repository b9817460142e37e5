use Rattle.mquerier.proofs.Common.{arith, Igmp, Mld, input_by, output_by}
use Rattle.mquerier.proofs.Checkings.{checked_for}
use Rattle.mquerier.proofs.checking.check_capture.Goals as goal

pub returns-in-Some-clause-works : goal.returns-in-Some-clause-works
returns-in-Some-clause-works g c =
    let input = input_by g.R.Read.remaining c.args.input.now c.check_at.new.input in
    let output = output_by g.W.Write.contents c.args.output.now c.check_at.new.output in
    rw (c.in-Igmp.is) (checked_for Igmp c.args.querier.now c.in-Some.address c.args.options.now.settings c.args.options.now.terms input output
    c.check_at.result c.in-Some.ensures c.check_at.ensures.works)

pub returns-in-Some-read_v6-clause-works : goal.returns-in-Some-read_v6-clause-works
returns-in-Some-read_v6-clause-works g c =
    let input = input_by g.R.Read.remaining c.args.input.now c.check_at-in-Some-read_v6.new.input in
    let output = output_by g.W.Write.contents c.args.output.now c.check_at-in-Some-read_v6.new.output in
    rw (c.in-Mld.is) (checked_for Mld c.args.querier.now c.in-Some-read_v6.address c.args.options.now.settings c.args.options.now.terms input output
    c.check_at-in-Some-read_v6.result c.in-Some-read_v6.ensures c.check_at-in-Some-read_v6.ensures.works)

pub returns-in-None-read_v6-clause-works : goal.returns-in-None-read_v6-clause-works
returns-in-None-read_v6-clause-works g c = rw (c.in-Mld.is) (λ e. c.in-None-read_v6.ensures, λ e. absurd (omega (arith, e)))
