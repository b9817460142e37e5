use Rattle.mquerier.proofs.Common.{arith, Igmp, Mld, input_by, output_by}
use Rattle.mquerier.proofs.Replayed.{replayed_for}
use Rattle.mquerier.proofs.replaying.replay_capture.Goals as goal

pub returns-in-Some-clause-works : goal.returns-in-Some-clause-works
returns-in-Some-clause-works g c =
    let input = input_by g.R.Read.remaining c.args.input.now c.replay_at.new.input in
    let output = output_by g.W.Write.contents c.args.output.now c.replay_at.new.output in
    rw (c.in-Igmp.is) (replayed_for Igmp c.args.own.now c.in-Some.address c.args.options.now.settings
    c.args.options.now.asked input output c.replay_at.result c.in-Some.ensures
    c.replay_at.ensures.works)

pub returns-in-Some-read_v6-clause-works : goal.returns-in-Some-read_v6-clause-works
returns-in-Some-read_v6-clause-works g c =
    let input = input_by g.R.Read.remaining c.args.input.now c.replay_at-in-Some-read_v6.new.input in
    let output = output_by g.W.Write.contents c.args.output.now c.replay_at-in-Some-read_v6.new.output in
    rw (c.in-Mld.is) (replayed_for Mld c.args.own.now c.in-Some-read_v6.address c.args.options.now.settings
    c.args.options.now.asked input output c.replay_at-in-Some-read_v6.result
    c.in-Some-read_v6.ensures c.replay_at-in-Some-read_v6.ensures.works)

pub returns-in-None-read_v6-clause-works : goal.returns-in-None-read_v6-clause-works
returns-in-None-read_v6-clause-works g c = rw (c.in-Mld.is) (λ e. c.in-None-read_v6.ensures, λ e. absurd (omega (arith, e)))
