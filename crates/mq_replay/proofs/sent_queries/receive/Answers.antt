use Rattle.mq_replay.proofs.Common.{Ok, Err, refl, sym, ◌∙◌, err_from_is_err_and}
use Rattle.mq_replay.proofs.PrintedQueries.{printed_by, same_buffer, same_writer}
use Rattle.mq_replay.proofs.sent_queries.receive.Goals as goal

pub returns-in_err-answer-clause-receives : goal.returns-in_err-answer-clause-receives
returns-in_err-answer-clause-receives g c =
    let p = err_from_is_err_and c.from_residual.result c.from_residual.ensures.1 in
    let receives = c.receive-received.ensures.receives in
    let made = c.new-queries.ensures in
    let contents = g.W.Write.contents in
    let family = g.F.Address.LineKey.family in
    let writer = same_writer contents family c.new-queries.result receives.messages receives.answers c.receive-received.new.outlet receives.handed ∙
    made.same_writer in
    let buffer = same_buffer contents family c.new-queries.result receives.messages receives.answers c.receive-received.new.outlet receives.handed ∙
    made.same_buffer in
    let done = printed_by contents family c.args.json c.args.now c.new-queries.result receives.messages receives.answers c.receive-received.new.outlet
    (Err c.in_err-answer.field-0.0) made.json made.moment made.answer receives.handed c.in_err-answer.ensures in
    rw (c.writer-1.given.1 (sym writer), c.buffer-1.given.1 (sym buffer), p.1, ← made.writer, ← made.buffer) (record {
      answer = c.receive-received.result;
      messages = receives.messages;
      answers = receives.answers;
      receives = receives.receives;
      put = done.put;
      answer_is = tt;
      all_sent = tt;
    })

pub returns-in_err-answer-clause-failed : goal.returns-in_err-answer-clause-failed
returns-in_err-answer-clause-failed g c =
    let p = err_from_is_err_and c.from_residual.result c.from_residual.ensures.1 in
    let receives = c.receive-received.ensures.receives in
    let made = c.new-queries.ensures in
    let contents = g.W.Write.contents in
    let family = g.F.Address.LineKey.family in
    let writer = same_writer contents family c.new-queries.result receives.messages receives.answers c.receive-received.new.outlet receives.handed ∙
    made.same_writer in
    let done = printed_by contents family c.args.json c.args.now c.new-queries.result receives.messages receives.answers c.receive-received.new.outlet
    (Err c.in_err-answer.field-0.0) made.json made.moment made.answer receives.handed c.in_err-answer.ensures in
    rw (c.writer-1.given.1 (sym writer), p.1, ← made.writer) done.failed

pub returns-clause-receives : goal.returns-clause-receives
returns-clause-receives g c =
    let receives = c.receive-received.ensures.receives in
    let made = c.new-queries.ensures in
    let contents = g.W.Write.contents in
    let family = g.F.Address.LineKey.family in
    let writer = same_writer contents family c.new-queries.result receives.messages receives.answers c.receive-received.new.outlet receives.handed ∙
    made.same_writer in
    let buffer = same_buffer contents family c.new-queries.result receives.messages receives.answers c.receive-received.new.outlet receives.handed ∙
    made.same_buffer in
    let done = printed_by contents family c.args.json c.args.now c.new-queries.result receives.messages receives.answers c.receive-received.new.outlet
    (Ok c.in_ok-answer.field-0) made.json made.moment made.answer receives.handed c.in_ok-answer.ensures in
    rw (c.writer-1.given.1 (sym writer), c.buffer-1.given.1 (sym buffer), ← made.writer, ← made.buffer) (record {
      answer = c.receive-received.result;
      messages = receives.messages;
      answers = receives.answers;
      receives = receives.receives;
      put = done.put;
      answer_is = refl;
      all_sent = done.all_sent;
    })

pub returns-clause-failed : goal.returns-clause-failed
returns-clause-failed g c =
    let receives = c.receive-received.ensures.receives in
    let made = c.new-queries.ensures in
    let contents = g.W.Write.contents in
    let family = g.F.Address.LineKey.family in
    let writer = same_writer contents family c.new-queries.result receives.messages receives.answers c.receive-received.new.outlet receives.handed ∙
    made.same_writer in
    let done = printed_by contents family c.args.json c.args.now c.new-queries.result receives.messages receives.answers c.receive-received.new.outlet
    (Ok c.in_ok-answer.field-0) made.json made.moment made.answer receives.handed c.in_ok-answer.ensures in
    rw (c.writer-1.given.1 (sym writer), ← made.writer) done.failed
