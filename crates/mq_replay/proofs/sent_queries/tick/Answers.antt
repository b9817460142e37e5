use Rattle.mq_replay.proofs.Common.{sym, ◌∙◌}
use Rattle.mq_replay.proofs.PrintedQueries.{printed_by, same_buffer, same_writer}
use Rattle.mq_replay.proofs.sent_queries.tick.Goals as goal

pub returns-clause-ticks : goal.returns-clause-ticks
returns-clause-ticks g c =
    let ticks = c.tick.ensures.ticks in
    let made = c.new-queries.ensures in
    let contents = g.W.Write.contents in
    let family = g.F.Address.LineKey.family in
    let writer = same_writer contents family c.new-queries.result ticks.messages ticks.answers c.tick.new.outlet ticks.handed ∙ made.same_writer in
    let buffer = same_buffer contents family c.new-queries.result ticks.messages ticks.answers c.tick.new.outlet ticks.handed ∙ made.same_buffer in
    let done = printed_by contents family c.args.json c.args.now c.new-queries.result ticks.messages ticks.answers c.tick.new.outlet c.answer.result
    made.json made.moment made.answer ticks.handed c.answer.ensures in
    rw (c.writer-1.given.1 (sym writer), c.buffer-1.given.1 (sym buffer), ← made.writer, ← made.buffer)
    (record { messages = ticks.messages; answers = ticks.answers; ticks = ticks.ticks; put = done.put; all_sent = done.all_sent })

pub returns-clause-failed : goal.returns-clause-failed
returns-clause-failed g c =
    let ticks = c.tick.ensures.ticks in
    let made = c.new-queries.ensures in
    let contents = g.W.Write.contents in
    let family = g.F.Address.LineKey.family in
    let writer = same_writer contents family c.new-queries.result ticks.messages ticks.answers c.tick.new.outlet ticks.handed ∙ made.same_writer in
    let done = printed_by contents family c.args.json c.args.now c.new-queries.result ticks.messages ticks.answers c.tick.new.outlet c.answer.result
    made.json made.moment made.answer ticks.handed c.answer.ensures in
    rw (c.writer-1.given.1 (sym writer), ← made.writer) done.failed
