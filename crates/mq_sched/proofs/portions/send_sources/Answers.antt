use Rattle.mq_sched.proofs.Common.{◌<◌, ◌+◌, ◌++◌, ◌∙◌, length, drop, sym, ap, arith, subst, list_map, append-nil, drop_all, Spends-join_within}
use Rattle.mq_sched.proofs.Common.{sources_queries, Sends, going_with}
use Rattle.mq_sched.proofs.Collecting.{going_more, going_same}
use Rattle.mq_sched.proofs.portions.send_sources.Goals as goal
use Rattle.mq_sched.proofs.portions.send_sources.Goals.{then-goes, else-goes}

pub loop-source-preserved : goal.loop-source-preserved
loop-source-preserved g c =
    let number = g.K.Key.number in
    let row = c.args.row.now in
    let place = c.loop-source.source-index in
    let so_far = c.loop-source.invariant in
    let within : place < length row = c.loop-source-test.true in
    let spent = Spends-join_within 0 (place + 1) so_far.spent c.goes.ensures.spent (omega arith) (omega arith) in
    elim c.if-goes.branch [
      | then-goes w ↦
          let more = going_more number c.args.limit c.args.suppress row place c.source-item.result within c.source-item.is
          (sym c.goes.ensures.answer ∙ w.if-goes.true) in
          let ahead = rw more at so_far.sent in
          let pushed = rw (so_far.group, so_far.suppress, so_far.per_query) at
          (w.push.ensures.sent (going_with number c.args.limit c.args.suppress (drop (place + 1) row))) in
          rw (w.collected-is, w.sink-is) (record {
            group = ap (λ r. r.group) w.push.ensures.parts ∙ so_far.group;
            suppress = ap (λ r. r.suppress) w.push.ensures.parts ∙ so_far.suppress;
            per_query = ap (λ r. r.per_query) w.push.ensures.parts ∙ so_far.per_query;
            room = omega (arith, w.push.ensures.room, so_far.per_query);
            sent = λ end later. ahead end (pushed end later);
            spent = spent;
          })
      | else-goes w ↦
          let same = going_same number c.args.limit c.args.suppress row place c.source-item.result within c.source-item.is
          (sym c.goes.ensures.answer ∙ w.if-goes.false) in
          rw (w.collected-is, w.sink-is) (record {
            group = so_far.group;
            suppress = so_far.suppress;
            per_query = so_far.per_query;
            room = so_far.room;
            sent = rw same at so_far.sent;
            spent = spent;
          })
    ]

pub returns-clause-sent : goal.returns-clause-sent
returns-clause-sent g c =
    let number = g.K.Key.number in
    let row = c.args.row.now in
    let so_far = c.loop-source.invariant in
    let over = drop_all c.loop-source.source-index row (omega (arith, c.loop-source-test.false)) in
    let none = ap (going_with number c.args.limit c.args.suppress) over in
    let last = rw (so_far.group, so_far.suppress, so_far.per_query) at c.finish.ensures in
    so_far.sent c.finish.new.sink
    (subst (λ xs. Sends g.S.Sink.takes c.loop-source.sink (sources_queries c.args.per_query (number c.args.group) c.args.suppress xs) c.finish.new.sink)
    (sym (ap (λ xs. list_map number c.loop-source.collected.sources.items ++ xs) none ∙
    append-nil (list_map number c.loop-source.collected.sources.items))) last)
