use Rattle.mq_replay.proofs.Common.{ℕ, List, [], arith, err_from_is_err_and, nat_tests, Source, broken_among, held_more, item_passed, named_by}
use Rattle.mq_replay.proofs.change_lines.put_all_named.Goals as goal

pub loop-source-preserved : goal.loop-source-preserved
loop-source-preserved g c =
    let before = c.loop-source.invariant in
    let source = c.source-item.result in
    let text : Source _ → List ℕ = λ x. named_by g.K.LineKey.family c.args.mode.now (g.K.Key.number x.address) x.timer in
    record {
      put = item_passed text _ _ _ _ _ _ _ _ source source c.loop-source-test.true c.source-item.is
          before.put (held_more _ _ _ _ _ [] (text source) c.in_ok-make_room.ensures.text c.put_named.ensures);
      same = grind (arith, nat_tests, c.in_ok-make_room.ensures.failed, before.same);
    }

pub returns-in_err-make_room-clause-text : goal.returns-in_err-make_room-clause-text
returns-in_err-make_room-clause-text g c =
    let p = err_from_is_err_and c.from_residual.result c.from_residual.ensures.1 in
    let text : Source _ → List ℕ = λ x. named_by g.K.LineKey.family c.args.mode.now (g.K.Key.number x.address) x.timer in
    rw p.1 (broken_among text _ _ _ _ _ _ _ c.loop-source.invariant.put c.in_err-make_room.ensures.text)
