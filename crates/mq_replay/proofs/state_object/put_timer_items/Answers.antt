use Rattle.mq_replay.proofs.Common.{ℕ, [], ◌++◌, refl, ap, arith, list_map, err_from_is_err_and, nat_tests, Source, SourceTimer, both_passed, broken_behind}
use Rattle.mq_replay.proofs.Common.{broken_within, held_more, nothing_passed, timer_item}
use Rattle.mq_lines.proofs.Listed.{next_of_list}
use Rattle.mq_replay.proofs.ReplayTexts.{one_left}
use Rattle.mq_replay.proofs.state_object.put_timer_items.Goals as goal

pub loop-source-init : goal.loop-source-init
loop-source-init g c = record { put = ([], refl, nothing_passed _ _); same = refl }

pub loop-source-preserved : goal.loop-source-preserved
loop-source-preserved g c =
    let before = c.loop-source.invariant in
    let source = c.source-item.result in
    let number = g.K.Key.number in
    let pair : Source _ → ℕ × SourceTimer = λ x. (number x.address, x.timer) in
    let piece = timer_item g.K.LineKey.family c.loop-source.is_first (pair source) in
    record {
      put = (
        before.put.0 ++ piece,
        next_of_list (timer_item g.K.LineKey.family) _ before.put.0 _ _ _ _ before.put.1
            (ap (list_map pair) (one_left _ _ source source c.loop-source-test.true c.source-item.is)),
        both_passed _ _ _ _ _ _ before.put.0 piece before.put.2 (held_more _ _ _ _ _ [] piece c.in_ok-make_room.ensures.text c.put_timer_item.ensures),
      );
      same = grind (arith, nat_tests, c.in_ok-make_room.ensures.failed, before.same);
    }

pub returns-in_err-make_room-clause-text : goal.returns-in_err-make_room-clause-text
returns-in_err-make_room-clause-text g c =
    let p = err_from_is_err_and c.from_residual.result c.from_residual.ensures.1 in
    let before = c.loop-source.invariant in
    rw (p.1, before.put.1) (broken_behind _ _ _ _ _ before.put.0 _ before.put.2 (broken_within _ _ _ [] _ c.in_err-make_room.ensures.text))
