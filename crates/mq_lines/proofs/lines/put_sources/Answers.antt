use Rattle.mq_lines.proofs.Common.{[], ◌++◌, ap, refl, sym, ◌∙◌, arith, err_from_is_err_and, nat_tests, nothing_passed, both_passed, held_more, broken_behind}
use Rattle.mq_lines.proofs.Common.{broken_within, source_item, source_items}
use Rattle.mq_lines.proofs.Listed.{next_of_list}
use Rattle.mq_lines.proofs.lines.put_sources.Goals as goal

pub loop-source-init : goal.loop-source-init
loop-source-init g c =
    record {
      put = ([], ap (source_items c.args.json g.K.LineKey.family) (sym c.into_iter-source-iterator.ensures.into_iter_gives), nothing_passed _ _);
      same = grind arith;
      same_loan = refl;
    }

pub loop-source-preserved : goal.loop-source-preserved
loop-source-preserved g c =
    let before = c.loop-source.invariant in
    let piece = source_item c.args.json g.K.LineKey.family c.loop-source.is_first (g.K.Key.number c.in-Some.source) in
    record {
      put = (
        before.put.0 ++ piece,
        next_of_list (source_item c.args.json g.K.LineKey.family) _ before.put.0 _ _ _ _ before.put.1 c.in-Some.ensures.steps,
        both_passed _ _ _ _ _ _ before.put.0 piece before.put.2 (held_more _ _ _ _ _ [] piece c.in_ok-make_room.ensures.text c.put_source.ensures),
      );
      same = grind (arith, nat_tests, c.in_ok-make_room.ensures.failed, before.same);
      same_loan = c.in_ok-make_room.ensures.same_loan ∙ before.same_loan;
    }

pub returns-in_err-make_room-clause-text : goal.returns-in_err-make_room-clause-text
returns-in_err-make_room-clause-text g c =
    let p = err_from_is_err_and c.from_residual.result c.from_residual.ensures.1 in
    let before = c.loop-source.invariant in
    rw (p.1, before.put.1) (broken_behind _ _ _ _ _ before.put.0 _ before.put.2 (broken_within _ _ _ [] _ c.in_err-make_room.ensures.text))
