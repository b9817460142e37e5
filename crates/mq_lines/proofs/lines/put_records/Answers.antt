use Rattle.mq_lines.proofs.Common.{[], ◌++◌, ap, refl, sym, ◌∙◌, arith, err_from_is_err_and, nat_tests, nothing_passed, both_passed, broken_behind}
use Rattle.mq_lines.proofs.Common.{broken_within, record_item, record_items}
use Rattle.mq_wire.specs.Numbered.{numbered_record}
use Rattle.mq_lines.proofs.Listed.{next_of_list}
use Rattle.mq_lines.proofs.lines.put_records.Goals as goal

pub loop-view-init : goal.loop-view-init
loop-view-init g c =
    record {
      put = ([], ap (record_items c.args.json g.K.LineKey.family) (sym c.into_iter-view-iterator.ensures.into_iter_gives), nothing_passed _ _);
      same = grind arith;
      same_loan = refl;
    }

pub loop-view-preserved : goal.loop-view-preserved
loop-view-preserved g c =
    let before = c.loop-view.invariant in
    let piece = record_item c.args.json g.K.LineKey.family c.loop-view.is_first (numbered_record g.K.Key.number c.in-Some.view) in
    record {
      put = (
        before.put.0 ++ piece,
        next_of_list (record_item c.args.json g.K.LineKey.family) _ before.put.0 _ _ _ _ before.put.1 c.in-Some.ensures.steps,
        both_passed _ _ _ _ _ _ before.put.0 piece before.put.2 c.in_ok-put_record.ensures.text,
      );
      same = grind (arith, nat_tests, c.in_ok-put_record.ensures.failed, before.same);
      same_loan = c.in_ok-put_record.ensures.same_loan ∙ before.same_loan;
    }

pub returns-in_err-put_record-clause-text : goal.returns-in_err-put_record-clause-text
returns-in_err-put_record-clause-text g c =
    let p = err_from_is_err_and c.from_residual.result c.from_residual.ensures.1 in
    let before = c.loop-view.invariant in
    let piece = record_item c.args.json g.K.LineKey.family c.loop-view.is_first (numbered_record g.K.Key.number c.in-Some.view) in
    let parts = next_of_list (record_item c.args.json g.K.LineKey.family) _ before.put.0 _ _ _ _ before.put.1 c.in-Some.ensures.steps in
    rw (p.1, parts) (broken_within _ _ _ (before.put.0 ++ piece) _ (broken_behind _ _ _ _ _ before.put.0 piece before.put.2 c.in_err-put_record.ensures.text))
