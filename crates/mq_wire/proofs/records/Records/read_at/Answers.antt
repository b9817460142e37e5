use Rattle.mq_wire.proofs.Common.{refl, err_from_is_err_and, record_spans}
use Rattle.mq_wire.proofs.{RecordLists.no_record_yet, RecordLists.one_more_record, RecordLists.record_cut, RecordLists.all_records, Spans.end_within}
use Rattle.mq_wire.proofs.records.Records.read_at.Goals as goal

pub loop-init : goal.loop-init
loop-init g c = record { cut = no_record_yet g.K.WireKey.WIDTH c.args.count c.args.place c.args.bytes.now; within = c.requires }

pub record_end-requires : goal.record_end-requires
record_end-requires g c = c.loop.invariant.within

pub returns-in_err-end : goal.returns-in_err-end
returns-in_err-end g c =
    let p = err_from_is_err_and c.from_residual.result c.from_residual.ensures.1 in
    rw (p.1, p.2) (record_cut _ _ _ c.loop.counter c.loop.end c.args.bytes.now c.in_err-end.field-0.0 c.loop.invariant.cut c.loop-test.true
    c.in_err-end.ensures)

pub loop-preserved : goal.loop-preserved
loop-preserved g c =
    record {
      cut = one_more_record _ _ _ c.loop.counter c.loop.end c.in_ok-end.end c.args.bytes.now c.loop.invariant.cut c.loop-test.true c.in_ok-end.ensures;
      within = end_within _ _ _ (record_spans g.K.WireKey.WIDTH c.loop.end c.args.bytes.now) c.loop.invariant.within c.in_ok-end.ensures;
    }

pub invariant_of-result : goal.invariant_of-result
invariant_of-result g c = all_records g.K.WireKey.WIDTH c.args.count c.args.place c.loop.counter c.loop.end c.args.bytes.now c.loop.invariant.cut
    c.loop-test.false

pub returns : goal.returns
returns g c = (
  all_records g.K.WireKey.WIDTH c.args.count c.args.place c.loop.counter c.loop.end c.args.bytes.now c.loop.invariant.cut c.loop-test.false,
  refl,
)
