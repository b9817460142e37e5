use Rattle.mq_wire.proofs.Common.{◌≤◌, length, ◌∷◌, [], replicate, ap, ◌*◌, ℕ, arith, err_from_is_err_and}
use Rattle.mq_wire.proofs.{RecordLists.record_ends, RecordLists.sources_cut, Spans.end_within}
use Rattle.mq_wire.proofs.records.record_end.Goals as goal

pub returns-in_err-auxiliary : goal.returns-in_err-auxiliary
returns-in_err-auxiliary g c =
    let p = err_from_is_err_and c.from_residual-in_err-auxiliary.result c.from_residual-in_err-auxiliary.ensures.1 in
    rw (p.1, p.2) (sources_cut g.K.WireKey.WIDTH c.args.place c.WIDTH.result c.in_ok-sources.sources c.number_at.result c.args.bytes.now
    c.in_err-auxiliary.field-0.0 c.WIDTH.ensures c.number_at.ensures c.in_ok-sources.ensures c.in_err-auxiliary.ensures)

pub fields_end-requires-2 : goal.fields_end-requires-2
fields_end-requires-2 g c =
    let sources : c.in_ok-sources.sources ≤ length c.args.bytes.now = end_within _ _ _ (1 ∷ 1 ∷ 2 ∷ c.WIDTH.result ∷ [])
    (omega arith) c.in_ok-sources.ensures in
    end_within _ _ _ (replicate c.number_at.result g.K.WireKey.WIDTH) sources c.in_ok-auxiliary.ensures

pub returns : goal.returns
returns g c =
    record_ends g.K.WireKey.WIDTH c.args.place c.WIDTH.result c.in_ok-sources.sources c.in_ok-auxiliary.auxiliary c.number_at.result
    (4 * c.from.result) c.args.bytes.now c.fields_end-2.result c.WIDTH.ensures c.number_at.ensures
    (ap (λ (n : ℕ). 4 * n) c.from.ensures) c.in_ok-sources.ensures c.in_ok-auxiliary.ensures c.fields_end-2.ensures
