use Rattle.mq_wire.proofs.Common.{◌+◌, ◌*◌, ℕ, replicate, length, sym, ap, ◌∙◌, arith, err_from_is_err_and, cut_from}
use Rattle.mq_wire.proofs.{Spans.ends_within, Spans.sum-replicate, Addresses.bytes_behind, Queried.fields_read}
use Rattle.mq_wire.proofs.query.fields_at.Goals as goal

pub returns-in_err-addresses_end : goal.returns-in_err-addresses_end
returns-in_err-addresses_end g c =
    let p = err_from_is_err_and c.from_residual.result c.from_residual.ensures.1 in
    rw (p.1, p.2) (ap (λ (n : ℕ). cut_from (length c.args.bytes.now) (c.args.place + 4) (replicate n g.K.WireKey.WIDTH))
    (sym c.number_at-count.ensures) ∙ c.in_err-addresses_end.ensures)

pub in_place-requires : goal.in_place-requires
in_place-requires g c =
    let width = g.K.WireKey.WIDTH in
    let ends = ends_within (length c.args.bytes.now) (c.args.place + 4) (replicate c.number_at-count.result width) c.requires c.in_ok-addresses_end.ensures.0 in
    let total = sum-replicate c.number_at-count.result width in
    bytes_behind (c.args.place + 4) (c.number_at-count.result * width) c.args.bytes.now (omega (arith, ends, total))

pub returns : goal.returns
returns g c =
    fields_read c.args.place g.K.WireKey.WIDTH c.args.bytes.now c.new.result c.resp8.result c.number_at-count.result c.in_place.result
    c.number_at-count.ensures c.in_ok-addresses_end.ensures.0 c.new.ensures c.resp8.ensures.value c.in_place.ensures
