use Rattle.mq_wire.proofs.Common.{◌≡◌, ◌≤◌, [], length, sym, refl, err_from_is_err_and}
use Rattle.mq_wire.proofs.{Cuts.header, Faults.header_cut, Faults.wrong, Faults.unknown, Spelled.reads}
use Rattle.mq_wire.proofs.reading.read.Goals as goal

pub returns-in_err-fields_end : goal.returns-in_err-fields_end
returns-in_err-fields_end g c =
    let p = err_from_is_err_and c.from_residual.result c.from_residual.ensures.1 in
    rw (p.1, p.2) (header_cut g.K.FamilyKey.FAMILY c.args.pseudo.now c.args.bytes.now c.in_err-fields_end.field-0.0 c.in_err-fields_end.ensures)

pub returns-then-not-is_right_behind : goal.returns-then-not-is_right_behind
returns-then-not-is_right_behind g c =
    let long : 4 ≤ length c.args.bytes.now = header (length c.args.bytes.now) [] c.in_ok-fields_end.ensures.0 in
    wrong g.K.FamilyKey.FAMILY c.args.pseudo.now c.args.bytes.now long
    (λ right. let told : c.is_right_behind.result ≡ _ = c.is_right_behind.ensures.1 right in cc)

pub returns-in-Some : goal.returns-in-Some
returns-in-Some g c =
    let long : 4 ≤ length c.args.bytes.now = header (length c.args.bytes.now) [] c.in_ok-fields_end.ensures.0 in
    reads g.K.Key.number g.K.FamilyKey.FAMILY c.args.pseudo.now c.args.bytes.now c.in-Some.kind c.read_within.result long
    (c.if-not-is_right_behind.ensures.0 refl) (sym c.in-Some.ensures) c.read_within.ensures

pub returns-in-None : goal.returns-in-None
returns-in-None g c =
    let long : 4 ≤ length c.args.bytes.now = header (length c.args.bytes.now) [] c.in_ok-fields_end.ensures.0 in
    unknown g.K.FamilyKey.FAMILY c.args.pseudo.now c.args.bytes.now long (c.if-not-is_right_behind.ensures.0 refl) (sym c.in-None.ensures)
