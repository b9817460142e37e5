use Rattle.mq_convert.proofs.Common.{◌≡◌, ◌+◌, [], ◌++◌, length, take, arith, refl, length-take-le, err_from_is_err_and, broken_within, framed, record_header}
use Rattle.mq_convert.proofs.Common.{record_with}
use Rattle.byteorder.specs.Endian.{big_bytes}
use Rattle.mq_convert.proofs.Printed.{frame_put, head_put}
use Rattle.mq_convert.proofs.records.put_frame.Goals as goal

pub returns-in_err-make_room-clause-text : goal.returns-in_err-make_room-clause-text
returns-in_err-make_room-clause-text g c =
    let p = err_from_is_err_and c.from_residual.result c.from_residual.ensures.1 in
    rw p.1 (broken_within _ _ _ [] (record_with c.args.packet.moment c.args.packet.original c.args.captured (framed c.args.frame))
    c.in_err-make_room.ensures.text)

pub put_header-requires-in-Cut-clause-few : goal.put_header-requires-in-Cut-clause-few
put_header-requires-in-Cut-clause-few g c =
    let few = c.min-in-Cut.ensures in
    omega (arith, few, length-take-le c.min-in-Cut.result c.in-Cut.bytes.now (omega (arith, few)))

pub returns-in-Whole-clause-text : goal.returns-in-Whole-clause-text
returns-in-Whole-clause-text g c =
    let mid = c.make_room.new.buffer.items in
    let carried = take c.min.result c.in-Whole.payload.now in
    let header = record_header c.args.packet.moment (14 + length carried) c.original_of-original.result in
    let is : c.put-in-Whole.new.text.items ≡ ((mid ++ header) ++ c.in-Whole.addresses) ++ big_bytes 2 c.in-Whole.kind =
    rw (c.put-in-Whole.ensures.text, c.put.ensures.text, c.put_header.ensures.text, c.to_be_bytes.ensures) refl in
    rw (c.in-Whole.is, ← c.min.ensures, ← c.original_of-original.ensures)
    (frame_put _ _ _ _ _ _ mid _ _ header c.in-Whole.addresses (big_bytes 2 c.in-Whole.kind) carried _ c.in_ok-make_room.ensures.text is
    c.put_bytes.ensures.text)

pub returns-in-Cut-clause-text : goal.returns-in-Cut-clause-text
returns-in-Cut-clause-text g c =
    rw (c.in-Cut.is, ← c.min-in-Cut.ensures, ← c.original_of-original-in-Cut.ensures)
    (head_put _ _ _ _ _ _ _ _ _ _ _ _ c.in_ok-make_room.ensures.text c.put_header-in-Cut.ensures.text c.put_bytes-in-Cut.ensures.text)
