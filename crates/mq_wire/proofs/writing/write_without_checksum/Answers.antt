use Rattle.mq_wire.proofs.Common.{◌≡◌, ◌≤◌, ◌+◌, ◌*◌, ◌++◌, [], length, drop, length-append, append-nil, ap, ◌∙◌, arith, drop_all, big_bytes}
use Rattle.mq_wire.proofs.Common.{length-bytes_high_first, fields_bytes}
use Rattle.mq_wire.proofs.WrittenParts.{next_part}
use Rattle.mq_wire.proofs.writing.write_without_checksum.Goals as goal

pub returns : goal.returns
returns g c =
    let width = g.K.WireKey.WIDTH in
    let group = big_bytes width (g.K.Key.number c.args.group) in
    let text = c.args.head.now ++ group in
    let fields = fields_bytes width c.args.fields.now in
    let behind = 4 + length c.args.fields.now.sources * width in
    let end = c.write_group-group_end.ensures.end in
    let long : length text ≡ c.write_group-group_end.result =
    (let address = length-bytes_high_first width (g.K.Key.number c.args.group) in omega (arith, end, address, length-append c.args.head.now group)) in
    let out = c.write_group-group_end.new.out in
    let within : c.write_group-group_end.result ≤ length out =
    (let all = ap length c.write_group-group_end.ensures.text ∙ length-append text (drop c.write_group-group_end.result c.args.out.now) in
    omega (arith, all, long)) in
    let none : drop (c.write_group-group_end.result + behind) c.args.out.now ≡ [] =
    drop_all _ c.args.out.now (let room = c.requires.room in omega (arith, end, room)) in
    next_part c.write_group-group_end.result behind text fields c.args.out.now out c.write_fields.new.out long within
    c.write_group-group_end.ensures.text c.write_fields.ensures
    ∙ rw none (append-nil (text ++ fields))
