use Rattle.mq_wire.proofs.Common.{◌≡◌, sym, ap, ◌∙◌, length, length-take-le, length-bytes_high_first}
use Rattle.std.specs.Int.{w128, to_be_bytes}
use Rattle.mq_wire.proofs.wire_key.Addr6WireKey.write.Goals as goal

pub copy_from_slice-requires : goal.copy_from_slice-requires
copy_from_slice-requires c =
    let octets : c.octets.result ≡ to_be_bytes w128 c.args.self = c.octets.ensures in
    length-take-le 16 c.args.out.now c.requires ∙ sym (ap length octets ∙ length-bytes_high_first 16 c.args.self)
