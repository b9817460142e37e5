use Rattle.mq_link.proofs.Common.{◌<◌, ◌≡◌, ◌^◌, arith, ap, ◌∙◌, w128, from_be_bytes, to_be_bytes}
use Rattle.mq_link.proofs.Octets.{number_of_octets}
use Rattle.mq_link.proofs.mld.number_of.Goals as goal

pub returns : goal.returns
returns c =
    let small : c.args.address < 2 ^ 128 = omega arith in
    let octets : c.octets.result ≡ to_be_bytes w128 c.args.address = c.octets.ensures in
    let number : c.from_be_bytes.result ≡ from_be_bytes w128 c.octets.result = c.from_be_bytes.ensures in
    number ∙ ap (from_be_bytes w128) octets ∙ number_of_octets c.args.address small
