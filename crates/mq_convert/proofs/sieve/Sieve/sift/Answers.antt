use Rattle.mq_convert.proofs.Common.{◌≡◌, ◌∙◌, ap, subst, true, false, arith, nat_tests, Choice, captured_of, is_chosen_packet, Framed, tag_of, untagged}
use Rattle.mq_convert.proofs.Common.{is_short, SieveState, SiftsFrame}
use Rattle.mq_convert.proofs.Sieved.{chosen_is, sifted_cut, sifted_other, sifted_whole}
use Rattle.mq_convert.proofs.sieve.Sieve.sift.Goals as goal

pub returns-then-packet-bytes : goal.returns-then-packet-bytes
returns-then-packet-bytes g c = sifted_cut _ (captured_of c.args.block.now c.args.packet) (grind (arith, nat_tests, c.if-packet-bytes.true))

pub returns-then-not-chosen : goal.returns-then-not-chosen
returns-then-not-chosen g c =
    let packet = captured_of c.args.block.now c.args.packet in
    let chosen = chosen_is c.self.inside.choice packet _ _ _ c.number_of-number.ensures (c.tag_of.ensures ∙ ap tag_of c.frame_of-frame.ensures)
    c.takes-chosen.ensures in
    let choice = ap (λ (s : SieveState). s.choice) c.self.view_is in
    sifted_other c.args.self.now packet (subst (λ (asked : Choice). is_chosen_packet asked packet ≡ false) choice (chosen ∙ c.if-not-chosen.true))

pub returns : goal.returns
returns g c =
    let packet = captured_of c.args.block.now c.args.packet in
    let chosen = chosen_is c.self.inside.choice packet _ _ _ c.number_of-number.ensures (c.tag_of.ensures ∙ ap tag_of c.frame_of-frame.ensures)
    c.takes-chosen.ensures in
    let choice = ap (λ (s : SieveState). s.choice) c.self.view_is in
    let frame = c.untagged.ensures ∙ ap untagged c.frame_of-frame.ensures in
    sifted_whole c.args.self.now c.sift_frame.new.self packet c.sift_frame.result c.requires.once
    (subst (λ (asked : Choice). is_chosen_packet asked packet ≡ true) choice (chosen ∙ c.if-not-chosen.false))
    (grind (arith, nat_tests, c.if-packet-bytes.false))
    (subst (λ (f : Framed). SiftsFrame c.args.self.now c.sift_frame.new.self (is_short f) packet.moment f c.sift_frame.result) frame c.sift_frame.ensures)
