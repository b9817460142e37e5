use Rattle.mq_check.proofs.Common.{Some, ap, refl, sym, ◌∙◌, err_from_is_err_and, carried_in, output_of, datagram_of, CheckTerms, WantingValue}
use Rattle.mq_pcap.specs.Frame.{Carried}
use Rattle.mq_check.specs.Basis.{with_datagram, with_other}
use Rattle.mq_check.proofs.CheckedPackets.{counted_in, packet_came, packet_broken, ticks_at, nothing_came}
use Rattle.mq_check.proofs.running_check.Check.check_packet.Goals as goal

pub returns-in_err-tick_through-clause-comes : goal.returns-in_err-tick_through-clause-comes
returns-in_err-tick_through-clause-comes g c =
    let p = err_from_is_err_and c.from_residual.result c.from_residual.ensures.1 in
    rw p.1 (packet_broken _ _ _ _ _ _ _ _ _ _ _ _ _ _ _ _ _ (ticks_at _ _ _ _ _ _ _ _ _ _ _ _ _ c.moment.ensures.same c.in_err-tick_through.ensures.comes))

pub returns-in-Some-clause-comes : goal.returns-in-Some-clause-comes
returns-in-Some-clause-comes g c =
    let carries = sym c.in-Some.ensures ∙ (λ i. datagram_of (sym c.is_faultless.ensures.family i) (c.unwrap_frame-inner.ensures i)) in
    let notes = counted_in _ _ (record { envelope = g.F.Family.envelope_of c.in-Some.datagram.envelope; body = c.in-Some.datagram.body.now })
    c.note_packet.new.self c.note_datagram.new.self c.note_datagram.ensures
    (c.config-in-Some.ensures ∙ c.in_ok-tick_through.ensures.comes.same_config ∙ sym c.config.ensures) ∙ ap (λ (q : WantingValue). record q {
      basis = with_datagram c.config.result.now
          (record { envelope = g.F.Family.envelope_of c.in-Some.datagram.envelope; body = c.in-Some.datagram.body.now }) q.basis;
    }) c.note_packet.ensures in
    packet_came g.F.Address.LineKey.family c.config.result.now c.args.packet.now.link c.args.self.now.terms.within
    c.tick_through.new.self.terms.within c.args.packet.now.moment c.args.packet.now.number c.args.packet.now.goes_back c.args.packet.now.frame.now
    (Some (record { envelope = g.F.Family.envelope_of c.in-Some.datagram.envelope; body = c.in-Some.datagram.body.now })) _
    c.args.self.now.link c.tick_through.new.self.link c.check_datagram.new.self.link c.tick_through.new.self.queries c.note_datagram.new.self
    c.check_datagram.new.self.queries c.args.self.now.told c.tick_through.new.self.told c.check_datagram.new.self.told
    (output_of g.W.Write.contents c.args.writer.now) (output_of g.W.Write.contents c.tick_through.new.writer)
    (output_of g.W.Write.contents c.check_datagram.new.writer) _ c.check_datagram.result
    (ap (λ (t : CheckTerms). t.within) c.in_ok-tick_through.ensures.terms) c.config.ensures carries
    (ticks_at _ _ _ _ _ _ _ _ _ _ _ _ _ c.moment.ensures.same c.in_ok-tick_through.ensures.comes) notes c.check_datagram.ensures.comes

pub returns-in-None-clause-comes : goal.returns-in-None-clause-comes
returns-in-None-clause-comes g c =
    let carries = sym c.in-None.ensures ∙ (λ i. datagram_of (sym c.is_faultless.ensures.family i) (c.unwrap_frame-inner.ensures i)) in
    let notes = c.note_other.ensures ∙ ap (λ (content : Carried). record c.note_packet.new.self {
      basis = with_other c.args.packet.now.link c.args.packet.now.frame.now content c.note_packet.new.self.basis;
    }) c.unwrap_frame-inner.ensures ∙ ap (λ (q : WantingValue). record q {
      basis = with_other c.args.packet.now.link c.args.packet.now.frame.now (carried_in c.args.packet.now.link c.args.packet.now.frame.now) q.basis;
    }) c.note_packet.ensures in
    packet_came _ _ _ _ _ _ _ _ _ _ _ _ _ _ _ _ _ _ _ _ _ _ _ _ _ refl c.config.ensures carries
    (ticks_at _ _ _ _ _ _ _ _ _ _ _ _ _ c.moment.ensures.same c.in_ok-tick_through.ensures.comes) notes
    (nothing_came g.F.Address.LineKey.family c.tick_through.new.self.link.config c.args.packet.now.link c.args.self.now.terms.within
    c.args.packet.now.moment c.args.packet.now.number c.args.packet.now.frame.now c.tick_through.new.self.link c.note_other.new.self _ _)
