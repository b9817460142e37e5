use Rattle.mq_replay.proofs.Common.{◌≡◌, None, Some, ap, sym, subst, ◌∙◌, err_from_is_err_and, carried_of, Family, Configuration, Datagram, datagram_of}
use Rattle.mq_replay.proofs.OnePacket.{ticks_broken, packet_skipped, packet_received}
use Rattle.mq_replay.proofs.one_packet.replay_packet.Goals as goal

pub returns-in_err-put_ticks-clause-puts : goal.returns-in_err-put_ticks-clause-puts
returns-in_err-put_ticks-clause-puts g c =
    let p = err_from_is_err_and c.from_residual.result c.from_residual.ensures.1 in
    rw p.1 (ticks_broken _ _ _ _ c.args.number (carried_of c.args.inner.now) _ _ _ _ _ _ c.in_err-put_ticks.ensures.puts)

pub returns-in-Some-clause-puts : goal.returns-in-Some-clause-puts
returns-in-Some-clause-puts g c =
    let is_family = sym c.is_faultless.ensures.family ∙ ap (λ (config : Configuration). config.family) c.config.ensures in
    let datagram : Datagram = record { envelope = g.F.Family.envelope_of c.in-Some.datagram.envelope; body = c.in-Some.datagram.body.now } in
    packet_received _ _ _ _ c.args.moment c.args.number (carried_of c.args.inner.now) _ _ _ _ _ _ _ _ _
    (subst (λ (f : Family). datagram_of f (carried_of c.args.inner.now) ≡ Some datagram) is_family c.in-Some.ensures) c.in_ok-put_ticks.ensures.puts
    c.hand_over.ensures.puts

pub returns-in-None-clause-puts : goal.returns-in-None-clause-puts
returns-in-None-clause-puts g c =
    let is_family = sym c.is_faultless.ensures.family ∙ ap (λ (config : Configuration). config.family) c.config.ensures in
    packet_skipped _ _ _ c.args.moment c.args.number (carried_of c.args.inner.now) _ _ _ _ _ _ _ _
    (subst (λ (f : Family). datagram_of f (carried_of c.args.inner.now) ≡ None) is_family c.in-None.ensures) c.in_ok-put_ticks.ensures.puts
    c.put_skip.ensures.text
