use Rattle.mq_replay.proofs.Common.{Bool, ◌||◌, true, Ok, Err, ap, sym, ◌∙◌, err_from_is_err_and, or-false, LineFault}
use Rattle.mq_replay.proofs.{WalkedPackets.replays_broken, WalkedPackets.replays_well, WrittenEarly.both_unfailed, WrittenEarly.replayed_then_nothing}
use Rattle.mq_replay.proofs.running_replay.ReplayGaplessStepWatched.packet.Goals as goal

pub returns-in_err-replay_packet-clause-taken : goal.returns-in_err-replay_packet-clause-taken
returns-in_err-replay_packet-clause-taken g c =
    let p = err_from_is_err_and c.from_residual.result c.from_residual.ensures.1 in
    rw (p.1, p.2) (replays_broken _ _ _ _ _ _ _ _ c.in_err-replay_packet.ensures.asked c.moment.ensures.same
    c.unwrap_frame-inner.ensures c.in_err-replay_packet.ensures.puts c.in_err-replay_packet.ensures.failed)

pub returns-in_err-write_before_wait-clause-taken : goal.returns-in_err-write_before_wait-clause-taken
returns-in_err-write_before_wait-clause-taken g c =
    let p = err_from_is_err_and c.from_residual-in_err-write_before_wait.result c.from_residual-in_err-write_before_wait.ensures.1 in
    rw (p.1, p.2) (replays_broken _ _ _ _ _ _ _ _ c.in_ok-replay_packet.ensures.asked c.moment.ensures.same c.unwrap_frame-inner.ensures
    (replayed_then_nothing (Unit {0}) LineFault _ _ _ _ _ _ _ _ _ _ (Err c.in_err-write_before_wait.field-0.0) c.in_ok-replay_packet.ensures.puts
    c.in_err-write_before_wait.ensures.text)
    (c.in_err-write_before_wait.ensures.failed ∙ ap (λ (b : Bool). b || true) (c.in_ok-replay_packet.ensures.failed ∙ or-false _)))

pub returns-clause-taken : goal.returns-clause-taken
returns-clause-taken g c =
    replays_well _ _ _ _ _ _ _ c.in_ok-replay_packet.ensures.asked c.moment.ensures.same c.unwrap_frame-inner.ensures
    (replayed_then_nothing (Unit {0}) LineFault _ _ _ _ _ _ _ _ _ _ (Ok c.in_ok-write_before_wait.field-0) c.in_ok-replay_packet.ensures.puts
    c.in_ok-write_before_wait.ensures.text)
    (both_unfailed _ _ _ c.in_ok-replay_packet.ensures.failed c.in_ok-write_before_wait.ensures.failed ∙ sym (or-false _))
