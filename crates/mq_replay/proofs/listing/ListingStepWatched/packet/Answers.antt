use Rattle.mq_replay.proofs.Common.{Bool, ◌||◌, true, Ok, Err, ap, refl, sym, ◌∙◌, err_from_is_err_and, or-false, LineFault}
use Rattle.mq_replay.proofs.WrittenEarly.{both_unfailed, packet_then_nothing}
use Rattle.mq_replay.proofs.listing.ListingStepWatched.packet.Goals as goal

pub returns-in_err-put_packet-clause-taken : goal.returns-in_err-put_packet-clause-taken
returns-in_err-put_packet-clause-taken g c =
    let p = err_from_is_err_and c.from_residual.result c.from_residual.ensures.1 in
    let line = c.in_err-put_packet.ensures.line in
    rw (p.1, p.2) (record {
      same_json = refl;
      puts = record { said = line.said; is_said = line.is_said; put = line.put };
      failed = c.in_err-put_packet.ensures.failed;
    })

pub returns-in_err-write_before_wait-clause-taken : goal.returns-in_err-write_before_wait-clause-taken
returns-in_err-write_before_wait-clause-taken g c =
    let p = err_from_is_err_and c.from_residual-in_err-write_before_wait.result c.from_residual-in_err-write_before_wait.ensures.1 in
    let line = packet_then_nothing c.args.self.now.json (Unit {0}) LineFault _ _ _ _ _ c.write_before_wait.new.buffer.items _ _ _ _
    (Err c.in_err-write_before_wait.field-0.0) c.in_ok-put_packet.ensures.line c.in_err-write_before_wait.ensures.text in
    rw (p.1, p.2) (record {
      same_json = refl;
      puts = record { said = line.said; is_said = line.is_said; put = line.put };
      failed = c.in_err-write_before_wait.ensures.failed ∙ ap (λ (b : Bool). b || true) (c.in_ok-put_packet.ensures.failed ∙ or-false _);
    })

pub returns-clause-taken : goal.returns-clause-taken
returns-clause-taken g c =
    let line = packet_then_nothing c.args.self.now.json (Unit {0}) LineFault _ _ _ _ _ _ _ _ _ _ (Ok c.in_ok-write_before_wait.field-0)
    c.in_ok-put_packet.ensures.line c.in_ok-write_before_wait.ensures.text in
    record {
      same_json = refl;
      puts = record { said = line.said; is_said = line.is_said; put = line.put };
      failed = both_unfailed _ _ _ c.in_ok-put_packet.ensures.failed c.in_ok-write_before_wait.ensures.failed ∙ sym (or-false _);
    }
