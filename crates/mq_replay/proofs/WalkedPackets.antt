-- A packet of a replay, in the terms of a walk.
use Rattle.mq_replay.proofs.Common.{◌≡◌, ℕ, ◌||◌, true, false, Result, Ok, Err, subst, Carried, Replayed, with_packet, PutsReplayed, ReplayState, ReplaysTo}
use Rattle.mq_replay.proofs.Common.{begun_with}

abbrev packet_of : (number moment : ℕ) → Carried → ReplayState → Replayed
packet_of number moment frame old = with_packet old.link.config moment number frame (begun_with old.asked old.link.state)

abbrev Puts : {T E : Type 0} → Replayed → (old new : ReplayState) → Result T E → Type 0
Puts replayed old new r = PutsReplayed old.link new.link replayed old.output.held new.output.held old.held new.held r

puts_as : {T E : Type 0} (number m moment : ℕ) (f frame : Carried) (old new : ReplayState) (r : Result T E) → m ≡ moment → f ≡ frame →
    Puts (packet_of number m f old) old new r → Puts (packet_of number moment frame old) old new r
puts_as number m moment f frame old new r is_moment is_frame puts =
    subst (λ (p : Replayed). Puts p old new r) (λ i. packet_of number (is_moment i) (is_frame i) old) puts

pub replays_well : {E : Type 0} (number m moment : ℕ) (f frame : Carried) (old new : ReplayState) → new.asked ≡ old.asked → m ≡ moment → f ≡ frame
    → Puts {T = Unit} {E = E} (packet_of number m f old) old new (Ok tt) → new.output.failed ≡ old.output.failed || false →
    ReplaysTo {E = Unit} (packet_of number moment frame old) old new (Ok tt)
replays_well {E} number m moment f frame old new asked is_moment is_frame puts failed =
    let same = puts_as {T = Unit} {E = E} number m moment f frame old new (Ok tt) is_moment is_frame puts in
    record { same_asked = asked; puts = record { same_config = same.same_config; link = same.link; text = same.text }; failed = failed }

pub replays_broken : {T E : Type 0} (number m moment : ℕ) (f frame : Carried) (old new : ReplayState) (e : E) → new.asked ≡ old.asked → m ≡ moment →
    f ≡ frame
    → Puts {T = T} (packet_of number m f old) old new (Err e) → new.output.failed ≡ old.output.failed || true →
    ReplaysTo {E = Unit} (packet_of number moment frame old) old new (Err tt)
replays_broken {T} {E} number m moment f frame old new e asked is_moment is_frame puts failed =
    let same = puts_as {T = T} {E = E} number m moment f frame old new (Err e) is_moment is_frame puts in
    record { same_asked = asked; puts = record { same_config = same.same_config; link = tt; text = same.text }; failed = failed }
