-- The result of a replay once it is flushed.
use Rattle.mquerier.proofs.Common.{subst, ℕ, List, Bool, Option, Result, Ok, Err, Protocol, Settings, Configuration, OutputState, CaptureFault, Family, Failure}
use Rattle.mquerier.proofs.Common.{NoAddresses, NotAnAddress, NotHex, UntilTooLarge, Unconfigured, Capture, Gap, Waiting, Conversion, ConversionRead, Memory}
use Rattle.mquerier.proofs.Common.{Write, Input, Output, SpellsAddress, asked_configuration, family_of, IsConfigured}
use Rattle.mq_link.specs.Counters.{Counters}
use Rattle.mq_replay.specs.{declared.asked.Asked.Asked, Replaying.Replays, Report.replay_of}
use Rattle.mquerier.specs.{Replays.IsRefusedAt, Replays.IsReplayedAt, Status.IsRefusedReplay, Working.WorksAt, Working.WorksOnReplay}
use Rattle.mquerier.proofs.Breakings.{Ends, IsEndOf, reports_ended}

-- the requested replay, after a flush
pub replay_ended : (family : Family) (own : ℕ) (settings : Settings) (asked : Asked) (config : Configuration) (input : Input)
    (old mid new : OutputState) (r : Result Counters CaptureFault) (r' : Result Counters Failure)
    → IsEndOf r input old mid new r' → IsConfigured (asked_configuration family own settings) (Ok config) →
    Replays config asked input.old input.new old.held mid.held r → Ends (IsReplayedAt family own settings asked input (record { old = old; new = new })) input
    (record { old = old; new = new }) r'
replay_ended family own settings asked config input old mid new r r' end made replays =
    reports_ended (replay_of (asked_configuration family own settings) asked) input old mid new r r' end
    (subst (λ (k : Configuration). Replays k asked input.old input.new old.held mid.held r) made.1 replays)

-- the first fault of a request with the address of a text
pub refused_for : (protocol : Protocol) (own : List ℕ) (address : ℕ) (settings : Settings) (until : Option ℕ) (failure : Failure)
    → SpellsAddress protocol own address → IsRefusedAt (family_of protocol) address settings until failure →
    IsRefusedReplay protocol own settings until failure
refused_for protocol own address settings until NoAddresses spelled refused = (address, spelled, refused)
refused_for protocol own address settings until NotAnAddress spelled refused = absurd refused
refused_for protocol own address settings until NotHex spelled refused = (address, spelled, refused)
refused_for protocol own address settings until UntilTooLarge spelled refused = (address, spelled, refused)
refused_for protocol own address settings until (Unconfigured f query_seconds response_interval) spelled refused = (address, spelled, refused)
refused_for protocol own address settings until (Capture f) spelled refused = (address, spelled, refused)
refused_for protocol own address settings until (Gap number) spelled refused = (address, spelled, refused)
refused_for protocol own address settings until (Waiting number) spelled refused = (address, spelled, refused)
refused_for protocol own address settings until (Conversion number f) spelled refused = (address, spelled, refused)
refused_for protocol own address settings until ConversionRead spelled refused = (address, spelled, refused)
refused_for protocol own address settings until Memory spelled refused = (address, spelled, refused)
refused_for protocol own address settings until Write spelled refused = (address, spelled, refused)

-- a replay at the address of a text
pub replayed_for : (protocol : Protocol) (own : List ℕ) (address : ℕ) (settings : Settings) (asked : Asked) (input : Input) (output : Output)
    (r : Result Bool Failure) → SpellsAddress protocol own address
    → WorksAt (family_of protocol) address settings asked input output r → WorksOnReplay protocol own settings asked input output r
replayed_for protocol own address settings asked input output (Ok flag) spelled works = (address, spelled, works)
replayed_for protocol own address settings asked input output (Err failure) spelled works =
    (λ two. refused_for protocol own address settings asked.until failure spelled (works.0 two), λ one. (address, spelled, works.1 one))
