-- The contract of a replay.
use Rattle.std.specs.Prelude.{ℕ, List, Option, Result}
use Rattle.mq_pcap.specs.Filling.{InputState}
use Rattle.mq_link.specs.Configuration.{Configuration}
use Rattle.mq_link.specs.Counters.{Counters}
use Rattle.mq_walk.specs.declared.capture_fault.CaptureFault.{CaptureFault}
use Rattle.mq_walk.specs.Reports.{Reports}
use Rattle.mq_replay.specs.declared.asked.Asked.{Asked}
use Rattle.mq_replay.specs.Report.{replay_of}

-- a capture was replayed
abbrev pub Replays : Configuration → Asked → (old new : InputState) → (before after : Option (List ℕ)) → Result Counters CaptureFault → Type 0
Replays config asked old new before after r = Reports (replay_of config asked) old new before after r
