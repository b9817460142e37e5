-- The requested replay, and the program's runs of it.
use Rattle.std.specs.Prelude.{◌≡◌, ℕ, ◌^◌, nat_lt, Bool, true, false, List, Option, Some, Result, Ok, unwrap_or}
use Rattle.mq_command.specs.declared.Protocol.{Protocol}
use Rattle.mq_command.specs.declared.Protocol.TheVariants.{Igmp, Mld}
use Rattle.mq_command.specs.declared.replay.Settings.{Settings}
use Rattle.mq_link.specs.declared.configuration.ConfigFault.{ConfigFault}
use Rattle.mq_link.specs.declared.configuration.Limits.{Limits}
use Rattle.mq_link.specs.Configuration.{Configuration, configuration_fault, IsFaultless}
use Rattle.mq_link.specs.Configured.{variables, configured}
use Rattle.mq_link.specs.Counters.{Counters}
use Rattle.mq_link.specs.Defaults.{defaults_of}
use Rattle.mq_text.specs.Reading.{SpellsV4, SpellsV6}
use Rattle.mq_walk.specs.declared.capture_fault.CaptureFault.{CaptureFault}
use Rattle.mq_replay.specs.declared.asked.Asked.{Asked}
use Rattle.mq_replay.specs.Replaying.{Replays}
use Rattle.mq_wire.specs.Family.{Family}
use Rattle.mq_wire.specs.Family as family
use Rattle.mquerier.specs.declared.failure.Failure.{Failure}
use Rattle.mquerier.specs.declared.failure.Failure.TheVariants as failure
use Rattle.mquerier.specs.Breaking.{IsBrokenOff}
use Rattle.mquerier.specs.Changes.{Input, Output}

abbrev pub family_of : Protocol → Family
family_of Igmp = family.Igmp
family_of Mld = family.Mld

-- a text is parsed as this address of the protocol's family
abbrev pub SpellsAddress : Protocol → (text : List ℕ) → (address : ℕ) → Type 0
SpellsAddress Igmp text address = SpellsV4 text address
SpellsAddress Mld text address = SpellsV6 text address

-- The requested configuration, with the family's defaults for the settings that aren't given.
abbrev pub asked_limits : (defaults : Limits) → Settings → Limits
asked_limits defaults s = record {
  groups = unwrap_or s.groups defaults.groups;
  group_sources = unwrap_or s.group_sources defaults.group_sources;
  sources = unwrap_or s.sources defaults.sources;
  scheduled = unwrap_or s.scheduled defaults.scheduled;
}

abbrev pub asked_configuration : Family → (own : ℕ) → Settings → Configuration
asked_configuration family own s =
    let d = defaults_of family in
    let timing =
    variables (unwrap_or s.robustness d.robustness) (unwrap_or s.query_seconds d.query_seconds)
    (unwrap_or s.response_interval d.response_interval) (unwrap_or s.last_member_interval d.last_member_interval)
    in
    configured family timing (asked_limits d.limits s) own s.source_specific

-- a configuration has this fault, and these two intervals
abbrev pub HasFault : Configuration → ConfigFault → (query_seconds response_interval : ℕ) → Type 0
HasFault asked f query_seconds response_interval =
    (configuration_fault asked ≡ Some f) × (query_seconds ≡ asked.timing.query_seconds) × (response_interval ≡ asked.timing.response_interval)

-- the requested end is above the greatest moment
abbrev pub is_too_large : (until : Option ℕ) → Bool
is_too_large until = nat_lt (2 ^ 53) (unwrap_or until 0)

-- the first fault of a request for a replay or a check by a querier of this address
abbrev pub IsRefusedAt : Family → (own : ℕ) → Settings → (until : Option ℕ) → Failure → Type 0
IsRefusedAt family own settings until failure.UntilTooLarge = is_too_large until ≡ true
IsRefusedAt family own settings until (failure.Configuration f query_seconds response_interval) =
    (is_too_large until ≡ false) × HasFault (asked_configuration family own settings) f query_seconds response_interval
IsRefusedAt family own settings until failure = ⊥

-- a request without a fault
abbrev pub IsAcceptedAt : Family → (own : ℕ) → Settings → (until : Option ℕ) → Type 0
IsAcceptedAt family own settings until =
    (is_too_large until ≡ false) × IsFaultless (asked_configuration family own settings)

-- the capture was replayed as requested, with this result
abbrev pub IsReplayedAt : Family → (own : ℕ) → Settings → Asked → Input → Output → Result Counters CaptureFault → Type 0
IsReplayedAt family own settings asked input output answer =
    Replays (asked_configuration family own settings) asked input.old input.new output.old.held output.new.held answer

-- the request was accepted, and the replay reached the end
abbrev pub IsDoneAt : Family → (own : ℕ) → Settings → Asked → Input → Output → (flag : Bool) → Type 0
IsDoneAt family own settings asked input output flag =
    IsAcceptedAt family own settings asked.until × (flag ≡ true) × (output.new.failed ≡ output.old.failed)
    × (counters : Counters) × IsReplayedAt family own settings asked input output (Ok counters)

-- the request was accepted, and the replay ended early
abbrev pub IsBrokenAt : Family → (own : ℕ) → Settings → Asked → Input → Output → Failure → Type 0
IsBrokenAt family own settings asked input output failure =
    IsAcceptedAt family own settings asked.until
    × IsBrokenOff (IsReplayedAt family own settings asked input output) input output failure
