-- The requested check, and the program's runs of it.
use Rattle.std.specs.Prelude.{◌≡◌, ℕ, Bool, false, List, Option, Some, Result, Ok, unwrap_or}
use Rattle.std.specs.Option.{option_or}
use Rattle.mq_walk.specs.declared.capture_fault.CaptureFault.{CaptureFault}
use Rattle.mq_check.specs.declared.check_terms.CheckTerms.{CheckTerms}
use Rattle.mq_check.specs.declared.totals.Totals.{Totals}
use Rattle.mq_check.specs.CheckedCaptures.{Checks}
use Rattle.mq_command.specs.declared.Protocol.{Protocol}
use Rattle.mq_command.specs.declared.check.CheckFlags.{CheckFlags}
use Rattle.mq_command.specs.declared.replay.Settings.{Settings}
use Rattle.mq_wire.specs.Family.{Family}
use Rattle.mquerier.specs.declared.checking.CheckOptions.{CheckOptions}
use Rattle.mquerier.specs.declared.failure.Failure.{Failure}
use Rattle.mquerier.specs.Breaking.{IsBrokenOff}
use Rattle.mquerier.specs.Changes.{Input, Output}
use Rattle.mquerier.specs.Replays.{SpellsAddress, IsAcceptedAt, asked_configuration, family_of}

-- The requested tolerance, end, lines and readings. The default tolerance is 100 milliseconds. With `once` a changed
-- variable of the querier is reported once.
abbrev pub asked_terms : (within until : Option ℕ) → CheckFlags → (once : Bool) → CheckTerms
asked_terms within until flags once = record {
  within = unwrap_or within 100;
  until = until;
  additions = record { packets = flags.packets; cite = flags.cite; once = once; possible = flags.possible; json = flags.json };
  flags = record { began = flags.began; strict = flags.strict; above_7 = false };
}

-- The settings of a check. A limit that isn't given is the greatest: the link stands for a querier whose limits are not
-- known.
abbrev pub checked_settings : Settings → Settings
checked_settings s = record s {
  groups = option_or s.groups (Some 65535);
  group_sources = option_or s.group_sources (Some 1024);
  sources = option_or s.sources (Some 65535);
  scheduled = option_or s.scheduled (Some 65535);
}

abbrev pub asked_options : Protocol → Settings → (within until : Option ℕ) → CheckFlags → (once : Bool) → CheckOptions
asked_options protocol settings within until flags once =
    record { protocol = protocol; settings = checked_settings settings; terms = asked_terms within until flags once }

-- the capture was checked as requested, with this result
abbrev pub IsCheckedAt : Family → (querier : ℕ) → Settings → CheckTerms → Input → Output → Result Totals CaptureFault → Type 0
IsCheckedAt family querier settings terms input output answer =
    Checks (asked_configuration family querier settings) terms input.old input.new output.old.held output.new.held answer

-- the request was accepted, and the check reached the end with these totals
abbrev pub IsCheckDoneAt : Family → (querier : ℕ) → Settings → CheckTerms → Input → Output → Totals → Type 0
IsCheckDoneAt family querier settings terms input output totals =
    IsAcceptedAt family querier settings terms.until × (output.new.failed ≡ output.old.failed)
    × IsCheckedAt family querier settings terms input output (Ok totals)

-- the request was accepted, and the check ended early
abbrev pub IsCheckBrokenAt : Family → (querier : ℕ) → Settings → CheckTerms → Input → Output → Failure → Type 0
IsCheckBrokenAt family querier settings terms input output failure =
    IsAcceptedAt family querier settings terms.until
    × IsBrokenOff (IsCheckedAt family querier settings terms input output) input output failure

-- the check of the requested address reached the end, or ended early
abbrev pub WritesVerdict : Protocol → (querier : List ℕ) → Settings → CheckTerms → Input → Output → Totals → Type 0
WritesVerdict protocol querier settings terms input output totals =
    (address : ℕ) × SpellsAddress protocol querier address
    × IsCheckDoneAt (family_of protocol) address settings terms input output totals

abbrev pub IsBrokenCheck : Protocol → (querier : List ℕ) → Settings → CheckTerms → Input → Output → Failure → Type 0
IsBrokenCheck protocol querier settings terms input output failure =
    (address : ℕ) × SpellsAddress protocol querier address
    × IsCheckBrokenAt (family_of protocol) address settings terms input output failure
