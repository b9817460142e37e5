-- The request of the page for a querier.
use Rattle.std.specs.Prelude.{◌≡◌, ℕ, ◌^◌, ◌-◌, ◌==◌, nat_lt, not, Bool, true, false, Option, None, Some, Result, Ok, Err, unwrap_or, if◌then◌else◌}
use Rattle.std.specs.Int.{w128, from_be_bytes}
use Rattle.mq_check.specs.declared.check_terms.CheckTerms.{CheckTerms}
use Rattle.mq_convert.specs.declared.choice.Choice.{Choice}
use Rattle.mq_convert.specs.declared.choice.Which.{Which}
use Rattle.mq_convert.specs.declared.choice.Which.TheVariants as which
use Rattle.mq_link.specs.Configuration.{Configuration, configuration_fault, IsFaultless}
use Rattle.mq_link.specs.Configured.{variables, configured}
use Rattle.mq_replay.specs.declared.asked.Asked.{Asked}
use Rattle.mq_wire.specs.Family.{Family}
use Rattle.mq_page.specs.declared.chosen.Chosen.{Chosen}
use Rattle.mq_page.specs.declared.page_fault.PageFault.{PageFault}
use Rattle.mq_page.specs.declared.page_fault.PageFault.TheVariants as fault
use Rattle.mq_page.specs.declared.settings.Settings.{Settings}

-- the configuration of a family and an own address
abbrev pub configuration_asked : Family → (own : ℕ) → Settings → Configuration
configuration_asked family own s =
    configured family (variables s.robustness s.query_interval s.response_interval s.last_member_interval)
    (record { groups = s.groups; group_sources = s.group_sources; sources = s.sources; scheduled = s.scheduled })
    own (not (s.source_specific == 0))

-- the moment until which it runs; 2^64 - 1 stands for none
abbrev pub until_asked : Settings → Option ℕ
until_asked s = if s.until == 2 ^ 64 - 1 then None else Some s.until

-- A flag that isn't 0 is given. No finding has the number of its packet, and all are reported, possible ones too.
-- A check accepts what the standard's words allow.
abbrev pub replay_asked : Settings → Asked
replay_asked s = record { until = until_asked s; changes = not (s.changes == 0); json = not (s.json == 0) }

abbrev pub check_asked : Settings → CheckTerms
check_asked s = record {
  within = s.within;
  until = until_asked s;
  additions = record { packets = false; cite = not (s.cite == 0); once = false; possible = true; json = not (s.json == 0) };
  flags = record { began = false; strict = false; above_7 = false };
}

-- the interface of the packets to convert, by its number or by its name; 0 stands for all of them
abbrev pub interface_asked : Chosen → Option Which
interface_asked c =
    if c.interface == 0 then None
    else (if c.interface == 1 then Some (which.Number c.number) else Some (which.Name (from_be_bytes w128 c.name)))

-- the network of the packets to convert; 2^64 - 1 stands for any packet
abbrev pub vlan_asked : Chosen → Option ℕ
vlan_asked c = if c.vlan == 2 ^ 64 - 1 then None else Some c.vlan

-- the packets to convert
abbrev pub choice_asked : Chosen → Choice
choice_asked c = record { interface = interface_asked c; vlan = vlan_asked c; once = not (c.once == 0) }

-- the moment is above the greatest one
abbrev pub is_too_large : (until : Option ℕ) → Bool
is_too_large until = nat_lt (2 ^ 53) (unwrap_or until 0)

-- the request is accepted
abbrev pub IsAccepted : Configuration → (until : Option ℕ) → Type 0
IsAccepted config until = (is_too_large until ≡ false) × IsFaultless config

-- the request is refused for the first of these that holds
abbrev pub IsRefused : Configuration → (until : Option ℕ) → PageFault → Type 0
IsRefused config until fault.UntilTooLarge = is_too_large until ≡ true
IsRefused config until (fault.Configuration f) = (is_too_large until ≡ false) × (configuration_fault config ≡ Some f)
IsRefused config until fault.Full = ⊥
IsRefused config until fault.Memory = ⊥
IsRefused config until (fault.Capture f) = ⊥
IsRefused config until (fault.Gap number) = ⊥
IsRefused config until (fault.Waiting number) = ⊥
IsRefused config until fault.ConversionRead = ⊥
IsRefused config until (fault.Conversion number f) = ⊥
IsRefused config until (fault.NothingJudged why) = ⊥

-- the requested configuration was made, or the fault is its first one
abbrev pub IsConfigured : (asked : Configuration) → Result Configuration PageFault → Type 0
IsConfigured asked (Ok config) = IsFaultless asked × (config ≡ asked)
IsConfigured asked (Err (fault.Configuration f)) = configuration_fault asked ≡ Some f
IsConfigured asked (Err fault.UntilTooLarge) = ⊥
IsConfigured asked (Err fault.Full) = ⊥
IsConfigured asked (Err fault.Memory) = ⊥
IsConfigured asked (Err (fault.Capture f)) = ⊥
IsConfigured asked (Err (fault.Gap number)) = ⊥
IsConfigured asked (Err (fault.Waiting number)) = ⊥
IsConfigured asked (Err fault.ConversionRead) = ⊥
IsConfigured asked (Err (fault.Conversion number f)) = ⊥
IsConfigured asked (Err (fault.NothingJudged why)) = ⊥
