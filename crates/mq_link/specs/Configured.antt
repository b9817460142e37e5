-- The requested configuration, and the result of the request.
use Rattle.std.specs.Prelude.{◌≡◌, ℕ, Bool, [], Some, Result, Ok, Err}
use Rattle.mq_wire.specs.Family.{Family}
use Rattle.mq_table.specs.Variables.{Variables}
use Rattle.mq_link.specs.declared.configuration.Limits.{Limits}
use Rattle.mq_link.specs.declared.configuration.ConfigFault.{ConfigFault}
use Rattle.mq_link.specs.Configuration.{Configuration, configuration_fault, IsFaultless}

abbrev pub variables : (robustness query_seconds response_interval last_member_interval : ℕ) → Variables
variables robustness query_seconds response_interval last_member_interval = record {
  robustness = robustness;
  query_seconds = query_seconds;
  response_interval = response_interval;
  last_member_interval = last_member_interval;
  last_member_query_count = 0;
}

-- the configuration of these values, in which hosts may ask for every group
abbrev pub configured : Family → Variables → Limits → (own : ℕ) → Bool → Configuration
configured family timing limits own source_specific =
    record {
      family = family;
      timing = timing;
      limits = limits;
      own = own;
      source_specific = source_specific;
      room = limits;
      ranges = [];
    }

-- the configuration is returned if it has no fault, and otherwise its fault
abbrev pub IsGivenOrFaulty : (asked : Configuration) → Result Configuration ConfigFault → Type 0
IsGivenOrFaulty asked (Ok config) = IsFaultless asked × (config ≡ asked)
IsGivenOrFaulty asked (Err fault) = configuration_fault asked ≡ Some fault
