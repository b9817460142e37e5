-- The default configuration of a link.
use Rattle.std.specs.Prelude.{ℕ, Bool}
use Rattle.mq_wire.specs.Family.{Family}
use Rattle.mq_link.specs.declared.configuration.Defaults.{Defaults}
use Rattle.mq_link.specs.Configuration.{Configuration}
use Rattle.mq_link.specs.Configured.{variables, configured}
use Rattle.mq_link.specs.Family.{per_query}

-- The defaults of a family. The variables have those of RFC 3376 section 8 and RFC 3810 section 9, and a group may have
-- as many sources as one query holds.
abbrev pub defaults_of : Family → Defaults
defaults_of family = record {
  robustness = 2;
  query_seconds = 125;
  response_interval = 10000;
  last_member_interval = 1000;
  limits = record { groups = 1024; group_sources = per_query family; sources = 16384; scheduled = 256 };
}

abbrev pub configured_by_default : Family → (own : ℕ) → Bool → Configuration
configured_by_default family own source_specific =
    let d = defaults_of family in
    let timing = variables d.robustness d.query_seconds d.response_interval d.last_member_interval in
    configured family timing d.limits own source_specific
