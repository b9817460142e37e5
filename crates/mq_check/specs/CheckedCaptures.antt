-- The contract of a check.
use Rattle.std.specs.Prelude.{ℕ, List, Option, Result}
use Rattle.mq_pcap.specs.Filling.{InputState}
use Rattle.mq_link.specs.Configuration.{Configuration}
use Rattle.mq_walk.specs.declared.capture_fault.CaptureFault.{CaptureFault}
use Rattle.mq_walk.specs.Reports.{Reports}
use Rattle.mq_check.specs.declared.check_terms.CheckTerms.{CheckTerms}
use Rattle.mq_check.specs.declared.totals.Totals.{Totals}
use Rattle.mq_check.specs.Check.{check_of}

-- a capture was checked
abbrev pub Checks : Configuration → CheckTerms → (old new : InputState) → (before after : Option (List ℕ)) → Result Totals CaptureFault → Type 0
Checks config terms old new before after r = Reports (check_of config terms) old new before after r
