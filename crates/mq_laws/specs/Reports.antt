-- Differences that a check may leave out, and all other findings.
use Rattle.std.specs.Prelude.{ℕ, not, Bool, true, false, List, filter}
use Rattle.mq_check.specs.declared.finding.Difference.{Difference}
use Rattle.mq_check.specs.declared.finding.Difference.TheVariants.{Version, Response, Suppress, Robustness, QueryInterval, Destination}
use Rattle.mq_check.specs.declared.finding.Finding.{Finding}
use Rattle.mq_check.specs.declared.finding.Finding.TheVariants.{Missing, Extra, PossiblyMissing, PossiblyExtra, Differs, Interval, Silence, Packet}

-- a difference in a variable of the querier: the response, QRV or QQIC
abbrev pub is_of_variable : Difference ℕ → Bool
is_of_variable (Version seen wanted) = false
is_of_variable (Response seen wanted) = true
is_of_variable (Suppress seen wanted) = false
is_of_variable (Robustness seen wanted) = true
is_of_variable (QueryInterval seen wanted) = true
is_of_variable (Destination seen wanted) = false

abbrev pub may_be_left_out : Finding ℕ → Bool
may_be_left_out (Missing moment packet asked) = false
may_be_left_out (Extra moment packet asked reason) = false
may_be_left_out (PossiblyMissing moment packet asked) = false
may_be_left_out (PossiblyExtra moment packet asked) = false
may_be_left_out (Differs moment packet asked difference) = is_of_variable difference
may_be_left_out (Interval moment packet after wanted) = false
may_be_left_out (Silence moment after wanted) = false
may_be_left_out (Packet moment number fault) = false

-- the other findings
abbrev pub others_in : List (Finding ℕ) → List (Finding ℕ)
others_in found = filter (λ (finding : Finding ℕ). not (may_be_left_out finding)) found
