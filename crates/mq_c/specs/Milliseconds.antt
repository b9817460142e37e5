-- Moments as C has them.
use Rattle.std.specs.Prelude.{ℕ, ◌-◌, ◌^◌, Option, None, Some}

-- the value for no deadline
abbrev pub no_deadline : ℕ
no_deadline = 2 ^ 64 - 1

abbrev pub deadline_or_none : Option ℕ → ℕ
deadline_or_none (Some deadline) = deadline
deadline_or_none None = no_deadline
