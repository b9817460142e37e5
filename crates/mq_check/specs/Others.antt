-- The sources of general queries beside a querier: the eight lowest ones in ascending order, each once.
use Rattle.std.specs.Prelude.{ℕ, ◌==◌, ◌||◌, nat_lt, Bool, false, if◌then◌else◌, Option, None, Some, is_some}
use Rattle.mq_check.specs.declared.others.Four.{Four}
use Rattle.mq_check.specs.declared.others.Others.{Others}

-- A place keeps the lower one of its address and another, and passes the higher one on to the next place. The same address is
-- kept once.
abbrev pub kept : (there other : Option ℕ) → Option ℕ
kept None other = other
kept (Some there) None = Some there
kept (Some there) (Some other) = if nat_lt other there then Some other else Some there

abbrev pub passed : (there other : Option ℕ) → Option ℕ
passed None other = None
passed (Some there) None = None
passed (Some there) (Some other) = if nat_lt other there then Some there else if other == there then None else Some other

abbrev pub no_four : Four ℕ
no_four = record { first = None; second = None; third = None; fourth = None }

-- four places, the first one first, after an address came to them
abbrev pub four_with : (other : Option ℕ) → Four ℕ → Four ℕ
four_with other f =
    let second = passed f.first other in
    let third = passed f.second second in
    let fourth = passed f.third third in
    record { first = kept f.first other; second = kept f.second second; third = kept f.third third; fourth = kept f.fourth fourth }

-- the address that they pass on
abbrev pub passed_by : (other : Option ℕ) → Four ℕ → Option ℕ
passed_by other f = passed f.fourth (passed f.third (passed f.second (passed f.first other)))

abbrev pub no_others : Others ℕ
no_others = record { low = no_four; high = no_four; has_more = false }

-- the others with one more source
abbrev pub with_source : (source : ℕ) → Others ℕ → Others ℕ
with_source source o =
    let next = passed_by (Some source) o.low in
    record {
      low = four_with (Some source) o.low;
      high = four_with next o.high;
      has_more = o.has_more || is_some (passed_by next o.high);
    }
