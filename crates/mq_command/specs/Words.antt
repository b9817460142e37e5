-- The words of a command, as `clap` found them under the names of arguments.
use Rattle.std.specs.Prelude.{◌≡◌, ℕ, List, Bool, true, false, Option, Some, None, option_map, codes}
use Rattle.std.specs.Borrow.{Bor}
use Rattle.std.specs.Str.Parse.{ParsesUnsigned}
use Rattle.std.specs.declared.num.ParseIntError.{ParseIntError}
use Rattle.clap.specs.declared.parser.matches.ArgMatches.{ArgMatches}
use Rattle.clap.specs.Matches.{found_of, first_value, one_text, ReadsOne}

-- true exactly if the flag is given
abbrev pub IsFlag : ArgMatches → (name : List ℕ) → Bool → Type 0
IsFlag words name is_given =
    (one_text (found_of words) name ≡ None → is_given ≡ false) × (one_text (found_of words) name ≡ Some (codes "true") → is_given ≡ true)

-- the text, if given
abbrev pub IsText : ArgMatches → (name : List ℕ) → Option (Bor (List ℕ)) → Type 0
IsText words name text = option_map (λ s. s.now) text ≡ first_value (found_of words) name

-- the number, if given, which fits these bits
abbrev pub IsNumber : ArgMatches → (name : List ℕ) → (bits : ℕ) → Option ℕ → Type 0
IsNumber words name bits number =
    (one_text (found_of words) name ≡ None → number ≡ None)
    × ((text : List ℕ) → one_text (found_of words) name ≡ Some text → ReadsOne {E = ParseIntError} (ParsesUnsigned bits 10) text number)
