-- Checks whose querier and variables come from the capture itself.
use Rattle.std.specs.Prelude.{◌≡◌, ◌⊎◌, ◌≤◌, ℕ, zero, suc, Bool, true, false, if◌then◌else◌, List, [], ◌++◌, codes, Option, None, Some, Result, Ok, Err}
use Rattle.std.specs.Fmt.{decimal}
use Rattle.std.specs.Str.{bytes_eq}
use Rattle.std.specs.Option.{option_or}
use Rattle.mq_walk.specs.declared.capture_fault.CaptureFault.{CaptureFault}
use Rattle.mq_walk.specs.declared.capture_fault.CaptureFault.TheVariants as answer
use Rattle.mq_check.specs.declared.announced.Announced.{Announced}
use Rattle.mq_check.specs.declared.check_terms.CheckTerms.{CheckTerms}
use Rattle.mq_check.specs.declared.others.Four.{Four}
use Rattle.mq_check.specs.declared.others.Others.{Others}
use Rattle.mq_check.specs.declared.totals.Totals.{Totals}
use Rattle.mq_check.specs.declared.unjudged.Unjudged.{Unjudged}
use Rattle.mq_check.specs.Announced.{Announces}
use Rattle.mq_check.specs.Basis.{unjudged_by}
use Rattle.mq_command.specs.declared.Request.{Request}
use Rattle.mq_command.specs.declared.Request.TheVariants.{Message, Convert, Show, Replay, Check}
use Rattle.mq_command.specs.declared.replay.Settings.{Settings}
use Rattle.mq_lines.specs.Objects.{address_object, comma_before, truth_object}
use Rattle.mq_lines.specs.Text.{address_text}
use Rattle.mq_text.specs.Printing.{OutputState}
use Rattle.mq_wire.specs.Family.{Family}
use Rattle.mquerier.specs.declared.checking.CheckOptions.{CheckOptions}
use Rattle.mquerier.specs.declared.failure.Failure.{Failure}
use Rattle.mquerier.specs.declared.failure.Failure.TheVariants.{Capture, Memory, Write}
use Rattle.mquerier.specs.Changes.{BreaksOff, Input, Output, Writes}
use Rattle.mquerier.specs.CheckRuns.{IsCheckBrokenAt, IsCheckDoneAt, asked_options}
use Rattle.mquerier.specs.Failures.{no_querier_line, status_of, unjudged_line}
use Rattle.mquerier.specs.Replays.{IsRefusedAt, family_of}
use Rattle.mquerier.specs.Status.{IsJudged, IsTold, Told}

-- The request for a check whose querier is the word `auto`. It reports a changed variable of the querier once.
abbrev pub taking_of : Request → Option CheckOptions
taking_of (Message protocol hex from to json) = None
taking_of (Convert interface vlan once json file) = None
taking_of (Show json file) = None
taking_of (Replay protocol own settings until changes json file) = None
taking_of (Check protocol querier settings within flags until packets file) =
    if bytes_eq querier.now (codes "auto")
    then Some (asked_options protocol settings within until flags true)
    else None

-- The Robustness Variable that a QRV stands for. QRV 0 says that it is above 7, and the greatest of a configuration is 7.
abbrev pub robustness_by : (qrv : Option ℕ) → Option ℕ
robustness_by None = None
robustness_by (Some zero) = Some 7
robustness_by (Some (suc n)) = Some (suc n)

abbrev pub is_above_7 : (given qrv : Option ℕ) → Bool
is_above_7 (Some value) qrv = false
is_above_7 None None = false
is_above_7 None (Some zero) = true
is_above_7 None (Some (suc n)) = false

-- the settings, with the announced variables for those that aren't given, and the terms of the check
abbrev pub with_variables : Settings → Announced ℕ → Settings
with_variables s found = record s {
  robustness = option_or s.robustness (robustness_by found.robustness);
  query_seconds = option_or s.query_seconds found.query_seconds;
  response_interval = option_or s.response_interval found.response_interval;
  last_member_interval = option_or s.last_member_interval found.last_member_interval;
}

abbrev pub terms_found : CheckOptions → Announced ℕ → CheckTerms
terms_found options found = record options.terms {
  flags = record options.terms.flags { above_7 = is_above_7 options.settings.robustness found.robustness };
}

-- a variable that isn't given and that the capture has
abbrev pub taken_text : (name : List ℕ) → (given found : Option ℕ) → List ℕ
taken_text name (Some value) found = []
taken_text name None None = []
taken_text name None (Some value) = name ++ decimal value

-- the Robustness Variable, and what follows if it is above 7
abbrev pub robustness_text : (given qrv : Option ℕ) → List ℕ
robustness_text given qrv =
    if is_above_7 given qrv then codes " rv above 7" else taken_text (codes " rv ") given qrv

abbrev pub unjudged_text : (is_above_7 : Bool) → List ℕ
unjudged_text false = []
unjudged_text true = codes "; what depends on rv is not judged"

-- the other routers that send general queries: the lowest ones, and whether there are more
abbrev pub beside_word : (is_first : Bool) → List ℕ
beside_word true = codes ", beside "
beside_word false = codes ", "

abbrev pub address_item : (json : Bool) → Family → (is_first : Bool) → (address : ℕ) → List ℕ
address_item false family is_first address = beside_word is_first ++ address_text family address
address_item true family is_first address = comma_before is_first ++ address_object family address

abbrev pub item_text : (json : Bool) → Family → (is_first : Bool) → Option ℕ → List ℕ
item_text json family is_first None = []
item_text json family is_first (Some address) = address_item json family is_first address

abbrev pub four_text : (json : Bool) → Family → (is_first : Bool) → Four ℕ → List ℕ
four_text json family is_first four =
    item_text json family is_first four.first ++ item_text json family false four.second ++ item_text json family false four.third
    ++ item_text json family false four.fourth

abbrev pub others_text : (json : Bool) → Family → Others ℕ → List ℕ
others_text json family others = four_text json family true others.low ++ four_text json family false others.high

abbrev pub more_text : (has_more : Bool) → List ℕ
more_text false = []
more_text true = codes " and more"

abbrev pub beside_text : Family → Others ℕ → List ℕ
beside_text family others = others_text false family others ++ more_text others.has_more

-- the same in an object
abbrev pub taken_value : (given found : Option ℕ) → List ℕ
taken_value (Some value) found = codes "null"
taken_value None None = codes "null"
taken_value None (Some value) = decimal value

abbrev pub beside_value : Family → Others ℕ → List ℕ
beside_value family others =
    codes "[" ++ others_text true family others ++ codes "],\"more\":" ++ truth_object others.has_more

-- the line, or the object, for the querier and the variables that come from the capture
abbrev pub taken_line : (json : Bool) → Family → Settings → Announced ℕ → List ℕ
taken_line true family s found =
    codes "{\"taken\":{\"querier\":" ++ address_object family found.querier
    ++ codes ",\"rv\":" ++ taken_value s.robustness found.robustness
    ++ codes ",\"qi\":" ++ taken_value s.query_seconds found.query_seconds
    ++ codes ",\"qri\":" ++ taken_value s.response_interval found.response_interval
    ++ codes ",\"lmqi\":" ++ taken_value s.last_member_interval found.last_member_interval
    ++ codes ",\"beside\":" ++ beside_value family found.beside ++ codes "}}\n"
taken_line false family s found =
    codes "taken from the capture: querier " ++ address_text family found.querier
    ++ robustness_text s.robustness found.robustness ++ taken_text (codes " qi ") s.query_seconds found.query_seconds
    ++ taken_text (codes " qri ") s.response_interval found.response_interval
    ++ taken_text (codes " lmqi ") s.last_member_interval found.last_member_interval ++ beside_text family found.beside
    ++ unjudged_text (is_above_7 s.robustness found.robustness) ++ codes "\n"

-- The check of this querier reached its end. Then the line of what comes from the capture was written.
abbrev pub IsFoundDone : Family → CheckOptions → Announced ℕ → Input → Output → Totals → Type 0
IsFoundDone family options found input output totals =
    (mid : OutputState)
    × IsCheckDoneAt family found.querier (with_variables options.settings found) (terms_found options found) input (record { old = output.old; new = mid }) totals
    × Writes (record { old = mid; new = output.new }) (taken_line options.terms.additions.json family options.settings found)

-- the check ended early, or the output failed at that line
abbrev pub IsFoundBroken : Family → CheckOptions → Announced ℕ → Input → Output → Failure → Type 0
IsFoundBroken family options found input output failure =
    IsCheckBrokenAt family found.querier (with_variables options.settings found) (terms_found options found) input output failure
    ⊎ ((failure ≡ Write) × (mid : OutputState) × (totals : Totals)
    × IsCheckDoneAt family found.querier (with_variables options.settings found) (terms_found options found) input (record { old = output.old; new = mid }) totals
    × BreaksOff (record { old = mid; new = output.new }) (taken_line options.terms.additions.json family options.settings found))

-- nothing was read again, and nothing was written
abbrev pub IsUntouched : Input → Output → Type 0
IsUntouched input output = (input.new ≡ input.old) × (output.new ≡ output.old)

-- the result of the check of a querier that announces these variables
abbrev pub ChecksFound : Family → CheckOptions → Announced ℕ → Input → Output → Result Totals Failure → Type 0
ChecksFound family options found input output (Ok totals) = IsFoundDone family options found input output totals
ChecksFound family options found input output (Err failure) =
    (status_of failure ≡ 2 → IsUntouched input output
    × IsRefusedAt family found.querier (with_variables options.settings found) options.terms.until failure)
    × (status_of failure ≡ 1 → IsFoundBroken family options found input output failure)

-- the failure of the first reading: a fault of the capture, or else refused memory
abbrev pub first_failure : CaptureFault → Failure
first_failure (answer.Pcap f) = Capture f
first_failure fault = Memory

-- the result by what the first reading of the capture found
abbrev pub ChecksBy : Family → CheckOptions → Input → Output → Result (Option (Announced ℕ)) CaptureFault → Result (Option Totals) Failure → Type 0
ChecksBy family options input output (Ok (Some found)) (Ok (Some totals)) =
    ChecksFound family options found input output (Ok totals)
ChecksBy family options input output (Ok (Some found)) (Ok None) = ⊥
ChecksBy family options input output (Ok (Some found)) (Err failure) =
    ChecksFound family options found input output (Err failure)
ChecksBy family options input output (Ok None) r = (r ≡ Ok None) × IsUntouched input output
ChecksBy family options input output (Err fault) r = (r ≡ Err (first_failure fault)) × IsUntouched input output

pub record ChecksTaking (family : Family) (options : CheckOptions) (first input : Input) (output : Output) (r : Result (Option Totals) Failure) : Type 0 where
  pub found : Result (Option (Announced ℕ)) CaptureFault
  pub announces : Announces family first.old first.new found
  pub checks : ChecksBy family options input output found r

-- A check of this querier reached its end, with or without findings, or without anything to judge. Or it was refused or
-- ended early, with a reported reason.
pub record PerformsFound (family : Family) (options : CheckOptions) (found : Announced ℕ) (input : Input) (output errors : Output) (status : ℕ) : Type 0 where
  pub at_most_four : status ≤ 4
  pub done : status ≡ 0 → (totals : Totals) × (totals.findings ≡ 0) × IsJudged totals
      × IsFoundDone family options found input output totals × (errors.new ≡ errors.old)
  pub faulty : status ≡ 1 → (failure : Failure)
      × IsFoundBroken family options found input output failure × Told true errors failure
  pub refused : status ≡ 2 → IsUntouched input output × (failure : Failure)
      × IsRefusedAt family found.querier (with_variables options.settings found) options.terms.until failure × Told true errors failure
  pub differs : status ≡ 3 → (totals : Totals) × (1 ≤ totals.findings) × IsJudged totals
      × IsFoundDone family options found input output totals × (errors.new ≡ errors.old)
  pub unjudged : status ≡ 4 → (totals : Totals) × (why : Unjudged) × (unjudged_by totals ≡ Some why)
      × IsFoundDone family options found input output totals × IsTold errors (unjudged_line why)

-- the outcome by what the first reading of the capture found
abbrev pub PerformsBy : Family → CheckOptions → Input → (output errors : Output) → (status : ℕ) → Result (Option (Announced ℕ)) CaptureFault → Type 0
PerformsBy family options input output errors status (Ok (Some found)) =
    PerformsFound family options found input output errors status
PerformsBy family options input output errors status (Ok None) =
    (status ≡ 4) × IsUntouched input output × IsTold errors no_querier_line
PerformsBy family options input output errors status (Err fault) =
    (status ≡ 1) × IsUntouched input output × Told true errors (first_failure fault)

-- A check of the querier that the capture names was performed with this status. The capture was read once for what is
-- announced, and then again for the check.
pub record PerformsTaking (options : CheckOptions) (first input : Input) (output errors : Output) (status : ℕ) : Type 0 where
  pub found : Result (Option (Announced ℕ)) CaptureFault
  pub announces : Announces (family_of options.protocol) first.old first.new found
  pub performs : PerformsBy (family_of options.protocol) options input output errors status found
