-- The program's work on a request, and its status.
use Rattle.std.specs.Prelude.{◌≡◌, ◌≤◌, ◌+◌, ◌⊎◌, ℕ, Bool, true, false, List, [], ◌++◌, codes, Option, None, Some, Result, Ok, Err, IsErr}
use Rattle.std.specs.Option.{option_copied}
use Rattle.clap.specs.Values.{kind_of}
use Rattle.clap.specs.declared.error.Error.{Error}
use Rattle.clap.specs.declared.error.kind.ErrorKind.{ErrorKind}
use Rattle.clap.specs.declared.error.kind.ErrorKind.TheVariants.{DisplayVersion, OutOfMemory}
use Rattle.hex.specs.Hex.{decode_of}
use Rattle.mq_walk.specs.declared.capture_fault.CaptureFault.{CaptureFault}
use Rattle.mq_check.specs.declared.totals.Totals.{Totals}
use Rattle.mq_check.specs.declared.unjudged.Unjudged.{Unjudged}
use Rattle.mq_check.specs.Basis.{unjudged_by}
use Rattle.mq_command.specs.declared.Protocol.{Protocol}
use Rattle.mq_command.specs.declared.Protocol.TheVariants.{Igmp, Mld}
use Rattle.mq_command.specs.declared.Request.{Request}
use Rattle.mq_command.specs.declared.Request.TheVariants.{Message, Convert, Show, Replay, Check}
use Rattle.mq_command.specs.declared.replay.Settings.{Settings}
use Rattle.mq_convert.specs.declared.choice.Choice.{Choice}
use Rattle.mq_convert.specs.declared.counts.ConvertCounts.{ConvertCounts}
use Rattle.mq_convert.specs.declared.fault.ConvertFault.{ConvertFault}
use Rattle.mq_convert.specs.Converting.{Converts}
use Rattle.mq_text.specs.Reading.{SpellsV6}
use Rattle.mq_replay.specs.declared.asked.Asked.{Asked}
use Rattle.mq_replay.specs.Listing.{Shows}
use Rattle.mq_wire.specs.Family as family
use Rattle.mq_wire.specs.PseudoHeader.{pseudo_header}
use Rattle.mquerier.specs.declared.checking.CheckOptions.{CheckOptions}
use Rattle.mquerier.specs.declared.failure.Failure.{Failure}
use Rattle.mquerier.specs.declared.failure.Failure.TheVariants.{NoAddresses, NotAnAddress, NotHex, Memory, Write}
use Rattle.mquerier.specs.Breaking.{IsBrokenOff, IsConversionBroken}
use Rattle.mquerier.specs.Changes.{Input, Output, Writes, BreaksOff}
use Rattle.mquerier.specs.Choosing.{choice_of}
use Rattle.mquerier.specs.CheckRuns.{IsBrokenCheck, WritesVerdict, asked_options, asked_terms, checked_settings}
use Rattle.mquerier.specs.Failures.{counts_lines, counts_object, check_line, failure_line, unjudged_line, version_line}
use Rattle.mquerier.specs.HexLine.{IsHexLine}
use Rattle.mquerier.specs.Replays.{SpellsAddress, IsRefusedAt, IsDoneAt, IsBrokenAt, family_of}

-- The text was reported on standard error: it was written, or a write failed after a prefix of it.
abbrev pub IsTold : (errors : Output) → (text : List ℕ) → Type 0
IsTold errors text = Writes errors text ⊎ BreaksOff errors text

-- the line of the failure was reported so, with an explanation for a person
abbrev pub Told : (in_words : Bool) → (errors : Output) → Failure → Type 0
Told in_words errors failure = IsTold errors (failure_line in_words failure)

-- The lines of a failure of this request. A conversion and a check always explain it, the others do so for a person.
abbrev pub request_line : (in_words : Bool) → Request → Failure → List ℕ
request_line in_words (Message protocol hex from to json) failure = failure_line in_words failure
request_line in_words (Convert interface vlan once json file) failure = failure_line true failure
request_line in_words (Show json file) failure = failure_line in_words failure
request_line in_words (Replay protocol own settings until changes json file) failure = failure_line in_words failure
request_line in_words (Check protocol querier settings within flags until packets file) failure =
    check_line querier.now failure

-- an MLD message lacks an address
abbrev pub AreMissing : Protocol → (from to : Option (List ℕ)) → Type 0
AreMissing Igmp from to = ⊥
AreMissing Mld from to = (from ≡ None) ⊎ (to ≡ None)

-- a given text isn't an address of the protocol's family
abbrev pub IsNoAddress : Protocol → Option (List ℕ) → Type 0
IsNoAddress protocol None = ⊥
IsNoAddress protocol (Some text) = (address : ℕ) → SpellsAddress protocol text address → ⊥

-- The first fault of a request for a message.
abbrev pub IsRefusedMessage : Protocol → (from to : Option (List ℕ)) → (hex : List ℕ) → Failure → Type 0
IsRefusedMessage protocol from to hex NoAddresses = AreMissing protocol from to
IsRefusedMessage protocol from to hex NotAnAddress =
    (AreMissing protocol from to → ⊥) × (IsNoAddress protocol from ⊎ IsNoAddress protocol to)
IsRefusedMessage protocol from to hex NotHex =
    (AreMissing protocol from to → ⊥) × (IsNoAddress protocol from → ⊥) × (IsNoAddress protocol to → ⊥)
    × IsErr (decode_of hex)
IsRefusedMessage protocol from to hex failure = ⊥

-- The first fault of a request for a replay or a check.
abbrev pub IsRefusedReplay : Protocol → (own : List ℕ) → Settings → (until : Option ℕ) → Failure → Type 0
IsRefusedReplay protocol own settings until NotAnAddress = IsNoAddress protocol (Some own)
IsRefusedReplay protocol own settings until failure =
    (address : ℕ) × SpellsAddress protocol own address
    × IsRefusedAt (family_of protocol) address settings until failure

abbrev pub IsRefused : Request → Failure → Type 0
IsRefused (Message protocol hex from to json) failure =
    IsRefusedMessage protocol (option_copied from) (option_copied to) hex.now failure
IsRefused (Convert interface vlan once json file) failure = ⊥
IsRefused (Show json file) failure = ⊥
IsRefused (Replay protocol own settings until changes json file) failure = IsRefusedReplay protocol own.now settings until failure
IsRefused (Check protocol querier settings within flags until packets file) failure =
    IsRefusedReplay protocol querier.now (checked_settings settings) until failure

-- a given text is parsed as this IPv6 address
abbrev pub IsAddress : Option (List ℕ) → ℕ → Type 0
IsAddress None address = ⊥
IsAddress (Some text) address = SpellsV6 text address

-- the line of the requested message or of its fault, by the flag
abbrev pub IsAskedLine : (json : Bool) → Protocol → (from to : Option (List ℕ)) → (hex : List ℕ) → (flag : Bool) → (line : List ℕ) → Type 0
IsAskedLine json Igmp from to hex flag line =
    (IsNoAddress Igmp from → ⊥) × (IsNoAddress Igmp to → ⊥)
    × IsHexLine json family.Igmp (λ len. []) hex flag line
IsAskedLine json Mld from to hex flag line =
    (source : ℕ) × (destination : ℕ) × IsAddress from source × IsAddress to destination
    × IsHexLine json family.Mld (pseudo_header source destination) hex flag line

-- the line of the requested message was written, and it has this flag
abbrev pub WritesMessage : (json : Bool) → Protocol → (from to : Option (List ℕ)) → (hex : List ℕ) → Output → (flag : Bool) → Type 0
WritesMessage json protocol from to hex output flag =
    (line : List ℕ) × IsAskedLine json protocol from to hex flag line × Writes output line

-- a capture was shown, with this result
abbrev pub WritesListing : (json : Bool) → Input → Output → Result ℕ CaptureFault → Type 0
WritesListing json input output answer = Shows json input.old input.new output.old.held output.new.held answer

-- a capture was converted with this selection of packets, with this result
abbrev pub WritesConversion : Choice → Input → Output → Result ConvertCounts ConvertFault → Type 0
WritesConversion choice input output answer = Converts choice input.old input.new output.old.held output.new.held answer

-- a capture was replayed to its end
abbrev pub WritesReport : Protocol → (own : List ℕ) → Settings → Asked → Input → Output → (flag : Bool) → Type 0
WritesReport protocol own settings asked input output flag =
    (address : ℕ) × SpellsAddress protocol own address
    × IsDoneAt (family_of protocol) address settings asked input output flag

-- The request was done. The line of a message (true) or of its fault (false) was written, or a capture was shown,
-- converted, replayed or checked to its end. A check may have findings.
abbrev pub IsDone : Request → Input → Output → (flag : Bool) → Type 0
IsDone (Message protocol hex from to json) input output flag =
    WritesMessage json protocol (option_copied from) (option_copied to) hex.now output flag
IsDone (Convert interface vlan once json file) input output flag =
    (flag ≡ true) × (output.new.failed ≡ output.old.failed) × (counts : ConvertCounts)
    × WritesConversion (choice_of interface vlan once) input output (Ok counts)
IsDone (Show json file) input output flag =
    (flag ≡ true) × (output.new.failed ≡ output.old.failed) × (count : ℕ) × WritesListing json input output (Ok count)
IsDone (Replay protocol own settings until changes json file) input output flag =
    WritesReport protocol own.now settings (record { until = until; changes = changes; json = json }) input output flag
IsDone (Check protocol querier settings within flags until packets file) input output flag =
    (flag ≡ true) × (totals : Totals)
    × WritesVerdict protocol querier.now (checked_settings settings) (asked_terms within until flags false) input output totals

-- The line of a message was not written. Either an allocation failed before any of it, or the output failed after a
-- prefix.
abbrev pub IsBrokenMessage : (json : Bool) → Protocol → (from to : Option (List ℕ)) → (hex : List ℕ) → Output → Failure → Type 0
IsBrokenMessage json protocol from to hex output Memory = output.new ≡ output.old
IsBrokenMessage json protocol from to hex output Write =
    (flag : Bool) × (line : List ℕ) × IsAskedLine json protocol from to hex flag line × BreaksOff output line
IsBrokenMessage json protocol from to hex output failure = ⊥

-- the reason why a capture was not replayed to its end
abbrev pub IsBrokenReplay : Protocol → (own : List ℕ) → Settings → Asked → Input → Output → Failure → Type 0
IsBrokenReplay protocol own settings asked input output failure =
    (address : ℕ) × SpellsAddress protocol own address
    × IsBrokenAt (family_of protocol) address settings asked input output failure

-- the reason for status 1, other than a faulty message
abbrev pub IsBroken : Request → Input → Output → Failure → Type 0
IsBroken (Message protocol hex from to json) input output failure =
    IsBrokenMessage json protocol (option_copied from) (option_copied to) hex.now output failure
IsBroken (Convert interface vlan once json file) input output failure =
    IsConversionBroken (WritesConversion (choice_of interface vlan once) input output) input output failure
IsBroken (Show json file) input output failure = IsBrokenOff (WritesListing json input output) input output failure
IsBroken (Replay protocol own settings until changes json file) input output failure =
    IsBrokenReplay protocol own.now settings (record { until = until; changes = changes; json = json }) input output failure
IsBroken (Check protocol querier settings within flags until packets file) input output failure =
    IsBrokenCheck protocol querier.now (checked_settings settings) (asked_terms within until flags false) input output failure

-- a message's fault was written without a line on standard error, or the work ended early and its reason was reported
abbrev pub IsFaulty : Request → (in_words : Bool) → Input → (output errors : Output) → Type 0
IsFaulty request in_words input output errors =
    (IsDone request input output false × (errors.new ≡ errors.old))
    ⊎ ((failure : Failure) × IsBroken request input output failure × IsTold errors (request_line in_words request failure))

-- a request for a message, which doesn't read the input
abbrev pub IsOfMessage : Request → Type 0
IsOfMessage (Message protocol hex from to json) = Unit {0}
IsOfMessage (Convert interface vlan once json file) = ⊥
IsOfMessage (Show json file) = ⊥
IsOfMessage (Replay protocol own settings until changes json file) = ⊥
IsOfMessage (Check protocol querier settings within flags until packets file) = ⊥

-- a request for a conversion
abbrev pub IsConversion : Request → Type 0
IsConversion (Message protocol hex from to json) = ⊥
IsConversion (Convert interface vlan once json file) = Unit {0}
IsConversion (Show json file) = ⊥
IsConversion (Replay protocol own settings until changes json file) = ⊥
IsConversion (Check protocol querier settings within flags until packets file) = ⊥

-- a request for a check
abbrev pub IsCheck : Request → Type 0
IsCheck (Message protocol hex from to json) = ⊥
IsCheck (Convert interface vlan once json file) = ⊥
IsCheck (Show json file) = ⊥
IsCheck (Replay protocol own settings until changes json file) = ⊥
IsCheck (Check protocol querier settings within flags until packets file) = Unit {0}

-- A check reached its end with these totals, and standard error is unchanged.
abbrev pub HasChecked : CheckOptions → (querier : List ℕ) → Input → (output errors : Output) → Totals → Type 0
HasChecked options querier input output errors totals =
    WritesVerdict options.protocol querier options.settings options.terms input output totals × (errors.new ≡ errors.old)

-- The counts of a conversion were reported on standard error, as an object, or as lines if one isn't 0. They are those of
-- repeated packets, of packets that the file records as dropped, and of packets whose link type isn't read.
abbrev pub TellsCounts : (json : Bool) → (errors : Output) → ConvertCounts → Type 0
TellsCounts true errors counts = IsTold errors (counts_object counts)
TellsCounts false errors counts =
    (counts.repeated + counts.dropped + counts.unread.count ≡ 0 → errors.new ≡ errors.old)
    × (1 ≤ counts.repeated + counts.dropped + counts.unread.count → IsTold errors (counts_lines counts))

-- A check judged the querier. More than half of the packets were read, and the capture has a message of the family. It
-- has a query of the querier, or the check has a finding.
abbrev pub IsJudged : Totals → Type 0
IsJudged totals = unjudged_by totals ≡ None

-- The status of a check that reached its end: 0 without a finding, 3 with one, or 4 if nothing was judged, with the
-- reason on standard error.
pub record Concludes (totals : Totals) (errors : Output) (status : ℕ) : Type 0 where
  pub one_of : (status ≡ 0) ⊎ (status ≡ 3) ⊎ (status ≡ 4)
  pub done : status ≡ 0 → (totals.findings ≡ 0) × IsJudged totals × (errors.new ≡ errors.old)
  pub found : status ≡ 3 → (1 ≤ totals.findings) × IsJudged totals × (errors.new ≡ errors.old)
  pub unjudged : status ≡ 4 → (why : Unjudged) × (unjudged_by totals ≡ Some why) × IsTold errors (unjudged_line why)

-- The request was done. Standard error has only the counts of a conversion: repeated, dropped and unread packets.
abbrev pub IsDoneTelling : Request → Input → (output errors : Output) → Type 0
IsDoneTelling (Message protocol hex from to json) input output errors =
    IsDone (Message protocol hex from to json) input output true × (errors.new ≡ errors.old)
IsDoneTelling (Convert interface vlan once json file) input output errors =
    (output.new.failed ≡ output.old.failed) × (counts : ConvertCounts)
    × WritesConversion (choice_of interface vlan once) input output (Ok counts) × TellsCounts json errors counts
IsDoneTelling (Show json file) input output errors = IsDone (Show json file) input output true × (errors.new ≡ errors.old)
IsDoneTelling (Replay protocol own settings until changes json file) input output errors =
    IsDone (Replay protocol own settings until changes json file) input output true × (errors.new ≡ errors.old)
IsDoneTelling (Check protocol querier settings within flags until packets file) input output errors =
    (totals : Totals) × (totals.findings ≡ 0) × IsJudged totals × HasChecked (asked_options protocol settings within until flags false) querier.now input output errors totals

-- A check reached its end without anything to judge, and the reason was reported.
abbrev pub HasJudgedNothing : CheckOptions → (querier : List ℕ) → Input → (output errors : Output) → Type 0
HasJudgedNothing options querier input output errors =
    (totals : Totals) × (why : Unjudged) × (unjudged_by totals ≡ Some why)
    × WritesVerdict options.protocol querier options.settings options.terms input output totals
    × IsTold errors (unjudged_line why)

-- A check has findings.
abbrev pub IsFinding : Request → Input → (output errors : Output) → Type 0
IsFinding (Message protocol hex from to json) input output errors = ⊥
IsFinding (Convert interface vlan once json file) input output errors = ⊥
IsFinding (Show json file) input output errors = ⊥
IsFinding (Replay protocol own settings until changes json file) input output errors = ⊥
IsFinding (Check protocol querier settings within flags until packets file) input output errors =
    (totals : Totals) × (1 ≤ totals.findings) × IsJudged totals
    × HasChecked (asked_options protocol settings within until flags false) querier.now input output errors totals

-- A check had nothing to judge.
abbrev pub IsUnjudged : Request → Input → (output errors : Output) → Type 0
IsUnjudged (Message protocol hex from to json) input output errors = ⊥
IsUnjudged (Convert interface vlan once json file) input output errors = ⊥
IsUnjudged (Show json file) input output errors = ⊥
IsUnjudged (Replay protocol own settings until changes json file) input output errors = ⊥
IsUnjudged (Check protocol querier settings within flags until packets file) input output errors =
    HasJudgedNothing (asked_options protocol settings within until flags false) querier.now input output errors

-- The request was performed with this status.
pub record Performs (request : Request) (in_words : Bool) (input : Input) (output errors : Output) (status : ℕ) : Type 0 where
  pub at_most_four : status ≤ 4
  pub done : status ≡ 0 → IsDoneTelling request input output errors
  pub faulty : status ≡ 1 → IsFaulty request in_words input output errors
  -- only a faulty request is refused, and its fault is reported
  pub refused : status ≡ 2 → (input.new ≡ input.old) × (output.new ≡ output.old)
      × (failure : Failure) × IsRefused request failure × IsTold errors (request_line in_words request failure)
  pub found : status ≡ 3 → IsFinding request input output errors
  pub unjudged : status ≡ 4 → IsUnjudged request input output errors
  pub unread : IsOfMessage request → input.new ≡ input.old

-- A conversion was done, or ended early with a reported reason.
pub record PerformsConversion (choice : Choice) (json : Bool) (input : Input) (output errors : Output) (status : ℕ) : Type 0 where
  pub at_most_one : status ≤ 1
  pub done : status ≡ 0 → (output.new.failed ≡ output.old.failed) × (counts : ConvertCounts)
      × WritesConversion choice input output (Ok counts) × TellsCounts json errors counts
  pub faulty : status ≡ 1 → (failure : Failure)
      × IsConversionBroken (WritesConversion choice input output) input output failure × Told true errors failure

-- A check reached its end, with or without findings, or without anything to judge. Or it was refused or ended early,
-- with a reported reason.
pub record PerformsCheck (options : CheckOptions) (querier : List ℕ) (input : Input) (output errors : Output) (status : ℕ) : Type 0 where
  pub at_most_four : status ≤ 4
  pub done : status ≡ 0 → (totals : Totals) × (totals.findings ≡ 0) × IsJudged totals
      × HasChecked options querier input output errors totals
  pub faulty : status ≡ 1 → (failure : Failure)
      × IsBrokenCheck options.protocol querier options.settings options.terms input output failure
      × IsTold errors (check_line querier failure)
  pub refused : status ≡ 2 → (input.new ≡ input.old) × (output.new ≡ output.old)
      × (failure : Failure) × IsRefusedReplay options.protocol querier options.settings options.terms.until failure
      × IsTold errors (check_line querier failure)
  pub found : status ≡ 3 → (totals : Totals) × (1 ≤ totals.findings) × IsJudged totals
      × HasChecked options querier input output errors totals
  pub unjudged : status ≡ 4 → HasJudgedNothing options querier input output errors

-- a text of at least one line was written on standard error
abbrev pub TellsLines : (errors : Output) → Type 0
TellsLines errors = (text : List ℕ) × IsTold errors (text ++ codes "\n")

-- The words are no request. The reason was reported with status 2, or its text could not be allocated, with status 1.
abbrev pub IsWordless : (in_words : Bool) → (errors : Output) → (status : ℕ) → Type 0
IsWordless in_words errors status =
    ((status ≡ 2) × TellsLines errors) ⊎ ((status ≡ 1) × Told in_words errors Memory)

-- The version was printed and standard error is unchanged, or the output failed and that was reported.
abbrev pub PrintsVersion : (version : List ℕ) → (in_words : Bool) → (output errors : Output) → (status : ℕ) → Type 0
PrintsVersion version in_words output errors status =
    ((status ≡ 0) × Writes output (version_line version) × (errors.new ≡ errors.old))
    ⊎ ((status ≡ 1) × BreaksOff output (version_line version) × Told in_words errors Write)

-- A run without a request, by the error of `clap`.
pub record Refuses (kind : ErrorKind) (version : List ℕ) (in_words : Bool) (input : Input) (output errors : Output) (status : ℕ) : Type 0 where
  pub unread : input.new ≡ input.old
  pub unwritten : (kind ≡ DisplayVersion → ⊥) → output.new ≡ output.old
  pub memory : kind ≡ OutOfMemory → (status ≡ 1) × Told in_words errors Memory
  pub version_asked : kind ≡ DisplayVersion → PrintsVersion version in_words output errors status
  pub wordless : (kind ≡ OutOfMemory → ⊥) → (kind ≡ DisplayVersion → ⊥) → IsWordless in_words errors status

-- A run performs only the request that was read from the words. Without a request, it reports the reason.
abbrev pub Runs : Result Request Error → (version : List ℕ) → (in_words : Bool) → Input → (output errors : Output) → (status : ℕ) → Type 0
Runs (Ok request) version in_words input output errors status = Performs request in_words input output errors status
Runs (Err error) version in_words input output errors status =
    Refuses (kind_of error) version in_words input output errors status
