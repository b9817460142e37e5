-- The text, and the line, of an answer.
use Rattle.mq_lines.proofs.Common.{◌≡◌, ℕ, Bool, List, refl, ap, [], ◌++◌, sym, ◌∙◌, codes, Family, Passes, broken_behind, broken_within, both_passed}
use Rattle.mq_lines.proofs.Common.{numbered_message}
use Rattle.std.proofs.Common.{Some, Result, Ok, Err, is_ok, append-nil, subst, Option}
use Rattle.mq_wire.specs.declared.message.Message.{Message, TheVariants.Query as AQuery, TheVariants.OldReport, TheVariants.Leave, TheVariants.Report}
use Rattle.mq_wire.specs.declared.query.QueryVersion.{QueryVersion, TheVariants.Older, TheVariants.Current}
use Rattle.mq_wire.specs.{declared.message.WireFault.WireFault, Spelling.Spells, Spelling.fault_of, Numbered.numbered_version}
use Rattle.mq_text.specs.Printing.{GrowsByBeginning}
use Rattle.mq_lines.specs.{Line.AnswersBy, Line.IsTextOf, Line.PrintsLineIn, Line.PutsText, Messages.answer_in, Numbered.numbered_answer, Text.line_of}
use Rattle.std.specs.Io.KnownBytes.{Appends}

-- an answer that is that of the bytes has their text
text_of_answer : (json : Bool) (family : Family) (pseudo bytes : List ℕ) (answer : Result (Message ℕ) WireFault)
    → ((message : Message ℕ) → answer ≡ Ok message → Spells family pseudo bytes message)
    → ((fault : WireFault) → answer ≡ Err fault → fault_of family pseudo bytes ≡ Some fault)
    → IsTextOf json family pseudo bytes (is_ok answer) (answer_in json family answer)
text_of_answer json family pseudo bytes (Ok message) spells faulty = (message, spells message refl, refl)
text_of_answer json family pseudo bytes (Err fault) spells faulty = (fault, faulty fault refl, refl)

-- addresses that are seen as their numbers
version_as_it_is : (version : QueryVersion ℕ) → numbered_version version ≡ version
version_as_it_is (Older version) = refl
version_as_it_is (Current fields) = refl

message_as_it_is : (message : Message ℕ) → numbered_message (λ address. address) message ≡ message
message_as_it_is (AQuery query) = λ i. AQuery (record { group = query.group; response = query.response; version = version_as_it_is query.version i })
message_as_it_is (OldReport version group) = refl
message_as_it_is (Leave group) = refl
message_as_it_is (Report records) = refl

pub answer_as_it_is : (answer : Result (Message ℕ) WireFault) → numbered_answer (λ address. address) answer ≡ answer
answer_as_it_is (Ok message) = ap Ok (message_as_it_is message)
answer_as_it_is (Err fault) = refl

-- the text of an answer was put
pub answer_put : {E : Type 0} (json : Bool) (old new : Option (List ℕ)) (held left : List ℕ)
    (family : Family) (pseudo bytes : List ℕ) (read : Result (Message ℕ) WireFault) (answer : Result Bool E)
    → ((message : Message ℕ) → read ≡ Ok message → Spells family pseudo bytes message)
    → ((fault : WireFault) → read ≡ Err fault → fault_of family pseudo bytes ≡ Some fault)
    → AnswersBy old new held left (is_ok read) (answer_in json family (numbered_answer (λ address. address) read)) answer
    → PutsText json old new held left family pseudo bytes answer
answer_put json old new held left family pseudo bytes read answer spells faulty put =
    record {
      flag = is_ok read;
      text = answer_in json family read;
      is_text = text_of_answer json family pseudo bytes read spells faulty;
      put = subst (λ (r : Result (Message ℕ) WireFault). AnswersBy old new held left (is_ok read) (answer_in json family r) answer)
          (answer_as_it_is read) put;
    }

-- a text went into an empty buffer and broke off
pub text_broken : {E F : Type 0} (json : Bool) (old new : Option (List ℕ)) (held left : List ℕ) (family : Family) (pseudo bytes : List ℕ) (e : E) (f : F)
    → held ≡ [] → PutsText json old new held left family pseudo bytes (Err f) → PrintsLineIn json old new family pseudo bytes (Err e)
text_broken json old new held left family pseudo bytes e f none put =
    record {
      flag = put.flag;
      line = line_of put.text;
      is_line = (put.text, put.is_text, refl);
      printed = subst (λ (front : List ℕ). GrowsByBeginning old new (front ++ line_of put.text)) none
          (broken_within old new held put.text (codes "\n") put.put);
    }

-- it was put, and its line broke off
pub line_broken : {E F : Type 0} (json : Bool) (old mid new : Option (List ℕ)) (held between : List ℕ) (family : Family) (pseudo bytes : List ℕ) (flag : Bool)
    (e : E) → held ≡ [] → PutsText {E = F} json old mid held between family pseudo bytes (Ok flag)
    → GrowsByBeginning mid new (between ++ codes "\n") → PrintsLineIn json old new family pseudo bytes (Err e)
line_broken json old mid new held between family pseudo bytes flag e none put begun =
    record {
      flag = put.flag;
      line = line_of put.text;
      is_line = (put.text, put.is_text, refl);
      printed = subst (λ (front : List ℕ). GrowsByBeginning old new (front ++ line_of put.text)) none
          (broken_behind old mid new held between put.text (codes "\n") put.put.1 begun);
    }

-- it was put, and its line was written whole
pub line_printed : {E F : Type 0} (json : Bool) (old mid new : Option (List ℕ)) (held between rest : List ℕ) (family : Family) (pseudo bytes : List ℕ)
    (flag : Bool) → held ≡ [] → rest ≡ [] → PutsText {E = F} json old mid held between family pseudo bytes (Ok flag)
    → Passes mid new between rest (codes "\n") → PrintsLineIn {E = E} json old new family pseudo bytes (Ok flag)
line_printed json old mid new held between rest family pseudo bytes flag none empty put passed =
    let all = both_passed old mid new held between rest put.text (codes "\n") put.put.1 passed in
    let same : line_of put.text ≡ all.written =
    sym (ap (λ (t : List ℕ). t ++ line_of put.text) none) ∙ all.parts ∙ ap (λ (t : List ℕ). all.written ++ t) empty ∙ append-nil all.written in
    record {
      flag = put.flag;
      line = line_of put.text;
      is_line = (put.text, put.is_text, refl);
      printed = (put.put.0, subst (λ (text : List ℕ). Appends old new text) (sym same) all.grows);
    }
