-- A conversion that came to the end of a file, or to a fault of it, tells what the whole file is.
use Rattle.mq_laws.proofs.Common.{◌≡◌, ◌<◌, ℕ, Bool, true, false, List, ◌++◌, drop, Option, None, Some, Result, Ok, Err, refl, sym, ◌∙◌, ap, subst, append-nil}
use Rattle.mq_laws.proofs.Common.{IsOk, All, Choice, BlockFault, Captured, Captures, ArePlain, everything, looked_at, plain, is_cut}
use Rattle.std.specs.Io.KnownBytes.{Appends, Consumes, IsAtEnd}
use Rattle.mq_pcap.specs.Filling.{InputState}
use Rattle.mq_convert.specs.{declared.counts.ConvertCounts.ConvertCounts, declared.fault.ConvertFault.ConvertFault, Converting.Converts}
use Rattle.mq_laws.{specs.Conversions.TellsOfFile, proofs.AsItWas.as_it_was_lem, proofs.FaultsStay.faults_stay_lem, proofs.OneFile.one_file_lem}
use Rattle.mq_pcap.specs.Capture as pcap
use Rattle.mq_convert.specs.declared.fault.ConvertFault.TheVariants as answer

-- the rest of the file
rest_of : (ahead : Option (List ℕ)) (file bytes : List ℕ) → Consumes (Some file) ahead bytes → (rest : List ℕ) × (ahead ≡ Some rest) × (file ≡ bytes ++ rest)
rest_of None file bytes taken = absurd taken
rest_of (Some rest) file bytes taken = (rest, refl, taken)

-- at the end all was taken
all_taken : (ahead : Option (List ℕ)) (file bytes : List ℕ) → Consumes (Some file) ahead bytes → IsAtEnd ahead → bytes ≡ file
all_taken None file bytes taken end = absurd taken
all_taken (Some rest) file bytes taken end = sym (taken ∙ ap (λ xs. bytes ++ xs) end ∙ append-nil bytes)

by_cut : (ahead : Option (List ℕ)) (file bytes : List ℕ) (blocks : List (Option Captured)) (f : BlockFault) (cut : Bool) → is_cut f ≡ cut →
    Consumes (Some file) ahead bytes → (is_cut f ≡ true → IsAtEnd ahead) → Captures bytes blocks (Some f) → Captures file blocks (Some f)
by_cut ahead file bytes blocks f true is taken known capture = subst (λ xs. Captures xs blocks (Some f)) (all_taken ahead file bytes taken (known is)) capture
by_cut ahead file bytes blocks f false is taken known capture =
    let rest = rest_of ahead file bytes taken in
    subst (λ xs. Captures xs blocks (Some f)) (sym rest.2) (faults_stay_lem bytes rest.0 blocks f capture is)

pub whole_file : (choice : Choice) (old new : InputState) (before after : Option (List ℕ)) (r : Result ConvertCounts ConvertFault) (file : List ℕ) →
    old.ahead ≡ Some file → (c : Converts choice old new before after r) → TellsOfFile r → Captures file c.blocks c.end
whole_file choice old new before after (Ok counts) file is c tells =
    let taken = subst (λ ahead. Consumes ahead new.ahead c.bytes) is c.takes.ahead in
    subst (λ xs. Captures xs c.blocks c.end) (all_taken new.ahead file c.bytes taken c.ended.1) c.capture
whole_file choice old new before after (Err (answer.Block number f)) file is c tells =
    let taken = subst (λ ahead. Consumes ahead new.ahead c.bytes) is c.takes.ahead in
    let capture = subst (λ end. Captures c.bytes c.blocks end) c.ended.0 c.capture in
    subst (λ end. Captures file c.blocks end) (sym c.ended.0) (by_cut new.ahead file c.bytes c.blocks f (is_cut f) refl taken c.ended.2 capture)
whole_file choice old new before after _ file is c tells = absurd tells

pub one_conversion_lem : (choice choice' : Choice) (old new old' new' : InputState) (before after before' after' : Option (List ℕ))
    (r r' : Result ConvertCounts ConvertFault) (file : List ℕ) → old.ahead ≡ Some file → old'.ahead ≡ Some file → TellsOfFile r → TellsOfFile r'
    → (c : Converts choice old new before after r) → (d : Converts choice' old' new' before' after' r') → (c.blocks ≡ d.blocks) × (c.end ≡ d.end)
one_conversion_lem choice choice' old new old' new' before after before' after' r r' file is is' tells tells' c d =
    let first = whole_file choice old new before after r file is c tells in
    let second = whole_file choice' old' new' before' after' r' file is' d tells' in
    let one = one_file_lem file c.blocks d.blocks c.end d.end first second in
    (one.0, one.1)

pub written_lem : (bytes : List ℕ) (packets : List pcap.Captured) (old new : InputState) (before after : Option (List ℕ))
    (r : Result ConvertCounts ConvertFault)
    → All (λ byte. byte < 256) bytes → (is : pcap.Captures bytes (Ok plain) packets None) → ArePlain 1 (drop 24 bytes) packets is.1
    → old.ahead ≡ Some bytes → Converts everything old new before after r → TellsOfFile r
    → IsOk r × Appends before after (looked_at bytes ++ drop 24 bytes)
written_lem bytes packets old new before after (Ok counts) all is plainly from c tells =
    let it = as_it_was_lem bytes packets c.blocks c.end all is plainly (whole_file everything old new before after (Ok counts) bytes from c tells) in
    (refl, subst (λ text. Appends before after text) it.1 c.written)
written_lem bytes packets old new before after (Err (answer.Block number f)) all is plainly from c tells =
    let it = as_it_was_lem bytes packets c.blocks c.end all is plainly
    (whole_file everything old new before after (Err (answer.Block number f)) bytes from c tells) in
    absurd (let none = sym c.ended.0 ∙ it.0 in cc)
written_lem bytes packets old new before after _ all is plainly from c tells = absurd tells
