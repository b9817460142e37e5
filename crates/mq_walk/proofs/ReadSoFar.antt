-- The records of a capture that were read.
use Rattle.std.proofs.Common.{◌≡◌, ℕ, ◌+◌, ◌<◌, nat_lt, Bool, true, false, List, [], ◌∷◌, ◌++◌, length, Option, None, Some, Result, Err, refl}
use Rattle.std.proofs.Common.{sym, subst, append_assoc, inl, inr, arith}
use Rattle.std.proofs.lemmas.Bool.{le-ltb, lt-ltb, ltb-false}
use Rattle.mq_pcap.specs.declared.fault.PcapFault.{PcapFault}
use Rattle.mq_pcap.specs.declared.fault.PcapFault.TheVariants as fault
use Rattle.mq_pcap.specs.declared.form.Form.{Form}
use Rattle.mq_pcap.specs.declared.reader_state.Packet.{Packet}
use Rattle.mq_pcap.specs.Capture.{Captured, AreRecords, captured_length, is_read, most_bytes, endless, record_fault}
use Rattle.mq_pcap.specs.Filling.{InputState}
use Rattle.mq_pcap.specs.Reading.{IsAnswerTo, IsBegun, IsKnownThere, Reads}

-- lists one after the other can be joined in any order
pub AreRecords-assoc : (form : Form) (number : ℕ) (first second rest : List ℕ) (some more others : List Captured) (end : Option PcapFault)
    → AreRecords form number (first ++ (second ++ rest)) (some ++ (more ++ others)) end → AreRecords form number ((first ++ second) ++ rest)
    ((some ++ more) ++ others) end
AreRecords-assoc form number first second rest some more others end all =
    subst (λ (bytes : List ℕ). AreRecords form number bytes ((some ++ more) ++ others) end) (sym (append_assoc first second rest))
    (subst (λ (packets : List Captured). AreRecords form number (first ++ (second ++ rest)) packets end) (sym (append_assoc some more others)) all)

-- bytes that are only begun are, taken as the rest of a file, no record
by_number : (form : Form) (number : ℕ) (bytes : List ℕ) → 0 < length bytes → IsBegun form bytes → (few : Bool) → nat_lt number endless ≡ few →
    (short : Bool) → nat_lt (length bytes) 16 ≡ short → (end : Option PcapFault) × AreRecords form number bytes [] end
by_number form number bytes some begun false many short is_short =
    let none = le-ltb (length bytes) 1 some in
    (Some fault.Endless, rw (none, many) refl)
by_number form number bytes some begun true few true is_short =
    let none = le-ltb (length bytes) 1 some in
    (Some (fault.CutHeader number), rw (none, few, is_short) refl)
by_number form number bytes some (inl short) true few false is_short = absurd (let long = ltb-false (length bytes) 16 is_short in omega arith)
by_number form number bytes some (inr (taken, short)) true few false is_short =
    let none = le-ltb (length bytes) 1 some in
    let within = le-ltb most_bytes (captured_length form bytes) taken in
    let cut = lt-ltb (length bytes) (16 + captured_length form bytes) short in
    (Some (fault.CutData number), rw (none, few, is_short, within, cut) refl)

pub begun_ends : (form : Form) (number : ℕ) (bytes : List ℕ) → IsBegun form bytes → (end : Option PcapFault) × AreRecords form number bytes [] end
begun_ends form number [] begun = (None, refl)
begun_ends form number (byte ∷ bytes) begun =
    by_number form number (byte ∷ bytes) (omega arith) begun (nat_lt number endless) refl (nat_lt (length (byte ∷ bytes)) 16) refl

-- this fact for the names of the code
pub read_as : (form form' : Form) (number number' : ℕ) (mid new : InputState) (buffer : List ℕ) (a a' : Result (Option Packet) PcapFault) →
    form' ≡ form → number' ≡ number → a' ≡ a → Reads form' number' mid new buffer a' → Reads form number mid new buffer a
read_as form form' number number' mid new buffer a a' is_form is_number is_answer reads =
    subst (λ (f : Form). Reads f number mid new buffer a) is_form (subst (λ (n : ℕ). Reads form' n mid new buffer a) is_number
    (subst (λ (x : Result (Option Packet) PcapFault). Reads form' number' mid new buffer x) is_answer reads))

pub none_left : {X : Type 0} (o : Option X) → ((x : X) → o ≡ Some x → ⊥) → o ≡ None
none_left None unlike = refl
none_left (Some x) unlike = absurd (unlike x refl)

-- the facts about the bytes if a read failed, and if they have a fault
pub begun_answer : (form : Form) (number : ℕ) (new : InputState) (buffer bytes : List ℕ) (f : PcapFault) → is_read f ≡ true →
    IsAnswerTo form number new buffer bytes (Err f) → IsBegun form bytes
begun_answer form number new buffer bytes fault.Read is answers = answers
begun_answer form number new buffer bytes _ is answers = absurd (cc)

pub faulty_answer : (form : Form) (number : ℕ) (new : InputState) (buffer bytes : List ℕ) (f : PcapFault) → is_read f ≡ false →
    IsAnswerTo form number new buffer bytes (Err f) → (record_fault form number bytes ≡ Some f) × IsKnownThere f new
faulty_answer form number new buffer bytes fault.Read is answers = absurd (cc)
faulty_answer form number new buffer bytes _ is answers = answers
