-- The one capture of a file, and faults of its first bytes that are faults of the whole.
use Rattle.mq_laws.proofs.Common.{◌≡◌, ◌≤◌, ◌<◌, ◌+◌, ℕ, List, [], ◌∷◌, ◌++◌, length, take, drop, Option, None, Some, Result, Ok, Err, refl, arith, sym, ◌∙◌}
use Rattle.mq_laws.proofs.Common.{ap, length-append, append_assoc, subst, le-ltb, lt-ltb, take_at, drop-append_seam, Form, PcapFault, IsRecord, AreRecords}
use Rattle.mq_laws.proofs.Common.{captured_length, stamp_of, most_bytes, record_fault, nat_lt, nat_tests, not}
use Rattle.mq_pcap.specs.{Capture.Captured, Capture.Captures, Capture.endless, Tests.first_that_holds}
use Rattle.mq_pcap.proofs.Records.{length_of_header, captured_length-append}
use Rattle.mq_pcap.specs.declared.fault.PcapFault.TheVariants as fault

-- a record at the front, and what follows, say the size
front_size : (form : Form) (bytes first rest : List ℕ) (packet : Captured) → bytes ≡ first ++ rest → IsRecord form first packet →
    length first ≡ 16 + captured_length form bytes
front_size form bytes first rest packet is r =
    let whole : bytes ≡ r.header ++ (packet.bytes ++ rest) = is ∙ ap (λ xs. xs ++ rest) r.parts ∙ append_assoc r.header packet.bytes rest in
    let says = length_of_header form r.header (packet.bytes ++ rest) r.header_length in
    let size = length-append r.header packet.bytes in
    rw (r.parts, whole) (omega (arith, says, size, r.captured, r.header_length))

-- so two records at the front of the same bytes have the same bytes, and so has what follows
same_parts : (xs xs' ys ys' : List ℕ) → xs ++ ys ≡ xs' ++ ys' → length xs ≡ length xs' → (xs ≡ xs') × (ys ≡ ys')
same_parts xs xs' ys ys' is size = (
  sym (take_at xs ys (length xs) refl) ∙ ap (take (length xs)) is ∙ take_at xs' ys' (length xs) (sym size),
  sym (drop-append_seam xs ys) ∙ ap (drop (length xs)) is ∙ rw size (drop-append_seam xs' ys'),
)

-- the same bytes are one packet's record
one_packet : (form : Form) (bytes : List ℕ) (p q : Captured) → IsRecord form bytes p → IsRecord form bytes q → p ≡ q
one_packet form bytes p q a b =
    let parts = same_parts a.header b.header p.bytes q.bytes (sym a.parts ∙ b.parts) (a.header_length ∙ sym b.header_length) in
    let stamps = a.stamp ∙ ap (stamp_of form) parts.0 ∙ sym b.stamp in
    λ i. record { stamp = stamps i; bytes = parts.1 i }

-- where a record stands there is no fault
record_has_none : (form : Form) (number : ℕ) (bytes first rest : List ℕ) (packet : Captured) → number < endless → bytes ≡ first ++ rest →
    IsRecord form first packet → record_fault form number bytes ≡ None
record_has_none form number bytes first rest packet few is r =
    let size = front_size form bytes first rest packet is r in
    let all = ap length is ∙ length-append first rest in
    let captured : captured_length form bytes ≤ most_bytes =
    omega (arith, size, r.within, ap length r.parts ∙ length-append r.header packet.bytes, r.header_length) in
    rw (
      le-ltb (length bytes) 1 (omega (arith, size, all)),
      lt-ltb number endless few,
      le-ltb (length bytes) 16 (omega (arith, size, all)),
      le-ltb most_bytes (captured_length form bytes) captured,
      le-ltb (length bytes) (16 + captured_length form bytes) (omega (arith, size, all)),
    ) refl

-- where a record stands there are bytes
record_has_bytes : (form : Form) (bytes first rest : List ℕ) (packet : Captured) → bytes ≡ first ++ rest → IsRecord form first packet → bytes ≡ [] → ⊥
record_has_bytes form bytes first rest packet is r none =
    let size = front_size form bytes first rest packet is r in
    let all = ap length is ∙ length-append first rest in
    let no_byte = ap length none in
    omega (arith, size, all, no_byte)

same_records : (form : Form) (number : ℕ) (bytes : List ℕ) (ps qs : List Captured) (e f : Option PcapFault) → AreRecords form number bytes ps e →
    AreRecords form number bytes qs f → (ps ≡ qs) × (e ≡ f)
same_records form number bytes [] [] None None a b = (refl, refl)
same_records form number bytes [] [] None (Some f) a b = absurd (let c = ap (record_fault form number) (sym a) ∙ b in cc)
same_records form number bytes [] [] (Some e) None a b = absurd (let c = ap (record_fault form number) (sym b) ∙ a in cc)
same_records form number bytes [] [] (Some e) (Some f) a b = (refl, sym a ∙ b)
same_records form number bytes [] (q ∷ qs) None f a b = absurd (record_has_bytes form bytes b.0 b.1 q b.2 b.3 a)
same_records form number bytes [] (q ∷ qs) (Some e) f a b = absurd (let c = sym a ∙ record_has_none form number bytes b.0 b.1 q b.4 b.2 b.3 in cc)
same_records form number bytes (p ∷ ps) [] e None a b = absurd (record_has_bytes form bytes a.0 a.1 p a.2 a.3 b)
same_records form number bytes (p ∷ ps) [] e (Some f) a b = absurd (let c = sym b ∙ record_has_none form number bytes a.0 a.1 p a.4 a.2 a.3 in cc)
same_records form number bytes (p ∷ ps) (q ∷ qs) e f a b =
    let sizes = front_size form bytes a.0 a.1 p a.2 a.3 ∙ sym (front_size form bytes b.0 b.1 q b.2 b.3) in
    let parts = same_parts a.0 b.0 a.1 b.1 (sym a.2 ∙ b.2) sizes in
    let packet = one_packet form b.0 p q (subst (λ xs. IsRecord form xs p) parts.0 a.3) b.3 in
    let others = same_records form (number + 1) b.1 ps qs e f (subst (λ xs. AreRecords form (number + 1) xs ps e) parts.1 a.5) b.5 in
    ((λ i. packet i ∷ others.0 i), others.1)

pub one_capture_lem : (bytes : List ℕ) (h k : Result Form PcapFault) (ps qs : List Captured) (e f : Option PcapFault) → Captures bytes h ps e →
    Captures bytes k qs f → (h ≡ k) × (ps ≡ qs) × (e ≡ f)
one_capture_lem bytes (Ok h) (Ok k) ps qs e f a b =
    let headers : h ≡ k = let c = sym a.0 ∙ b.0 in cc in
    let records = same_records k 1 (drop 24 bytes) ps qs e f (subst (λ form. AreRecords form 1 (drop 24 bytes) ps e) headers a.1) b.1 in
    (ap Ok headers, records.0, records.1)
one_capture_lem bytes (Err h) (Err k) ps qs e f a b =
    let faults : h ≡ k = let c = sym a.0 ∙ b.0 in cc in
    (ap Err faults, a.1 ∙ sym b.1, a.2 ∙ ap Some faults ∙ sym b.2)
one_capture_lem bytes _ _ ps qs e f a b = absurd (let c = sym a.0 ∙ b.0 in cc)

-- the tests of a record's fault over their numbers
tests_of : (number : ℕ) (size announced : ℕ) → Option PcapFault
tests_of number size announced = first_that_holds ((nat_lt size 1, None) ∷ (not (nat_lt number endless), Some fault.Endless)
    ∷ (nat_lt size 16, Some (fault.CutHeader number)) ∷ (nat_lt most_bytes announced, Some (fault.TooLong number))
    ∷ (nat_lt size (16 + announced), Some (fault.CutData number)) ∷ []) None

too_long_grows : (number size more announced later : ℕ) → (16 ≤ size → later ≡ announced) →
    tests_of number size announced ≡ Some (fault.TooLong number) → tests_of number (size + more) later ≡ Some (fault.TooLong number)
unfolding tests_of
too_long_grows number size more announced later same is = grind (arith, nat_tests, is, same)

endless_grows : (number size more announced later : ℕ) → tests_of number size announced ≡ Some fault.Endless → tests_of number (size + more) later
    ≡ Some fault.Endless
unfolding tests_of
endless_grows number size more announced later is = grind (arith, nat_tests, is)

pub faults_stay_lem : (form : Form) (number : ℕ) (bytes more : List ℕ) →
    (record_fault form number bytes ≡ Some (fault.TooLong number) → record_fault form number (bytes ++ more) ≡ Some (fault.TooLong number)) ×
    (record_fault form number bytes ≡ Some fault.Endless → record_fault form number (bytes ++ more) ≡ Some fault.Endless)
unfolding tests_of
faults_stay_lem form number bytes more =
    let size = length-append bytes more in
    let later = captured_length form (bytes ++ more) in
    let announced = captured_length form bytes in (
      λ is. rw size (too_long_grows number (length bytes) (length more) announced later (λ whole. captured_length-append form bytes more whole) is),
      λ is. rw size (endless_grows number (length bytes) (length more) announced later is),
    )
