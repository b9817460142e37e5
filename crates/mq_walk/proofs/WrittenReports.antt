-- The result of work over a capture whose report was put, once the held bytes are written, or were not.
use Rattle.std.proofs.Common.{◌≡◌, ◌⊎◌, ℕ, ◌+◌, Bool, true, false, if◌then◌else◌, List, [], length, Option, None, Some, Result, Ok, Err, refl}
use Rattle.std.proofs.Common.{ap, sym, subst, ◌∙◌, length-append, inl, inr, arith}
use Rattle.std.proofs.KnownBytes.{Appends-nil}
use Rattle.std.specs.Io.KnownBytes.{Appends, IsAtEnd}
use Rattle.mq_pcap.specs.declared.fault.PcapFault.{PcapFault}
use Rattle.mq_pcap.specs.declared.fault.PcapFault.TheVariants as fault
use Rattle.mq_pcap.specs.Capture.{is_read}
use Rattle.mq_pcap.specs.Filling.{InputState}
use Rattle.mq_pcap.proofs.Filled.{Takes-nil}
use Rattle.mq_text.specs.Printing.{GrowsByBeginning, OutputState, Passes}
use Rattle.mq_walk.specs.declared.capture_fault.CaptureFault.{CaptureFault}
use Rattle.mq_walk.specs.declared.capture_fault.CaptureFault.TheVariants as answer
use Rattle.mq_walk.specs.Courses.{Course, Report, Work, broken_off, course_of, last_moment, packets_text, report_in, reported}
use Rattle.mq_walk.specs.Faults.{is_failed_write}
use Rattle.mq_walk.specs.PlacedPackets.{is_gap}
use Rattle.mq_walk.specs.Finishing.{Finishes, FinishesBy}
use Rattle.mq_walk.specs.PuttingReports.{IsPutBy, PutsReport}
use Rattle.mq_walk.specs.Reports.{IsBrokenOffAt, IsEndedBy, IsEndedByFault, IsWrittenBy, Reports, text_by}
use Rattle.mq_walk.specs.Walking.{ReadCapture}
use Rattle.mq_walk.proofs.Finished.{all_written, begun_text}
use Rattle.mq_walk.proofs.Headers.{cut_header}

-- an empty text has no proper prefix
none_begun : (before after : Option (List ℕ)) → GrowsByBeginning before after [] → ⊥
none_begun before after begun = let some = begun.some_left in let parts = ap length begun.parts ∙ length-append begun.written begun.left in
    omega (arith, some, parts)

abbrev one_of : {T : Type 0} → Bool → Report T → Report T → Report T
one_of b x y = elim b [ true ↦ x | false ↦ y ]

module _ {S T : Type 0} (work : Work S T) where
  -- the text that was put if no write failed
  put_whole : (c : ReadCapture) (new : InputState) (before mid : Option (List ℕ)) (held left : List ℕ) (r : Result T CaptureFault) → held ≡ [] →
      is_failed_write r ≡ false → IsPutBy (is_failed_write r) work c new before mid held left r → Passes before mid [] left (text_by work c r)
  put_whole c new before mid held left r none unlike put =
      subst (λ (h : List ℕ). Passes before mid h left (text_by work c r)) none
      (subst (λ (b : Bool). IsPutBy b work c new before mid held left r) unlike put)

  -- the report was put and the rest of it written
  flushed : (old new : InputState) (before mid after : Option (List ℕ)) (held left : List ℕ) (r : Result T CaptureFault) → held ≡ [] →
      is_failed_write r ≡ false → PutsReport work old new before mid held left r → Appends mid after left → Reports work old new before after r
  flushed old new before mid after held left r none unlike puts rest =
      record {
        read = puts.read;
        takes = puts.takes;
        capture = puts.capture;
        ended = puts.ended;
        written = subst (λ (b : Bool). IsWrittenBy b work puts.read new before after r) (sym unlike)
            (all_written before mid after left _ (put_whole puts.read new before mid held left r none unlike puts.put) rest);
      }

  -- a write failed before the end of the report
  not_put : (old new : InputState) (before after : Option (List ℕ)) (held left : List ℕ) (r : Result T CaptureFault) → held ≡ [] →
      is_failed_write r ≡ true → PutsReport work old new before after held left r → Reports work old new before after r
  not_put old new before after held left r none is puts =
      record {
        read = puts.read;
        takes = puts.takes;
        capture = puts.capture;
        ended = puts.ended;
        written = subst (λ (b : Bool). IsWrittenBy b work puts.read new before after r) (sym is)
            (subst (λ (h : List ℕ). IsPutBy true work puts.read new before after h left r) none
            (subst (λ (b : Bool). IsPutBy b work puts.read new before after held left r) is puts.put));
      }

  -- nothing was taken and nothing written
  pub nothing_reported : (s : InputState) (before : Option (List ℕ)) → Reports work s s before before (Err answer.Memory)
  nothing_reported s before =
      record {
        read = record { bytes = []; header = Err (fault.CutHeader 0); packets = []; end = Some (fault.CutHeader 0) };
        takes = Takes-nil s;
        capture = (cut_header [] (omega arith), refl, refl);
        ended = refl;
        written = Appends-nil before;
      }

  -- A report that ends with a fault has the text of its packets alone, or too many entries are pending at the end.
  abbrev IsFaultText : (number : ℕ) → (end : Option PcapFault) → (packets : List ℕ) → Report T → CaptureFault → Type 0
  IsFaultText number end packets report e = (report.text ≡ packets) ⊎ ((end ≡ None) × (e ≡ answer.Waiting number))

  -- the end of a capture fails only with that
  module _ (only_waits : (moment number : ℕ) (s : S) (e : CaptureFault) → (work.ended moment number s).answer ≡ Err e → e ≡ answer.Waiting number) where
    fault_behind : (number : ℕ) (end : Option PcapFault) (fault : Option CaptureFault) (course : Course S) (e : CaptureFault)
        → (reported work number end fault course).answer ≡ Err e → IsFaultText number end (work.text course.state) (reported work number end fault course) e
    fault_behind number end (Some f) course e is = inl refl
    fault_behind number (Some f) None course e is = inl refl
    fault_behind number None None course e is = by_gap (is_gap course.moment (last_moment work.until course.moment)) is
      where
        broken : Report T
        broken = broken_off work (answer.Gap number) course.state

        whole : Report T
        whole = work.ended (last_moment work.until course.moment) number course.state

        by_gap : (b : Bool) → (one_of b broken whole).answer ≡ Err e → IsFaultText number None (work.text course.state) (one_of b broken whole) e
        by_gap true is = inl refl
        by_gap false is = inr (refl, only_waits (last_moment work.until course.moment) number course.state e is)

    fault_text : (c : ReadCapture) (e : CaptureFault) → (report_in work c).answer ≡ Err e →
        IsFaultText (length c.packets + 1) c.end (packets_text work c) (report_in work c) e
    fault_text c e is =
        let course = course_of work c.header c.packets in
        fault_behind (length c.packets + 1) c.end course.fault course e is

    -- a course that ends well is that of a file without a fault
    whole_behind : (number : ℕ) (end : Option PcapFault) (fault : Option CaptureFault) (course : Course S) (x : T)
        → (reported work number end fault course).answer ≡ Ok x → end ≡ None
    whole_behind number end (Some f) course x is = absurd (cc is)
    whole_behind number (Some f) None course x is = absurd (cc is)
    whole_behind number None None course x is = refl

    -- the report was put, and the rest of it was not written whole
    begun_of : (c : ReadCapture) (old new : InputState) (before after : Option (List ℕ)) (r : Result T CaptureFault) → is_failed_write r ≡ false
        → IsEndedBy work c old new r → GrowsByBeginning before after (text_by work c r) → IsWrittenBy true work c new before after r
    begun_of c old new before after (Ok x) unlike ended begun =
        let course = course_of work c.header c.packets in
        inr (whole_behind (length c.packets + 1) c.end course.fault course x ended.0, ended.1, begun)
    begun_of c old new before after (Err answer.Write) unlike ended begun = absurd (cc unlike)
    begun_of c old new before after (Err answer.Memory) unlike ended begun = absurd (none_begun before after begun)
    begun_of c old new before after (Err (answer.Gap number)) unlike ended begun =
        elim (fault_text c (answer.Gap number) ended.0) [
          | inl is ↦ inl (subst (λ (t : List ℕ). GrowsByBeginning before after t) is begun)
          | inr waits ↦ absurd (cc waits.1)
        ]
    begun_of c old new before after (Err (answer.Waiting number)) unlike ended begun =
        elim (fault_text c (answer.Waiting number) ended.0) [
          | inl is ↦ inl (subst (λ (t : List ℕ). GrowsByBeginning before after t) is begun)
          | inr waits ↦ inr (waits.0, at_end (cc waits.1) ended.1, begun)
        ]
      where
        at_end : number ≡ length c.packets + 1 → IsBrokenOffAt number c new → IsAtEnd new.ahead
        at_end is (inl within) = absurd (omega (arith, is, within))
        at_end is (inr ends) = ends
    begun_of c old new before after (Err (answer.Pcap f)) unlike ended begun = by_kind (is_read f) ended begun
      where
        by_kind : (b : Bool) → IsEndedByFault b work c old new f → GrowsByBeginning before after (if b then packets_text work c else (report_in work c).text) →
            IsWrittenBy true work c new before after (Err (answer.Pcap f))
        by_kind true ended begun = inl begun
        by_kind false ended begun =
            elim (fault_text c (answer.Pcap f) ended.0) [
              | inl is ↦ inl (subst (λ (t : List ℕ). GrowsByBeginning before after t) is begun)
              | inr waits ↦ absurd (cc waits.1)
            ]

    not_flushed : (old new : InputState) (before mid after : Option (List ℕ)) (held left : List ℕ) (r : Result T CaptureFault) → held ≡ [] →
        is_failed_write r ≡ false → PutsReport work old new before mid held left r → GrowsByBeginning mid after left →
        Reports work old new before after (Err answer.Write)
    not_flushed old new before mid after held left r none unlike puts begun =
        record {
          read = puts.read;
          takes = puts.takes;
          capture = puts.capture;
          ended = tt;
          written = begun_of puts.read old new before after r unlike puts.ended
              (begun_text before mid after left _ (put_whole puts.read new before mid held left r none unlike puts.put) begun);
        }

    -- the report was put, and then the rest of it was written unless a write failed
    pub finished : (old new : InputState) (before : Option (List ℕ)) (mid after : OutputState) (held left rest : List ℕ) (r r' : Result T CaptureFault)
        → held ≡ [] → PutsReport work old new before mid.held held left r → Finishes r mid after left rest r' → Reports work old new before after.held r'
    finished old new before mid after held left rest r r' none puts ends = by_kind (is_failed_write r) refl ends
      where
        answered : {x : Result T CaptureFault} → r' ≡ x → Reports work old new before after.held x → Reports work old new before after.held r'
        answered is = subst (Reports work old new before after.held) (sym is)

        by_kind : (b : Bool) → is_failed_write r ≡ b → FinishesBy b r mid after left rest r' → Reports work old new before after.held r'
        by_kind true is (same, unwritten, _) =
            answered same (subst (λ (o : OutputState). Reports work old new before o.held r) (sym unwritten)
            (not_put old new before mid.held held left r none is puts))
        by_kind false is (inl (same, _, _, written)) = answered same (flushed old new before mid.held after.held held left r none is puts written)
        by_kind false is (inr (fails, _, begun)) = answered fails (not_flushed old new before mid.held after.held held left r none is puts begun)
