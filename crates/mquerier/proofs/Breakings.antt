-- Work on a capture behind a flush of the output.
use Rattle.mquerier.proofs.Common.{◌≡◌, ◌⊎◌, ◌||◌, ◌∙◌, ap, sym, subst, refl, arith, Bool, true, false, List, ℕ, Option, Result, Ok, Err, inl, inr, or-false}
use Rattle.mquerier.proofs.Common.{or-true, Keeps, Appends-kept, InputState, OutputState, output_of, CaptureFault, Failure, Gap, Waiting, Memory, Write, Input}
use Rattle.mquerier.proofs.Common.{Output, input_by, status_of, IsUnwritten}
use Rattle.std.specs.Prelude.{IfErr, IsErrAnd}
use Rattle.mq_count.specs.{declared.streams.Watched.Watched, Streams.inner_of, Streams.has_failed}
use Rattle.mq_pcap.specs.Filling.{input_of}
use Rattle.mq_walk.specs.{Courses.Work, Faults.is_failed_write, Reports.IsWrittenBy, Reports.Reports, Reports.text_by}
use Rattle.mq_replay.specs.Listing.{IsWritten, Shows}
use Rattle.mquerier.specs.Breaking.{IsBrokenBy, IsBrokenOff, IsEndedBy, IsUnflushed, failure_of}
use Rattle.mq_walk.specs.declared.capture_fault.CaptureFault.TheVariants as answer

-- a reported and shown state stays
pub reports_kept : {S T : Type 0} (work : Work S T) (old new : InputState) (before mid after : Option (List ℕ)) (r : Result T CaptureFault)
    → is_failed_write r ≡ false → Reports work old new before mid r → Keeps mid after → Reports work old new before after r
reports_kept work old new before mid after r unlike reports kept = record {
  read = reports.read;
  takes = reports.takes;
  capture = reports.capture;
  ended = reports.ended;
  written = subst (λ (b : Bool). IsWrittenBy b work reports.read new before after r) (sym unlike)
      (Appends-kept before mid after (text_by work reports.read r)
      (subst (λ (b : Bool). IsWrittenBy b work reports.read new before mid r) unlike reports.written) kept);
}

pub shown_kept : (json : Bool) (old new : InputState) (before mid after : Option (List ℕ)) (r : Result ℕ CaptureFault) → is_failed_write r ≡ false
    → Shows json old new before mid r → Keeps mid after → Shows json old new before after r
shown_kept json old new before mid after r unlike shows kept = record {
  bytes = shows.bytes;
  header = shows.header;
  packets = shows.packets;
  end = shows.end;
  text = shows.text;
  takes = shows.takes;
  capture = shows.capture;
  listing = shows.listing;
  ended = shows.ended;
  written = still r unlike shows.written;
}
  where
    still : (r : Result ℕ CaptureFault) → is_failed_write r ≡ false → IsWritten before mid shows.text r → IsWritten before after shows.text r
    still (Ok count) unlike written = Appends-kept before mid after shows.text written kept
    still (Err answer.Write) unlike written = absurd (cc unlike)
    still (Err (answer.Pcap f)) unlike written = Appends-kept before mid after shows.text written kept
    still (Err (answer.Gap number)) unlike written = Appends-kept before mid after shows.text written kept
    still (Err (answer.Waiting number)) unlike written = Appends-kept before mid after shows.text written kept
    still (Err answer.Memory) unlike written = Appends-kept before mid after shows.text written kept

-- the status of the failure
pub status_by : (fault : CaptureFault) (failure : Failure) (old new : Bool) → IsBrokenBy fault old new failure → status_of failure ≡ 1
status_by (answer.Pcap f) failure old new (inl by) = ap status_of by.0
status_by (answer.Pcap f) failure old new (inr by) = ap status_of by.0
status_by (answer.Gap number) failure old new (inl by) = ap status_of by.0
status_by (answer.Gap number) failure old new (inr by) = ap status_of by.0
status_by (answer.Waiting number) failure old new (inl by) = ap status_of by.0
status_by (answer.Waiting number) failure old new (inr by) = ap status_of by.0
status_by answer.Write failure old new by = ap status_of by
status_by answer.Memory failure old new by = ap status_of by

-- Work with the result r before a flush, whose result is r'.
pub record IsEndOf {X : Type 0} (r : Result X CaptureFault) (input : Input) (old mid new : OutputState) (r' : Result X Failure) : Type 0 where
  pub failed : mid.failed ≡ (old.failed || is_failed_write r)
  pub memory : r ≡ Err answer.Memory → (input.new ≡ input.old) × (mid ≡ old)
  pub kept : Keeps mid.held new.held
  pub ended : IsEndedBy r mid.failed new.failed r'
  pub unflushed : IsErrAnd r IsUnflushed → new ≡ mid

-- the same by the streams
pub end_by : {R W X : Type 0} (remaining : R → Option (List ℕ)) (contents : W → Option (List ℕ)) (r : Result X CaptureFault) (r' : Result X Failure)
    (before after : Watched R) (old mid new : Watched W) → (r ≡ Err answer.Memory → (after ≡ before) × (mid ≡ old))
    → (IsErrAnd r IsUnflushed → new ≡ mid) → IsEndedBy r (has_failed mid) (has_failed new) r' → has_failed mid ≡ (has_failed old || is_failed_write r)
    → Keeps (contents (inner_of mid)) (contents (inner_of new))
    → IsEndOf r (input_by remaining before after) (output_of contents old) (output_of contents mid) (output_of contents new) r'
end_by remaining contents r r' before after old mid new memory unflushed ended failed kept = record {
  failed = failed;
  memory = λ e. let both = memory e in (ap (input_of remaining) both.0, ap (output_of contents) both.1);
  kept = kept;
  ended = ended;
  unflushed = λ u. ap (output_of contents) (unflushed u);
}

-- The work reached its end, or ended early.
abbrev pub Ends : {X : Type 0} → (Does : Result X CaptureFault → Type 0) → Input → Output → Result X Failure → Type 0
Ends Does input output (Ok x) = (output.new.failed ≡ output.old.failed) × Does (Ok x)
Ends Does input output (Err failure) = (status_of failure ≡ 1) × IsBrokenOff Does input output failure

-- the work that `Does` states, by the bytes that the output holds then
module _ {X : Type 0} (Does : Option (List ℕ) → Result X CaptureFault → Type 0)
    (keeps : (mid after : Option (List ℕ)) (r : Result X CaptureFault) → is_failed_write r ≡ false → Does mid r → Keeps mid after → Does after r)
    (input : Input) (old mid new : OutputState) where
  abbrev Broken : Failure → Type 0
  Broken failure = IsBrokenOff (Does new.held) input (record { old = old; new = new }) failure

  -- with a fault that is named, unless the flush failed
  named : (fault : CaptureFault) (failure : Failure) → ((new.failed ≡ old.failed) × Does new.held (Err fault) → Broken (failure_of fault))
      → is_failed_write {T = X} (Err fault) ≡ false → ((let r : Result X CaptureFault = Err fault in r ≡ Err answer.Memory) → ⊥)
      → Does mid.held (Err fault) → Keeps mid.held new.held
      → mid.failed ≡ (old.failed || false) → ((failure ≡ failure_of fault) × (new.failed ≡ mid.failed)) ⊎ ((failure ≡ Write) × (new.failed ≡ true))
      → Broken failure
  named fault failure told unlike other does kept same (inl by) =
      subst Broken (sym by.0) (told (by.1 ∙ same ∙ or-false old.failed, keeps mid.held new.held (Err fault) unlike does kept))
  named fault failure told unlike other does kept same (inr by) =
      subst Broken (sym by.0) (by.1, Err fault, other, keeps mid.held new.held (Err fault) unlike does kept)

  broke_off : (fault : CaptureFault) (failure : Failure) → Does mid.held (Err fault) → mid.failed ≡ (old.failed || is_failed_write {T = X} (Err fault))
      → (fault ≡ answer.Memory → (input.new ≡ input.old) × (mid ≡ old)) → Keeps mid.held new.held → IsBrokenBy fault mid.failed new.failed failure
      → (IsUnflushed fault → new ≡ mid) → Broken failure
  broke_off (answer.Pcap f) failure does failed memory kept by unflushed = named (answer.Pcap f) failure (λ b. b) refl (λ e. absurd (cc e)) does kept failed by
  broke_off (answer.Gap n) failure does failed memory kept by unflushed = named (answer.Gap n) failure (λ b. b) refl (λ e. absurd (cc e)) does kept failed by
  broke_off (answer.Waiting n) failure does failed memory kept by unflushed =
      named (answer.Waiting n) failure (λ b. b) refl (λ e. absurd (cc e)) does kept failed by
  broke_off answer.Write failure does failed memory kept is unflushed =
      let same = unflushed tt in
      subst Broken (sym is) (
        ap (λ (o : OutputState). o.failed) same ∙ failed ∙ or-true old.failed,
        Err answer.Write,
        λ e. absurd (cc e),
        subst (λ (o : OutputState). Does o.held (Err answer.Write)) (sym same) does,
      )
  broke_off answer.Memory failure does failed memory kept is unflushed =
      let both = memory refl in subst Broken (sym is) (both.0, unflushed tt ∙ both.1)

  work_ended : (r : Result X CaptureFault) (r' : Result X Failure) → IsEndOf r input old mid new r' → Does mid.held r →
      Ends (Does new.held) input (record { old = old; new = new }) r'
  work_ended r r' end does = by_result r does end.failed end.memory end.ended end.unflushed
    where
      by_result : (r : Result X CaptureFault) → Does mid.held r → mid.failed ≡ (old.failed || is_failed_write r)
          → (r ≡ Err answer.Memory → (input.new ≡ input.old) × (mid ≡ old)) → IsEndedBy r mid.failed new.failed r' → (IsErrAnd r IsUnflushed → new ≡ mid)
          → Ends (Does new.held) input (record { old = old; new = new }) r'
      by_result (Ok x) does failed memory (inl by) unflushed =
          rw by.0 (by.1 ∙ failed ∙ or-false old.failed, keeps mid.held new.held (Ok x) refl does end.kept)
      by_result (Ok x) does failed memory (inr by) unflushed =
          rw by.0 (refl, (by.1, Ok x, λ e. absurd (cc e), keeps mid.held new.held (Ok x) refl does end.kept))
      by_result (Err fault) does failed memory (failure, is, by) unflushed =
          rw is (
            status_by fault failure mid.failed new.failed by,
            broke_off fault failure does failed (λ e. memory (ap (λ (f : CaptureFault). Err f) e)) end.kept by unflushed,
          )

-- work over a capture, and a listing
pub reports_ended : {S T : Type 0} (work : Work S T) (input : Input) (old mid new : OutputState) (r : Result T CaptureFault) (r' : Result T Failure)
    → IsEndOf r input old mid new r' → Reports work input.old input.new old.held mid.held r
    → Ends (λ r. Reports work input.old input.new old.held new.held r) input (record { old = old; new = new }) r'
reports_ended work input old mid new =
    work_ended (λ after r. Reports work input.old input.new old.held after r) (reports_kept work input.old input.new old.held) input old mid new

pub listing_ended : (json : Bool) (input : Input) (old mid new : OutputState) (r : Result ℕ CaptureFault) (r' : Result ℕ Failure)
    → IsEndOf r input old mid new r' → Shows json input.old input.new old.held mid.held r
    → Ends (λ r. Shows json input.old input.new old.held new.held r) input (record { old = old; new = new }) r'
listing_ended json input old mid new =
    work_ended (λ after r. Shows json input.old input.new old.held after r) (shown_kept json input.old input.new old.held) input old mid new

-- only an allocation failure comes before anything is written
unwritten_by : (X : Type 0) (fault : CaptureFault) (failure : Failure) (old new : Bool) → IsBrokenBy fault old new failure →
    IsUnwritten {X = X} (Err failure) → fault ≡ answer.Memory
unwritten_by X fault failure old new by none = by_fault fault by
  where
    never : {A : Type 0} → status_of Write ≡ 2 → A
    never two = absurd (omega (arith, two))

    renamed : {g : Failure} → failure ≡ g → IsUnwritten {X = X} (Err g)
    renamed is = subst (λ (g : Failure). IsUnwritten {X = X} (Err g)) is none

    by_fault : (fault : CaptureFault) → IsBrokenBy fault old new failure → fault ≡ answer.Memory
    by_fault (answer.Pcap f) (inl by) = never (renamed by.0)
    by_fault (answer.Pcap f) (inr by) = never (renamed by.0)
    by_fault (answer.Gap number) (inl by) = never (renamed by.0)
    by_fault (answer.Gap number) (inr by) = never (renamed by.0)
    by_fault (answer.Waiting number) (inl by) = never (renamed by.0)
    by_fault (answer.Waiting number) (inr by) = never (renamed by.0)
    by_fault answer.Write by = never (renamed by)
    by_fault answer.Memory by = refl

-- a failure of work on a capture has status 1
pub status_end : {X : Type 0} (r : Result X CaptureFault) (r' : Result X Failure) (old new : Bool) → IsEndedBy r old new r' →
    IfErr r' (λ failure. status_of failure ≡ 1)
status_end (Ok x) r' old new (inl by) = rw by.0 tt
status_end (Ok x) r' old new (inr by) = rw by.0 refl
status_end (Err fault) r' old new (failure, is, by) = rw is (status_by fault failure old new by)

-- an allocation failure is not flushed
pub unflushed_by : {X : Type 0} (r : Result X CaptureFault) → r ≡ Err answer.Memory → IsErrAnd r IsUnflushed
unflushed_by r is = rw is tt

pub unwritten_end : {X : Type 0} (r : Result X CaptureFault) (r' : Result X Failure) (old new : Bool) → IsEndedBy r old new r' → IsUnwritten r' →
    r ≡ Err answer.Memory
unwritten_end {X} (Ok x) r' old new (inl by) none =
    let no : IsUnwritten {X = X} (Ok x) = subst (λ (x : Result X Failure). IsUnwritten x) by.0 none in absurd no
unwritten_end {X} (Ok x) r' old new (inr by) none =
    let two : status_of Write ≡ 2 = subst (λ (x : Result X Failure). IsUnwritten x) by.0 none in absurd (omega (arith, two))
unwritten_end {X} (Err fault) r' old new (failure, is, by) none =
    ap (λ (f : CaptureFault). Err f) (unwritten_by X fault failure old new by (subst (λ (x : Result X Failure). IsUnwritten x) is none))
