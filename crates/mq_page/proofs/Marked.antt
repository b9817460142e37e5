-- The contents of a text room begin with a number, which writing keeps. After it stands the text.
use Rattle.mq_page.proofs.Common.{◌≡◌, ℕ, inl, inr, [], ◌∷◌, ◌++◌, refl, Some, Err, ap, Reports, Shows, Converts, passed_in}
use Rattle.std.proofs.Common.{◌+◌, ◌≤◌, arith, Bool, true, false, List, get_or, drop, Option, Result, Ok, subst}
use Rattle.std.specs.Io.KnownBytes.{Appends}
use Rattle.mq_arena.specs.Vectors.{Takes}
use Rattle.mq_text.specs.Printing.{GrowsByBeginning}
use Rattle.mq_pcap.specs.Filling.{InputState}
use Rattle.mq_walk.specs.{declared.capture_fault.CaptureFault.CaptureFault, Courses.Work, Faults.is_failed_write, Walking.ReadCapture}
use Rattle.mq_convert.specs.declared.{choice.Choice.Choice, counts.ConvertCounts.ConvertCounts, fault.ConvertFault.ConvertFault}
use Rattle.mq_page.specs.declared.text_room.TextRoom.{TextRoom}
use Rattle.mq_walk.specs.declared.capture_fault.CaptureFault.TheVariants as fault
use Rattle.mq_walk.specs.Reports as reports
use Rattle.mq_replay.specs.Listing as listing
use Rattle.mq_convert.specs.declared.fault.ConvertFault.TheVariants as convert_fault
use Rattle.mq_convert.specs.Converting as converting

-- the contents of a room before its text begins, and those of an equal room
pub before_text : (room made : TextRoom) (skip : ℕ) → room ≡ made → made.skip ≡ skip → made.bytes.items ≡ [] → made.passed.items ≡ []
    → Some (room.skip ∷ (passed_in room.passed.items ++ room.bytes.items)) ≡ Some (skip ∷ [])
before_text room made skip same at empty none = rw (same, at, empty, none) refl

pub after_text : (room made : TextRoom) → made ≡ room
    → Some (room.skip ∷ (passed_in room.passed.items ++ room.bytes.items)) ≡ Some (made.skip ∷ (passed_in made.passed.items ++ made.bytes.items))
after_text room made same = rw same refl

-- memory with these bytes beside a block grants them
pub granted_by : (is_granted : Bool) (bytes needed rest block memory new : ℕ) → bytes ≡ needed → rest + block ≡ memory
    → Takes bytes (rest + 1) new is_granted → block + needed ≤ memory → is_granted ≡ true
granted_by is_granted bytes needed rest block memory new same parts takes enough = takes.granted (omega (arith, same, parts, enough))

-- the effect of a call, from the states that it began and ended in
pub begun_at : {X E : Type 0} (Does : (old new : InputState) → (before after : Option (List ℕ)) → Result X E → Type 0) {old new : InputState}
    {before after : Option (List ℕ)} {r : Result X E} → Does old new before after r → (first : InputState) (start end : Option (List ℕ)) → old ≡ first
    → before ≡ start → after ≡ end → Does first new start end r
begun_at Does {old} {new} {before} {after} {r} it first start end at started ended =
    subst (λ (s : InputState). Does s new start end r) at
    (subst (λ (t : Option (List ℕ)). Does old new t end r) started (subst (λ (t : Option (List ℕ)). Does old new before t r) ended it))

-- equal work has equal reports
pub of_equal : {X T : Type 0} {work : Work X T} {old new : InputState} {before after : Option (List ℕ)} {r : Result T CaptureFault}
    → Reports work old new before after r → (other : Work X T) → work ≡ other → Reports other old new before after r
of_equal {X} {T} {work} {old} {new} {before} {after} {r} it other same = subst (λ (w : Work X T). Reports w old new before after r) same it

module _ (a b : ℕ) (xs : List ℕ) where
  -- a text was appended to the number alone
  appended : {text : List ℕ} → Appends (Some (a ∷ [])) (Some (b ∷ xs)) text → (b ≡ a) × Appends (Some []) (Some xs) text
  appended e = (ap (λ (l : List ℕ). get_or l 0 0) e, ap (λ (l : List ℕ). drop 1 l) e)

  begun : {text : List ℕ} → GrowsByBeginning (Some (a ∷ [])) (Some (b ∷ xs)) text → (b ≡ a) × GrowsByBeginning (Some []) (Some xs) text
  begun it =
      let grown = appended it.grows in
      (grown.0, record { written = it.written; left = it.left; parts = it.parts; some_left = it.some_left; grows = grown.1 })

  listed : (text : List ℕ) (r : Result ℕ CaptureFault) → listing.IsWritten (Some (a ∷ [])) (Some (b ∷ xs)) text r
      → (b ≡ a) × listing.IsWritten (Some []) (Some xs) text r
  listed text (Ok count) it = appended it
  listed text (Err (fault.Pcap f)) it = appended it
  listed text (Err fault.Write) it = begun it
  listed text (Err (fault.Gap number)) it = appended it
  listed text (Err (fault.Waiting number)) it = appended it
  listed text (Err fault.Memory) it = appended it

  pub shows : {json : Bool} {old new : InputState} (r : Result ℕ CaptureFault) → Shows json old new (Some (a ∷ [])) (Some (b ∷ xs)) r
      → (b ≡ a) × Shows json old new (Some []) (Some xs) r
  shows r it =
      let written = listed it.text r it.written in (
        written.0,
        record {
          bytes = it.bytes;
          header = it.header;
          packets = it.packets;
          end = it.end;
          text = it.text;
          takes = it.takes;
          capture = it.capture;
          listing = it.listing;
          ended = it.ended;
          written = written.1;
        },
      )

  reported : {X T : Type 0} (is_failed : Bool) (work : Work X T) (c : ReadCapture) (new : InputState) (r : Result T CaptureFault)
      → reports.IsWrittenBy is_failed work c new (Some (a ∷ [])) (Some (b ∷ xs)) r → (b ≡ a) × reports.IsWrittenBy is_failed work c new (Some []) (Some xs) r
  reported true work c new r (inl it) = let it = begun it in (it.0, inl it.1)
  reported true work c new r (inr it) = let written = begun it.2 in (written.0, inr (it.0, it.1, written.1))
  reported false work c new r it = appended it

  pub reports_on : {X T : Type 0} {work : Work X T} {old new : InputState} (r : Result T CaptureFault)
      → Reports work old new (Some (a ∷ [])) (Some (b ∷ xs)) r → (b ≡ a) × Reports work old new (Some []) (Some xs) r
  reports_on {X} {T} {work} {old} {new} r it =
      let written = reported (is_failed_write r) work it.read new r it.written in
      (written.0, record { read = it.read; takes = it.takes; capture = it.capture; ended = it.ended; written = written.1 })

  converted : (text : List ℕ) (r : Result ConvertCounts ConvertFault) → converting.IsWritten (Some (a ∷ [])) (Some (b ∷ xs)) text r
      → (b ≡ a) × converting.IsWritten (Some []) (Some xs) text r
  converted text (Ok counts) it = appended it
  converted text (Err convert_fault.Read) it = appended it
  converted text (Err convert_fault.Write) it = begun it
  converted text (Err convert_fault.Memory) it = appended it
  converted text (Err (convert_fault.Block number f)) it = appended it

  pub converts : {choice : Choice} {old new : InputState} (r : Result ConvertCounts ConvertFault)
      → Converts choice old new (Some (a ∷ [])) (Some (b ∷ xs)) r → (b ≡ a) × Converts choice old new (Some []) (Some xs) r
  converts r it =
      let written = converted _ r it.written in (
        written.0,
        record {
          bytes = it.bytes;
          blocks = it.blocks;
          end = it.end;
          takes = it.takes;
          capture = it.capture;
          ended = it.ended;
          written = written.1;
        },
      )
