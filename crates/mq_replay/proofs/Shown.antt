-- A capture whose header was read, and what `show` comes to.
use Rattle.mq_replay.proofs.Common.{◌≡◌, ℕ, Bool, true, false, List, [], Option, Some, Result, Err, refl, sym, subst, inl, inr, arith, InputState}
use Rattle.mq_replay.proofs.Common.{OutputState, Passes, CaptureFault, is_failed_write, IsEndedBy, PutsListing}
use Rattle.std.{proofs.KnownBytes.Appends-nil, specs.Io.KnownBytes.Appends}
use Rattle.mq_pcap.proofs.Filled.{Takes-nil}
use Rattle.mq_walk.{specs.Finishing.Finishes, specs.Finishing.FinishesBy, proofs.Finished.all_written, proofs.Finished.begun_text, proofs.Headers.cut_header}
use Rattle.mq_replay.specs.{Listing.IsWritten, Listing.Shows, Putting.IsPut}
use Rattle.mq_pcap.specs.declared.fault.PcapFault.TheVariants as fault
use Rattle.mq_walk.specs.declared.capture_fault.CaptureFault.TheVariants as answer

-- without a failed write, what was put passed, and what is written whole is written
without_failure : (r : Result ℕ CaptureFault) (before mid after : Option (List ℕ)) (held left text : List ℕ) → is_failed_write r ≡ false
    → IsPut before mid held left text r → Passes before mid held left text × (Appends before after text → IsWritten before after text r)
without_failure (Err answer.Write) before mid after held left text unlike put = absurd (cc)
without_failure _ before mid after held left text unlike put = (put, λ all. all)

-- a prefix was written where a write failed
by_failure : (r : Result ℕ CaptureFault) (before after : Option (List ℕ)) (left text : List ℕ) → is_failed_write r ≡ true
    → IsPut before after [] left text r → IsWritten before after text r
by_failure (Err answer.Write) before after left text is put = put
by_failure _ before after left text is put = absurd (cc)

-- the listing was put, and then the rest of it was written unless a write failed
pub shown : (json : Bool) (old new : InputState) (before : Option (List ℕ)) (mid after : OutputState) (held left rest : List ℕ)
    (r r' : Result ℕ CaptureFault) → held ≡ [] →
    PutsListing json old new before mid.held held left r → Finishes r mid after left rest r' → Shows json old new before after.held r'
shown json old new before mid after held left rest r r' none puts ends = by_kind (is_failed_write r) refl ends
  where
    put : IsPut before mid.held [] left puts.text r
    put = subst (λ (h : List ℕ). IsPut before mid.held h left puts.text r) none puts.put

    shows : (x : Result ℕ CaptureFault) → IsEndedBy puts.header puts.packets puts.end puts.bytes old new x → IsWritten before after.held puts.text x →
        Shows json old new before after.held x
    shows x ended written = record {
      bytes = puts.bytes;
      header = puts.header;
      packets = puts.packets;
      end = puts.end;
      text = puts.text;
      takes = puts.takes;
      capture = puts.capture;
      listing = puts.listing;
      ended = ended;
      written = written;
    }

    by_kind : (b : Bool) → is_failed_write r ≡ b → FinishesBy b r mid after left rest r' → Shows json old new before after.held r'
    by_kind true is (same, unwritten, _) =
        rw same (shows r puts.ended (subst (λ (o : OutputState). IsWritten before o.held puts.text r) (sym unwritten)
        (by_failure r before mid.held left puts.text is put)))
    by_kind false is (inl (same, _, _, written)) =
        let whole = without_failure r before mid.held after.held [] left puts.text is put in
        rw same (shows r puts.ended (whole.1 (all_written before mid.held after.held left puts.text whole.0 written)))
    by_kind false is (inr (fails, _, begun)) =
        let whole = without_failure r before mid.held after.held [] left puts.text is put in
        rw fails (shows (Err answer.Write) tt (begun_text before mid.held after.held left puts.text whole.0 begun))

-- nothing was taken and nothing written
pub nothing_shown : (json : Bool) (s : InputState) (before : Option (List ℕ)) → Shows json s s before before (Err answer.Memory)
nothing_shown json s before =
    record {
      bytes = [];
      header = Err (fault.CutHeader 0);
      packets = [];
      end = Some (fault.CutHeader 0);
      text = [];
      takes = Takes-nil s;
      capture = (cut_header [] (omega arith), refl, refl);
      listing = refl;
      ended = refl;
      written = Appends-nil before;
    }
