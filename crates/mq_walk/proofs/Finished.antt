-- Work that came to its end: its result, its failed writes, and the text that a buffer held.
use Rattle.std.proofs.Common.{◌≡◌, ℕ, Bool, true, false, ◌||◌, List, [], ◌++◌, Option, Result, Ok, Err, refl, ap, sym, subst, ◌∙◌, append-nil, inl, inr}
use Rattle.std.proofs.KnownBytes.{Appends-trans}
use Rattle.std.proofs.Math.Bool.{or-true}
use Rattle.std.specs.Io.KnownBytes.{Appends}
use Rattle.mq_text.specs.Printing.{GrowsByBeginning, OutputState, Passes}
use Rattle.mq_text.proofs.Passing.{broken_behind}
use Rattle.mq_walk.specs.declared.capture_fault.CaptureFault.{CaptureFault}
use Rattle.mq_walk.specs.declared.capture_fault.CaptureFault.TheVariants as answer
use Rattle.mq_walk.specs.Faults.{is_failed_write}
use Rattle.mq_walk.specs.Finishing.{Finishes, FinishesBy}
use Rattle.mq_walk.specs.PuttingReports.{counted}

-- a buffer that was emptied was written whole
pub flushed_whole : (old new : Option (List ℕ)) (held left : List ℕ) → left ≡ [] → Passes old new held left [] → Appends old new held
flushed_whole old new held left none passed =
    subst (λ (t : List ℕ). Appends old new t)
    (sym (sym (append-nil held) ∙ passed.parts ∙ ap (λ (l : List ℕ). passed.written ++ l) none ∙ append-nil passed.written)) passed.grows

-- an empty buffer wrote all that it passed on, or a prefix
pub all_written : (before mid after : Option (List ℕ)) (left text : List ℕ) → Passes before mid [] left text → Appends mid after left →
    Appends before after text
all_written before mid after left text passed rest =
    subst (λ (t : List ℕ). Appends before after t) (sym passed.parts) (Appends-trans before mid after passed.written left passed.grows rest)

pub begun_text : (before mid after : Option (List ℕ)) (left text : List ℕ) → Passes before mid [] left text → GrowsByBeginning mid after left →
    GrowsByBeginning before after text
begun_text before mid after left text passed begun =
    subst (λ (t : List ℕ). GrowsByBeginning before after t) (append-nil text)
    (broken_behind before mid after [] left text [] passed (subst (λ (t : List ℕ). GrowsByBeginning mid after t) (sym (append-nil left)) begun))

pub counted_write : {S T : Type 0} (value : T) (r : Result S CaptureFault) → is_failed_write (counted value r) ≡ is_failed_write r
counted_write value (Ok x) = refl
counted_write value _ = refl

module _ {T : Type 0} (r r' : Result T CaptureFault) (old new : OutputState) (held left : List ℕ) where
  -- another value in place of the result's
  pub counted_end : {S : Type 0} (value : S) → Finishes r old new held left r' → Finishes (counted value r) old new held left (counted value r')
  counted_end {S} value ends =
      subst (λ (b : Bool). FinishesBy b (counted value r) old new held left (counted value r')) (sym (counted_write value r)) (by_kind (is_failed_write r) ends)
    where
      by_kind : (b : Bool) → FinishesBy b r old new held left r' → FinishesBy b (counted value r) old new held left (counted value r')
      by_kind true (same, unwritten, kept) = (ap (counted value) same, unwritten, kept)
      by_kind false (inl (same, failed, empty, written)) = inl (ap (counted value) same, failed, empty, written)
      by_kind false (inr (is, failed, begun)) = inr (ap (counted value) is, failed, begun)

  -- a write of the work or the last one failed exactly if the result says so
  pub failed_end : (before : Bool) → Finishes r old new held left r' → old.failed ≡ before || is_failed_write r → new.failed ≡ before || is_failed_write r'
  failed_end before ends failed = by_kind (is_failed_write r) ends
    where
      kept : r' ≡ r → new.failed ≡ old.failed → new.failed ≡ before || is_failed_write r'
      kept same as_before = as_before ∙ failed ∙ ap (λ (x : Result T CaptureFault). before || is_failed_write x) (sym same)

      by_kind : (b : Bool) → FinishesBy b r old new held left r' → new.failed ≡ before || is_failed_write r'
      by_kind true (same, unwritten, _) = kept same (ap (λ (o : OutputState). o.failed) unwritten)
      by_kind false (inl (same, as_before, _, _)) = kept same as_before
      by_kind false (inr (is, has_failed, _)) = rw is (has_failed ∙ sym (or-true before))

  pub granted_end : Finishes r old new held left r' → (r ≡ Err answer.Memory → ⊥) → r' ≡ Err answer.Memory → ⊥
  granted_end ends granted refused = by_kind (is_failed_write r) ends
    where
      by_kind : (b : Bool) → FinishesBy b r old new held left r' → ⊥
      by_kind true (same, _, _) = granted (sym same ∙ refused)
      by_kind false (inl (same, _, _, _)) = granted (sym same ∙ refused)
      by_kind false (inr (is, _, _)) = let both = sym is ∙ refused in absurd (cc both)
