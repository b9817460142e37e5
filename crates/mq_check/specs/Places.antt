-- Contracts of the calls that search for an entry or remove the first one.
use Rattle.std.specs.Prelude.{◌≡◌, ℕ, ◌+◌, ◌<◌, List, [], ◌++◌, length, Option, None, Some, slice_set}
use Rattle.std.specs.List.{HoldsAt}
use Rattle.mq_check.specs.declared.asked.Asked.{Asked}
use Rattle.mq_check.specs.declared.entry.Entry.{Entry}
use Rattle.mq_check.specs.declared.terms.Terms.{Terms}
use Rattle.mq_check.specs.declared.waiting.Side.{Side}
use Rattle.mq_check.specs.Entries.{moment_of, terms_in, joined, first_terms, first_joined, first_entry}
use Rattle.mq_check.specs.Refused.{judged}
use Rattle.mq_check.specs.Waiting.{WaitingValue, is_free, told, purged}

-- no entry of the side has this subject, no partner, and a moment from `from` on
pub record IsNoneFree (side : Side) (asked : Asked ℕ) (from : ℕ) (entries : List (Entry ℕ)) : Type 0 where
  pub terms : first_terms (is_free side asked from) entries ≡ None
  pub entry : first_entry (is_free side asked from) entries ≡ None
  pub joined : (other : Terms ℕ) → first_joined (is_free side asked from) other entries ≡ entries

-- the first such entry is at this place
pub record IsFirstFree (side : Side) (asked : Asked ℕ) (from : ℕ) (entries : List (Entry ℕ)) (place : ℕ) : Type 0 where
  pub within : place < length entries
  pub terms : HoldsAt (λ entry. first_terms (is_free side asked from) entries ≡ terms_in entry) entries place
  pub entry : HoldsAt (λ entry. first_entry (is_free side asked from) entries ≡ Some entry) entries place
  pub joined : (other : Terms ℕ) → HoldsAt (λ entry. first_joined (is_free side asked from) other entries ≡ slice_set entries place (joined other entry)) entries place

-- no entry has expired at `now`
pub record IsNoneOver (keep now : ℕ) (w : WaitingValue) : Type 0 where
  pub told : (within : ℕ) (changed : Option ℕ) (refused : List ℕ) → told keep within now changed refused w ≡ []
  pub purged : purged keep now w ≡ w

-- the first entry, which has expired at `now`, was removed
pub record IsFirstOver (keep now : ℕ) (old new : WaitingValue) (entry : Entry ℕ) : Type 0 where
  pub is_over : moment_of entry + keep < now
  pub told : (within : ℕ) (changed : Option ℕ) (refused : List ℕ)
      → told keep within now changed refused old ≡ judged within changed refused entry ++ told keep within now changed refused new
  pub purged : purged keep now old ≡ purged keep now new
  pub fewer : length new.entries + 1 ≡ length old.entries
