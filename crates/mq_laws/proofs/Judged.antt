-- The entries that wait during a check whose queries pair up, after S of the seen queries is judged.
use Rattle.mq_laws.proofs.Common.{◌≡◌, ℕ, Bool, true, false, List, [], ◌∷◌, ◌++◌, refl, ap, sym, subst, Asked, Entry, Wanted, Seen}
use Rattle.mq_laws.proofs.Common.{Ask, Expected, CheckingValue, seen_about, wanted_about, still_due, ◌⊎◌, Option, None, Some, if◌then◌else◌, min, with_s_judged}
use Rattle.mq_laws.proofs.Common.{entry_judged, moment_of}
use Rattle.mq_check.specs.Waiting.{all_judged, all_s_judged, may_change_s}
use Rattle.mq_laws.proofs.Held.{Holds, IsAscending, NoneOver, ask, free_seen, moments_wanted}
use Rattle.mq_laws.proofs.Steps.{Stands, moments_seen, returns_of, to_pairs}

same_time : (is_set : ℕ → Asked ℕ → Bool) (e : Entry ℕ) → moment_of (entry_judged is_set e) ≡ moment_of e
same_time is_set (Wanted m a t need is_found) = refl
same_time is_set _ = refl

-- one entry, before others
holds_one : (is_set : ℕ → Asked ℕ → Bool) (e : Entry ℕ) (es ds : List (Entry ℕ)) (xs : List Expected)
    → ((ys : List Expected) → Holds es ys → Holds ds ys) → Holds (e ∷ es) xs → Holds (entry_judged is_set e ∷ ds) xs
holds_one is_set (Wanted m a t need true) es ds xs rest holds = rest xs holds
holds_one is_set (Wanted m a t need false) es ds [] rest holds = absurd holds
holds_one is_set (Wanted m a t need false) es ds (x ∷ xs) rest holds = (holds.0, rest xs holds.1)
holds_one is_set (Seen m a t None verdict) es ds xs rest holds = rest xs holds
holds_one is_set (Seen m a t (Some w) verdict) es ds xs rest holds = (holds.0, rest xs holds.1)
holds_one is_set _ es ds xs rest holds = absurd holds

free_one : (is_set : ℕ → Asked ℕ → Bool) (e : Entry ℕ) (es ds : List (Entry ℕ)) → free_seen ds ≡ free_seen es →
    free_seen (entry_judged is_set e ∷ ds) ≡ free_seen (e ∷ es)
free_one is_set (Seen m a t None verdict) es ds rest = ap (λ (l : List Ask). ask m a t ∷ l) rest
free_one is_set _ es ds rest = rest

-- all entries: each fact holds of the judged entries, up to an entry that a Report may still change
module _ (beside : ℕ) (now : Option ℕ) (is_set : ℕ → Asked ℕ → Bool) where
  pub by_parts : (P : List (Entry ℕ) → Type 0) (e : Entry ℕ) (es : List (Entry ℕ)) → P (e ∷ es) →
      P (entry_judged is_set e ∷ all_judged beside now is_set es) → P (all_judged beside now is_set (e ∷ es))
  by_parts P e es left judges = by_test (may_change_s beside now e)
    where
      by_test : (b : Bool) → P (if b then e ∷ es else entry_judged is_set e ∷ all_judged beside now is_set es)
      by_test true = left
      by_test false = judges

  holds_judged : (es : List (Entry ℕ)) (xs : List Expected) → Holds es xs → Holds (all_judged beside now is_set es) xs
  holds_judged [] xs holds = holds
  holds_judged (e ∷ es) xs holds = by_parts (λ (l : List (Entry ℕ)). Holds l xs) e es holds
      (holds_one is_set e es (all_judged beside now is_set es) xs (λ ys more. holds_judged es ys more) holds)

  free_judged : (es : List (Entry ℕ)) → free_seen (all_judged beside now is_set es) ≡ free_seen es
  free_judged [] = refl
  free_judged (e ∷ es) = by_parts (λ (l : List (Entry ℕ)). free_seen l ≡ free_seen (e ∷ es)) e es refl
      (free_one is_set e es (all_judged beside now is_set es) (free_judged es))

  ascending_judged : (low : ℕ) (es : List (Entry ℕ)) (last : ℕ) → IsAscending low es last → IsAscending low (all_judged beside now is_set es) last
  ascending_judged low [] last is = is
  ascending_judged low (e ∷ es) last is = by_parts (λ (l : List (Entry ℕ)). IsAscending low l last) e es is
      (rw (same_time is_set e) (is.0, ascending_judged (moment_of e) es last is.1))

  none_over_judged : (keep last : ℕ) (es : List (Entry ℕ)) → NoneOver keep last es → NoneOver keep last (all_judged beside now is_set es)
  none_over_judged keep last [] none = none
  none_over_judged keep last (e ∷ es) none = by_parts (λ (l : List (Entry ℕ)). NoneOver keep last l) e es none
      (rw (same_time is_set e) (none.0, none_over_judged keep last es none.1))

pub stands_judged : (within keep last beside : ℕ) (now : Option ℕ) (is_set : ℕ → Asked ℕ → Bool) (es : List (Entry ℕ)) (free wanted : List Expected)
    (seen : List Ask) → Stands within keep last es free wanted seen → Stands within keep last (all_judged beside now is_set es) free wanted seen
stands_judged within keep last beside now is_set es free wanted seen st =
    let same = free_judged beside now is_set es in
    record {
      holds = holds_judged beside now is_set es free st.holds;
      ascending = ascending_judged beside now is_set 0 es last st.ascending;
      none_over = none_over_judged beside now is_set keep last es st.none_over;
      one_side = λ asked. subst (λ (l : List Ask). (wanted_about asked free ≡ []) ⊎ (seen_about asked l ≡ [])) (sym same) (st.one_side asked);
      pairs = λ asked. to_pairs within keep _ _ _ _ refl (ap (λ (l : List Ask). seen_about asked (l ++ seen)) (sym same)) (st.pairs asked);
    }

pub returns_judged : (within last beside : ℕ) (now : Option ℕ) (is_set : ℕ → Asked ℕ → Bool) (asked : Asked ℕ) (free : List Expected)
    (es : List (Entry ℕ)) → returns_of within last asked free (all_judged beside now is_set es) ≡ returns_of within last asked free es
returns_judged within last beside now is_set asked free es =
    ap (λ (l : List Ask). record {
      due = still_due within last (moments_wanted (wanted_about asked free));
      early = moments_seen (seen_about asked l);
    }) (free_judged beside now is_set es)

pub judged_entries : (within : ℕ) (now : Option ℕ) (is_set : ℕ → Asked ℕ → Bool) (c : CheckingValue) → (with_s_judged within now is_set c).waiting.entries
    ≡ all_judged (min within 1) now is_set c.waiting.entries
unfolding all_s_judged
judged_entries within now is_set c = refl

pub judged_free : (within : ℕ) (now : Option ℕ) (is_set : ℕ → Asked ℕ → Bool) (c : CheckingValue) →
    (with_s_judged within now is_set c).waiting.is_full ≡ false → c.waiting.is_full ≡ false
unfolding all_s_judged
judged_free within now is_set c free = free
