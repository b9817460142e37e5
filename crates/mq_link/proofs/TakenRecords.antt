-- The outcome of a datagram's records so far, and of those left.
use Rattle.mq_link.proofs.Common.{◌≡◌, ℕ, ◌+◌, ◌<◌, ◌≤◌, Bool, true, false, cond, refl, List, [], ◌∷◌, length, Some, ap, ◌∙◌, subst, arith, count_by}
use Rattle.mq_link.proofs.Common.{sum_by-cons, unwrap_or, nat_cmp, eq_by_cmp, nat_cmp_total, tied, ties, RecordView, SentQuery, Sends, SendsOn, Sends-append}
use Rattle.mq_link.proofs.Common.{Counters, Verdict, Applied, count_verdict, count_verdicts, is_applied, is_ignored, is_refused, Groups, Setting, Seen, met}
use Rattle.mq_link.proofs.Common.{seen_after, judged, Outcomes, all_judged, AreSound}
use Rattle.std.specs.FinMap as map
use Rattle.mq_link.proofs.Recorded.{judged_leaves}

-- the numbers of records, by their outcome
pub record Numbers : Type 0 where
  pub applied : ℕ
  pub ignored : ℕ
  pub refused : ℕ

-- with the records that are left, all comes to what the whole comes to
pub record IsTakenSoFar {S : Type 0} (takes : S → SentQuery → S → Type 0) (at : Setting) (all : Outcomes) (whole : ℕ) (from : S) (counters : Counters)
    (left : List (RecordView ℕ)) (seen : Seen) (groups : Groups) (sink : S) (counted : Counters) (n : Numbers) : Type 0 where
  pub groups_are : (all_judged at seen left groups).groups ≡ all.groups
  pub sent : SendsOn takes from all.queries sink (all_judged at seen left groups).queries
  pub counted_are : count_verdicts (all_judged at seen left groups).verdicts counted ≡ count_verdicts all.verdicts counters
  pub applied_are : n.applied + count_by is_applied (all_judged at seen left groups).verdicts ≡ count_by is_applied all.verdicts
  pub ignored_are : n.ignored + count_by is_ignored (all_judged at seen left groups).verdicts ≡ count_by is_ignored all.verdicts
  pub refused_are : n.refused + count_by is_refused (all_judged at seen left groups).verdicts ≡ count_by is_refused all.verdicts
  pub sound : AreSound at groups
  pub few_told : n.applied + n.ignored + n.refused + length left ≤ whole

-- none is taken yet
pub none_taken : {S : Type 0} (takes : S → SentQuery → S → Type 0) (at : Setting) (from : S) (counters : Counters) (all : List (RecordView ℕ))
    (groups : Groups) → AreSound at groups
    → IsTakenSoFar takes at (all_judged at map.empty all groups) (length all) from counters all map.empty groups from counters
    (record { applied = 0; ignored = 0; refused = 0 })
none_taken takes at from counters all groups sound = record {
  groups_are = refl;
  sent = λ end h. h;
  counted_are = refl;
  applied_are = omega arith;
  ignored_are = omega arith;
  refused_are = omega arith;
  sound = sound;
  few_told = omega arith;
}

-- a record counts one meeting more
module _ (seen : Seen) (group : ℕ) where
  abbrev pub again : Seen
  again = map.insert seen group (met seen group + 1)

  abbrev met_where : Bool → ℕ → ℕ
  met_where b other = unwrap_or (cond b (Some (met seen group + 1)) (map.get seen other)) 0

  met_again : (other : ℕ) → met again other ≡ met_where (eq_by_cmp nat_cmp other group) other
  met_again other = ap (λ x. unwrap_or x 0) (map.get-insert nat_cmp_total seen group (met seen group + 1) other)

  pub met_once : met again group ≡ met seen group + 1
  met_once = met_again group ∙ ap (λ b. met_where b group) (ties group group refl)

  pub met_other : (other : ℕ) → eq_by_cmp nat_cmp other group ≡ false → met again other ≡ met seen other
  met_other other differs = met_again other ∙ ap (λ b. met_where b other) differs

  pub met_more : (other : ℕ) → (met seen other ≤ met again other) × (met again other ≤ met seen other + 1)
  met_more other = rw (met_again other) (by_test (eq_by_cmp nat_cmp other group) refl)
    where
      by_test : (b : Bool) → eq_by_cmp nat_cmp other group ≡ b → (met seen other ≤ met_where b other) × (met_where b other ≤ met seen other + 1)
      by_test true same = let alike = ap (met seen) (tied other group same) in (omega (arith, alike), omega (arith, alike))
      by_test false differs = (omega arith, omega arith)

counted_one : (v : Verdict) → count_by is_applied (v ∷ []) + count_by is_ignored (v ∷ []) + count_by is_refused (v ∷ []) ≡ 1
counted_one Applied = omega arith
counted_one _ = omega arith

counted_first : (p : Verdict → Bool) (n : ℕ) (v : Verdict) (vs : List Verdict) → (n + count_by p (v ∷ [])) + count_by p vs ≡ n + count_by p (v ∷ vs)
counted_first p n v vs =
    let whole : count_by p (v ∷ vs) ≡ cond (p v) 1 0 + count_by p vs = sum_by-cons (λ x. cond (p x) 1 0) v vs in
    let one : count_by p (v ∷ []) ≡ cond (p v) 1 0 = sum_by-cons (λ x. cond (p x) 1 0) v [] ∙ omega arith in
    added n (count_by p (v ∷ [])) (count_by p vs) (count_by p (v ∷ vs)) (cond (p v) 1 0) whole one
  where
    added : (n a b c d : ℕ) → c ≡ d + b → a ≡ d → (n + a) + b ≡ n + c
    added n a b c d whole one = omega arith

-- one more is taken
pub one_taken : {S : Type 0} (takes : S → SentQuery → S → Type 0) (at : Setting) (all : Outcomes) (whole : ℕ) (from : S) (counters : Counters)
    (before rest : List (RecordView ℕ)) (r : RecordView ℕ) (seen : Seen) (groups : Groups) (sink next : S) (counted : Counters) (n : Numbers)
    → 0 < at.election.timing.robustness
    → IsTakenSoFar takes at all whole from counters before seen groups sink counted n
    → before ≡ r ∷ rest
    → Sends takes sink (judged at seen r groups).queries next
    → (let v = (judged at seen r groups).verdict in
    IsTakenSoFar takes at all whole from counters rest (seen_after at.config r groups seen) (judged at seen r groups).groups next (count_verdict v counted)
    (record {
      applied = n.applied + count_by is_applied (v ∷ []);
      ignored = n.ignored + count_by is_ignored (v ∷ []);
      refused =
          n.refused + count_by is_refused (v ∷ []);
    }))
one_taken takes at all whole from counters before rest r seen groups sink next counted n positive so_far first sent =
    let v = (judged at seen r groups).verdict in
    let later = all_judged at (seen_after at.config r groups seen) rest (judged at seen r groups).groups in
    let h = subst (λ left. IsTakenSoFar takes at all whole from counters left seen groups sink counted n) first so_far in
    let few_told = h.few_told in
    record {
      groups_are = h.groups_are;
      sent = λ end more. h.sent end (Sends-append takes sink next end (judged at seen r groups).queries later.queries sent more);
      counted_are = h.counted_are;
      applied_are = counted_first is_applied n.applied v later.verdicts ∙ h.applied_are;
      ignored_are = counted_first is_ignored n.ignored v later.verdicts ∙ h.ignored_are;
      refused_are = counted_first is_refused n.refused v later.verdicts ∙ h.refused_are;
      sound = judged_leaves at seen r groups positive h.sound;
      few_told = omega (arith, few_told, counted_one v);
    }

-- all are taken
pub all_taken : {S : Type 0} (takes : S → SentQuery → S → Type 0) (at : Setting) (all : Outcomes) (whole : ℕ) (from : S) (counters : Counters)
    (left : List (RecordView ℕ)) (seen : Seen) (groups : Groups) (sink : S) (counted : Counters) (n : Numbers)
    → IsTakenSoFar takes at all whole from counters left seen groups sink counted n → left ≡ []
    → (groups ≡ all.groups) × Sends takes from all.queries sink × (counted ≡ count_verdicts all.verdicts counters)
    × (n.applied ≡ count_by is_applied all.verdicts) × (n.ignored ≡ count_by is_ignored all.verdicts) × (n.refused ≡ count_by is_refused all.verdicts)
all_taken takes at all whole from counters left seen groups sink counted n so_far none =
    let h = subst (λ left. IsTakenSoFar takes at all whole from counters left seen groups sink counted n) none so_far in
    let applied = h.applied_are in
    let ignored = h.ignored_are in
    let refused = h.refused_are in
    (h.groups_are, h.sent sink refl, h.counted_are, omega arith, omega arith, omega arith)
