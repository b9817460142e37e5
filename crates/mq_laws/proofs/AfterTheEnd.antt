-- After the end of a capture whose queries pair up, nothing more is found.
use Rattle.mq_laws.proofs.Common.{◌≡◌, ℕ, ◌+◌, ◌≤◌, Bool, true, false, ◌&&◌, List, [], ◌∷◌, ◌++◌, refl, ap, sym, ◌∙◌, arith, append-nil, Option, None, Some}
use Rattle.mq_laws.proofs.Common.{◌⊎◌, fold, flat_map, list_map, min, nat_le, inl, inr, AllByRecursion, le-leb, ltb-true, Timing, Asked, Entry, Need, Required}
use Rattle.mq_laws.proofs.Common.{Optional, Wanted, Seen, Interval, Silence, Packet, SeenVerdict, Terms, CheckingValue, found_of_last, near, role_returned}
use Rattle.mq_laws.proofs.Common.{purged, subject_wanted, with_s_judged, entry_judged, excused_if, findings_of, first_joined, is_free_seen, is_over}
use Rattle.mq_laws.proofs.Common.{terms_differ, is_same, terms_wanted, WaitingValue, all_excused, excused_at, may_still_come, Ask, Expected, Sent, LeftOut}
use Rattle.mq_laws.proofs.Common.{PairUp, missing_of, seen_about, wanted_about, CheckEvent, Comes, Wants, HasRoleAgain}
use Rattle.mq_laws.proofs.Common.{Judges, check_by_all, told_by_all, AreInOrder, IsOfTick}
use Rattle.mq_check.specs.{Refused.judged, Waiting.all_judged}
use Rattle.mq_laws.proofs.{Judged.by_parts, Judged.judged_entries, Held.Holds, Held.free_seen, Held.passed_joined, Held.seen_here, Held.wanted_here}
use Rattle.mq_laws.proofs.{Same.is_same-self, Rooms.IsFresh, Rooms.fresh_purged, Rooms.told_now, Rooms.purged_free, Rooms.wanted_part, Rooms.returned_part}
use Rattle.mq_laws.proofs.{Partners.SameFrom, Partners.same_behind, Partners.same_none, Unrefused.judged_is, Unrefused.returned_stays, Unrefused.wants_stay}
use Rattle.mq_laws.proofs.{Steps.to_pairs, Courses.all_free, Courses.wants_free}
use Rattle.mq_laws.proofs.Comings.{told_of, left_of, over_told, over_left, ahead_told, ahead_left, pair_alike}

-- a wanted query that has a partner, or may be left out
abbrev pub is_without_finding : Need → (is_found : Bool) → Bool
is_without_finding Optional is_found = true
is_without_finding _ is_found = is_found

without_finding : (within : ℕ) (changed : Option ℕ) (m : ℕ) (a : Asked ℕ) (t : Terms ℕ) (o : Need) (f : Bool) → is_without_finding o f ≡ true →
    findings_of within changed (Wanted m a t o f) ≡ []
without_finding within changed m a t o true is = refl
without_finding within changed m a t Optional false is = refl
without_finding within changed m a t _ false is = cc

found_is_without : (o : Need) → is_without_finding o true ≡ true
found_is_without Required = refl
found_is_without _ = refl

-- nothing is found of an entry that expires up to a limit
abbrev pub IsQuiet : (within limit : ℕ) → Entry ℕ → Type 0
IsQuiet within limit (Wanted moment asked terms need is_found) = (is_without_finding need is_found ≡ true) ⊎ (limit ≤ moment + within)
IsQuiet within limit (Seen moment asked terms (Some wanted) alone) = terms_differ terms wanted ≡ []
IsQuiet within limit _ = ⊥

abbrev pub AreQuiet : (within limit : ℕ) → List (Entry ℕ) → Type 0
AreQuiet within limit es = AllByRecursion (IsQuiet within limit) es

quiet_found : (keep within limit moment : ℕ) (changed : Option ℕ) (e : Entry ℕ) → within ≤ keep → IsQuiet within limit e → moment ≤ limit →
    is_over keep moment e ≡ true → findings_of within changed e ≡ []
quiet_found keep within limit moment changed (Wanted m a t o f) long is before over = elim is [
  | inl left ↦ without_finding within changed m a t o f left
  | inr far ↦ absurd (let late = ltb-true (m + keep) moment over in omega (arith, late, far, before, long))
]
quiet_found keep within limit moment changed (Seen m a t (Some w) alone) long is before over = pair_alike m a t w alone is
quiet_found keep within limit moment changed _ long is before over = absurd is

-- a moment comes
quiet_told : (keep within limit moment : ℕ) (changed : Option ℕ) (es : List (Entry ℕ)) → within ≤ keep → AreQuiet within limit es → moment ≤ limit →
    told_of keep within moment changed es ≡ []
quiet_told keep within limit moment changed [] long are before = refl
quiet_told keep within limit moment changed (e ∷ es) long are before =
    elim (is_over keep moment e) as (λ b. is_over keep moment e ≡ b → told_of keep within moment changed (e ∷ es) ≡ []) [
      | true ↦ λ over.
          over_told keep within moment changed e es over
          ∙ (λ i. quiet_found keep within limit moment changed e long are.0 before over i ++ quiet_told keep within limit moment changed es long are.1 before i)
      | false ↦ λ ahead. ahead_told keep within moment changed e es ahead
    ] refl

quiet_left : (keep within limit moment : ℕ) (es : List (Entry ℕ)) → AreQuiet within limit es → AreQuiet within limit (left_of keep moment es)
quiet_left keep within limit moment [] are = tt
quiet_left keep within limit moment (e ∷ es) are =
    elim (is_over keep moment e) as (λ b. is_over keep moment e ≡ b → AreQuiet within limit (left_of keep moment (e ∷ es))) [
      | true ↦ λ over. rw (over_left keep moment e es over) (quiet_left keep within limit moment es are.1)
      | false ↦ λ ahead. rw (ahead_left keep moment e es ahead) are
    ] refl

quiet_one : (within limit : ℕ) (is_set : ℕ → Asked ℕ → Bool) (e : Entry ℕ) → IsQuiet within limit e → IsQuiet within limit (entry_judged is_set e)
quiet_one within limit is_set (Wanted m a t o f) is = is
quiet_one within limit is_set (Seen m a t None verdict) is = is
quiet_one within limit is_set (Seen m a t (Some w) verdict) is = is
quiet_one within limit is_set (Interval m p a w) is = is
quiet_one within limit is_set (Silence m a w) is = is
quiet_one within limit is_set (Packet m n f) is = is

quiet_judged : (within limit beside : ℕ) (now : Option ℕ) (is_set : ℕ → Asked ℕ → Bool) (es : List (Entry ℕ)) → AreQuiet within limit es →
    AreQuiet within limit (all_judged beside now is_set es)
quiet_judged within limit beside now is_set [] are = are
quiet_judged within limit beside now is_set (e ∷ es) are = by_parts beside now is_set (λ (l : List (Entry ℕ)). AreQuiet within limit l) e es are
    (quiet_one within limit is_set e are.0, quiet_judged within limit beside now is_set es are.1)

-- a query becomes wanted
and_false : (b : Bool) → (b && false) ≡ false
and_false true = refl
and_false false = refl

not_free : (within limit : ℕ) (asked : Asked ℕ) (e : Entry ℕ) → IsQuiet within limit e → is_free_seen asked e ≡ false
not_free within limit asked (Wanted m a t o f) is = refl
not_free within limit asked (Seen m a t (Some w) alone) is = and_false (is_same asked a)
not_free within limit asked _ is = absurd is

none_joined : (within limit : ℕ) (asked : Asked ℕ) (other : Terms ℕ) (es : List (Entry ℕ)) → AreQuiet within limit es →
    first_joined (is_free_seen asked) other es ≡ es
none_joined within limit asked other [] are = refl
none_joined within limit asked other (e ∷ es) are =
    passed_joined (is_free_seen asked) other e es (not_free within limit asked e are.0) ∙
    ap (λ (l : List (Entry ℕ)). e ∷ l) (none_joined within limit asked other es are.1)

none_same : (within limit : ℕ) (asked : Asked ℕ) (from : ℕ) (es : List (Entry ℕ)) → AreQuiet within limit es → SameFrom (is_free_seen asked) from es
none_same within limit asked from [] are = same_none (is_free_seen asked) from
none_same within limit asked from (e ∷ es) are = same_behind (is_free_seen asked) from e es (not_free within limit asked e are.0)
    (none_same within limit asked from es are.1)

quiet_put : (within limit : ℕ) (es : List (Entry ℕ)) (e : Entry ℕ) → AreQuiet within limit es → IsQuiet within limit e → AreQuiet within limit (es ++ e ∷ [])
quiet_put within limit [] e are is = (is, tt)
quiet_put within limit (d ∷ es) e are is = (are.0, quiet_put within limit es e are.1 is)

-- after queries became wanted, nothing is found, and the retransmission is the same
record QuietWants (within limit : ℕ) (c after : CheckingValue) : Type 0 where
  quiet : AreQuiet within limit after.waiting.entries
  repeats : after.schedules.repeats ≡ c.schedules.repeats
  fresh : IsFresh after.schedules

quiet_wants : (within limit now : ℕ) (is_again : Bool) (terms : Terms ℕ) (asked : List (Asked ℕ)) (c : CheckingValue) → IsFresh c.schedules →
    limit ≤ now + within → AreQuiet within limit c.waiting.entries
    → (fold (subject_wanted now is_again terms) c asked).waiting.is_full ≡ false → QuietWants within limit c (fold (subject_wanted now is_again terms) c asked)
quiet_wants within limit now is_again terms [] c fresh far are room = record { quiet = are; repeats = refl; fresh = fresh }
quiet_wants within limit now is_again terms (a ∷ more) c fresh far are room =
    let t = terms_wanted is_again terms a c.schedules in
    let next = subject_wanted now is_again terms c a in
    let part = wanted_part now is_again t c a (wants_free now is_again terms more next room) in
    let rest = quiet_wants within limit now is_again terms more next (part.fresh fresh) far
    (rw (part.entries fresh (none_same within limit a (near now c) c.waiting.entries are), none_joined within limit a t c.waiting.entries are)
    (quiet_put within limit c.waiting.entries _ are (inr far))) room in
    record { quiet = rest.quiet; repeats = rest.repeats ∙ part.repeats; fresh = rest.fresh }

-- nothing is found by the events of ticks
pub record FindsNothing (within limit : ℕ) (timing : Timing) (now : ℕ) (es : List CheckEvent) (c : CheckingValue) : Type 0 where
  pub told : told_by_all within timing now es c ≡ []
  pub quiet : AreQuiet within limit (check_by_all within timing now es c).waiting.entries
  pub refused : (check_by_all within timing now es c).refused ≡ []

in_time : (now : ℕ) (es : List CheckEvent) (end : ℕ) → AreInOrder now es end → now ≤ end
in_time now [] end order = order
in_time now (Comes moment ∷ es) end order = let rest = in_time moment es end order.1 in omega (arith, order.0, rest)
in_time now (_ ∷ es) end order = in_time now es end order

pub ticks_find_nothing : (within limit : ℕ) (timing : Timing) (now : ℕ) (es : List CheckEvent) (c : CheckingValue) → IsFresh c.schedules → c.refused ≡ [] →
    within ≤ c.schedules.repeats.keep → limit ≤ now + within → AreInOrder now es limit → AllByRecursion IsOfTick es
    → AreQuiet within limit c.waiting.entries → (check_by_all within timing now es c).waiting.is_full ≡ false → FindsNothing within limit timing now es c
ticks_find_nothing within limit timing now [] c fresh none long far order ticks are room = record { told = refl; quiet = are; refused = none }
ticks_find_nothing within limit timing now (Comes moment ∷ es) c fresh none long far order ticks are room =
    let keep = c.schedules.repeats.keep in
    let free = all_free within timing now (Comes moment ∷ es) c room in
    let before = in_time moment es limit order.1 in
    let left : AreQuiet within limit (purged moment c).waiting.entries = rw (purged_free keep moment c.waiting free)
    (quiet_left keep within limit moment c.waiting.entries are) in
    let more = ticks_find_nothing within limit timing moment es (purged moment c) (fresh_purged moment c fresh) none long
    (omega (arith, far, order.0)) order.1 ticks.1 left room in
    record {
      told = (λ i. (told_now within moment c free fresh none ∙ quiet_told keep within limit moment c.changed c.waiting.entries long are before) i ++ more.told
          i);
      quiet = more.quiet;
      refused = more.refused;
    }
ticks_find_nothing within limit timing now (Wants is_again terms asked ∷ es) c fresh none long far order ticks are room =
    let next = fold (subject_wanted now is_again terms) c asked in
    let wants = quiet_wants within limit now is_again terms asked c fresh far are (all_free within timing now es next room) in
    let more = ticks_find_nothing within limit timing now es next wants.fresh (wants_stay now is_again terms asked c ∙ none) (rw wants.repeats long) far order
    ticks.1 wants.quiet room in
    record { told = more.told; quiet = more.quiet; refused = more.refused }
ticks_find_nothing within limit timing now (HasRoleAgain ∷ es) c fresh none long far order ticks are room =
    let next = role_returned within now c in
    let part = returned_part within now c in
    let same = ap (λ (w : WaitingValue). w.entries) part.waiting in
    let more = ticks_find_nothing within limit timing now es next (rw part.schedules fresh) (returned_stays within now c ∙ none) (rw part.schedules long) far
    order ticks.1 (rw same are) room in
    record { told = more.told; quiet = more.quiet; refused = more.refused }
ticks_find_nothing within limit timing now (Judges moment is_set ∷ es) c fresh none long far order ticks are room =
    let next = with_s_judged within moment is_set c in
    let quiet : AreQuiet within limit next.waiting.entries =
    rw (judged_entries within moment is_set c) (quiet_judged within limit (min within 1) moment is_set c.waiting.entries are) in
    let more = ticks_find_nothing within limit timing now es next fresh none long far order ticks.1 quiet room in
    record { told = more.told; quiet = more.quiet; refused = more.refused }
ticks_find_nothing within limit timing now (_ ∷ es) c fresh none long far order ticks are room = absurd ticks.0

-- a wanted query that may be left out, and a pair
none_found : (within end m : ℕ) (a : Asked ℕ) (t : Terms ℕ) (o : Need) (f : Bool) (changed : Option ℕ) → IsQuiet within (end + within) (Wanted m a t o f) →
    found_of_last within end changed [] (Wanted m a t o f) ≡ []
none_found within end m a t o f changed (inl left) = by_end (nat_le end (m + within))
  where
    by_end : (b : Bool) → judged within changed [] (excused_if b (Wanted m a t o f)) ≡ []
    by_end true = judged_is within changed (Wanted m a t Optional f) ∙ without_finding within changed m a t Optional f refl
    by_end false = judged_is within changed (Wanted m a t o f) ∙ without_finding within changed m a t o f left
none_found within end m a t o f changed (inr far) =
    let late : nat_le end (m + within) ≡ true = le-leb end (m + within) (omega (arith, far)) in
    ap (λ (b : Bool). judged within changed [] (excused_if b (Wanted m a t o f))) late ∙ judged_is within changed (Wanted m a t Optional f)
    ∙ without_finding within changed m a t Optional f refl

pair_found : (within : ℕ) (changed : Option ℕ) (b : Bool) (m : ℕ) (a : Asked ℕ) (t w : Terms ℕ) (alone : SeenVerdict ℕ) → terms_differ t w ≡ [] →
    judged within changed [] (excused_if b (Seen m a t (Some w) alone)) ≡ []
pair_found within changed true m a t w alone alike = judged_is within changed (Seen m a t (Some w) alone) ∙ pair_alike m a t w alone alike
pair_found within changed false m a t w alone alike = judged_is within changed (Seen m a t (Some w) alone) ∙ pair_alike m a t w alone alike

-- and of what still waits then, nothing is found either
pub none_last : (within end : ℕ) (changed : Option ℕ) (es : List (Entry ℕ)) → AreQuiet within (end + within) es →
    flat_map (found_of_last within end changed []) es ≡ []
none_last within end changed [] are = refl
none_last within end changed (Wanted m a t o f ∷ es) are = λ i. (none_found within end m a t o f changed are.0 i) ++ none_last within end changed es are.1 i
none_last within end changed (Seen m a t (Some w) alone ∷ es) are = λ i. (pair_found within changed (nat_le end (m + within)) m a t w alone are.0 i)
    ++ none_last within end changed es are.1 i
none_last within end changed (_ ∷ es) are = absurd are.0

-- at the end, each seen query has its partner
pub none_free : (within keep : ℕ) (left : List Expected) (ss : List Ask) → ((asked : Asked ℕ) → (wanted_about asked left ≡ []) ⊎ (seen_about asked ss ≡ []))
    → ((asked : Asked ℕ) → PairUp within keep (wanted_about asked (left ++ [])) (seen_about asked (ss ++ []))) → ss ≡ []
none_free within keep left [] one_side pairs = refl
none_free within keep left (s ∷ ss) one_side pairs =
    let here : seen_about s.asked (s ∷ ss) ≡ s ∷ seen_about s.asked ss = seen_here s.asked s ss (is_same-self s.asked) in
    absurd (elim (one_side s.asked) [
      | inl none ↦ to_pairs within keep _ [] _ (s ∷ seen_about s.asked ss) (ap (wanted_about s.asked) (append-nil left) ∙ none)
          (ap (seen_about s.asked) (append-nil (s ∷ ss)) ∙ here) (pairs s.asked)
      | inr none ↦ (let two : [] ≡ s ∷ seen_about s.asked ss = sym none ∙ here in cc)
    ])

-- and each wanted one, if none is missing
pub none_wanted : (within keep : ℕ) (left : List Expected) → ((asked : Asked ℕ) → PairUp within keep (wanted_about asked (left ++ [])) []) →
    missing_of left ≡ [] → left ≡ []
none_wanted within keep [] pairs none = refl
none_wanted within keep (Sent w ∷ xs) pairs none =
    let here : wanted_about w.asked (Sent w ∷ xs ++ []) ≡ Sent w ∷ wanted_about w.asked (xs ++ []) = wanted_here w.asked (Sent w) (xs ++ [])
    (is_same-self w.asked) in
    absurd (to_pairs within keep _ _ _ _ here refl (pairs w.asked))
none_wanted within keep (LeftOut w ∷ xs) pairs none = cc

still_quiet : (within limit m : ℕ) (a : Asked ℕ) (t : Terms ℕ) (o : Need) (b : Bool) → IsQuiet within limit (excused_if b (Wanted m a t o true))
still_quiet within limit m a t o true = inl refl
still_quiet within limit m a t o false = inl (found_is_without o)

pub held_quiet : (within limit end : ℕ) (sent : WaitingValue) (es : List (Entry ℕ)) → Holds es [] → free_seen es ≡ [] →
    AreQuiet within limit (list_map (excused_at within end sent) es)
held_quiet within limit end sent [] holds none = tt
held_quiet within limit end sent (Wanted m a t o true ∷ es) holds none =
    (still_quiet within limit m a t o (may_still_come within end sent (Wanted m a t o true)), held_quiet within limit end sent es holds none)
held_quiet within limit end sent (Seen m a t None alone ∷ es) holds none = absurd (cc)
held_quiet within limit end sent (Seen m a t (Some w) alone ∷ es) holds none = (holds.0, held_quiet within limit end sent es holds.1 none)
held_quiet within limit end sent (_ ∷ es) holds none = absurd holds

-- the entries at the end
pub excused_entries : (within end : ℕ) (sent w : WaitingValue) → (all_excused within end sent w).entries ≡ list_map (excused_at within end sent) w.entries
unfolding all_excused
excused_entries within end sent w = refl

pub excused_full : (within end : ℕ) (sent w : WaitingValue) → (all_excused within end sent w).is_full ≡ w.is_full
unfolding all_excused
excused_full within end sent w = refl
