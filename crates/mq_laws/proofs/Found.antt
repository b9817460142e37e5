-- All that is found of a check whose queries pair up: those that were left out are missing.
use Rattle.mq_laws.proofs.Common.{◌≡◌, ℕ, ◌+◌, ◌<◌, true, false, List, [], ◌∷◌, ◌++◌, refl, ap, sym, subst, ◌∙◌, arith, append_assoc, append-nil, ⊤, list_map}
use Rattle.mq_laws.proofs.Common.{AllByRecursion, Timing, Asked, CheckFlags, Entry, Wanted, Seen, Finding, Missing, Repeats}
use Rattle.mq_laws.proofs.Common.{CheckingValue, checking_at_start, purged, silence_found, silence_up_to, first_until, held_until, recent, repeats_in, emptied}
use Rattle.mq_laws.proofs.Common.{excused_at, Ask, Expected, Sent, LeftOut, PairUp, kept_for, missing_of, seen_about, wanted_about, CheckEvent, told_by_all}
use Rattle.mq_laws.proofs.Common.{at_the_end, checked_ahead, checked_by, found_by, found_from, HasRoom, AreAhead, AreInOrder, AreMissed, IsAsWanted}
use Rattle.mq_laws.proofs.Common.{IsFromTheBeginning, ◌^◌, ◌&&◌, Bool, None, Some, flat_map, if◌then◌else◌, not, is_querier_in, inl, found_of_last, all_excused}
use Rattle.mq_check.specs.General.{phase_for}
use Rattle.mq_laws.specs.WantedAndSeen.{seen_in}
use Rattle.mq_laws.proofs.{Held.Holds, Held.NoneOver, Held.ascending-to, Held.free_seen, Comings.Come, Comings.comes, Comings.told_of, Comings.left_of}
use Rattle.mq_laws.proofs.Rooms.{IsFresh, fresh_recent, fresh_purged, recent_repeats, told_now, purged_free, purged_full}
use Rattle.mq_laws.proofs.{Steps.to_pairs, Courses.Ended, Courses.all_free, Courses.course, Courses.general_returns, Courses.kept-long, Courses.time_as}
use Rattle.mq_laws.proofs.AfterTheEnd.{AreQuiet, excused_entries, excused_full, held_quiet, none_free, none_last, none_wanted, ticks_find_nothing}

-- a finding of what was over before a moment
abbrev IsBefore : (kept end : ℕ) → Finding ℕ → Type 0
IsBefore kept end (Missing moment packet asked) = moment + kept < end
IsBefore kept end _ = ⊤

all_before : (strict : Bool) (kept end : ℕ) (xs : List Expected) → AreMissed strict kept end xs → AllByRecursion (IsBefore kept end) (missing_of xs)
all_before strict kept end [] missed = tt
all_before strict kept end (Sent w ∷ xs) missed = all_before strict kept end xs missed
all_before strict kept end (LeftOut w ∷ xs) missed = (missed.0.over, all_before strict kept end xs missed.1)

before_behind : (kept end : ℕ) (xs ys : List (Finding ℕ)) → AllByRecursion (IsBefore kept end) (xs ++ ys) → AllByRecursion (IsBefore kept end) ys
before_behind kept end [] ys all = all
before_behind kept end (x ∷ xs) ys all = before_behind kept end xs ys all.1

-- so none of those that still wait is missing
none_left : (kept end : ℕ) (es : List (Entry ℕ)) (xs : List Expected) → Holds es xs → NoneOver kept end es →
    AllByRecursion (IsBefore kept end) (missing_of xs) → missing_of xs ≡ []
none_left kept end [] [] holds ahead all = refl
none_left kept end [] (x ∷ xs) holds ahead all = absurd holds
none_left kept end (Wanted m a t o true ∷ es) xs holds ahead all = none_left kept end es xs holds ahead.1 all
none_left kept end (Wanted m a t o false ∷ es) [] holds ahead all = absurd holds
none_left kept end (Wanted m a t o false ∷ es) (Sent w ∷ xs) holds ahead all = none_left kept end es xs holds.1 ahead.1 all
none_left kept end (Wanted m a t o false ∷ es) (LeftOut w ∷ xs) holds ahead all =
    let at : w.moment ≡ m = ap (λ (b : Ask). b.moment) holds.0.0 in
    absurd (omega (arith, all.0, ahead.0))
none_left kept end (Seen m a t None q ∷ es) xs holds ahead all = none_left kept end es xs holds ahead.1 all
none_left kept end (Seen m a t (Some w) q ∷ es) xs holds ahead all = none_left kept end es xs holds.1 ahead.1 all
none_left kept end (_ ∷ es) xs holds ahead all = absurd holds

-- there was room before the end
room_before : (within : ℕ) (timing : Timing) (end : ℕ) (ahead : List CheckEvent) (c : CheckingValue) →
    (checked_ahead within timing end ahead c).waiting.is_full ≡ false → c.waiting.is_full ≡ false
unfolding all_excused
room_before within timing end ahead c room =
    sym (purged_full c.schedules.repeats.keep end c.waiting)
    ∙ sym (excused_full within end (recent end (purged end c).schedules).sent (purged end c).waiting) ∙
    all_free within timing end ahead (at_the_end within end c) room

-- nothing is known of schedules from before the capture at its end
fresh_at_end : (within end : ℕ) (c : CheckingValue) → IsFresh c.schedules → IsFresh (at_the_end within end c).schedules
fresh_at_end within end c fresh =
    let there = fresh_recent end (purged end c).schedules (fresh_purged end c fresh) in
    record { held = there.held; first = there.first; known = there.known; next = ap emptied there.next }

-- the findings from the end on
from_end : (within : ℕ) (timing : Timing) (flags : CheckFlags) (end : ℕ) (ahead : List CheckEvent) (c : CheckingValue) (free : List Expected) →
    IsFresh c.schedules → c.refused ≡ [] → AreAhead within end ahead → (checked_ahead within timing end ahead c).waiting.is_full ≡ false
    → c.schedules.repeats ≡ repeats_in within timing flags → silence_up_to within timing end c.phase ≡ None
    → (come : Come within (kept_for within timing flags) end c.changed c.waiting.entries free [] []) → missing_of come.left ≡ []
    → found_from within timing end ahead c ≡ told_of (kept_for within timing flags) within end c.changed c.waiting.entries
from_end within timing flags end ahead c free fresh unrefused after room keeps silence come none =
    let keep = kept_for within timing flags in
    let keep_is : c.schedules.repeats.keep ≡ keep = ap (λ (r : Repeats). r.keep) keeps in
    let free_room = room_before within timing end ahead c room in
    let entries = left_of keep end c.waiting.entries in
    let alone = none_free within keep come.left (free_seen entries) come.stands.one_side come.stands.pairs in
    let pairs : (asked : Asked ℕ) → PairUp within keep (wanted_about asked (come.left ++ [])) [] =
    λ asked. to_pairs within keep _ _ _ _ refl (ap (λ (l : List Ask). seen_about asked (l ++ [])) alone) (come.stands.pairs asked) in
    let gone : come.left ≡ [] = none_wanted within keep come.left pairs none in
    let holds : Holds entries [] = rw gone at come.stands.holds in
    let sent = (recent end (purged end c).schedules).sent in
    let entries_are : (purged end c).waiting.entries ≡ entries = purged_free c.schedules.repeats.keep end c.waiting free_room ∙
    ap (λ (k : ℕ). left_of k end c.waiting.entries) keep_is in
    let quiet : AreQuiet within (end + within) (at_the_end within end c).waiting.entries =
    subst (λ (es : List (Entry ℕ)). AreQuiet within (end + within) es)
    (sym (excused_entries within end sent (purged end c).waiting ∙ ap (list_map (excused_at within end sent)) entries_are))
    (held_quiet within (end + within) end sent entries holds alone) in
    let keeps_then : (at_the_end within end c).schedules.repeats.keep ≡ keep =
    ap (λ (r : Repeats). r.keep) (recent_repeats end (purged end c).schedules ∙ keeps) in
    let nothing = ticks_find_nothing within (end + within) timing end ahead (at_the_end within end c) (fresh_at_end within end c fresh) unrefused
    (rw keeps_then (kept-long within timing flags)) (omega arith) after.order after.of_ticks quiet room in
    let left = checked_ahead within timing end ahead c in
    let told : told_of c.schedules.repeats.keep within end c.changed c.waiting.entries ≡ told_of keep within end c.changed c.waiting.entries =
    ap (λ (k : ℕ). told_of k within end c.changed c.waiting.entries) keep_is in
    let last : flat_map (found_of_last within end left.changed left.refused) left.waiting.entries ≡ [] =
    ap (λ (refused : List ℕ). flat_map (found_of_last within end left.changed refused) left.waiting.entries) nothing.refused
    ∙ none_last within end left.changed left.waiting.entries nothing.quiet in
    (λ i. (told_now within end c free_room fresh unrefused ∙ told) i ++ nothing.told i ++ (last i ++ silence_found timing end (silence i)))
    ∙ append-nil (told_of keep within end c.changed c.waiting.entries ++ []) ∙ append-nil (told_of keep within end c.changed c.waiting.entries)

pub found_is : (within : ℕ) (timing : Timing) (flags : CheckFlags) (end : ℕ) (expected : List Expected) (events ahead : List CheckEvent)
    → IsFromTheBeginning flags → AreInOrder 0 events end → AreAhead within end ahead → IsAsWanted within timing flags end expected events →
    HasRoom within timing flags end events ahead → found_by within timing flags end events ahead ≡ missing_of expected
found_is within timing flags end expected events ahead began order after is room =
    let keep = kept_for within timing flags in
    let start = checking_at_start within timing flags in
    let fresh : IsFresh start.schedules = record {
      held =
          ap (λ (b : Bool). if b && not flags.began then 2 ^ 53 + 1 else held_until within timing flags.began) began.known
          ∙ ap (held_until within timing) began.began;
      first = ap (first_until within timing flags.above_7) began.began;
      known = began.known;
      next = refl;
    } in
    let c = checked_by within timing flags events in
    let with_room : c.waiting.is_full ≡ false = room_before within timing end ahead c room in
    let starting = ap (phase_for timing) began.known in
    let ended : Ended within timing flags end 0 events start (missing_of expected) =
    course within timing flags end 0 events start [] expected fresh refl refl is.wanted is.missed order
    (time_as within timing _ start.phase None None 0 events end starting refl is.on_time) with_room (record {
      holds = tt;
      ascending = omega arith;
      none_over = tt;
      one_side = λ b. inl refl;
      pairs = λ asked. subst
          (λ (q : Bool). PairUp within keep (wanted_about asked expected) (seen_about asked (seen_in within q (general_returns within 0 [] []) 0 events)))
          (sym (ap is_querier_in starting)) (is.pairs asked);
    }) in
    let come : Come within keep end c.changed c.waiting.entries ended.left [] [] =
    comes within keep 0 end c.changed c.waiting.entries ended.left [] [] (kept-long within timing flags) tt tt (record {
      holds = ended.stands.holds;
      ascending = ascending-to 0 c.waiting.entries _ end ended.in_time ended.stands.ascending;
      one_side = ended.stands.one_side;
      pairs = ended.stands.pairs;
    }) in
    let told_before = told_by_all within timing 0 events start in
    let told_last = told_of keep within end c.changed c.waiting.entries in
    let all : missing_of expected ≡ (told_before ++ told_last) ++ missing_of (come.left ++ []) =
    ended.missing_is ∙ ap (λ (l : List (Finding ℕ)). told_before ++ l) come.missing ∙ sym (append_assoc told_before told_last (missing_of (come.left ++ []))) in
    let none_there : missing_of come.left ≡ [] = none_left keep end (left_of keep end c.waiting.entries) come.left come.stands.holds come.stands.none_over
    (rw (append-nil come.left) at
    (before_behind keep end (told_before ++ told_last) (missing_of (come.left ++ [])) (rw all at (all_before flags.strict keep end expected is.missed)))) in
    let none : missing_of (come.left ++ []) ≡ [] = ap missing_of (append-nil come.left) ∙ none_there in
    ap (λ (l : List (Finding ℕ)). told_before ++ l)
    (from_end within timing flags end ahead c ended.left ended.fresh ended.refused after room ended.repeats ended.silence come none_there)
    ∙ sym (all ∙ ap (λ (l : List (Finding ℕ)). (told_before ++ told_last) ++ l) none ∙ append-nil (told_before ++ told_last))
