-- The entries that wait after each part of a check with room for all entries that have to wait.
use Rattle.mq_laws.proofs.Common.{◌≡◌, ℕ, ◌^◌, Bool, true, false, ◌&&◌, ◌||◌, not, if◌then◌else◌, List, [], ◌∷◌, ◌++◌, length, refl, ap, sym, ◌∙◌, arith}
use Rattle.mq_laws.proofs.Common.{append-nil, Option, None, Some, nat_le, nat_lt, is_some, take_while, and_left, le-ltb, Timing, Asked, AllGroups, Group}
use Rattle.mq_laws.proofs.Common.{Source, Entry, Wanted, Seen, Need, Required, Extra, Repeats, NoChange, Standing, NotQuerier, QuerierTerms, Terms}
use Rattle.mq_laws.proofs.Common.{CheckingValue, all_changed, alone_in, group_of, is_late, is_querier_in, may_be_muted, near, need_by, one_changed, paired}
use Rattle.mq_laws.proofs.Common.{partner_of, verdict_in, with_wanted, with_seen, with_general, general_compared, role_lost, role_returned, with_interval}
use Rattle.mq_laws.proofs.Common.{with_silence, as_wanted, first_entry, first_terms, first_joined, is_free_seen, is_free_wanted, is_possible, may_be_left_out}
use Rattle.mq_laws.proofs.Common.{moment_of, is_over, phase_again, wrong_interval, phase_behind, silence_up_to, SchedulesValue, cause_in, caused, caused_by}
use Rattle.mq_laws.proofs.Common.{dropped, first_of, followed, is_next, last_in, placed, placed_alone, recent, schedules_changed, schedules_seen}
use Rattle.mq_laws.proofs.Common.{schedules_wanted, with_cause, with_next, with_s, without_next, WaitingValue, emptied, room, is_free, with_entry, with_partner}
use Rattle.mq_laws.proofs.Common.{HasToBeSent}
use Rattle.mq_check.specs.{declared.waiting.Side.TheVariants.OfWanted, declared.waiting.Side.TheVariants.OfSeen, Waiting.nothing, Waiting.told, Waiting.purged}
use Rattle.mq_check.specs.{Checking.may_be_missing, Standing.plain}
use Rattle.mq_check.specs.Schedules.{begun, gone_on, is_close, terms_of, unclear, qrv_said, said, with_close}
use Rattle.mq_laws.proofs.{Comings.told_of, Comings.left_of, Unrefused.judged_all, Partners.SameFrom, Partners.same_all}
use Rattle.mq_check.specs.Checking as checking

-- there was room for an entry behind others
pub record Entered (e : Entry ℕ) (w : WaitingValue) : Type 0 where
  pub was : w.is_full ≡ false
  pub entries : (with_entry e w).entries ≡ w.entries ++ e ∷ []

with_room : (e : Entry ℕ) (w : WaitingValue) → nat_lt (length w.entries) room ≡ true → with_entry e w ≡ record w { entries = w.entries ++ e ∷ [] }
unfolding with_entry
with_room e w is = rw is refl

without_room : (e : Entry ℕ) (w : WaitingValue) → nat_lt (length w.entries) room ≡ false → with_entry e w ≡ record w { is_full = true }
unfolding with_entry
without_room e w is = rw is refl

pub entered : (e : Entry ℕ) (w : WaitingValue) → (with_entry e w).is_full ≡ false → Entered e w
entered e w free = elim (nat_lt (length w.entries) room) as (λ b. nat_lt (length w.entries) room ≡ b → Entered e w) [
  | true ↦ λ is. let put = with_room e w is in
      record { was = ap (λ (v : WaitingValue). v.is_full) (sym put) ∙ free; entries = ap (λ (v : WaitingValue). v.entries) put }
  | false ↦ λ is. absurd (let put : true ≡ false = ap (λ (v : WaitingValue). v.is_full) (sym (without_room e w is)) ∙ free in cc)
] refl

-- the findings of the entries that no longer wait when a moment comes
pub told_free : (keep within now : ℕ) (changed : Option ℕ) (w : WaitingValue) → w.is_full ≡ false →
    told keep within now changed [] w ≡ told_of keep within now changed w.entries
unfolding told
told_free keep within now changed w free = rw free (judged_all within changed (take_while (is_over keep now) w.entries))

pub purged_free : (keep now : ℕ) (w : WaitingValue) → w.is_full ≡ false → (purged keep now w).entries ≡ left_of keep now w.entries
unfolding purged
purged_free keep now w free = rw free refl

pub purged_full : (keep now : ℕ) (w : WaitingValue) → (purged keep now w).is_full ≡ w.is_full
unfolding purged
purged_full keep now w = elim w.is_full as (λ b. w.is_full ≡ b → (purged keep now w).is_full ≡ w.is_full) [
  | true ↦ λ is. rw is refl
  | false ↦ λ is. rw is refl
] refl

-- Nothing is known of schedules from before the capture, and none can begin.
pub record IsFresh (s : SchedulesValue) : Type 0 where
  pub held : s.repeats.held_until ≡ 0
  pub first : s.repeats.first_until ≡ 0
  pub known : s.repeats.above_7 ≡ false
  pub next : s.next ≡ nothing

pub fresh_as : (s t : SchedulesValue) → t.repeats ≡ s.repeats → t.next ≡ s.next → IsFresh s → IsFresh t
fresh_as s t repeats next is = record {
  held = ap (λ (r : Repeats). r.held_until) repeats ∙ is.held;
  first = ap (λ (r : Repeats). r.first_until) repeats ∙ is.first;
  known = ap (λ (r : Repeats). r.above_7) repeats ∙ is.known;
  next = next ∙ is.next;
}

nothing_told : (keep within now : ℕ) (changed : Option ℕ) (refused : List ℕ) → told keep within now changed refused nothing ≡ []
unfolding told
nothing_told keep within now changed refused = refl

nothing_purged : (keep now : ℕ) → purged keep now nothing ≡ nothing
unfolding purged
nothing_purged keep now = refl

pub told_now : (within now : ℕ) (c : CheckingValue) → c.waiting.is_full ≡ false → IsFresh c.schedules → c.refused ≡ [] →
    checking.told within now c ≡ told_of c.schedules.repeats.keep within now c.changed c.waiting.entries
told_now within now c free fresh none =
    (λ i. (ap (λ (refused : List ℕ). told c.schedules.repeats.keep within now c.changed refused c.waiting) none
    ∙ told_free c.schedules.repeats.keep within now c.changed c.waiting free) i ++ (
    ap (told c.schedules.repeats.within within now c.changed c.refused) fresh.next
    ∙ nothing_told c.schedules.repeats.within within now c.changed c.refused) i)
    ∙ append-nil (told_of c.schedules.repeats.keep within now c.changed c.waiting.entries)

pub fresh_purged : (now : ℕ) (c : CheckingValue) → IsFresh c.schedules → IsFresh (checking.purged now c).schedules
fresh_purged now c fresh = record {
  held = fresh.held;
  first = fresh.first;
  known = fresh.known;
  next = ap (purged c.schedules.repeats.within now) fresh.next ∙ nothing_purged c.schedules.repeats.within now;
}

-- the retransmission stays
pub recent_repeats : (moment : ℕ) (s : SchedulesValue) → (recent moment s).repeats ≡ s.repeats
recent_repeats moment s = elim (nat_le moment (2 ^ 53)) as (λ b. nat_le moment (2 ^ 53) ≡ b → (recent moment s).repeats ≡ s.repeats) [
  | true ↦ λ is. rw is refl
  | false ↦ λ is. rw is refl
] refl

recent_next : (moment : ℕ) (s : SchedulesValue) → (recent moment s).next ≡ s.next
recent_next moment s = elim (nat_le moment (2 ^ 53)) as (λ b. nat_le moment (2 ^ 53) ≡ b → (recent moment s).next ≡ s.next) [
  | true ↦ λ is. rw is refl
  | false ↦ λ is. rw is refl
] refl

pub fresh_recent : (moment : ℕ) (s : SchedulesValue) → IsFresh s → IsFresh (recent moment s)
fresh_recent moment s is = fresh_as s (recent moment s) (recent_repeats moment s) (recent_next moment s) is

-- no query is still to come, so none is dropped
without_repeats : (asked : Asked ℕ) (s : SchedulesValue) → (without_next asked s).repeats ≡ s.repeats
unfolding without_next
without_repeats asked s = refl

without_fresh : (asked : Asked ℕ) (s : SchedulesValue) → s.next ≡ nothing → (without_next asked s).next ≡ nothing
unfolding without_next
without_fresh asked s next = ap (λ (n : WaitingValue). dropped (terms_of (first_entry (is_free OfSeen asked 0) n.entries)) asked n) next

with_next_repeats : (left due : ℕ) (terms : Terms ℕ) (asked : Asked ℕ) (s : SchedulesValue) → (with_next left due terms asked s).repeats ≡ s.repeats
with_next_repeats left due terms asked s = elim (nat_lt 0 left) as (λ b. nat_lt 0 left ≡ b → (with_next left due terms asked s).repeats ≡ s.repeats) [
  | true ↦ λ is. rw is refl
  | false ↦ λ is. rw is refl
] refl

wanted_next : (moment : ℕ) (terms : Terms ℕ) (asked : Asked ℕ) (s : SchedulesValue) → (schedules_wanted moment terms asked s).next ≡ s.next
unfolding schedules_wanted
wanted_next moment terms asked s = refl

seen_next : (moment : ℕ) (terms : Terms ℕ) (asked : Asked ℕ) (has_partner : Bool) (s : SchedulesValue) →
    (schedules_seen moment terms asked has_partner s).next ≡ s.next
unfolding schedules_seen
seen_next moment terms asked has_partner s = refl

wanted_repeats : (moment : ℕ) (terms : Terms ℕ) (asked : Asked ℕ) (s : SchedulesValue) → (schedules_wanted moment terms asked s).repeats ≡ s.repeats
unfolding schedules_wanted
wanted_repeats moment terms asked s = refl

seen_repeats : (moment : ℕ) (terms : Terms ℕ) (asked : Asked ℕ) (has_partner : Bool) (s : SchedulesValue) →
    (schedules_seen moment terms asked has_partner s).repeats ≡ s.repeats
unfolding schedules_seen
seen_repeats moment terms asked has_partner s = refl

close_repeats : (b : Bool) (moment : ℕ) (terms : Terms ℕ) (asked : Asked ℕ) (s : SchedulesValue) → (with_close b moment terms asked s).repeats ≡ s.repeats
close_repeats true moment terms asked s = refl
close_repeats false moment terms asked s = refl

close_next : (b : Bool) (moment : ℕ) (terms : Terms ℕ) (asked : Asked ℕ) (s : SchedulesValue) → (with_close b moment terms asked s).next ≡ s.next
close_next true moment terms asked s = refl
close_next false moment terms asked s = refl

changed_repeats : (moment : ℕ) (terms : Terms ℕ) (asked : Asked ℕ) (s : SchedulesValue) → (schedules_changed moment terms asked s).repeats ≡ s.repeats
unfolding with_cause
changed_repeats moment terms asked s = close_repeats (is_close moment asked s) moment (said true s.repeats terms) asked s

changed_next : (moment : ℕ) (terms : Terms ℕ) (asked : Asked ℕ) (s : SchedulesValue) → (schedules_changed moment terms asked s).next ≡ s.next
unfolding with_cause
changed_next moment terms asked s = close_next (is_close moment asked s) moment (said true s.repeats terms) asked s

-- no change makes a querier send a query that the link doesn't want
none_caused_by : (repeats : Repeats) (moment : ℕ) (last cause : Option (Entry ℕ)) → repeats.above_7 ≡ false → repeats.held_until ≡ 0 →
    caused_by repeats moment last cause ≡ None
none_caused_by repeats moment last None known held = refl
none_caused_by repeats moment last (Some cause) known held = rw (known, le-ltb (moment_of cause) repeats.held_until (omega (arith, held))) refl

none_caused : (moment : ℕ) (asked : Asked ℕ) (s : SchedulesValue) → IsFresh s → caused moment asked s ≡ None
none_caused moment AllGroups s fresh = refl
none_caused moment (Group group) s fresh = none_caused_by s.repeats moment _ _ fresh.known fresh.held
none_caused moment (Source group source) s fresh =
    let asked = Source group source in
    let none : (cause : Option (Entry ℕ)) → caused_by s.repeats moment (last_in asked s) cause ≡ None =
    λ cause. none_caused_by s.repeats moment (last_in asked s) cause fresh.known fresh.held in
    λ i. first_of (none (cause_in asked s) i) (none (cause_in (Group group) s) i)

none_followed : (moment : ℕ) (is_above : Bool) (asked : Asked ℕ) (s : SchedulesValue) → IsFresh s → followed moment is_above asked s ≡ None
none_followed moment is_above asked s fresh =
    ap (λ (n : WaitingValue). let next = first_entry (is_free OfSeen asked 0) n.entries in
    if is_next s.repeats moment next && not (is_some (caused moment asked s)) then with_s is_above (terms_of next) else None) fresh.next

-- so no query begins a schedule from before the capture
gone_on_repeats : (moment : ℕ) (seen : Terms ℕ) (asked : Asked ℕ) (s : SchedulesValue) → (gone_on moment seen asked s).repeats ≡ s.repeats
unfolding gone_on
gone_on_repeats moment seen asked s = with_next_repeats _ _ _ asked (without_next asked s) ∙ without_repeats asked s

begun_repeats : (moment : ℕ) (wanted : Terms ℕ) (asked : Asked ℕ) (s : SchedulesValue) → (begun moment wanted asked s).repeats ≡ s.repeats
unfolding begun
begun_repeats moment wanted asked s =
    with_next_repeats _ _ _ asked (without_next asked (schedules_wanted moment wanted asked s)) ∙
    without_repeats asked (schedules_wanted moment wanted asked s) ∙ wanted_repeats moment wanted asked s

alone_repeats : (moment : ℕ) (terms : Terms ℕ) (asked : Asked ℕ) (is_possible : Bool) (cause : Option (Terms ℕ)) (s : SchedulesValue) →
    (placed_alone moment terms asked is_possible cause s).repeats ≡ s.repeats
alone_repeats moment terms asked false cause s = seen_repeats moment terms asked false s
alone_repeats moment terms asked true None s = seen_repeats moment terms asked s.repeats.above_7 s
alone_repeats moment terms asked true (Some wanted) s =
    begun_repeats moment wanted asked (schedules_seen moment terms asked true s) ∙ seen_repeats moment terms asked true s

placed_repeats : (moment : ℕ) (terms : Terms ℕ) (asked : Asked ℕ) (has_partner follows is_possible : Bool) (cause : Option (Terms ℕ)) (s : SchedulesValue) →
    (placed moment terms asked has_partner follows is_possible cause s).repeats ≡ s.repeats
placed_repeats moment terms asked true follows is_possible cause s = seen_repeats moment terms asked true s
placed_repeats moment terms asked false true is_possible cause s =
    gone_on_repeats moment terms asked (schedules_seen moment terms asked true s) ∙ seen_repeats moment terms asked true s
placed_repeats moment terms asked false false is_possible cause s = alone_repeats moment terms asked is_possible cause s

placed_next : (moment : ℕ) (terms : Terms ℕ) (asked : Asked ℕ) (has_partner is_possible : Bool) (s : SchedulesValue)
    → (placed moment terms asked has_partner false is_possible None s).next ≡ s.next
placed_next moment terms asked true is_possible s = seen_next moment terms asked true s
placed_next moment terms asked false true s = seen_next moment terms asked s.repeats.above_7 s
placed_next moment terms asked false false s = seen_next moment terms asked false s

-- the need of a query, if no host of an older version was there before the capture
abbrev pub need_now : (now : ℕ) → Asked ℕ → Terms ℕ → CheckingValue → Need
need_now now asked terms c = need_by (may_be_left_out now asked terms c.waiting.entries) (is_some (unclear asked (recent now c.schedules)))

-- something was wanted
pub record WantedPart (now : ℕ) (is_again : Bool) (terms : Terms ℕ) (c : CheckingValue) (asked : Asked ℕ) : Type 0 where
  pub was : c.waiting.is_full ≡ false
  pub phase : (with_wanted now is_again terms c asked).phase ≡ c.phase
  pub last : (with_wanted now is_again terms c asked).last_general ≡ c.last_general
  pub repeats : (with_wanted now is_again terms c asked).schedules.repeats ≡ c.schedules.repeats
  pub fresh : IsFresh c.schedules → IsFresh (with_wanted now is_again terms c asked).schedules
  pub entries : IsFresh c.schedules → SameFrom (is_free_seen asked) (near now c) c.waiting.entries → (with_wanted now is_again terms c asked).waiting.entries
      ≡ first_joined (is_free_seen asked) terms c.waiting.entries ++ Wanted now asked terms (need_now now asked terms c)
      (is_some (first_terms (is_free_seen asked) c.waiting.entries)) ∷ []

-- no host of an older version was there before the capture
or_false : (a b : Bool) → b ≡ false → (a || b) ≡ a
or_false true b fails = refl
or_false false b fails = fails

never_muted : (now : ℕ) (is_again : Bool) (asked : Asked ℕ) (c : CheckingValue) → IsFresh c.schedules → may_be_muted now is_again asked c ≡ false
never_muted now is_again (Source group source) c fresh = rw (le-ltb now c.schedules.repeats.held_until (omega (arith, fresh.held))) refl
never_muted now is_again _ c fresh = refl

pub wanted_part : (now : ℕ) (is_again : Bool) (terms : Terms ℕ) (c : CheckingValue) (asked : Asked ℕ)
    → (with_wanted now is_again terms c asked).waiting.is_full ≡ false → WantedPart now is_again terms c asked
unfolding with_wanted with_partner
wanted_part now is_again terms c asked free =
    let recently : CheckingValue = record c { schedules = recent now c.schedules } in
    let need = need_by (may_be_left_out now asked terms c.waiting.entries) (may_be_missing now is_again asked recently) in
    let e = Wanted now asked terms need (is_some (first_terms (is_free OfSeen asked (near now c)) c.waiting.entries)) in
    let put = entered e (with_partner OfSeen asked (near now c) terms c.waiting) free in
    let before = recent now c.schedules in
    let wanted = schedules_wanted now terms asked before in
    let repeats : (without_next asked wanted).repeats ≡ c.schedules.repeats =
    without_repeats asked wanted ∙ wanted_repeats now terms asked before ∙ recent_repeats now c.schedules in
    record {
      was = put.was;
      phase = refl;
      last = refl;
      repeats = repeats;
      fresh = λ is. record {
        held = ap (λ (r : Repeats). r.held_until) repeats ∙ is.held;
        first = ap (λ (r : Repeats). r.first_until) repeats ∙ is.first;
        known = ap (λ (r : Repeats). r.above_7) repeats ∙ is.known;
        next = without_fresh asked wanted (wanted_next now terms asked before ∙ (fresh_recent now c.schedules is).next);
      };
      entries = λ is same. put.entries ∙ (λ i. same.joined terms i
          ++ Wanted now asked terms (need_by (may_be_left_out now asked terms c.waiting.entries)
          (or_false (is_some (unclear asked recently.schedules)) (may_be_muted now is_again asked recently)
          (never_muted now is_again asked recently (fresh_recent now c.schedules is)) i)) (is_some (same.terms i)) ∷ []);
    }

-- in a strict check nothing is unclear
strict_clear : (asked : Asked ℕ) (s : SchedulesValue) → s.repeats.more ≡ 0 → unclear asked s ≡ None
strict_clear asked s none = rw (le-ltb 0 s.repeats.more (omega (arith, none))) refl

-- so a query that has to be sent may not be left out
pub required : (now : ℕ) (asked : Asked ℕ) (terms : Terms ℕ) (c : CheckingValue) → c.schedules.repeats.more ≡ 0 → HasToBeSent asked terms →
    need_now now asked terms c ≡ Required
required now asked terms c none must =
    let before = recent now c.schedules in
    let clear = strict_clear asked before (ap (λ (r : Repeats). r.more) (recent_repeats now c.schedules) ∙ none) in
    ap (λ (o : Option (Terms ℕ)). need_by (may_be_left_out now asked terms c.waiting.entries) (is_some o)) clear ∙ by_subject asked must
  where
    by_subject : (a : Asked ℕ) → HasToBeSent a terms → need_by (may_be_left_out now a terms c.waiting.entries) false ≡ Required
    by_subject AllGroups must = refl
    by_subject (Group group) must = refl
    by_subject (Source group source) must = ap (λ (b : Bool). need_by b false) (and_left _ _ must)

-- A seen query finds the first wanted query without a partner, if that lies within the tolerance. So it is never late.
partner_is : (now : ℕ) (terms : Terms ℕ) (asked : Asked ℕ) (c : CheckingValue) → SameFrom (is_free_wanted asked) (near now c) c.waiting.entries
    → partner_of now terms asked c ≡ first_terms (is_free_wanted asked) c.waiting.entries
partner_is now terms asked c same =
    let es = c.waiting.entries in
    let all = same_all (is_free_wanted asked) es in
    elim (first_terms (is_free_wanted asked) es) as (λ o. first_terms (is_free_wanted asked) es ≡ o →
    partner_of now terms asked c ≡ first_terms (is_free_wanted asked) es) [
      | None ↦ λ none.
          let near_is : first_terms (is_free OfWanted asked (near now c)) es ≡ None = same.terms ∙ none in
          let all_is : first_terms (is_free OfWanted asked 0) es ≡ None = all.terms ∙ none in
          elim (is_late now asked c) as (λ b. is_late now asked c ≡ b → partner_of now terms asked c ≡ first_terms (is_free_wanted asked) es) [
            | true ↦ λ late. rw (late, all_is, none) refl
            | false ↦ λ early. rw (early, near_is, none) refl
          ] refl
      | Some t ↦ λ some.
          let near_is : first_terms (is_free OfWanted asked (near now c)) es ≡ Some t = same.terms ∙ some in
          rw (near_is, some) near_is
    ] refl

paired_is : (now : ℕ) (terms : Terms ℕ) (asked : Asked ℕ) (c : CheckingValue) → SameFrom (is_free_wanted asked) (near now c) c.waiting.entries
    → (paired now terms asked c).entries ≡ first_joined (is_free_wanted asked) terms c.waiting.entries
unfolding with_partner
paired_is now terms asked c same =
    elim (is_late now asked c) as
    (λ b. is_late now asked c ≡ b → (paired now terms asked c).entries ≡ first_joined (is_free_wanted asked) terms c.waiting.entries) [
      | true ↦ λ late. rw late ((same_all (is_free_wanted asked) c.waiting.entries).joined terms)
      | false ↦ λ early. rw early (same.joined terms)
    ] refl

paired_full : (now : ℕ) (terms : Terms ℕ) (asked : Asked ℕ) (c : CheckingValue) → (paired now terms asked c).is_full ≡ c.waiting.is_full
unfolding with_partner
paired_full now terms asked c = elim (is_late now asked c) as (λ b. is_late now asked c ≡ b → (paired now terms asked c).is_full ≡ c.waiting.is_full) [
  | true ↦ λ late. rw late refl
  | false ↦ λ early. rw early refl
] refl

-- something was seen
pub record SeenPart (now : ℕ) (terms : Terms ℕ) (standing : Standing) (c : CheckingValue) (asked : Asked ℕ) : Type 0 where
  pub was : c.waiting.is_full ≡ false
  pub phase : (with_seen now terms standing c asked).phase ≡ c.phase
  pub last : (with_seen now terms standing c asked).last_general ≡ c.last_general
  pub repeats : (with_seen now terms standing c asked).schedules.repeats ≡ c.schedules.repeats
  pub fresh : IsFresh c.schedules → IsFresh (with_seen now terms standing c asked).schedules
  pub entries : IsFresh c.schedules → SameFrom (is_free_wanted asked) (near now c) c.waiting.entries → (with_seen now terms standing c asked).waiting.entries
      ≡ first_joined (is_free_wanted asked) terms c.waiting.entries ++ Seen now asked terms (first_terms (is_free_wanted asked) c.waiting.entries)
      (verdict_in now terms standing asked c) ∷ []

or_none : (o : Option (Terms ℕ)) → first_of o None ≡ o
or_none None = refl
or_none (Some terms) = refl

pub seen_part : (now : ℕ) (terms : Terms ℕ) (standing : Standing) (c : CheckingValue) (asked : Asked ℕ) →
    (with_seen now terms standing c asked).waiting.is_full ≡ false → SeenPart now terms standing c asked
unfolding with_seen
seen_part now terms standing c asked free =
    let before = recent now c.schedules in
    let alone = alone_in now terms standing asked c in
    let verdict = verdict_in now terms standing asked c in
    let next = followed now standing.is_above asked before in
    let e = Seen now asked terms (first_of (partner_of now terms asked c) next) verdict in
    let put = entered e (paired now terms asked c) free in
    let repeats = placed_repeats now terms asked (is_some (partner_of now terms asked c)) (is_some next) (is_possible alone) (caused now asked before) before ∙
    recent_repeats now c.schedules in
    record {
      was = sym (paired_full now terms asked c) ∙ put.was;
      phase = refl;
      last = refl;
      repeats = repeats;
      fresh = λ is.
          let there = fresh_recent now c.schedules is in
          record {
            held = ap (λ (r : Repeats). r.held_until) repeats ∙ is.held;
            first = ap (λ (r : Repeats). r.first_until) repeats ∙ is.first;
            known = ap (λ (r : Repeats). r.above_7) repeats ∙ is.known;
            next = (λ i. (placed now terms asked (is_some (partner_of now terms asked c))
                (is_some (none_followed now standing.is_above asked before there i)) (is_possible alone) (none_caused now asked before there i) before).next)
                ∙ placed_next now terms asked (is_some (partner_of now terms asked c)) (is_possible alone) before ∙ there.next;
          };
      entries = λ is same.
          let none = none_followed now standing.is_above asked before (fresh_recent now c.schedules is) in
          put.entries ∙
          (λ i. paired_is now terms asked c same i ++ Seen now asked terms (first_of (partner_is now terms asked c same i) (none i)) verdict ∷ []) ∙
          ap (λ (o : Option (Terms ℕ)). first_joined (is_free_wanted asked) terms c.waiting.entries ++ Seen now asked terms o verdict ∷ [])
          (or_none (first_terms (is_free_wanted asked) c.waiting.entries));
    }

-- a general query was seen in its time, while the router is querier
pub record GeneralPart (within : ℕ) (timing : Timing) (now : ℕ) (terms wanted : Terms ℕ) (c : CheckingValue) : Type 0 where
  pub was : c.waiting.is_full ≡ false
  pub phase : (with_general within timing now terms wanted c).phase ≡ phase_behind within timing now c.phase
  pub schedules : (with_general within timing now terms wanted c).schedules ≡ c.schedules
  pub entries : (with_general within timing now terms wanted c).waiting.entries
      ≡ first_joined (is_free OfWanted AllGroups (near now c)) terms c.waiting.entries ++ Seen now AllGroups terms (Some wanted) (as_wanted (Extra NoChange))
      ∷ []

pub general_part : (within : ℕ) (timing : Timing) (now : ℕ) (terms wanted : Terms ℕ) (c : CheckingValue) → wrong_interval within timing now c.phase ≡ None
    → (with_general within timing now terms wanted c).waiting.is_full ≡ false → GeneralPart within timing now terms wanted c
unfolding with_general with_partner
general_part within timing now terms wanted c in_time free =
    let e = Seen now AllGroups terms (Some wanted) (as_wanted (Extra NoChange)) in
    let put : Entered e (with_partner OfWanted AllGroups (near now c) terms c.waiting) =
    entered e (with_partner OfWanted AllGroups (near now c) terms c.waiting) (rw in_time at free) in
    record { was = put.was; phase = refl; schedules = refl; entries = rw in_time put.entries }

-- the role is lost in time
pub record LostPart (within : ℕ) (timing : Timing) (now : ℕ) (c : CheckingValue) : Type 0 where
  pub waiting : (role_lost within timing now c).waiting ≡ c.waiting
  pub phase : (role_lost within timing now c).phase ≡ NotQuerier
  pub last : (role_lost within timing now c).last_general ≡ c.last_general
  pub repeats : (role_lost within timing now c).schedules.repeats ≡ c.schedules.repeats
  pub fresh : IsFresh c.schedules → IsFresh (role_lost within timing now c).schedules

pub lost_part : (within : ℕ) (timing : Timing) (now : ℕ) (c : CheckingValue) → silence_up_to within timing now c.phase ≡ None → LostPart within timing now c
unfolding role_lost
lost_part within timing now c in_time = record {
  waiting = rw in_time refl;
  phase = refl;
  last = refl;
  repeats = refl;
  fresh = λ is. record { held = is.held; first = is.first; known = is.known; next = ap emptied is.next };
}

-- where there is room at the end, there was at the beginning
pub interval_free : (timing : Timing) (now packet : ℕ) (passed : Option ℕ) (w : WaitingValue) → (with_interval timing now packet passed w).is_full
    ≡ false → w.is_full ≡ false
interval_free timing now packet None w free = free
interval_free timing now packet (Some passed) w free = (entered _ w free).was

silence_free : (timing : Timing) (now : ℕ) (passed : Option ℕ) (w : WaitingValue) → (with_silence timing now passed w).is_full ≡ false → w.is_full ≡ false
silence_free timing now None w free = free
silence_free timing now (Some passed) w free = (entered _ w free).was

with_general_free : (within : ℕ) (timing : Timing) (now : ℕ) (terms wanted : Terms ℕ) (c : CheckingValue) →
    (with_general within timing now terms wanted c).waiting.is_full ≡ false → c.waiting.is_full ≡ false
unfolding with_general with_partner
with_general_free within timing now terms wanted c free = interval_free timing now terms.packet (wrong_interval within timing now c.phase) c.waiting
    (entered _ _ free).was

-- a general query is as in the link if the Robustness Variable is known
qrv_known : (fields : Option QuerierTerms) → qrv_said false false fields ≡ fields
qrv_known None = refl
qrv_known (Some fields) = refl

pub said_known : (repeats : Repeats) (terms : Terms ℕ) → repeats.above_7 ≡ false → said false repeats terms ≡ terms
said_known repeats terms known =
    λ i. record terms { querier = (ap (λ (b : Bool). qrv_said b false terms.querier) known ∙ qrv_known terms.querier) i }

-- a general query, where the router is querier, and where it isn't
pub compared_querier : (within : ℕ) (timing : Timing) (now : ℕ) (terms wanted : Terms ℕ) (c : CheckingValue) → is_querier_in c.phase ≡ true →
    general_compared within timing now terms wanted c ≡ with_general within timing now terms (said false c.schedules.repeats wanted) c
compared_querier within timing now terms wanted c is = rw is refl

pub compared_other : (within : ℕ) (timing : Timing) (now : ℕ) (terms wanted : Terms ℕ) (c : CheckingValue) → is_querier_in c.phase ≡ false →
    general_compared within timing now terms wanted c ≡ with_seen now terms plain c AllGroups
compared_other within timing now terms wanted c is = rw is refl

pub general_free : (within : ℕ) (timing : Timing) (now : ℕ) (terms wanted : Terms ℕ) (c : CheckingValue) →
    (general_compared within timing now terms wanted c).waiting.is_full ≡ false → c.waiting.is_full ≡ false
general_free within timing now terms wanted c free = elim (is_querier_in c.phase) as (λ b. is_querier_in c.phase ≡ b → c.waiting.is_full ≡ false) [
  | true ↦ λ is. with_general_free within timing now terms (said false c.schedules.repeats wanted) c
      (ap (λ (d : CheckingValue). d.waiting.is_full) (sym (compared_querier within timing now terms wanted c is)) ∙ free)
  | false ↦ λ is. (seen_part now terms plain c AllGroups
      (ap (λ (d : CheckingValue). d.waiting.is_full) (sym (compared_other within timing now terms wanted c is)) ∙ free)).was
] refl

pub lost_free : (within : ℕ) (timing : Timing) (now : ℕ) (c : CheckingValue) → (role_lost within timing now c).waiting.is_full ≡ false →
    c.waiting.is_full ≡ false
unfolding role_lost
lost_free within timing now c free = silence_free timing now (silence_up_to within timing now c.phase) c.waiting free

pub returned_free : (within now : ℕ) (c : CheckingValue) → (role_returned within now c).waiting.is_full ≡ false → c.waiting.is_full ≡ false
unfolding role_returned
returned_free within now c free = free

-- the router has the role again
pub record ReturnedPart (within now : ℕ) (c : CheckingValue) : Type 0 where
  pub waiting : (role_returned within now c).waiting ≡ c.waiting
  pub phase : (role_returned within now c).phase ≡ phase_again within now c.last_general
  pub last : (role_returned within now c).last_general ≡ c.last_general
  pub schedules : (role_returned within now c).schedules ≡ c.schedules

pub returned_part : (within now : ℕ) (c : CheckingValue) → ReturnedPart within now c
unfolding role_returned
returned_part within now c = record { waiting = refl; phase = refl; last = refl; schedules = refl }

-- hosts made changes
pub record ChangedPart (now : ℕ) (terms : ℕ → Terms ℕ) (asked : List (Asked ℕ)) (c : CheckingValue) : Type 0 where
  pub waiting : (all_changed now terms asked c).waiting ≡ c.waiting
  pub phase : (all_changed now terms asked c).phase ≡ c.phase
  pub last : (all_changed now terms asked c).last_general ≡ c.last_general
  pub repeats : (all_changed now terms asked c).schedules.repeats ≡ c.schedules.repeats
  pub next : (all_changed now terms asked c).schedules.next ≡ c.schedules.next

pub changed_part : (now : ℕ) (terms : ℕ → Terms ℕ) (asked : List (Asked ℕ)) (c : CheckingValue) → ChangedPart now terms asked c
changed_part now terms [] c = record { waiting = refl; phase = refl; last = refl; repeats = refl; next = refl }
changed_part now terms (a ∷ more) c =
    let rest = changed_part now terms more (one_changed now terms c a) in
    let before = recent now c.schedules in
    record {
      waiting = rest.waiting;
      phase = rest.phase;
      last = rest.last;
      repeats = rest.repeats ∙ changed_repeats now (terms (group_of a)) a before ∙ recent_repeats now c.schedules;
      next = rest.next ∙ changed_next now (terms (group_of a)) a before ∙ recent_next now c.schedules;
    }

pub changed_free : (now : ℕ) (terms : ℕ → Terms ℕ) (asked : List (Asked ℕ)) (c : CheckingValue) →
    (all_changed now terms asked c).waiting.is_full ≡ false → c.waiting.is_full ≡ false
changed_free now terms asked c free = ap (λ (w : WaitingValue). w.is_full) (sym (changed_part now terms asked c).waiting) ∙ free
