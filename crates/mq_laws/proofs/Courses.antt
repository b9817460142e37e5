-- The findings in the course of a check whose queries pair up.
use Rattle.mq_laws.proofs.Common.{◌≡◌, ℕ, ◌+◌, ◌-◌, ◌≤◌, Bool, true, false, List, [], ◌∷◌, ◌++◌, refl, ap, sym, ◌∙◌, arith, subst, append_assoc, Option, None}
use Rattle.mq_laws.proofs.Common.{Some, fold, min, nat_le, if◌then◌else◌, Timing, Asked, AllGroups, CheckFlags, Entry, Finding, NotQuerier, Repeats, Standing}
use Rattle.mq_laws.proofs.Common.{Terms, CheckingValue, all_changed, is_querier_in, near, subject_wanted, with_seen, one_seen, with_general, general_compared}
use Rattle.mq_laws.proofs.Common.{general_seen, specific_seen, role_lost, role_returned, purged, told, verdict_in, with_fault, with_s_judged, is_free_seen}
use Rattle.mq_laws.proofs.Common.{is_free_wanted, terms_differ, wrong_interval, phase_again, phase_behind, silence_up_to, is_same, SchedulesValue, keep_in}
use Rattle.mq_laws.proofs.Common.{repeats_in, terms_wanted, WaitingValue, Ask, Expected, Sent, LeftOut, ask_of, asks_of, kept_for, missing_of, wanted_about}
use Rattle.mq_laws.proofs.Common.{CheckEvent, Comes, Wants, Sees, SeesGeneral, LosesRole, HasRoleAgain, SeesFault, Changes, Judges, moment_behind, check_by}
use Rattle.mq_laws.proofs.Common.{Refuses, told_by, moment_behind_all, check_by_all, told_by_all, asks_at, asks_wanted, wanted_in, general_ask}
use Rattle.mq_laws.proofs.Common.{general_returned, all_seen, all_wanted, return_seen, return_wanted, still_due, Returns, AreInOrder, AreOnTime, IsAsWantedThen}
use Rattle.mq_laws.proofs.Common.{AreMissed}
use Rattle.mq_check.specs.declared.phase.Phase.{Phase, TheVariants.Starting}
use Rattle.mq_check.specs.{Checking.groups_refused, Refused.with_refused, Schedules.more_for, Schedules.more_in, Standing.plain}
use Rattle.mq_laws.specs.WantedAndSeen.{seen_in}
use Rattle.mq_laws.proofs.{Held.ask, Held.IsKept, Held.ascending-to, Held.moments_wanted, Held.still_later, Rooms.changed_free, Rooms.changed_part}
use Rattle.mq_laws.proofs.{Same.same_asked, Judged.judged_entries, Judged.judged_free, Judged.returns_judged, Judged.stands_judged, Rooms.returned_part}
use Rattle.mq_laws.proofs.{Partners.SameFrom, Comings.WantedFrom, Comings.SeenFrom, Comings.Waits, Comings.comes, Comings.left_of, Comings.told_of}
use Rattle.mq_laws.proofs.Steps.{Stands, Stepped, general_one, returns_of, see_one, seen_near, want_one, wanted_near}
use Rattle.mq_laws.proofs.Unrefused.{changes_stay, general_stays, lost_stays, returned_stays, sees_stay, wants_stay}
use Rattle.mq_laws.proofs.Rooms.{IsFresh, fresh_as, fresh_purged, entered, wanted_part, seen_part, general_part, lost_part, need_now, required, told_now}
use Rattle.mq_laws.proofs.Rooms.{purged_free, purged_full, compared_querier, compared_other, said_known, general_free, lost_free, returned_free}

-- The entries that wait after some steps, and the general queries among them.
pub record StepsTo (within keep now : ℕ) (entries : List (Entry ℕ)) (before wanted : List Expected) (seen : List Ask) (returns : Returns) : Type 0 where
  pub left : List Expected
  pub stands : Stands within keep now entries left wanted seen
  pub missing : missing_of before ≡ missing_of (left ++ wanted)
  pub returns_are : returns_of within now AllGroups left entries ≡ returns

abbrev pub general_returns : (within now : ℕ) → List Expected → List (Entry ℕ) → Returns
general_returns within now free entries = returns_of within now AllGroups free entries

-- one step, as far as general queries go
stepped : (within keep now : ℕ) (asked : Asked ℕ) (step : (due early : List ℕ) → Returns) (old entries : List (Entry ℕ))
    (free before wanted : List Expected) (seen : List Ask) → Stepped within keep now asked step old entries free before wanted seen
    → StepsTo within keep now entries before wanted seen
    (if is_same AllGroups asked then step (general_returns within now free old).due (general_returns within now free old).early else general_returns
    within now free old)
stepped within keep now asked step old entries free before wanted seen s = record {
  left = s.left;
  stands = s.stands;
  missing = s.missing;
  returns_are = elim (is_same AllGroups asked) as (λ b. is_same AllGroups asked ≡ b → returns_of within now AllGroups s.left entries
      ≡ (if is_same AllGroups asked then step (general_returns within now free old).due (general_returns within now free old).early else
      general_returns within now free old)) [
        | true ↦ λ same.
            let is : AllGroups ≡ asked = same_asked AllGroups asked same in
            rw same (subst (λ (a : Asked ℕ). returns_of within now a s.left entries ≡ step (returns_of within now a free old).due
            (returns_of within now a free old).early) (sym is) s.here)
        | false ↦ λ differs. rw differs (s.others AllGroups differs)
      ] refl;
}

-- the first moment within the tolerance, as the check has it
near_as : (within now : ℕ) (test : Entry ℕ → Bool) (c : CheckingValue) → c.schedules.repeats.within ≡ within →
    SameFrom test (now - within) c.waiting.entries → SameFrom test (near now c) c.waiting.entries
near_as within now test c within_is same = subst (λ (w : ℕ). SameFrom test (now - w) c.waiting.entries) (sym within_is) same

-- the rest of a moment after some of its wanted queries
pub record WantedAll (strict : Bool) (within keep end now : ℕ) (c after : CheckingValue) (free before : List Expected) (seen : List Ask) (rest : List Ask)
    (returns : Returns) : Type 0 where
  pub wanted : List Expected
  pub step : StepsTo within keep now after.waiting.entries before wanted seen returns
  pub asks : asks_of wanted ≡ rest
  pub missed : AreMissed strict keep end wanted
  pub phase : after.phase ≡ c.phase
  pub last : after.last_general ≡ c.last_general
  pub repeats : after.schedules.repeats ≡ c.schedules.repeats
  pub fresh : IsFresh after.schedules

kept_of : (strict : Bool) (keep end now : ℕ) (a : Asked ℕ) (terms : Terms ℕ) (c : CheckingValue) (x : Expected) (xs : List Expected)
    → (strict ≡ true → c.schedules.repeats.more ≡ 0) → ask_of x ≡ ask now a terms → AreMissed strict keep end (x ∷ xs) →
    IsKept now a terms (need_now now a terms c) x
kept_of strict keep end now a terms c (Sent w) xs none is missed = is
kept_of strict keep end now a terms c (LeftOut w) xs none is missed =
    (is, required now a terms c (none missed.0.is_strict) (rw is at missed.0.has_to_be_sent))

missed_behind : (strict : Bool) (keep end : ℕ) (x : Expected) (xs : List Expected) → AreMissed strict keep end (x ∷ xs) → AreMissed strict keep end xs
missed_behind strict keep end (Sent w) xs missed = missed
missed_behind strict keep end (LeftOut w) xs missed = missed.1

-- the terms that a check gives a query of the link about a thing
abbrev given : (is_again : Bool) → Terms ℕ → Asked ℕ → CheckingValue → Terms ℕ
given is_again terms asked c = terms_wanted is_again terms asked c.schedules

pub wants_free : (now : ℕ) (is_again : Bool) (terms : Terms ℕ) (asked : List (Asked ℕ)) (c : CheckingValue) →
    (fold (subject_wanted now is_again terms) c asked).waiting.is_full ≡ false → c.waiting.is_full ≡ false
wants_free now is_again terms [] c free = free
wants_free now is_again terms (a ∷ more) c free =
    (wanted_part now is_again (given is_again terms a c) c a (wants_free now is_again terms more (subject_wanted now is_again terms c a) free)).was

wants_all : (strict : Bool) (within keep end now : ℕ) (is_again : Bool) (terms : Terms ℕ) (asked : List (Asked ℕ)) (c : CheckingValue)
    (free expected : List Expected) (seen : List Ask) (rest : List Ask)
    → IsFresh c.schedules → c.schedules.repeats.within ≡ within → (strict ≡ true → c.schedules.repeats.more ≡ 0) →
    asks_of expected ≡ asks_wanted now is_again terms asked c ++ rest → AreMissed strict keep end expected →
    (fold (subject_wanted now is_again terms) c asked).waiting.is_full ≡ false → Stands within keep now c.waiting.entries free expected seen
    → WantedAll strict within keep end now c (fold (subject_wanted now is_again terms) c asked) free (free ++ expected) seen rest
    (all_wanted now asked (general_returns within now free c.waiting.entries))
wants_all strict within keep end now is_again terms [] c free expected seen rest is_fresh within_is none is missed room st =
    record {
      wanted = expected;
      step = record { left = free; stands = st; missing = refl; returns_are = refl };
      asks = is;
      missed = missed;
      phase = refl;
      last = refl;
      repeats = refl;
      fresh = is_fresh;
    }
wants_all strict within keep end now is_again terms (a ∷ more) c free [] seen rest is_fresh within_is none is missed room st = absurd (cc)
wants_all strict within keep end now is_again terms (a ∷ more) c free (x ∷ xs) seen rest is_fresh within_is none is missed room st =
    let t = given is_again terms a c in
    let next = subject_wanted now is_again terms c a in
    let first : ask_of x ≡ ask now a t = cc in
    let others : asks_of xs ≡ asks_wanted now is_again terms more next ++ rest = cc in
    let part = wanted_part now is_again t c a (wants_free now is_again terms more next room) in
    let r = general_returns within now free c.waiting.entries in
    let near_is : SameFrom (is_free_seen a) (near now c) c.waiting.entries =
    near_as within now (is_free_seen a) c within_is (seen_near within keep now a t x c.waiting.entries free xs seen first st) in
    let one : StepsTo within keep now next.waiting.entries (free ++ x ∷ xs) xs seen (if is_same AllGroups a then return_wanted now r.due r.early else r) =
    rw (part.entries is_fresh near_is) (stepped within keep now a (return_wanted now) _ _ free (free ++ x ∷ xs) xs seen
    (want_one within keep now a t (need_now now a t c) x c.waiting.entries free xs seen
    (kept_of strict keep end now a t c x xs none first missed) st)) in
    let all = wants_all strict within keep end now is_again terms more next one.left xs seen rest (part.fresh is_fresh)
    (ap (λ (r : Repeats). r.within) part.repeats ∙ within_is) (λ is. ap (λ (r : Repeats). r.more) part.repeats ∙ none is)
    others (missed_behind strict keep end x xs missed) room one.stands in
    record {
      wanted = all.wanted;
      step = record {
        left = all.step.left;
        stands = all.step.stands;
        missing = one.missing ∙ all.step.missing;
        returns_are = all.step.returns_are ∙ ap (all_wanted now more) one.returns_are;
      };
      asks = all.asks;
      missed = all.missed;
      phase = all.phase ∙ part.phase;
      last = all.last ∙ part.last;
      repeats = all.repeats ∙ part.repeats;
      fresh = all.fresh;
    }

-- all that a query asks about that was seen
pub record SeenAll (within keep now : ℕ) (c after : CheckingValue) (free before wanted : List Expected) (rest : List Ask) (returns : Returns) : Type 0 where
  pub step : StepsTo within keep now after.waiting.entries before wanted rest returns
  pub phase : after.phase ≡ c.phase
  pub last : after.last_general ≡ c.last_general
  pub repeats : after.schedules.repeats ≡ c.schedules.repeats
  pub fresh : IsFresh after.schedules

sees_free : (now : ℕ) (terms : Terms ℕ) (standing : Asked ℕ → Standing) (asked : List (Asked ℕ)) (c : CheckingValue) →
    (fold (one_seen now terms standing) c asked).waiting.is_full ≡ false → c.waiting.is_full ≡ false
sees_free now terms standing [] c free = free
sees_free now terms standing (a ∷ more) c free =
    (seen_part now terms (standing a) c a (sees_free now terms standing more (with_seen now terms (standing a) c a) free)).was

sees_all : (within keep now : ℕ) (terms : Terms ℕ) (standing : Asked ℕ → Standing) (asked : List (Asked ℕ)) (c : CheckingValue)
    (free wanted : List Expected) (rest : List Ask)
    → IsFresh c.schedules → c.schedules.repeats.within ≡ within → (fold (one_seen now terms standing) c asked).waiting.is_full ≡ false
    → Stands within keep now c.waiting.entries free wanted (asks_at now terms asked ++ rest)
    → SeenAll within keep now c (fold (one_seen now terms standing) c asked) free (free ++ wanted) wanted rest
    (all_seen now asked (general_returns within now free c.waiting.entries))
sees_all within keep now terms standing [] c free wanted rest is_fresh within_is room st = record {
  step = record { left = free; stands = st; missing = refl; returns_are = refl };
  phase = refl;
  last = refl;
  repeats = refl;
  fresh = is_fresh;
}
sees_all within keep now terms standing (a ∷ more) c free wanted rest is_fresh within_is room st =
    let next = with_seen now terms (standing a) c a in
    let part = seen_part now terms (standing a) c a (sees_free now terms standing more next room) in
    let r = general_returns within now free c.waiting.entries in
    let near_is : SameFrom (is_free_wanted a) (near now c) c.waiting.entries =
    near_as within now (is_free_wanted a) c within_is (wanted_near within keep now a terms c.waiting.entries free wanted (asks_at now terms more ++ rest) st) in
    let one : StepsTo within keep now next.waiting.entries (free ++ wanted) wanted (asks_at now terms more ++ rest)
    (if is_same AllGroups a then return_seen now r.due r.early else r) =
    rw (part.entries is_fresh near_is) (stepped within keep now a (return_seen now) _ _ free (free ++ wanted) wanted (asks_at now terms more ++ rest)
    (see_one within keep now a terms (verdict_in now terms (standing a) a c) c.waiting.entries free wanted (asks_at now terms more ++ rest) st)) in
    let all = sees_all within keep now terms standing more next one.left wanted rest (part.fresh is_fresh)
    (ap (λ (r : Repeats). r.within) part.repeats ∙ within_is) room one.stands in
    record {
      step = record {
        left = all.step.left;
        stands = all.step.stands;
        missing = one.missing ∙ all.step.missing;
        returns_are = all.step.returns_are ∙ ap (all_seen now more) one.returns_are;
      };
      phase = all.phase ∙ part.phase;
      last = all.last ∙ part.last;
      repeats = all.repeats ∙ part.repeats;
      fresh = all.fresh;
    }

-- where there is room at the end, there was at the beginning
pub all_free : (within : ℕ) (timing : Timing) (now : ℕ) (events : List CheckEvent) (c : CheckingValue) →
    (check_by_all within timing now events c).waiting.is_full ≡ false → c.waiting.is_full ≡ false
all_free within timing now [] c free = free
all_free within timing now (Comes moment ∷ es) c free = sym (purged_full c.schedules.repeats.keep moment c.waiting) ∙
    all_free within timing moment es (purged moment c) free
all_free within timing now (Wants is_again terms asked ∷ es) c free =
    wants_free now is_again terms asked c (all_free within timing now es (fold (subject_wanted now is_again terms) c asked) free)
all_free within timing now (Sees terms standing asked ∷ es) c free =
    sees_free now terms standing asked c (all_free within timing now es (specific_seen now terms standing asked c) free)
all_free within timing now (SeesGeneral terms wanted ∷ es) c free =
    general_free within timing now terms wanted c (all_free within timing now es (general_seen within timing now terms wanted c) free)
all_free within timing now (LosesRole ∷ es) c free = lost_free within timing now c (all_free within timing now es (role_lost within timing now c) free)
all_free within timing now (HasRoleAgain ∷ es) c free = returned_free within now c (all_free within timing now es (role_returned within now c) free)
all_free within timing now (SeesFault number fault ∷ es) c free = (entered _ _ (all_free within timing now es (with_fault now number c fault) free)).was
all_free within timing now (Changes terms asked ∷ es) c free =
    changed_free now terms asked c (all_free within timing now es (all_changed now terms asked c) free)
all_free within timing now (Judges moment is_set ∷ es) c free =
    judged_free within moment is_set c (all_free within timing now es (with_s_judged within moment is_set c) free)
all_free within timing now (Refuses groups ∷ es) c free = all_free within timing now es (groups_refused groups c) free

-- The entries that wait at the end. The findings of missing queries are those reported before, and then the rest.
pub record Ended (within : ℕ) (timing : Timing) (flags : CheckFlags) (end now : ℕ) (events : List CheckEvent) (c : CheckingValue)
    (missing : List (Finding ℕ)) : Type 0 where
  pub left : List Expected
  pub stands : Stands within (kept_for within timing flags) (moment_behind_all now events) (check_by_all within timing now events c).waiting.entries left [] []
  pub missing_is : missing ≡ told_by_all within timing now events c ++ missing_of (left ++ [])
  pub silence : silence_up_to within timing end (check_by_all within timing now events c).phase ≡ None
  pub in_time : moment_behind_all now events ≤ end
  pub repeats : (check_by_all within timing now events c).schedules.repeats ≡ repeats_in within timing flags
  pub fresh : IsFresh (check_by_all within timing now events c).schedules
  pub refused : (check_by_all within timing now events c).refused ≡ []

-- queries that are still to come lie at a moment or later
asks-from : (now : ℕ) (terms : Terms ℕ) (asked : List (Asked ℕ)) (rest : List Ask) → SeenFrom now rest → SeenFrom now (asks_at now terms asked ++ rest)
asks-from now terms [] rest is = is
asks-from now terms (a ∷ more) rest is = (omega arith, asks-from now terms more rest is)

later-from : (now moment : ℕ) (asks : List Ask) → now ≤ moment → SeenFrom moment asks → SeenFrom now asks
later-from now moment [] before is = is
later-from now moment (a ∷ more) before is = (omega (arith, is.0), later-from now moment more before is.1)

asks_wanted-from : (now : ℕ) (is_again : Bool) (terms : Terms ℕ) (asked : List (Asked ℕ)) (c : CheckingValue) (rest : List Ask) → SeenFrom now rest →
    SeenFrom now (asks_wanted now is_again terms asked c ++ rest)
asks_wanted-from now is_again terms [] c rest is = is
asks_wanted-from now is_again terms (a ∷ more) c rest is =
    (omega arith, asks_wanted-from now is_again terms more (subject_wanted now is_again terms c a) rest is)

wanted-from : (within : ℕ) (timing : Timing) (now : ℕ) (events : List CheckEvent) (c : CheckingValue) (end : ℕ) → AreInOrder now events end →
    SeenFrom now (wanted_in within timing now events c)
wanted-from within timing now [] c end order = tt
wanted-from within timing now (Comes moment ∷ es) c end order =
    later-from now moment _ order.0 (wanted-from within timing moment es (purged moment c) end order.1)
wanted-from within timing now (Wants is_again terms asked ∷ es) c end order =
    asks_wanted-from now is_again terms asked c _ (wanted-from within timing now es (fold (subject_wanted now is_again terms) c asked) end order)
wanted-from within timing now (Sees terms standing asked ∷ es) c end order =
    wanted-from within timing now es (specific_seen now terms standing asked c) end order
wanted-from within timing now (SeesGeneral terms wanted ∷ es) c end order =
    wanted-from within timing now es (general_seen within timing now terms wanted c) end order
wanted-from within timing now (LosesRole ∷ es) c end order = wanted-from within timing now es (role_lost within timing now c) end order
wanted-from within timing now (HasRoleAgain ∷ es) c end order = wanted-from within timing now es (role_returned within now c) end order
wanted-from within timing now (SeesFault number fault ∷ es) c end order = wanted-from within timing now es (with_fault now number c fault) end order
wanted-from within timing now (Changes terms asked ∷ es) c end order = wanted-from within timing now es (all_changed now terms asked c) end order
wanted-from within timing now (Judges moment is_set ∷ es) c end order = wanted-from within timing now es (with_s_judged within moment is_set c) end order
wanted-from within timing now (Refuses groups ∷ es) c end order = wanted-from within timing now es (groups_refused groups c) end order

general-from : (is_querier : Bool) (due : List ℕ) (now : ℕ) (terms : Terms ℕ) (rest : List Ask) → SeenFrom now rest →
    SeenFrom now (general_ask is_querier due now terms ++ rest)
general-from true [] now terms rest is = is
general-from _ _ now terms rest is = (omega arith, is)

seen-from : (within : ℕ) (is_querier : Bool) (r : Returns) (now : ℕ) (events : List CheckEvent) (end : ℕ) → AreInOrder now events end →
    SeenFrom now (seen_in within is_querier r now events)
seen-from within q r now [] end order = tt
seen-from within q r now (Comes moment ∷ es) end order =
    later-from now moment _ order.0 (seen-from within q (record r { due = still_due within moment r.due }) moment es end order.1)
seen-from within q r now (Wants is_again terms asked ∷ es) end order = seen-from within q (all_wanted now asked r) now es end order
seen-from within q r now (Sees terms standing asked ∷ es) end order = asks-from now terms asked _ (seen-from within q (all_seen now asked r) now es end order)
seen-from within q r now (SeesGeneral terms wanted ∷ es) end order =
    general-from q r.due now terms _ (seen-from within q (general_returned q now r.due r.early) now es end order)
seen-from within q r now (LosesRole ∷ es) end order = seen-from within false r now es end order
seen-from within q r now (HasRoleAgain ∷ es) end order = seen-from within true r now es end order
seen-from within q r now (_ ∷ es) end order = seen-from within q r now es end order

expected-from : (now : ℕ) (expected : List Expected) (asks : List Ask) → asks_of expected ≡ asks → SeenFrom now asks → WantedFrom now expected
expected-from now [] asks is from = tt
expected-from now (x ∷ xs) [] is from = absurd (cc)
expected-from now (x ∷ xs) (a ∷ more) is from =
    let first : ask_of x ≡ a = cc in
    let others : asks_of xs ≡ more = cc in
    (rw first from.0, expected-from now xs more others from.1)

-- the phase behind a general query
querier_behind : (within : ℕ) (timing : Timing) (now : ℕ) (phase : Phase) → is_querier_in (phase_behind within timing now phase) ≡ is_querier_in phase
querier_behind within timing now (Starting startup) = refl
querier_behind within timing now _ = refl

querier_again : (within now : ℕ) (last : Option ℕ) → is_querier_in (phase_again within now last) ≡ true
querier_again within now None = refl
querier_again within now (Some last) =
    elim (nat_le now (last + within)) as (λ b. nat_le now (last + within) ≡ b → is_querier_in (phase_again within now (Some last)) ≡ true) [
      | true ↦ λ is. rw is refl
      | false ↦ λ is. rw is refl
    ] refl

no_phase_behind : (within : ℕ) (timing : Timing) (now : ℕ) (phase : Phase) → is_querier_in phase ≡ false → phase_behind within timing now phase ≡ phase
no_phase_behind within timing now NotQuerier is = refl
no_phase_behind within timing now _ is = absurd (cc)

-- a general query that was seen
pub record GeneralAll (within keep : ℕ) (timing : Timing) (now : ℕ) (c after : CheckingValue) (free before wanted : List Expected) (rest : List Ask)
    (returns : Returns) : Type 0 where
  pub step : StepsTo within keep now after.waiting.entries before wanted rest returns
  pub phase : after.phase ≡ phase_behind within timing now c.phase
  pub repeats : after.schedules.repeats ≡ c.schedules.repeats
  pub fresh : IsFresh after.schedules

-- one step about all groups
general_step : (within keep now : ℕ) (step : (due early : List ℕ) → Returns) (old entries : List (Entry ℕ)) (free before wanted : List Expected)
    (seen : List Ask) → Stepped within keep now AllGroups step old entries free before wanted seen
    → StepsTo within keep now entries before wanted seen (step (general_returns within now free old).due (general_returns within now free old).early)
general_step within keep now step old entries free before wanted seen s = record { left = s.left; stands = s.stands; missing = s.missing; returns_are = s.here }

general_all : (within keep : ℕ) (timing : Timing) (now : ℕ) (terms partner : Terms ℕ) (c : CheckingValue) (free wanted : List Expected) (rest : List Ask)
    → IsFresh c.schedules → c.schedules.repeats.within ≡ within → wrong_interval within timing now c.phase ≡ None
    → IsAsWantedThen (is_querier_in c.phase) terms partner → (general_compared within timing now terms partner c).waiting.is_full ≡ false
    → (let r = general_returns within now free c.waiting.entries in
    Stands within keep now c.waiting.entries free wanted (general_ask (is_querier_in c.phase) r.due now terms ++ rest)
    → GeneralAll within keep timing now c (general_compared within timing now terms partner c) free (free ++ wanted) wanted rest
    (general_returned (is_querier_in c.phase) now r.due r.early))
general_all within keep timing now terms partner c free wanted rest is_fresh within_is in_time alike room st =
    let r = general_returns within now free c.waiting.entries in
    elim (is_querier_in c.phase) as
    (λ b. is_querier_in c.phase ≡ b → GeneralAll within keep timing now c (general_compared within timing now terms partner c) free
    (free ++ wanted) wanted rest (general_returned b now r.due r.early)) [
      | true ↦ λ is.
          let same = compared_querier within timing now terms partner c is ∙
          ap (λ (w : Terms ℕ). with_general within timing now terms w c) (said_known c.schedules.repeats partner is_fresh.known) in
          let part = general_part within timing now terms partner c in_time (ap (λ (d : CheckingValue). d.waiting.is_full) (sym same) ∙ room) in
          let before : Stands within keep now c.waiting.entries free wanted (general_ask true r.due now terms ++ rest) =
          subst (λ (b : Bool). Stands within keep now c.waiting.entries free wanted (general_ask b r.due now terms ++ rest)) is st in
          let fits : terms_differ terms partner ≡ [] = subst (λ (b : Bool). IsAsWantedThen b terms partner) is alike in
          let one : StepsTo within keep now (with_general within timing now terms partner c).waiting.entries (free ++ wanted) wanted rest
          (general_returned true now r.due r.early) =
          rw (part.entries, within_is) (general_step within keep now (general_returned true now) _ _ free (free ++ wanted) wanted rest
          (general_one within keep now terms partner c.waiting.entries free wanted rest fits before)) in
          rw same (record {
            step = one;
            phase = part.phase;
            repeats = ap (λ (s : SchedulesValue). s.repeats) part.schedules;
            fresh = rw part.schedules is_fresh;
          })
      | false ↦ λ is.
          let same = compared_other within timing now terms partner c is in
          let part = seen_part now terms plain c AllGroups (ap (λ (d : CheckingValue). d.waiting.is_full) (sym same) ∙ room) in
          let before : Stands within keep now c.waiting.entries free wanted (ask now AllGroups terms ∷ rest) =
          subst (λ (b : Bool). Stands within keep now c.waiting.entries free wanted (general_ask b r.due now terms ++ rest)) is st in
          let near_is : SameFrom (is_free_wanted AllGroups) (near now c) c.waiting.entries =
          near_as within now (is_free_wanted AllGroups) c within_is (wanted_near within keep now AllGroups terms c.waiting.entries free wanted rest before) in
          let one : StepsTo within keep now (with_seen now terms plain c AllGroups).waiting.entries (free ++ wanted) wanted rest
          (general_returned false now r.due r.early) =
          rw (part.entries is_fresh near_is) (general_step within keep now (return_seen now) _ _ free (free ++ wanted) wanted rest
          (see_one within keep now AllGroups terms (verdict_in now terms plain AllGroups c) c.waiting.entries free wanted rest before)) in
          rw same (record {
            step = one;
            phase = part.phase ∙ sym (no_phase_behind within timing now c.phase is);
            repeats = part.repeats;
            fresh = part.fresh is_fresh;
          })
    ] refl

-- one more event before others
ended_behind : (within : ℕ) (timing : Timing) (flags : CheckFlags) (end now : ℕ) (e : CheckEvent) (es : List CheckEvent) (c : CheckingValue)
    (before after : List (Finding ℕ))
    → before ≡ told_by within e c ++ after → Ended within timing flags end (moment_behind now e) es (check_by within timing now e c) after →
    Ended within timing flags end now (e ∷ es) c before
ended_behind within timing flags end now e es c before after told rest = record {
  left = rest.left;
  stands = rest.stands;
  missing_is = told ∙ ap (λ (l : List (Finding ℕ)). told_by within e c ++ l) rest.missing_is ∙ sym (append_assoc (told_by within e c) _ _);
  silence = rest.silence;
  in_time = rest.in_time;
  repeats = rest.repeats;
  fresh = rest.fresh;
  refused = rest.refused;
}

-- The same entries wait if the role and the returns of general queries have other names.
seen_as : (within keep now : ℕ) (entries : List (Entry ℕ)) (free wanted : List Expected) (q q' : Bool) (r r' : Returns) (events : List CheckEvent) →
    q' ≡ q → r' ≡ r
    → Stands within keep now entries free wanted (seen_in within q r now events) → Stands within keep now entries free wanted (seen_in within q' r' now events)
seen_as within keep now entries free wanted q q' r r' events same is st =
    subst (λ (b : Bool). Stands within keep now entries free wanted (seen_in within b r' now events)) (sym same)
    (subst (λ (x : Returns). Stands within keep now entries free wanted (seen_in within q x now events)) (sym is) st)

-- the number of queries of a schedule if the Robustness Variable is known
known_more : (timing : Timing) (flags : CheckFlags) → flags.above_7 ≡ false → more_for timing flags ≡ more_in timing flags.strict
known_more timing flags known = rw known refl

pub time_as : (within : ℕ) (timing : Timing) (phase phase' : Phase) (last last' : Option ℕ) (now : ℕ) (events : List CheckEvent) (end : ℕ) →
    phase' ≡ phase → last' ≡ last → AreOnTime within timing phase last now events end → AreOnTime within timing phase' last' now events end
time_as within timing phase phase' last last' now events end same is time =
    subst (λ (p : Phase). AreOnTime within timing p last' now events end) (sym same)
    (subst (λ (l : Option ℕ). AreOnTime within timing phase l now events end) (sym is) time)

-- a query is kept for the tolerance at least
pub kept-long : (within : ℕ) (timing : Timing) (flags : CheckFlags) → within ≤ kept_for within timing flags
kept-long within timing flags = by_readings flags.strict
  where
    by_readings : (strict : Bool) → within ≤ keep_in within timing strict
    by_readings true = omega arith
    by_readings false = omega arith

-- Wanted and seen queries are pairs, or the check reports them by the end.
pub course : (within : ℕ) (timing : Timing) (flags : CheckFlags) (end now : ℕ) (events : List CheckEvent) (c : CheckingValue) (free expected : List Expected)
    → IsFresh c.schedules → c.refused ≡ [] → c.schedules.repeats ≡ repeats_in within timing flags → asks_of expected ≡ wanted_in within timing now events c →
    AreMissed flags.strict (kept_for within timing flags) end expected → AreInOrder now events end
    → AreOnTime within timing c.phase c.last_general now events end → (check_by_all within timing now events c).waiting.is_full ≡ false
    → Stands within (kept_for within timing flags) now c.waiting.entries free expected
    (seen_in within (is_querier_in c.phase) (general_returns within now free c.waiting.entries) now events)
    → Ended within timing flags end now events c (missing_of (free ++ expected))
course within timing flags end now [] c free [] is_fresh none keeps asks missed order general room st =
    record { left = free; stands = st; missing_is = refl; silence = general; in_time = order; repeats = keeps; fresh = is_fresh; refused = none }
course within timing flags end now [] c free (x ∷ xs) is_fresh none keeps asks missed order general room st = absurd (cc)
course within timing flags end now (Comes moment ∷ es) c free expected is_fresh none keeps asks missed order general room st =
    let next = purged moment c in
    let keep = kept_for within timing flags in
    let keep_is : c.schedules.repeats.keep ≡ keep = ap (λ (r : Repeats). r.keep) keeps in
    let before = all_free within timing now (Comes moment ∷ es) c room in
    let r = general_returns within now free c.waiting.entries in
    let still : Returns = record r { due = still_due within moment r.due } in
    let q = is_querier_in c.phase in
    let waits : Waits within keep 0 moment c.waiting.entries free expected (seen_in within q still moment es) = record {
      holds = st.holds;
      ascending = ascending-to 0 c.waiting.entries now moment order.0 st.ascending;
      one_side = st.one_side;
      pairs = st.pairs;
    } in
    let come = comes within keep 0 moment c.changed c.waiting.entries free expected (seen_in within q still moment es) (kept-long within timing flags)
    (expected-from moment expected (wanted_in within timing moment es next) asks (wanted-from within timing moment es next end order.1))
    (seen-from within q still moment es end order.1) waits in
    let left_is : next.waiting.entries ≡ left_of keep moment c.waiting.entries =
    purged_free c.schedules.repeats.keep moment c.waiting before ∙ ap (λ (k : ℕ). left_of k moment c.waiting.entries) keep_is in
    let stands : Stands within keep moment next.waiting.entries come.left expected (seen_in within q still moment es) =
    subst (λ (l : List (Entry ℕ)). Stands within keep moment l come.left expected (seen_in within q still moment es)) (sym left_is) come.stands in
    let returns : general_returns within moment come.left next.waiting.entries ≡ still =
    ap (general_returns within moment come.left) left_is ∙ come.returns AllGroups
    ∙ (λ i. record { due = sym (still_later within now moment (moments_wanted (wanted_about AllGroups free)) order.0) i; early = r.early }) in
    ended_behind within timing flags end now (Comes moment) es c (missing_of (free ++ expected)) (missing_of (come.left ++ expected))
    (come.missing ∙ ap (λ (l : List (Finding ℕ)). l ++ missing_of (come.left ++ expected))
    (sym (told_now within moment c before is_fresh none ∙ ap (λ (k : ℕ). told_of k within moment c.changed c.waiting.entries) keep_is)))
    (course within timing flags end moment es next come.left expected (fresh_purged moment c is_fresh) none keeps asks missed order.1 general room
    (seen_as within _ moment next.waiting.entries come.left expected q q still _ es refl returns stands))
course within timing flags end now (Wants is_again terms asked ∷ es) c free expected is_fresh none keeps asks missed order general room st =
    let next = fold (subject_wanted now is_again terms) c asked in
    let r = general_returns within now free c.waiting.entries in
    let all = wants_all flags.strict within (kept_for within timing flags) end now is_again terms asked c free expected
    (seen_in within (is_querier_in c.phase) (all_wanted now asked r) now es) (wanted_in within timing now es next)
    is_fresh (ap (λ (r : Repeats). r.within) keeps) (λ is. ap (λ (r : Repeats). r.more) keeps ∙ known_more timing flags
    (sym (ap (λ (r : Repeats). r.above_7) keeps) ∙ is_fresh.known) ∙ ap (more_in timing) is) asks missed (all_free within timing now es next room) st in
    ended_behind within timing flags end now (Wants is_again terms asked) es c (missing_of (free ++ expected))
    (missing_of (all.step.left ++ all.wanted)) all.step.missing
    (course within timing flags end now es next all.step.left all.wanted all.fresh (wants_stay now is_again terms asked c ∙ none) (all.repeats ∙ keeps)
    all.asks all.missed order (time_as within timing c.phase next.phase c.last_general next.last_general now es end all.phase all.last general) room
    (seen_as within _ now next.waiting.entries all.step.left all.wanted (is_querier_in c.phase) _ (all_wanted now asked r) _ es
    (ap is_querier_in all.phase) all.step.returns_are all.step.stands))
course within timing flags end now (Sees terms standing asked ∷ es) c free expected is_fresh none keeps asks missed order general room st =
    let next = specific_seen now terms standing asked c in
    let r = general_returns within now free c.waiting.entries in
    let all = sees_all within (kept_for within timing flags) now terms standing asked c free expected
    (seen_in within (is_querier_in c.phase) (all_seen now asked r) now es) is_fresh (ap (λ (r : Repeats). r.within) keeps)
    (all_free within timing now es next room) st in
    ended_behind within timing flags end now (Sees terms standing asked) es c (missing_of (free ++ expected))
    (missing_of (all.step.left ++ expected)) all.step.missing
    (course within timing flags end now es next all.step.left expected all.fresh (sees_stay now terms standing asked c ∙ none) (all.repeats ∙ keeps) asks
    missed order (time_as within timing c.phase next.phase c.last_general next.last_general now es end all.phase all.last general) room
    (seen_as within _ now next.waiting.entries all.step.left expected (is_querier_in c.phase) _ (all_seen now asked r) _ es
    (ap is_querier_in all.phase) all.step.returns_are all.step.stands))
course within timing flags end now (SeesGeneral terms partner ∷ es) c free expected is_fresh none keeps asks missed order general room st =
    let next = general_seen within timing now terms partner c in
    let r = general_returns within now free c.waiting.entries in
    let q = is_querier_in c.phase in
    let all = general_all within (kept_for within timing flags) timing now terms partner c free expected
    (seen_in within q (general_returned q now r.due r.early) now es) is_fresh (ap (λ (r : Repeats). r.within) keeps) general.0 general.1
    (all_free within timing now es next room) st in
    ended_behind within timing flags end now (SeesGeneral terms partner) es c (missing_of (free ++ expected))
    (missing_of (all.step.left ++ expected)) all.step.missing
    (course within timing flags end now es next all.step.left expected all.fresh (general_stays within timing now terms partner c ∙ none)
    (all.repeats ∙ keeps) asks missed order (time_as within timing _ next.phase _ next.last_general now es end all.phase refl general.2) room
    (seen_as within _ now next.waiting.entries all.step.left expected q _ (general_returned q now r.due r.early) _ es
    (ap is_querier_in all.phase ∙ querier_behind within timing now c.phase) all.step.returns_are all.step.stands))
course within timing flags end now (LosesRole ∷ es) c free expected is_fresh none keeps asks missed order general room st =
    let next = role_lost within timing now c in
    let part = lost_part within timing now c general.0 in
    let r = general_returns within now free c.waiting.entries in
    let entries = ap (λ (w : WaitingValue). w.entries) part.waiting in
    ended_behind within timing flags end now LosesRole es c (missing_of (free ++ expected)) (missing_of (free ++ expected)) refl
    (course within timing flags end now es next free expected (part.fresh is_fresh) (lost_stays within timing now c ∙ none) (part.repeats ∙ keeps) asks missed
    order (time_as within timing NotQuerier next.phase c.last_general next.last_general now es end part.phase part.last general.1) room
    (seen_as within _ now next.waiting.entries free expected false _ r _ es (ap is_querier_in part.phase)
    (ap (general_returns within now free) entries) (rw entries st)))
course within timing flags end now (HasRoleAgain ∷ es) c free expected is_fresh none keeps asks missed order general room st =
    let next = role_returned within now c in
    let part = returned_part within now c in
    let r = general_returns within now free c.waiting.entries in
    let entries = ap (λ (w : WaitingValue). w.entries) part.waiting in
    ended_behind within timing flags end now HasRoleAgain es c (missing_of (free ++ expected)) (missing_of (free ++ expected)) refl
    (course within timing flags end now es next free expected (rw part.schedules is_fresh) (returned_stays within now c ∙ none)
    (ap (λ (s : SchedulesValue). s.repeats) part.schedules ∙ keeps) asks missed order
    (time_as within timing (phase_again within now c.last_general) next.phase c.last_general next.last_general now es end part.phase part.last general) room
    (seen_as within _ now next.waiting.entries free expected true _ r _ es (ap is_querier_in part.phase ∙ querier_again within now c.last_general)
    (ap (general_returns within now free) entries) (rw entries st)))
course within timing flags end now (SeesFault number fault ∷ es) c free expected is_fresh none keeps asks missed order general room st = absurd general
course within timing flags end now (Changes terms asked ∷ es) c free expected is_fresh none keeps asks missed order general room st =
    let next = all_changed now terms asked c in
    let part = changed_part now terms asked c in
    let r = general_returns within now free c.waiting.entries in
    let entries = ap (λ (w : WaitingValue). w.entries) part.waiting in
    ended_behind within timing flags end now (Changes terms asked) es c (missing_of (free ++ expected)) (missing_of (free ++ expected)) refl
    (course within timing flags end now es next free expected (fresh_as c.schedules next.schedules part.repeats part.next is_fresh)
    (changes_stay now terms asked c ∙ none) (part.repeats ∙ keeps) asks missed order
    (time_as within timing c.phase next.phase c.last_general next.last_general now es end part.phase part.last general) room
    (seen_as within _ now next.waiting.entries free expected (is_querier_in c.phase) _ r _ es (ap is_querier_in part.phase)
    (ap (general_returns within now free) entries) (rw entries st)))
course within timing flags end now (Refuses groups ∷ es) c free expected is_fresh none keeps asks missed order general room st =
    let missing = missing_of (free ++ expected) in
    ended_behind within timing flags end now (Refuses groups) es c missing missing refl
    (course within timing flags end now es (groups_refused groups c) free expected is_fresh
    (ap (λ (more : List ℕ). fold with_refused c.refused more) general.0 ∙ none) keeps asks missed order general.1 room st)
course within timing flags end now (Judges moment is_set ∷ es) c free expected is_fresh none keeps asks missed order general room st =
    let next = with_s_judged within moment is_set c in
    let r = general_returns within now free c.waiting.entries in
    let seen = seen_in within (is_querier_in c.phase) r now es in
    let entries = judged_entries within moment is_set c in
    let still : Stands within (kept_for within timing flags) now next.waiting.entries free expected seen =
    rw entries (stands_judged within (kept_for within timing flags) now (min within 1) moment is_set c.waiting.entries free expected seen st) in
    let returns : general_returns within now free next.waiting.entries ≡ r =
    ap (general_returns within now free) entries ∙ returns_judged within now (min within 1) moment is_set AllGroups free c.waiting.entries in
    ended_behind within timing flags end now (Judges moment is_set) es c (missing_of (free ++ expected)) (missing_of (free ++ expected)) refl
    (course within timing flags end now es next free expected is_fresh none keeps asks missed order general room
    (seen_as within _ now next.waiting.entries free expected (is_querier_in c.phase) _ r _ es refl returns still))
