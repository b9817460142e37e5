-- computed, but for the thing that is asked about
use Rattle.mq_laws.proofs.Common.{◌≡◌, ℕ, Bool, true, false, List, [], ◌∷◌, refl, arith, list_map, Asked, AllGroups, Group, Source, is_same, AreSeen}
use Rattle.mq_laws.proofs.Common.{CheckEvent, all_seen_in, Ask, AreMoved, PairUp, kept_for, seen_about, unnumbered, wanted_about, role_lost, role_returned}
use Rattle.mq_laws.proofs.Common.{with_general, with_seen, with_wanted, schedules_seen, schedules_wanted, with_cause, without_next, all_excused, with_entry}
use Rattle.mq_laws.proofs.Common.{with_partner}
use Rattle.mq_check.specs.Waiting.{purged}
use Rattle.mq_laws.specs.CheckExamples.{all_answered, began, example_expected, example_timing, first_ask, last_ask, one_left_out, second_ask}
use Rattle.mq_laws.proofs.checks.a_check_of_two_queries.Goals as goal

-- queries about a group are about the group 5 or another
by_group : (X : Asked ℕ → Type 0) → ((group : ℕ) → is_same (Group group) (Group 5) ≡ true → X (Group group)) →
    ((group : ℕ) → is_same (Group group) (Group 5) ≡ false → X (Group group)) → (group : ℕ) → X (Group group)
by_group X here other group = elim (is_same (Group group) (Group 5)) as (λ (b : Bool). is_same (Group group) (Group 5) ≡ b → X (Group group)) [
  | true ↦ λ is. here group is
  | false ↦ λ is. other group is
] refl

abbrev Pairs : Asked ℕ → Type 0
Pairs asked = PairUp 100 (kept_for 100 example_timing began) (wanted_about asked example_expected) (seen_about asked (all_seen_in 100 (one_left_out 100)))

pairs_of : (asked : Asked ℕ) → Pairs asked
pairs_of AllGroups = (record { not_late = omega arith; not_early = omega arith; alike = refl }, tt)
pairs_of (Group group) = by_group Pairs (λ g is. rw is (record { not_late = omega arith; not_early = omega arith; alike = refl }, (tt, tt)))
    (λ g is. rw is tt) group
pairs_of (Source group source) = tt

abbrev SeenSo : List Ask → List CheckEvent → Asked ℕ → Type 0
SeenSo asks events asked = list_map unnumbered (seen_about asked (all_seen_in 100 events)) ≡ list_map unnumbered (seen_about asked asks)

others_seen_of : AreSeen 100 (first_ask ∷ last_ask ∷ []) (one_left_out 0)
others_seen_of (Group group) = by_group (SeenSo (first_ask ∷ last_ask ∷ []) (one_left_out 0)) (λ g is. rw is refl) (λ g is. rw is refl) group
others_seen_of _ = refl

all_seen_of : AreSeen 100 (first_ask ∷ second_ask ∷ last_ask ∷ []) (all_answered 0)
all_seen_of (Group group) = by_group (SeenSo (first_ask ∷ second_ask ∷ last_ask ∷ []) (all_answered 0)) (λ g is. rw is refl) (λ g is. rw is refl) group
all_seen_of _ = refl

abbrev Moved : Asked ℕ → Type 0
Moved asked = AreMoved 100 (seen_about asked (first_ask ∷ second_ask ∷ last_ask ∷ [])) (seen_about asked (all_seen_in 100 (all_answered 100)))

moved_of : (asked : Asked ℕ) → Moved asked
moved_of AllGroups = (record { not_late = omega arith; not_early = omega arith; terms = refl }, tt)
moved_of (Group group) = by_group Moved (λ g is. rw is (
  record { not_late = omega arith; not_early = omega arith; terms = refl },
  (record { not_late = omega arith; not_early = omega arith; terms = refl }, tt),
)) (λ g is. rw is tt) group
moved_of (Source group source) = tt

pub returns-clause-as_wanted : goal.returns-clause-as_wanted
unfolding all_excused purged with_entry with_partner with_general with_seen with_wanted schedules_seen schedules_wanted role_lost
    role_returned with_cause without_next
returns-clause-as_wanted c = record {
  on_time = (refl, refl, (refl, (refl, refl, refl)));
  wanted = refl;
  pairs = pairs_of;
  missed = (record { has_to_be_sent = tt; over = omega arith; is_strict = refl }, tt);
}

pub returns-clause-late : goal.returns-clause-late
unfolding all_excused purged with_entry with_partner with_general with_seen with_wanted schedules_seen schedules_wanted role_lost
    role_returned with_cause without_next
returns-clause-late c = record {
  in_order = (omega arith, (omega arith, (omega arith, (omega arith, (omega arith, (omega arith, (omega arith, (omega arith, omega arith))))))));
  on_time = (refl, refl, (refl, (refl, refl, refl)));
  room = refl;
  wanted = refl;
}

pub returns-clause-taken_out : goal.returns-clause-taken_out
returns-clause-taken_out c = (record { has_to_be_sent = tt; over = omega arith; is_strict = refl }, tt, tt)

pub returns-clause-others_seen : goal.returns-clause-others_seen
returns-clause-others_seen c = others_seen_of

pub returns-clause-others_on_time : goal.returns-clause-others_on_time
unfolding all_excused purged with_entry with_partner with_general with_seen with_wanted schedules_seen schedules_wanted role_lost
    role_returned with_cause without_next
returns-clause-others_on_time c = record {
  in_order = (omega arith, (omega arith, (omega arith, (omega arith, (omega arith, (omega arith, (omega arith, (omega arith, omega arith))))))));
  on_time = (refl, refl, (refl, (refl, refl, refl)));
  room = refl;
  wanted = refl;
}

pub returns-clause-all_seen : goal.returns-clause-all_seen
returns-clause-all_seen c = all_seen_of

pub returns-clause-all_on_time : goal.returns-clause-all_on_time
unfolding all_excused purged with_entry with_partner with_general with_seen with_wanted schedules_seen schedules_wanted role_lost
    role_returned with_cause without_next
returns-clause-all_on_time c = record {
  in_order = (omega arith, (omega arith, (omega arith, (omega arith, (omega arith, (omega arith, (omega arith, (omega arith, (omega arith, omega arith)))))))));
  on_time = (refl, refl, (refl, (refl, refl, refl)));
  room = refl;
  wanted = refl;
}

pub returns-clause-all_moved : goal.returns-clause-all_moved
returns-clause-all_moved c = moved_of

pub returns-clause-all_late : goal.returns-clause-all_late
unfolding all_excused purged with_entry with_partner with_general with_seen with_wanted schedules_seen schedules_wanted role_lost
    role_returned with_cause without_next
returns-clause-all_late c = record {
  in_order = (omega arith, (omega arith, (omega arith, (omega arith, (omega arith, (omega arith, (omega arith, (omega arith, (omega arith, omega arith)))))))));
  on_time = (refl, refl, (refl, (refl, refl, refl)));
  room = refl;
  wanted = refl;
}
