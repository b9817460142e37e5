-- Checks of a link that refuses no record: no group is left unjudged, and all findings are judged.
use Rattle.mq_laws.proofs.Common.{◌≡◌, ℕ, Bool, true, false, List, [], ◌∷◌, ◌++◌, refl, ◌∙◌, Option, flat_map, fold, Timing, Asked, AllGroups, Group, Source}
use Rattle.mq_laws.proofs.Common.{Entry, Wanted, Seen, Interval, Silence, Packet, Standing, Terms, CheckingValue, all_changed, general_compared, general_seen}
use Rattle.mq_laws.proofs.Common.{is_querier_in, one_changed, one_seen, role_lost, role_returned, specific_seen, subject_wanted, with_general, with_seen}
use Rattle.mq_laws.proofs.Common.{with_wanted, findings_of}
use Rattle.mq_check.specs.Refused.{judged}

-- all subjects are judged
pub judged_is : (within : ℕ) (changed : Option ℕ) (e : Entry ℕ) → judged within changed [] e ≡ findings_of within changed e
judged_is within changed (Wanted m AllGroups t o f) = refl
judged_is within changed (Wanted m (Group g) t o f) = refl
judged_is within changed (Wanted m (Source g s) t o f) = refl
judged_is within changed (Seen m AllGroups t p alone) = refl
judged_is within changed (Seen m (Group g) t p alone) = refl
judged_is within changed (Seen m (Source g s) t p alone) = refl
judged_is within changed (Interval m n a w) = refl
judged_is within changed (Silence m a w) = refl
judged_is within changed (Packet m n fault) = refl

pub judged_all : (within : ℕ) (changed : Option ℕ) (es : List (Entry ℕ)) →
    flat_map (judged within changed []) es ≡ flat_map (findings_of within changed) es
judged_all within changed [] = refl
judged_all within changed (e ∷ es) = λ i. judged_is within changed e i ++ judged_all within changed es i

-- no event but a refusal changes these groups
wanted_stays : (now : ℕ) (is_again : Bool) (terms : Terms ℕ) (c : CheckingValue) (asked : Asked ℕ) →
    (with_wanted now is_again terms c asked).refused ≡ c.refused
unfolding with_wanted
wanted_stays now is_again terms c asked = refl

pub wants_stay : (now : ℕ) (is_again : Bool) (terms : Terms ℕ) (asked : List (Asked ℕ)) (c : CheckingValue) →
    (fold (subject_wanted now is_again terms) c asked).refused ≡ c.refused
wants_stay now is_again terms [] c = refl
wants_stay now is_again terms (a ∷ more) c =
    wants_stay now is_again terms more (subject_wanted now is_again terms c a) ∙ wanted_stays now is_again _ c a

seen_stays : (now : ℕ) (terms : Terms ℕ) (standing : Standing) (c : CheckingValue) (asked : Asked ℕ) → (with_seen now terms standing c asked).refused ≡
    c.refused
unfolding with_seen
seen_stays now terms standing c asked = refl

each_seen_stays : (now : ℕ) (terms : Terms ℕ) (standing : Asked ℕ → Standing) (asked : List (Asked ℕ)) (c : CheckingValue) →
    (fold (one_seen now terms standing) c asked).refused ≡ c.refused
each_seen_stays now terms standing [] c = refl
each_seen_stays now terms standing (a ∷ more) c =
    each_seen_stays now terms standing more (one_seen now terms standing c a) ∙ seen_stays now terms (standing a) c a

pub sees_stay : (now : ℕ) (terms : Terms ℕ) (standing : Asked ℕ → Standing) (asked : List (Asked ℕ)) (c : CheckingValue) →
    (specific_seen now terms standing asked c).refused ≡ c.refused
sees_stay now terms standing asked c = each_seen_stays now terms standing asked c

with_general_stays : (within : ℕ) (timing : Timing) (now : ℕ) (terms wanted : Terms ℕ) (c : CheckingValue) →
    (with_general within timing now terms wanted c).refused ≡ c.refused
unfolding with_general
with_general_stays within timing now terms wanted c = refl

pub general_stays : (within : ℕ) (timing : Timing) (now : ℕ) (terms wanted : Terms ℕ) (c : CheckingValue) →
    (general_seen within timing now terms wanted c).refused ≡ c.refused
general_stays within timing now terms wanted c =
    elim (is_querier_in c.phase) as (λ b. is_querier_in c.phase ≡ b → (general_compared within timing now terms wanted c).refused ≡ c.refused) [
      | true ↦ λ is. rw is (with_general_stays within timing now terms _ c)
      | false ↦ λ is. rw is (seen_stays now terms _ c AllGroups)
    ] refl

pub lost_stays : (within : ℕ) (timing : Timing) (now : ℕ) (c : CheckingValue) → (role_lost within timing now c).refused ≡ c.refused
unfolding role_lost
lost_stays within timing now c = refl

pub returned_stays : (within now : ℕ) (c : CheckingValue) → (role_returned within now c).refused ≡ c.refused
unfolding role_returned
returned_stays within now c = refl

pub changes_stay : (now : ℕ) (terms : ℕ → Terms ℕ) (asked : List (Asked ℕ)) (c : CheckingValue) → (all_changed now terms asked c).refused ≡ c.refused
changes_stay now terms [] c = refl
changes_stay now terms (a ∷ more) c = changes_stay now terms more (one_changed now terms c a)
