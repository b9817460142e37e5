-- A check after a wanted query, and after a seen query.
use Rattle.mq_check.proofs.Common.{◌≡◌, ℕ, Bool, List, [], ◌∷◌, ◌++◌, refl, ap, ◌∙◌, Option, None, Some, is_some, Timing, Asked, AllGroups, Wanted, Seen}
use Rattle.mq_check.proofs.Common.{SVerdict, Standing, Terms, OfWanted, OfSeen, CheckingValue, with_seen, all_changed, counted_up, first_terms, wrong_interval}
use Rattle.mq_check.proofs.Common.{phase_behind, silence_up_to, SchedulesValue, caused, followed, schedules_wanted, without_next, WaitingValue, with_entry}
use Rattle.mq_check.proofs.Common.{with_partner, is_free}
use Rattle.mq_check.specs.declared.{entry.Need.Need, entry.Unpaired.Unpaired, entry.Unpaired.TheVariants.Extra, finding.ExtraReason.TheVariants.NoChange}
use Rattle.mq_check.specs.{declared.phase.Phase.Phase, declared.phase.Phase.TheVariants.NotQuerier, Schedules.first_of, Schedules.placed, Schedules.recent}
use Rattle.mq_check.specs.Checking.{with_wanted, with_interval, with_silence, with_general, role_lost, role_returned, alone_after, one_changed, is_late_in}
use Rattle.mq_check.specs.Checking.{may_be_missing, near, need_by, paired, paired_if, partner_if, partner_of, s_for, with_unmuted, without_all_next}
use Rattle.mq_check.specs.{Entries.as_wanted, Entries.is_possible, Entries.may_be_left_out, General.phase_again, Numbered.numbered_terms_if}

-- the presence of terms doesn't depend on how addresses are seen
pub has_terms : {K : Type 0} (number : K → ℕ) (r : Option (Terms K)) → is_some (numbered_terms_if number r) ≡ is_some r
has_terms number None = refl
has_terms number (Some terms) = refl

-- `recently` is the check behind the removal of old schedules
pub wanted_put : (moment : ℕ) (is_again : Bool) (terms : Terms ℕ) (asked : Asked ℕ) (from : ℕ) (viewed recently old : CheckingValue)
    (noted scheduled : SchedulesValue) (partnered put : WaitingValue) (need : Need) (is_found : Bool)
    → from ≡ near moment old → viewed ≡ recently → recently ≡ record old { schedules = recent moment old.schedules } →
    need ≡ need_by (may_be_left_out moment asked terms recently.waiting.entries) (may_be_missing moment is_again asked recently)
    → noted ≡ schedules_wanted moment terms asked viewed.schedules → scheduled ≡ without_next asked noted
    → is_found ≡ is_some (first_terms (is_free OfSeen asked from) viewed.waiting.entries)
    → partnered ≡ with_partner OfSeen asked from terms viewed.waiting → put ≡ with_entry (Wanted moment asked terms need is_found) partnered
    → record viewed { waiting = put; schedules = scheduled } ≡ with_wanted moment is_again terms old asked
unfolding with_wanted
wanted_put moment is_again terms asked from viewed recently old noted scheduled partnered put need is_found is_from same recents needs notes schedules
    found joined is =
    let all = same ∙ recents in
    let next = schedules ∙ ap (without_next asked) notes in
    let needs_too = needs
    ∙ ap (λ (c : CheckingValue). need_by (may_be_left_out moment asked terms c.waiting.entries) (may_be_missing moment is_again asked c)) recents in
    let found_too = found ∙ (λ i. is_some (first_terms (is_free OfSeen asked (is_from i)) (all i).waiting.entries)) in
    let joined_too = joined ∙ (λ i. with_partner OfSeen asked (is_from i) terms (all i).waiting) in
    λ i. record (all i) {
      waiting = (is ∙ (λ j. with_entry (Wanted moment asked terms (needs_too j) (found_too j)) (joined_too j))) i;
      schedules = (next ∙ (λ j. without_next asked (schedules_wanted moment terms asked (all j).schedules))) i;
    }

-- `recently` is the check behind the removal of old schedules, `noting` the one behind the note of its group, and `pairing` the
-- one behind the search for a partner
pub seen_put : (moment : ℕ) (terms : Terms ℕ) (standing : Standing) (asked : Asked ℕ) (from : ℕ) (viewed pairing noting recently old : CheckingValue)
    (put : WaitingValue) (partner next either may_cause : Option (Terms ℕ)) (alone : Unpaired ℕ) (s : SVerdict)
    (above_7 has_partner follows possible : Bool) (scheduled : SchedulesValue)
    → from ≡ near moment old → above_7 ≡ old.schedules.repeats.above_7 → viewed ≡ pairing →
    recently ≡ record old { schedules = recent moment old.schedules } → alone ≡ alone_after moment terms standing.is_muted asked recently
    → next ≡ followed moment standing.is_above asked recently.schedules → may_cause ≡ caused moment asked recently.schedules
    → noting ≡ record recently { unmuted = with_unmuted moment terms asked recently }
    → partner ≡ partner_if (is_late_in from moment asked noting.waiting noting.schedules) from terms asked noting.waiting
    → pairing ≡ record noting { waiting = paired_if (is_late_in from moment asked noting.waiting noting.schedules) from terms asked noting.waiting }
    → has_partner ≡ is_some partner → follows ≡ is_some next → possible ≡ is_possible alone → either ≡ first_of partner next
    → scheduled ≡ placed moment terms asked has_partner follows possible may_cause viewed.schedules
    → s ≡ s_for above_7 standing.is_above standing.set_from terms →
    put ≡ with_entry (Seen moment asked terms either (record { s = s; alone = alone })) viewed.waiting
    → record viewed { waiting = put; schedules = scheduled } ≡ with_seen moment terms standing old asked
unfolding with_seen
seen_put moment terms standing asked from viewed pairing noting recently old put partner next either may_cause alone s above_7 has_partner follows possible
    scheduled is_from is_above_7 same recents without goes_on causes notes found joined has has_next possibly is_either places is_s is =
    let before = recent moment old.schedules in
    let there : CheckingValue = record old { schedules = before } in
    let noted : noting ≡ record there { unmuted = with_unmuted moment terms asked there } =
    notes ∙ (λ i. record (recents i) { unmuted = with_unmuted moment terms asked (recents i) }) in
    let without_too = without ∙ ap (alone_after moment terms standing.is_muted asked) recents in
    let next_too = goes_on ∙ ap (λ (c : CheckingValue). followed moment standing.is_above asked c.schedules) recents in
    let cause_too = causes ∙ ap (λ (c : CheckingValue). caused moment asked c.schedules) recents in
    let found_too : partner ≡ partner_of moment terms asked old =
    found ∙ (λ i. partner_if (is_late_in (is_from i) moment asked (noted i).waiting (noted i).schedules) (is_from i) terms asked (noted i).waiting) in
    let all : viewed ≡ record old { waiting = paired moment terms asked old; unmuted = with_unmuted moment terms asked there; schedules = before } =
    same ∙ joined ∙ (λ i. record (noted i) {
      waiting = paired_if (is_late_in (is_from i) moment asked (noted i).waiting (noted i).schedules) (is_from i) terms asked (noted i).waiting;
    }) in
    let has_too = has ∙ ap is_some found_too in
    let has_next_too = has_next ∙ ap is_some next_too in
    let possibly_too = possibly ∙ ap is_possible without_too in
    let either_too = is_either ∙ (λ i. first_of (found_too i) (next_too i)) in
    let s_too = is_s ∙ ap (λ (b : Bool). s_for b standing.is_above standing.set_from terms) is_above_7 in
    λ i. record (all i) {
      waiting = (is ∙ (λ j. with_entry (Seen moment asked terms (either_too j) (record { s = s_too j; alone = without_too j })) (all j).waiting)) i;
      schedules = (places ∙ (λ j. placed moment terms asked (has_too j) (has_next_too j) (possibly_too j) (cause_too j) (all j).schedules)) i;
    }

pub general_put : (within : ℕ) (configured : Timing) (moment at from : ℕ) (terms wanted : Terms ℕ) (viewed old : CheckingValue)
    (judged partnered put : WaitingValue) (passed : Option ℕ) (phase : Phase)
    → viewed ≡ old → at ≡ moment → from ≡ near moment viewed → passed ≡ wrong_interval within configured moment viewed.phase →
    judged ≡ with_interval configured moment terms.packet passed viewed.waiting → phase ≡ phase_behind within configured moment viewed.phase
    → partnered ≡ with_partner OfWanted AllGroups from terms judged → put ≡ with_entry (Seen at AllGroups terms (Some wanted) (as_wanted (Extra NoChange)))
    partnered
    → record viewed { waiting = put; phase = phase } ≡ with_general within configured moment terms wanted old
unfolding with_general
general_put within configured moment at from terms wanted viewed old judged partnered put passed phase same now is_from wrong judging behind joined is =
    let judged_too = judging ∙ ap (λ (p : Option ℕ). with_interval configured moment terms.packet p viewed.waiting) wrong in
    let joined_too = joined ∙ (λ i. with_partner OfWanted AllGroups (is_from i) terms (judged_too i)) in
    let here : record viewed { waiting = put; phase = phase } ≡ with_general within configured moment terms wanted viewed =
    λ i. record viewed {
      waiting = (is ∙ (λ j. with_entry (Seen (now j) AllGroups terms (Some wanted) (as_wanted (Extra NoChange))) (joined_too j))) i;
      phase = behind i;
    } in
    here ∙ ap (with_general within configured moment terms wanted) same

-- `silent` is the check behind the finding of a silence
pub lost_put : (within : ℕ) (configured : Timing) (moment at : ℕ) (viewed old : CheckingValue) (put : WaitingValue) (passed : Option ℕ)
    (scheduled : SchedulesValue)
    → viewed ≡ old → at ≡ moment → passed ≡ silence_up_to within configured moment viewed.phase → put ≡ with_silence configured moment passed viewed.waiting
    → scheduled ≡ without_all_next viewed.schedules
    → record viewed { waiting = put; changed = Some at; phase = NotQuerier; schedules = scheduled } ≡ role_lost within configured moment old
unfolding role_lost
lost_put within configured moment at viewed old put passed scheduled same now silent is drops =
    let here : record viewed { waiting = put; changed = Some at; phase = NotQuerier; schedules = scheduled } ≡ role_lost within configured moment viewed =
    λ i. record viewed {
      waiting = (is ∙ ap (λ (p : Option ℕ). with_silence configured moment p viewed.waiting) silent) i;
      changed = Some (now i);
      phase = NotQuerier;
      schedules = drops i;
    } in
    here ∙ ap (role_lost within configured moment) same

pub returned : (within moment : ℕ) (viewed old : CheckingValue) (phase : Phase) → viewed ≡ old → phase ≡ phase_again within moment old.last_general
    → record viewed { changed = Some moment; phase = phase } ≡ role_returned within moment old
unfolding role_returned
returned within moment viewed old phase same again = λ i. record (same i) { changed = Some moment; phase = again i }

pub general_counted : (moment : ℕ) (viewed now compared : CheckingValue) (count : ℕ) → viewed ≡ now → now ≡ compared → count ≡ counted_up viewed.general
    → record viewed { last_general = Some moment; general = count } ≡ record compared { last_general = Some moment; general = counted_up compared.general }
general_counted moment viewed now compared count same is counts =
    let all = same ∙ is in
    λ i. record (all i) { last_general = Some moment; general = (counts ∙ ap (λ (v : CheckingValue). counted_up v.general) all) i }

pub specific_counted : (viewed now seen : CheckingValue) (count : ℕ) → viewed ≡ now → now ≡ seen → count ≡ counted_up viewed.specific
    → record viewed { specific = count } ≡ record seen { specific = counted_up seen.specific }
specific_counted viewed now seen count same is counts =
    let all = same ∙ is in
    λ i. record (all i) { specific = (counts ∙ ap (λ (v : CheckingValue). counted_up v.specific) all) i }

-- changes that come after others
pub changed_both : (moment : ℕ) (terms : ℕ → Terms ℕ) (xs ys : List (Asked ℕ)) (c : CheckingValue) →
    all_changed moment terms (xs ++ ys) c ≡ all_changed moment terms ys (all_changed moment terms xs c)
changed_both moment terms [] ys c = refl
changed_both moment terms (x ∷ xs) ys c = changed_both moment terms xs ys (one_changed moment terms c x)
