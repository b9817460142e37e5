-- The step of a check whose queries pair up, when a moment comes.
-- Expired entries no longer wait, and findings come only from queries that were left out.
use Rattle.mq_laws.proofs.Common.{◌≡◌, ℕ, suc, ◌+◌, ◌<◌, ◌≤◌, Bool, true, false, List, [], ◌∷◌, ◌++◌, refl, ap, sym, ◌∙◌, arith, append_assoc, drop, Option}
use Rattle.mq_laws.proofs.Common.{None, Some, ◌⊎◌, ◌&&◌, ◌==◌, flat_map, nat_lt, not, take_while, list_map, inl, inr, AllByRecursion, prefix_len, lt-ltb}
use Rattle.mq_laws.proofs.Common.{ltb-true, ltb-false, Asked, Entry, Need, Required, Wanted, Seen, SeenVerdict, Unpaired, Difference}
use Rattle.mq_laws.proofs.Common.{Finding, Missing, Differs, Terms, QuerierTerms, moment_of, difference_if, findings_of, is_over, is_possible, is_unlike}
use Rattle.mq_laws.proofs.Common.{queriers_differ, responses_differ, terms_differ, is_same, Ask, Expected, Sent, LeftOut, PairUp, ask_of, seen_about}
use Rattle.mq_laws.proofs.Common.{wanted_about, missing_of, still_due}
use Rattle.mq_check.specs.declared.entry.SVerdict.{SVerdict, TheVariants.Right}
use Rattle.mq_check.specs.Entries.{with_s_judged, findings_of_pair, has_other_s}
use Rattle.mq_laws.proofs.{RightS.alike_with_s, RightS.none_after, RightS.none_before, Held.ascending-from, Held.none_over-ascending, Held.moments_wanted}
use Rattle.mq_laws.proofs.{Same.is_same-self, Steps.Stands, Steps.by_asked, Steps.moments_seen, Steps.returns_of, Steps.to_pairs}
use Rattle.mq_laws.proofs.Held.{ask, Holds, free_seen, IsAscending, wanted_here, wanted_other, seen_here, seen_other, wanted_about-append, seen_about-append}
use Rattle.mq_check.specs.declared.finding.Difference.TheVariants as field

-- all that is still to come comes at a moment or later
abbrev pub WantedFrom : (moment : ℕ) → List Expected → Type 0
WantedFrom moment wanted = AllByRecursion (λ (x : Expected). moment ≤ (ask_of x).moment) wanted

abbrev pub SeenFrom : (moment : ℕ) → List Ask → Type 0
SeenFrom moment seen = AllByRecursion (λ (s : Ask). moment ≤ s.moment) seen

wanted_from-about : (moment : ℕ) (asked : Asked ℕ) (xs : List Expected) → WantedFrom moment xs → WantedFrom moment (wanted_about asked xs)
wanted_from-about moment asked [] is = is
wanted_from-about moment asked (x ∷ xs) is = one (wanted_from-about moment asked xs is.1) (is_same asked (ask_of x).asked) refl
  where
    one : WantedFrom moment (wanted_about asked xs) → (b : Bool) → is_same asked (ask_of x).asked ≡ b → WantedFrom moment (wanted_about asked (x ∷ xs))
    one rest true same = rw (wanted_here asked x xs same) (is.0, rest)
    one rest false differs = rw (wanted_other asked x xs differs) rest

seen_from-about : (moment : ℕ) (asked : Asked ℕ) (ss : List Ask) → SeenFrom moment ss → SeenFrom moment (seen_about asked ss)
seen_from-about moment asked [] is = is
seen_from-about moment asked (s ∷ ss) is = one (seen_from-about moment asked ss is.1) (is_same asked s.asked) refl
  where
    one : SeenFrom moment (seen_about asked ss) → (b : Bool) → is_same asked s.asked ≡ b → SeenFrom moment (seen_about asked (s ∷ ss))
    one rest true same = rw (seen_here asked s ss same) (is.0, rest)
    one rest false differs = rw (seen_other asked s ss differs) rest

-- a sent query would have been answered by then
sent_in_time : (within keep moment : ℕ) (w : Ask) (ws : List Expected) (ss : List Ask) → within ≤ keep → PairUp within keep (Sent w ∷ ws) ss →
    SeenFrom moment ss → w.moment + keep < moment → ⊥
sent_in_time within keep moment w ws [] long pairs from over = pairs
sent_in_time within keep moment w ws (s ∷ ss) long pairs from over = let late = pairs.0.not_late in omega (arith, from.0)

-- a seen query would have been wanted by then
seen_in_time : (within keep moment : ℕ) (s : Ask) (ws : List Expected) (ss : List Ask) → within ≤ keep → PairUp within keep ws (s ∷ ss) →
    WantedFrom moment ws → s.moment + keep < moment → ⊥
seen_in_time within keep moment s [] ss long pairs from over = pairs
seen_in_time within keep moment s (Sent w ∷ ws) ss long pairs from over = let early = pairs.0.not_early in omega (arith, from.0)
seen_in_time within keep moment s (LeftOut w ∷ ws) ss long pairs from over = omega (arith, from.0, pairs.0.0)

-- The entries that wait when a moment comes, before the expired ones are reported.
pub record Waits (within keep : ℕ) (low moment : ℕ) (entries : List (Entry ℕ)) (free wanted : List Expected) (seen : List Ask) : Type 0 where
  pub holds : Holds entries free
  pub ascending : IsAscending low entries moment
  pub one_side : (asked : Asked ℕ) → (wanted_about asked free ≡ []) ⊎ (seen_about asked (free_seen entries) ≡ [])
  pub pairs : (asked : Asked ℕ) → PairUp within keep (wanted_about asked (free ++ wanted)) (seen_about asked (free_seen entries ++ seen))

-- The findings of entries that expired at a moment, and the entries that still wait.
abbrev pub told_of : (keep within moment : ℕ) (changed : Option ℕ) → List (Entry ℕ) → List (Finding ℕ)
told_of keep within moment changed entries = flat_map (findings_of within changed) (take_while (is_over keep moment) entries)

abbrev pub left_of : (keep moment : ℕ) → List (Entry ℕ) → List (Entry ℕ)
left_of keep moment entries = drop (prefix_len (is_over keep moment) entries) entries

pub over_told : (keep within moment : ℕ) (changed : Option ℕ) (e : Entry ℕ) (es : List (Entry ℕ)) → is_over keep moment e ≡ true
    → told_of keep within moment changed (e ∷ es) ≡ findings_of within changed e ++ told_of keep within moment changed es
over_told keep within moment changed e es is = let more : 1 + prefix_len (is_over keep moment) es ≡ suc (prefix_len (is_over keep moment) es) =
    omega arith in rw (is, more) refl

pub over_left : (keep moment : ℕ) (e : Entry ℕ) (es : List (Entry ℕ)) → is_over keep moment e ≡ true → left_of keep moment (e ∷ es) ≡ left_of keep moment es
over_left keep moment e es is = let more : 1 + prefix_len (is_over keep moment) es ≡ suc (prefix_len (is_over keep moment) es) = omega arith in
    rw (is, more) refl

pub ahead_told : (keep within moment : ℕ) (changed : Option ℕ) (e : Entry ℕ) (es : List (Entry ℕ)) → is_over keep moment e ≡ false →
    told_of keep within moment changed (e ∷ es) ≡ []
ahead_told keep within moment changed e es is = rw is refl

pub ahead_left : (keep moment : ℕ) (e : Entry ℕ) (es : List (Entry ℕ)) → is_over keep moment e ≡ false → left_of keep moment (e ∷ es) ≡ e ∷ es
ahead_left keep moment e es is = rw is refl

-- The entries that wait after a moment came. The findings of missing queries are those of expired entries, and then the rest.
pub record Come (within keep moment : ℕ) (changed : Option ℕ) (entries : List (Entry ℕ)) (free wanted : List Expected) (seen : List Ask) : Type 0 where
  pub left : List Expected
  pub stands : Stands within keep moment (left_of keep moment entries) left wanted seen
  pub missing : missing_of (free ++ wanted) ≡ told_of keep within moment changed entries ++ missing_of (left ++ wanted)
  pub returns : (b : Asked ℕ) → returns_of within moment b left (left_of keep moment entries)
      ≡ record { due = still_due within moment (moments_wanted (wanted_about b free)); early = moments_seen (seen_about b (free_seen entries)) }

-- none is over
none_comes : (within keep low moment : ℕ) (changed : Option ℕ) (e : Entry ℕ) (es : List (Entry ℕ)) (free wanted : List Expected) (seen : List Ask)
    → is_over keep moment e ≡ false → Waits within keep low moment (e ∷ es) free wanted seen → Come within keep moment changed (e ∷ es) free wanted seen
none_comes within keep low moment changed e es free wanted seen ahead w =
    let near : moment ≤ moment_of e + keep = ltb-false (moment_of e + keep) moment ahead in
    record {
      left = free;
      stands = rw (ahead_left keep moment e es ahead) (record {
        holds = w.holds;
        ascending = ascending-from low 0 (e ∷ es) moment (omega arith) w.ascending;
        none_over = (near, none_over-ascending keep moment (moment_of e) es moment near w.ascending.1);
        one_side = w.one_side;
        pairs = w.pairs;
      });
      missing = ap (λ (l : List (Finding ℕ)). l ++ missing_of (free ++ wanted)) (sym (ahead_told keep within moment changed e es ahead));
      returns = λ b. λ i. record {
        due = still_due within moment (moments_wanted (wanted_about b free));
        early = moments_seen (seen_about b (free_seen (ahead_left keep moment e es ahead i)));
      };
    }

-- the first entry is over, and `found` are its findings
one_comes : (within keep moment : ℕ) (changed : Option ℕ) (e : Entry ℕ) (es : List (Entry ℕ)) (before free wanted : List Expected) (seen : List Ask)
    (found : List (Finding ℕ))
    → is_over keep moment e ≡ true → findings_of within changed e ≡ found → missing_of (before ++ wanted) ≡ found ++ missing_of (free ++ wanted)
    → ((b : Asked ℕ) → still_due within moment (moments_wanted (wanted_about b before))
    ≡ still_due within moment (moments_wanted (wanted_about b free))) → free_seen (e ∷ es) ≡ free_seen es
    → Come within keep moment changed es free wanted seen → Come within keep moment changed (e ∷ es) before wanted seen
one_comes within keep moment changed e es before free wanted seen found over finds missing due plain rest = record {
  left = rest.left;
  stands = rw (over_left keep moment e es over) rest.stands;
  missing =
      missing ∙ ap (λ (l : List (Finding ℕ)). found ++ l) rest.missing
      ∙ sym (append_assoc found (told_of keep within moment changed es) (missing_of (rest.left ++ wanted)))
      ∙ ap (λ (l : List (Finding ℕ)). l ++ missing_of (rest.left ++ wanted))
      (ap (λ (l : List (Finding ℕ)). l ++ told_of keep within moment changed es) (sym finds) ∙ sym (over_told keep within moment changed e es over));
  returns = λ b.
      ap (λ (l : List (Entry ℕ)). returns_of within moment b rest.left l) (over_left keep moment e es over) ∙ rest.returns b
      ∙ (λ i. record { due = sym (due b) i; early = moments_seen (seen_about b (sym plain i)) });
}

-- an entry that keeps nothing is taken out
plain_out : (within keep low moment : ℕ) (e : Entry ℕ) (es : List (Entry ℕ)) (free wanted : List Expected) (seen : List Ask)
    → Holds es free → free_seen (e ∷ es) ≡ free_seen es → Waits within keep low moment (e ∷ es) free wanted seen →
    Waits within keep (moment_of e) moment es free wanted seen
plain_out within keep low moment e es free wanted seen holds same w = record {
  holds = holds;
  ascending = w.ascending.1;
  one_side = λ b. elim (w.one_side b) [
    | inl n ↦ inl n
    | inr n ↦ inr (ap (seen_about b) (sym same) ∙ n)
  ];
  pairs = λ b. to_pairs within keep _ _ _ _ refl (ap (λ (l : List Ask). seen_about b (l ++ seen)) same) (w.pairs b);
}

-- the entry of a query that was left out is taken out
missed_out : (within keep low moment : ℕ) (m : ℕ) (asked : Asked ℕ) (terms : Terms ℕ) (need : Need) (es : List (Entry ℕ)) (x : Ask)
    (free wanted : List Expected) (seen : List Ask)
    → Waits within keep low moment (Wanted m asked terms need false ∷ es) (LeftOut x ∷ free) wanted seen → Waits within keep m moment es free wanted seen
missed_out within keep low moment m asked terms need es x free wanted seen w =
    let near : is_same asked x.asked ≡ true = ap (λ (a : Ask). is_same asked a.asked) w.holds.0.0 ∙ is_same-self asked in
    let here = wanted_here asked (LeftOut x) free near in
    record {
      holds = w.holds.1;
      ascending = w.ascending.1;
      one_side = by_asked (λ b. (wanted_about b free ≡ []) ⊎ (seen_about b (free_seen es) ≡ [])) asked (elim (w.one_side asked) [
        | inl n ↦ absurd (let two : [] ≡ LeftOut x ∷ wanted_about asked free = sym n ∙ here in cc)
        | inr n ↦ inr n
      ]) (λ b differs. elim (w.one_side b) [
        | inl n ↦ inl (sym (wanted_other b (LeftOut x) free (ap (λ (a : Ask). is_same b a.asked) w.holds.0.0 ∙ differs)) ∙ n)
        | inr n ↦ inr n
      ]);
      pairs = by_asked (λ b. PairUp within keep (wanted_about b (free ++ wanted)) (seen_about b (free_seen es ++ seen))) asked
          ((to_pairs within keep _ _ _ _ (wanted_here asked (LeftOut x) (free ++ wanted) near) refl (w.pairs asked)).1)
          (λ b differs. to_pairs within keep _ _ _ _
          (wanted_other b (LeftOut x) (free ++ wanted) (ap (λ (a : Ask). is_same b a.asked) w.holds.0.0 ∙ differs)) refl (w.pairs b));
    }

-- the entry of a sent query isn't over
no_sent : (within keep low moment : ℕ) (m : ℕ) (asked : Asked ℕ) (terms : Terms ℕ) (need : Need) (es : List (Entry ℕ)) (x : Ask)
    (free wanted : List Expected) (seen : List Ask)
    → within ≤ keep → SeenFrom moment seen → m + keep < moment → Waits within keep low moment (Wanted m asked terms need false ∷ es)
    (Sent x ∷ free) wanted seen → ⊥
no_sent within keep low moment m asked terms need es x free wanted seen long from over w =
    let near : is_same asked x.asked ≡ true = ap (λ (a : Ask). is_same asked a.asked) w.holds.0 ∙ is_same-self asked in
    let here = wanted_here asked (Sent x) free near in
    let none : seen_about asked (free_seen es) ≡ [] = elim (w.one_side asked) [
      | inl n ↦ absurd (let two : [] ≡ Sent x ∷ wanted_about asked free = sym n ∙ here in cc)
      | inr n ↦ n
    ] in
    let alone : seen_about asked (free_seen es ++ seen) ≡ seen_about asked seen = seen_about-append asked (free_seen es) seen ∙
    ap (λ (l : List Ask). l ++ seen_about asked seen) none in
    let at : x.moment ≡ m = ap (λ (a : Ask). a.moment) w.holds.0 in
    sent_in_time within keep moment x _ _ long (to_pairs within keep _ _ _ _ (wanted_here asked (Sent x) (free ++ wanted) near) alone (w.pairs asked))
    (seen_from-about moment asked seen from) (omega arith)

-- and neither is the entry of a seen query without a partner
no_seen_over : (within keep low moment : ℕ) (m : ℕ) (asked : Asked ℕ) (terms : Terms ℕ) (alone : SeenVerdict ℕ) (es : List (Entry ℕ))
    (free wanted : List Expected) (seen : List Ask)
    → within ≤ keep → WantedFrom moment wanted → m + keep < moment → Waits within keep low moment (Seen m asked terms None alone ∷ es) free wanted seen → ⊥
no_seen_over within keep low moment m asked terms alone es free wanted seen long from over w =
    let s = ask m asked terms in
    let here = seen_here asked s (free_seen es) (is_same-self asked) in
    let none : wanted_about asked free ≡ [] = elim (w.one_side asked) [
      | inl n ↦ n
      | inr n ↦ absurd (let two : [] ≡ s ∷ seen_about asked (free_seen es) = sym n ∙ here in cc)
    ] in
    let alone : wanted_about asked (free ++ wanted) ≡ wanted_about asked wanted = wanted_about-append asked free wanted ∙
    ap (λ (l : List Expected). l ++ wanted_about asked wanted) none in
    seen_in_time within keep moment s _ _ long (to_pairs within keep _ _ _ _ alone (seen_here asked s (free_seen es ++ seen) (is_same-self asked))
    (w.pairs asked)) (wanted_from-about moment asked wanted from) over

-- the findings of expired entries
same_flag : (b : Bool) (difference : Difference ℕ) → difference_if b difference ≡ [] → b ≡ false
same_flag true difference none = absurd (cc)
same_flag false difference none = refl

-- queries whose fields are alike have the same S, so nothing is found of them
same_s : (seen wanted : Option QuerierTerms) → queriers_differ seen wanted ≡ [] → has_other_s seen wanted ≡ false
same_s (Some seen) (Some wanted) alike = same_flag (is_unlike seen.suppress wanted.suppress) (field.Suppress seen.suppress wanted.suppress)
    (none_before (difference_if (is_unlike seen.suppress wanted.suppress) (field.Suppress seen.suppress wanted.suppress)) _ (none_before _ _ alike))
same_s _ _ alike = refl

never_both : (a b : Bool) → b ≡ false → (a && b) ≡ false
never_both true b fails = fails
never_both false b fails = refl

fields_alike : (m : ℕ) (asked : Asked ℕ) (terms wanted : Terms ℕ) (alone : Unpaired ℕ) → terms_differ terms wanted ≡ [] →
    findings_of_pair m asked terms wanted alone ≡ []
fields_alike m asked terms wanted alone alike =
    let version = difference_if (not (terms.version == wanted.version)) (field.Version terms.version wanted.version) in
    let response = responses_differ terms.response wanted.response in
    let queriers = queriers_differ terms.querier wanted.querier in
    let same = same_s terms.querier wanted.querier (none_after (version ++ response) queriers (none_before ((version ++ response) ++ queriers) _ alike)) in
    rw (never_both (is_possible alone) (has_other_s terms.querier wanted.querier) same) (ap (list_map (Differs m terms.packet asked)) alike)

judged_alike : (s : SVerdict) (terms wanted : Terms ℕ) → terms_differ terms wanted ≡ [] → terms_differ terms (with_s_judged s terms wanted) ≡ []
judged_alike Right terms wanted alike = alike_with_s terms wanted alike
judged_alike _ terms wanted alike = alike

pub pair_alike : (m : ℕ) (asked : Asked ℕ) (terms wanted : Terms ℕ) (verdict : SeenVerdict ℕ) → terms_differ terms wanted ≡ [] →
    findings_of_pair m asked terms (with_s_judged verdict.s terms wanted) verdict.alone ≡ []
pair_alike m asked terms wanted verdict alike =
    fields_alike m asked terms (with_s_judged verdict.s terms wanted) verdict.alone (judged_alike verdict.s terms wanted alike)

found_of_pair : (within : ℕ) (changed : Option ℕ) (m : ℕ) (asked : Asked ℕ) (terms wanted : Terms ℕ) (alone : SeenVerdict ℕ) →
    terms_differ terms wanted ≡ [] → findings_of within changed (Seen m asked terms (Some wanted) alone) ≡ []
found_of_pair within changed m asked terms wanted alone alike = pair_alike m asked terms wanted alone alike

found_of_found : (within : ℕ) (changed : Option ℕ) (m : ℕ) (asked : Asked ℕ) (terms : Terms ℕ) (need : Need) →
    findings_of within changed (Wanted m asked terms need true) ≡ []
found_of_found within changed m asked terms need = refl

found_of_missed : (within : ℕ) (changed : Option ℕ) (m : ℕ) (asked : Asked ℕ) (terms : Terms ℕ) (need : Need) (x : Ask) →
    x ≡ ask m asked terms → need ≡ Required
    → findings_of within changed (Wanted m asked terms need false) ≡ Missing x.moment x.terms.packet x.asked ∷ []
found_of_missed within changed m asked terms need x is must = rw (must, is) refl

-- a query that is over is no longer due
missed_due : (within keep moment m : ℕ) (asked : Asked ℕ) (terms : Terms ℕ) (x : Ask) (free : List Expected) (b : Asked ℕ) → within ≤ keep →
    x ≡ ask m asked terms → nat_lt (m + keep) moment ≡ true
    → still_due within moment (moments_wanted (wanted_about b (LeftOut x ∷ free))) ≡ still_due within moment (moments_wanted (wanted_about b free))
missed_due within keep moment m asked terms x free b long is over =
    elim (is_same b x.asked) as (λ t. is_same b x.asked ≡ t → still_due within moment (moments_wanted (wanted_about b (LeftOut x ∷ free)))
    ≡ still_due within moment (moments_wanted (wanted_about b free))) [
      | true ↦ λ same.
          let past : m + keep < moment = ltb-true (m + keep) moment over in
          let early : nat_lt (m + within) moment ≡ true = lt-ltb (m + within) moment (omega arith) in
          let gone : nat_lt (x.moment + within) moment ≡ true = ap (λ (a : Ask). nat_lt (a.moment + within) moment) is ∙ early in
          ap (λ (l : List Expected). still_due within moment (moments_wanted l)) (wanted_here b (LeftOut x) free same) ∙ rw gone refl
      | false ↦ λ differs. ap (λ (l : List Expected). still_due within moment (moments_wanted l)) (wanted_other b (LeftOut x) free differs)
    ] refl

-- the first entry is over, or it isn't
either_comes : (within keep low moment : ℕ) (changed : Option ℕ) (e : Entry ℕ) (es : List (Entry ℕ)) (free wanted : List Expected) (seen : List Ask)
    → Waits within keep low moment (e ∷ es) free wanted seen →
    (is_over keep moment e ≡ true → Come within keep moment changed (e ∷ es) free wanted seen) → Come within keep moment changed (e ∷ es) free wanted seen
either_comes within keep low moment changed e es free wanted seen w over =
    elim (is_over keep moment e) as (λ b. is_over keep moment e ≡ b → Come within keep moment changed (e ∷ es) free wanted seen) [
      | true ↦ λ is. over is
      | false ↦ λ ahead. none_comes within keep low moment changed e es free wanted seen ahead w
    ] refl

-- All that is over when a moment comes.
pub comes : (within keep low moment : ℕ) (changed : Option ℕ) (es : List (Entry ℕ)) (free wanted : List Expected) (seen : List Ask)
    → within ≤ keep → WantedFrom moment wanted → SeenFrom moment seen → Waits within keep low moment es free wanted seen →
    Come within keep moment changed es free wanted seen
comes within keep low moment changed [] free wanted seen long later_wanted later_seen w = record {
  left = free;
  stands = record { holds = w.holds; ascending = omega arith; none_over = tt; one_side = w.one_side; pairs = w.pairs };
  missing = refl;
  returns = λ b. refl;
}
comes within keep low moment changed (Wanted m asked terms need true ∷ es) free wanted seen long later_wanted later_seen w =
    let e = Wanted m asked terms need true in
    either_comes within keep low moment changed e es free wanted seen w (λ over.
    one_comes within keep moment changed e es free free wanted seen [] over (found_of_found within changed m asked terms need) refl (λ b. refl) refl
    (comes within keep m moment changed es free wanted seen long later_wanted later_seen
    (plain_out within keep low moment e es free wanted seen w.holds refl w)))
comes within keep low moment changed (Wanted m asked terms need false ∷ es) [] wanted seen long later_wanted later_seen w = absurd w.holds
comes within keep low moment changed (Wanted m asked terms need false ∷ es) (Sent x ∷ free) wanted seen long later_wanted later_seen w =
    either_comes within keep low moment changed (Wanted m asked terms need false) es (Sent x ∷ free) wanted seen w (λ over.
    absurd (no_sent within keep low moment m asked terms need es x free wanted seen long later_seen (ltb-true (m + keep) moment over) w))
comes within keep low moment changed (Wanted m asked terms need false ∷ es) (LeftOut x ∷ free) wanted seen long later_wanted later_seen w =
    let e = Wanted m asked terms need false in
    either_comes within keep low moment changed e es (LeftOut x ∷ free) wanted seen w (λ over.
    one_comes within keep moment changed e es (LeftOut x ∷ free) free wanted seen (Missing x.moment x.terms.packet x.asked ∷ []) over
    (found_of_missed within changed m asked terms need x w.holds.0.0 w.holds.0.1) refl
    (λ b. missed_due within keep moment m asked terms x free b long w.holds.0.0 over) refl
    (comes within keep m moment changed es free wanted seen long later_wanted later_seen
    (missed_out within keep low moment m asked terms need es x free wanted seen w)))
comes within keep low moment changed (Seen m asked terms None alone ∷ es) free wanted seen long later_wanted later_seen w =
    either_comes within keep low moment changed (Seen m asked terms None alone) es free wanted seen w (λ over.
    absurd (no_seen_over within keep low moment m asked terms alone es free wanted seen long later_wanted (ltb-true (m + keep) moment over) w))
comes within keep low moment changed (Seen m asked terms (Some partner) alone ∷ es) free wanted seen long later_wanted later_seen w =
    let e = Seen m asked terms (Some partner) alone in
    either_comes within keep low moment changed e es free wanted seen w (λ over.
    one_comes within keep moment changed e es free free wanted seen [] over (found_of_pair within changed m asked terms partner alone w.holds.0) refl
    (λ b. refl) refl (comes within keep m moment changed es free wanted seen long later_wanted later_seen
    (plain_out within keep low moment e es free wanted seen w.holds.1 refl w)))
comes within keep low moment changed (_ ∷ es) free wanted seen long later_wanted later_seen w = absurd w.holds
