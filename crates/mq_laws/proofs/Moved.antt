-- Queries pair up that were seen at their moments, or no more than the tolerance from them, and where one was left out.
use Rattle.mq_laws.proofs.Common.{◌≡◌, ℕ, ◌+◌, Bool, true, false, not, List, [], ◌∷◌, ◌++◌, refl, ap, sym, ◌∙◌, arith, subst, append_assoc, ◌==◌, list_map}
use Rattle.mq_laws.proofs.Common.{AllByRecursion, eq-eqb, Asked, Finding, Missing, Terms, terms_differ, difference_if, is_unlike, responses_differ}
use Rattle.mq_laws.proofs.Common.{fields_differ, queriers_differ, is_same, Ask, Expected, Sent, LeftOut, Answers, IsMoved, AreMoved, AllLater, PairUp, ask_of}
use Rattle.mq_laws.proofs.Common.{asks_of, all_sent, all_left_out, sent_but, seen_about, unnumbered, unnumbered_terms, wanted_about, missing_of, AreMissed}
use Rattle.mq_laws.proofs.Common.{TakesOut, all_missing, Option, None, Some, Difference, QuerierTerms}
use Rattle.mq_laws.proofs.Same.{same_asked}
use Rattle.mq_laws.proofs.Held.{wanted_here, wanted_other, wanted_about-append, seen_here, seen_other, seen_about-append}
use Rattle.mq_check.specs.declared.finding.Difference.TheVariants as field

-- no field differs from itself
none_if : (n : ℕ) (d : Difference ℕ) → difference_if (not (n == n)) d ≡ []
none_if n d = ap (λ (b : Bool). difference_if (not b) d) (eq-eqb n n refl)

none_unlike : (b : Bool) (d : Difference ℕ) → difference_if (is_unlike b b) d ≡ []
none_unlike true d = refl
none_unlike false d = refl

no_response : (r : Option ℕ) → responses_differ r r ≡ []
no_response None = refl
no_response (Some n) = none_if n (field.Response n n)

no_field : (q : QuerierTerms) → fields_differ q q ≡ []
no_field q = λ i. (none_unlike q.suppress (field.Suppress q.suppress q.suppress) i ++
    none_if q.robustness (field.Robustness q.robustness q.robustness) i) ++ none_if q.interval (field.QueryInterval q.interval q.interval) i

no_querier : (q : Option QuerierTerms) → queriers_differ q q ≡ []
no_querier None = refl
no_querier (Some q) = no_field q

pub terms_differ-self : (t : Terms ℕ) → terms_differ t t ≡ []
terms_differ-self t =
    λ i. ((none_if t.version (field.Version t.version t.version) i ++ no_response t.response i) ++ no_querier t.querier i) ++
    none_if t.to (field.Destination t.to t.to) i

answers_moved : (within : ℕ) (w s : Ask) → IsMoved within w s → Answers within w s
answers_moved within w s is = record {
  not_late = is.not_late;
  not_early = is.not_early;
  alike = ap (λ (t : Terms ℕ). terms_differ t (unnumbered_terms w.terms)) is.terms ∙ terms_differ-self (unnumbered_terms w.terms);
}

moved_none : (within : ℕ) (w : Ask) → IsMoved within w w
moved_none within w = record { not_late = omega arith; not_early = omega arith; terms = refl }

moved-self : (within : ℕ) (ws : List Ask) → AreMoved within ws ws
moved-self within [] = tt
moved-self within (w ∷ ws) = (moved_none within w, moved-self within ws)

-- The same queries in other packets: no comparison reads the number of a packet.
pub moved_as : (within : ℕ) (ws ss : List Ask) → list_map unnumbered ss ≡ list_map unnumbered ws → AreMoved within ws ss
moved_as within [] [] same = tt
moved_as within (w ∷ ws) (s ∷ ss) same =
    let first : unnumbered s ≡ unnumbered w = cc in
    let rest : list_map unnumbered ss ≡ list_map unnumbered ws = cc in
    let at : s.moment ≡ w.moment = ap (λ (a : Ask). a.moment) first in
    (record { not_late = omega arith; not_early = omega arith; terms = ap (λ (a : Ask). a.terms) first }, moved_as within ws ss rest)
moved_as within _ _ same = absurd (cc)

answers_as : (within : ℕ) (w s t : Ask) → unnumbered t ≡ unnumbered s → Answers within w s → Answers within w t
answers_as within w s t same is =
    let at : t.moment ≡ s.moment = ap (λ (a : Ask). a.moment) same in
    record {
      not_late = omega (arith, is.not_late);
      not_early = omega (arith, is.not_early);
      alike = ap (λ (a : Ask). terms_differ a.terms w.terms) same ∙ is.alike;
    }

later_as : (moment : ℕ) (ss ts : List Ask) → list_map unnumbered ts ≡ list_map unnumbered ss → AllLater moment ss → AllLater moment ts
later_as moment [] [] same later = tt
later_as moment (s ∷ ss) (t ∷ ts) same later =
    let first : unnumbered t ≡ unnumbered s = cc in
    let rest : list_map unnumbered ts ≡ list_map unnumbered ss = cc in
    let at : t.moment ≡ s.moment = ap (λ (a : Ask). a.moment) first in
    (rw at later.0, later_as moment ss ts rest later.1)
later_as moment _ _ same later = absurd (cc)

pairs_as : (within kept : ℕ) (ws : List Expected) (ss ts : List Ask) → list_map unnumbered ts ≡ list_map unnumbered ss → PairUp within kept ws ss →
    PairUp within kept ws ts
pairs_as within kept [] [] [] same pairs = tt
pairs_as within kept [] [] (t ∷ ts) same pairs = absurd (cc)
pairs_as within kept [] (s ∷ ss) ts same pairs = absurd pairs
pairs_as within kept (Sent w ∷ ws) [] ts same pairs = absurd pairs
pairs_as within kept (Sent w ∷ ws) (s ∷ ss) [] same pairs = absurd (cc)
pairs_as within kept (Sent w ∷ ws) (s ∷ ss) (t ∷ ts) same pairs =
    let first : unnumbered t ≡ unnumbered s = cc in
    let rest : list_map unnumbered ts ≡ list_map unnumbered ss = cc in
    (answers_as within w s t first pairs.0, pairs_as within kept ws ss ts rest pairs.1)
pairs_as within kept (LeftOut w ∷ ws) ss ts same pairs = (later_as (w.moment + kept) ss ts same pairs.0, pairs_as within kept ws ss ts same pairs.1)

-- those that were sent about one thing
sent_about : (asked : Asked ℕ) (ws : List Ask) → wanted_about asked (all_sent ws) ≡ all_sent (seen_about asked ws)
sent_about asked [] = refl
sent_about asked (w ∷ ws) = one (sent_about asked ws) (is_same asked w.asked) refl
  where
    one : wanted_about asked (all_sent ws) ≡ all_sent (seen_about asked ws) → (b : Bool) → is_same asked w.asked ≡ b →
        wanted_about asked (all_sent (w ∷ ws)) ≡ all_sent (seen_about asked (w ∷ ws))
    one rest true is = wanted_here asked (Sent w) (all_sent ws) is ∙ ap (λ (l : List Expected). Sent w ∷ l) rest ∙ ap all_sent (sym (seen_here asked w ws is))
    one rest false is = wanted_other asked (Sent w) (all_sent ws) is ∙ rest ∙ ap all_sent (sym (seen_other asked w ws is))

pairs_moved : (within kept : ℕ) (ws ss : List Ask) → AreMoved within ws ss → PairUp within kept (all_sent ws) ss
pairs_moved within kept [] [] are = tt
pairs_moved within kept (w ∷ ws) (s ∷ ss) are = (answers_moved within w s are.0, pairs_moved within kept ws ss are.1)
pairs_moved within kept _ _ are = absurd are

pub all_pair_up : (within kept : ℕ) (wanted seen : List Ask) → ((asked : Asked ℕ) → AreMoved within (seen_about asked wanted) (seen_about asked seen))
    → (asked : Asked ℕ) → PairUp within kept (wanted_about asked (all_sent wanted)) (seen_about asked seen)
all_pair_up within kept wanted seen are asked = rw (sent_about asked wanted)
    (pairs_moved within kept (seen_about asked wanted) (seen_about asked seen) (are asked))

-- all but some of those about one thing
abbrev AllLaterThan : (kept : ℕ) → (taken behind : List Ask) → Type 0
AllLaterThan kept taken behind = AllByRecursion (λ (ask : Ask). AllLater (ask.moment + kept) behind) taken

pairs_behind : (within kept : ℕ) (taken behind : List Ask) → AllLaterThan kept taken behind → PairUp within kept (all_left_out taken ++ all_sent behind) behind
pairs_behind within kept [] behind later = pairs_moved within kept behind behind (moved-self within behind)
pairs_behind within kept (ask ∷ taken) behind later = (later.0, pairs_behind within kept taken behind later.1)

pairs_but : (within kept : ℕ) (before taken behind : List Ask) → AllLaterThan kept taken behind →
    PairUp within kept (all_sent before ++ (all_left_out taken ++ all_sent behind)) (before ++ behind)
pairs_but within kept [] taken behind later = pairs_behind within kept taken behind later
pairs_but within kept (w ∷ before) taken behind later = (answers_moved within w w (moved_none within w), pairs_but within kept before taken behind later)

left_out_about : (asked : Asked ℕ) (ws : List Ask) → wanted_about asked (all_left_out ws) ≡ all_left_out (seen_about asked ws)
left_out_about asked [] = refl
left_out_about asked (w ∷ ws) = one (left_out_about asked ws) (is_same asked w.asked) refl
  where
    one : wanted_about asked (all_left_out ws) ≡ all_left_out (seen_about asked ws) → (b : Bool) → is_same asked w.asked ≡ b →
        wanted_about asked (all_left_out (w ∷ ws)) ≡ all_left_out (seen_about asked (w ∷ ws))
    one rest true is = wanted_here asked (LeftOut w) (all_left_out ws) is ∙ ap (λ (l : List Expected). LeftOut w ∷ l) rest ∙
        ap all_left_out (sym (seen_here asked w ws is))
    one rest false is = wanted_other asked (LeftOut w) (all_left_out ws) is ∙ rest ∙ ap all_left_out (sym (seen_other asked w ws is))

sent_but_about : (asked : Asked ℕ) (before taken behind : List Ask)
    → wanted_about asked (sent_but before taken behind) ≡ all_sent (seen_about asked before) ++
    (all_left_out (seen_about asked taken) ++ all_sent (seen_about asked behind))
sent_but_about asked before taken behind =
    wanted_about-append asked (all_sent before ++ all_left_out taken) (all_sent behind)
    ∙ ap (λ (l : List Expected). l ++ wanted_about asked (all_sent behind)) (wanted_about-append asked (all_sent before) (all_left_out taken))
    ∙ (λ i. (sent_about asked before i ++ left_out_about asked taken i) ++ sent_about asked behind i)
    ∙ append_assoc (all_sent (seen_about asked before)) (all_left_out (seen_about asked taken)) (all_sent (seen_about asked behind))

-- about one thing, each query of `behind` comes more than `kept` after each query that was taken out
later_about : (strict : Bool) (kept end : ℕ) (asked : Asked ℕ) (taken behind : List Ask) → TakesOut strict kept end taken behind →
    AllLaterThan kept (seen_about asked taken) (seen_about asked behind)
later_about strict kept end asked [] behind out = tt
later_about strict kept end asked (ask ∷ taken) behind out = one (later_about strict kept end asked taken behind out.2) (is_same asked ask.asked) refl
  where
    one : AllLaterThan kept (seen_about asked taken) (seen_about asked behind) → (b : Bool) → is_same asked ask.asked ≡ b →
        AllLaterThan kept (seen_about asked (ask ∷ taken)) (seen_about asked behind)
    one rest true is = rw (seen_here asked ask taken is)
        (subst (λ (a : Asked ℕ). AllLater (ask.moment + kept) (seen_about a behind)) (sym (same_asked asked ask.asked is)) out.1, rest)
    one rest false is = rw (seen_other asked ask taken is) rest

pub all_but_some_pair_up : (within : ℕ) (strict : Bool) (kept end : ℕ) (before taken behind seen : List Ask)
    → ((asked : Asked ℕ) → list_map unnumbered (seen_about asked seen) ≡ list_map unnumbered (seen_about asked (before ++ behind))) →
    TakesOut strict kept end taken behind
    → (asked : Asked ℕ) → PairUp within kept (wanted_about asked (sent_but before taken behind)) (seen_about asked seen)
all_but_some_pair_up within strict kept end before taken behind seen are out asked =
    rw (sent_but_about asked before taken behind) (pairs_as within kept _ (seen_about asked before ++ seen_about asked behind) (seen_about asked seen)
    (are asked ∙ ap (list_map unnumbered) (seen_about-append asked before behind))
    (pairs_but within kept (seen_about asked before) (seen_about asked taken) (seen_about asked behind) (later_about strict kept end asked taken behind out)))

-- the wanted queries are the same, sent or left out
pub asks_of-sent : (asks : List Ask) → asks_of (all_sent asks) ≡ asks
asks_of-sent [] = refl
asks_of-sent (a ∷ asks) = ap (λ (l : List Ask). a ∷ l) (asks_of-sent asks)

asks_of-left_out : (asks : List Ask) → asks_of (all_left_out asks) ≡ asks
asks_of-left_out [] = refl
asks_of-left_out (a ∷ asks) = ap (λ (l : List Ask). a ∷ l) (asks_of-left_out asks)

asks_of-append : (xs ys : List Expected) → asks_of (xs ++ ys) ≡ asks_of xs ++ asks_of ys
asks_of-append [] ys = refl
asks_of-append (x ∷ xs) ys = ap (λ (l : List Ask). ask_of x ∷ l) (asks_of-append xs ys)

pub asks_of-sent_but : (before taken behind : List Ask) → asks_of (sent_but before taken behind) ≡ before ++ taken ++ behind
asks_of-sent_but before taken behind =
    asks_of-append (all_sent before ++ all_left_out taken) (all_sent behind) ∙ ap (λ (l : List Ask). l ++ asks_of (all_sent behind))
    (asks_of-append (all_sent before) (all_left_out taken)) ∙ (λ i. (asks_of-sent before i ++ asks_of-left_out taken i) ++ asks_of-sent behind i)

-- and what is missing
pub missing_of-sent : (asks : List Ask) → missing_of (all_sent asks) ≡ []
missing_of-sent [] = refl
missing_of-sent (a ∷ asks) = missing_of-sent asks

missing_of-left_out : (taken behind : List Ask) → missing_of (all_left_out taken ++ all_sent behind) ≡ all_missing taken
missing_of-left_out [] behind = missing_of-sent behind
missing_of-left_out (a ∷ taken) behind = ap (λ (l : List (Finding ℕ)). Missing a.moment a.terms.packet a.asked ∷ l) (missing_of-left_out taken behind)

missing_of-behind : (before : List Ask) (xs : List Expected) → missing_of (all_sent before ++ xs) ≡ missing_of xs
missing_of-behind [] xs = refl
missing_of-behind (a ∷ before) xs = missing_of-behind before xs

pub missing_of-sent_but : (before taken behind : List Ask) → missing_of (sent_but before taken behind) ≡ all_missing taken
missing_of-sent_but before taken behind =
    ap missing_of (append_assoc (all_sent before) (all_left_out taken) (all_sent behind)) ∙
    missing_of-behind before (all_left_out taken ++ all_sent behind) ∙ missing_of-left_out taken behind

-- nothing is missed of what was sent, and of the rest what is taken out
pub missed-sent : (strict : Bool) (kept end : ℕ) (asks : List Ask) → AreMissed strict kept end (all_sent asks)
missed-sent strict kept end [] = tt
missed-sent strict kept end (a ∷ asks) = missed-sent strict kept end asks

missed-left_out : (strict : Bool) (kept end : ℕ) (taken behind : List Ask) → TakesOut strict kept end taken behind →
    AreMissed strict kept end (all_left_out taken ++ all_sent behind)
missed-left_out strict kept end [] behind out = missed-sent strict kept end behind
missed-left_out strict kept end (a ∷ taken) behind out = (out.0, missed-left_out strict kept end taken behind out.2)

missed-behind : (strict : Bool) (kept end : ℕ) (before : List Ask) (xs : List Expected) → AreMissed strict kept end xs →
    AreMissed strict kept end (all_sent before ++ xs)
missed-behind strict kept end [] xs missed = missed
missed-behind strict kept end (a ∷ before) xs missed = missed-behind strict kept end before xs missed

pub missed-sent_but : (strict : Bool) (kept end : ℕ) (before taken behind : List Ask) → TakesOut strict kept end taken behind →
    AreMissed strict kept end (sent_but before taken behind)
missed-sent_but strict kept end before taken behind out =
    subst (AreMissed strict kept end) (sym (append_assoc (all_sent before) (all_left_out taken) (all_sent behind)))
    (missed-behind strict kept end before (all_left_out taken ++ all_sent behind) (missed-left_out strict kept end taken behind out))
