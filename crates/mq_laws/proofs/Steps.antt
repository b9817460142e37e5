-- One step of a check whose queries pair up: something is wanted, something was seen, or a moment comes.
use Rattle.mq_laws.proofs.Common.{◌≡◌, ℕ, ◌+◌, ◌-◌, ◌<◌, ◌≤◌, true, false, List, [], ◌∷◌, ◌++◌, refl, ap, sym, ◌∙◌, arith, subst, append_assoc, append-nil, ◌⊎◌}
use Rattle.mq_laws.proofs.Common.{is_some, nat_lt, and_left, and_right, lt-leb, ltb-true, Asked, AllGroups, Entry, Need, Wanted, Seen}
use Rattle.mq_laws.proofs.Common.{Terms, first_terms, first_joined, is_free_seen, is_free_wanted, terms_differ, is_same, Ask, Expected, Sent, LeftOut}
use Rattle.mq_laws.proofs.Common.{Answers, PairUp, ask_of, seen_about, wanted_about, missing_of, Returns, return_seen, return_wanted, general_ask}
use Rattle.mq_laws.proofs.Common.{general_returned, still_due, SeenVerdict, None, Some, inl, inr, Extra, NoChange, as_wanted, moment_of}
use Rattle.mq_laws.proofs.{Same.is_same-self, Same.same_asked, Held.moments_wanted, Held.AllStill, Held.all_still, Held.still_put}
use Rattle.mq_laws.proofs.Held.{ask, IsKept, Holds, free_seen, IsAscending, NoneOver, kept_ask, wanted_here, wanted_other, seen_here, seen_other}
use Rattle.mq_laws.proofs.Held.{wanted_about-append, seen_about-append, ascending-put, ascending-joined, none_over-joined, none_over-put, passed_joined}
use Rattle.mq_laws.proofs.Partners.{NoneWanted, OneWanted, NoneSeen, OneSeen, SameFrom, find_wanted, find_seen, test_from}

-- The entries that wait at a moment: `free` are the wanted queries without a partner, `wanted` and `seen` those still to
-- come. All pair up, and only one side waits for each thing asked about.
pub record Stands (within keep now : ℕ) (entries : List (Entry ℕ)) (free wanted : List Expected) (seen : List Ask) : Type 0 where
  pub holds : Holds entries free
  pub ascending : IsAscending 0 entries now
  pub none_over : NoneOver keep now entries
  pub one_side : (asked : Asked ℕ) → (wanted_about asked free ≡ []) ⊎ (seen_about asked (free_seen entries) ≡ [])
  pub pairs : (asked : Asked ℕ) → PairUp within keep (wanted_about asked (free ++ wanted)) (seen_about asked (free_seen entries ++ seen))

-- the first ones of those that pair up
first_sent : (within keep : ℕ) (x : Expected) (xs : List Expected) (s : Ask) (ss : List Ask) → PairUp within keep (x ∷ xs) (s ∷ ss) →
    s.moment ≤ (ask_of x).moment + keep → (w : Ask) × (x ≡ Sent w) × Answers within w s × PairUp within keep xs ss
first_sent within keep (Sent w) xs s ss pairs near = (w, refl, pairs.0, pairs.1)
first_sent within keep (LeftOut w) xs s ss pairs near = absurd (omega (arith, pairs.0.0))

-- wanted queries about a thing
about_append : (asked : Asked ℕ) (first : Expected) (xs rest more : List Expected) → wanted_about asked xs ≡ first ∷ wanted_about asked rest →
    wanted_about asked (xs ++ more) ≡ first ∷ wanted_about asked (rest ++ more)
about_append asked first xs rest more here =
    wanted_about-append asked xs more ∙ ap (λ (l : List Expected). l ++ wanted_about asked more) here ∙
    ap (λ (l : List Expected). first ∷ l) (sym (wanted_about-append asked rest more))

pub about_same : (asked : Asked ℕ) (xs rest more : List Expected) → wanted_about asked xs ≡ wanted_about asked rest →
    wanted_about asked (xs ++ more) ≡ wanted_about asked (rest ++ more)
about_same asked xs rest more same = wanted_about-append asked xs more ∙ ap (λ (l : List Expected). l ++ wanted_about asked more) same ∙
    sym (wanted_about-append asked rest more)

seen_append : (asked : Asked ℕ) (first : Ask) (xs rest more : List Ask) → seen_about asked xs ≡ first ∷ seen_about asked rest →
    seen_about asked (xs ++ more) ≡ first ∷ seen_about asked (rest ++ more)
seen_append asked first xs rest more here =
    seen_about-append asked xs more ∙ ap (λ (l : List Ask). l ++ seen_about asked more) here ∙
    ap (λ (l : List Ask). first ∷ l) (sym (seen_about-append asked rest more))

seen_same : (asked : Asked ℕ) (xs rest more : List Ask) → seen_about asked xs ≡ seen_about asked rest →
    seen_about asked (xs ++ more) ≡ seen_about asked (rest ++ more)
seen_same asked xs rest more same = seen_about-append asked xs more ∙ ap (λ (l : List Ask). l ++ seen_about asked more) same ∙
    sym (seen_about-append asked rest more)

-- entries behind others
holds-append : (es ds : List (Entry ℕ)) (xs ys : List Expected) → Holds es xs → Holds ds ys → Holds (es ++ ds) (xs ++ ys)
holds-append [] ds [] ys holds more = more
holds-append [] ds (x ∷ xs) ys holds more = absurd holds
holds-append (Wanted m a t o true ∷ es) ds xs ys holds more = holds-append es ds xs ys holds more
holds-append (Wanted m a t o false ∷ es) ds [] ys holds more = absurd holds
holds-append (Wanted m a t o false ∷ es) ds (x ∷ xs) ys holds more = (holds.0, holds-append es ds xs ys holds.1 more)
holds-append (Seen m a t None q ∷ es) ds xs ys holds more = holds-append es ds xs ys holds more
holds-append (Seen m a t (Some w) q ∷ es) ds xs ys holds more = (holds.0, holds-append es ds xs ys holds.1 more)
holds-append (_ ∷ es) ds xs ys holds more = absurd holds

-- and one more that keeps nothing
pub holds-put : (es : List (Entry ℕ)) (xs : List Expected) (e : Entry ℕ) → Holds es xs → Holds (e ∷ []) [] → Holds (es ++ e ∷ []) xs
holds-put es xs e holds good = rw append-nil at (holds-append es (e ∷ []) xs [] holds good)

-- the queries without a partner that were seen, with one more entry
free_seen-append : (es ds : List (Entry ℕ)) → free_seen (es ++ ds) ≡ free_seen es ++ free_seen ds
free_seen-append [] ds = refl
free_seen-append (Seen m a t None q ∷ es) ds = ap (λ (l : List Ask). ask m a t ∷ l) (free_seen-append es ds)
free_seen-append (_ ∷ es) ds = free_seen-append es ds

missing_of-append : (xs ys : List Expected) → missing_of (xs ++ ys) ≡ missing_of xs ++ missing_of ys
missing_of-append [] ys = refl
missing_of-append (Sent w ∷ xs) ys = missing_of-append xs ys
missing_of-append (LeftOut w ∷ xs) ys = rw (missing_of-append xs ys) refl

-- a property of the thing asked about, and of each other thing, holds of all
pub by_asked : (P : Asked ℕ → Type 0) (asked : Asked ℕ) → P asked → ((b : Asked ℕ) → is_same b asked ≡ false → P b) → (b : Asked ℕ) → P b
by_asked P asked here others b = elim (is_same b asked) as (λ t. is_same b asked ≡ t → P b) [
  | true ↦ λ same. subst P (sym (same_asked b asked same)) here
  | false ↦ λ differs. others b differs
] refl

pub to_pairs : (within keep : ℕ) (ws vs : List Expected) (ss ts : List Ask) → ws ≡ vs → ss ≡ ts → PairUp within keep ws ss → PairUp within keep vs ts
to_pairs within keep ws vs ss ts w s pairs = subst (λ l. PairUp within keep vs l) s (subst (λ l. PairUp within keep l ss) w pairs)

-- the moments of the queries about a thing that were seen and have no partner
abbrev pub moments_seen : List Ask → List ℕ
moments_seen [] = []
moments_seen (s ∷ ss) = s.moment ∷ moments_seen ss

abbrev pub returns_of : (within now : ℕ) → Asked ℕ → List Expected → List (Entry ℕ) → Returns
returns_of within now asked free entries =
    record { due = still_due within now (moments_wanted (wanted_about asked free)); early = moments_seen (seen_about asked (free_seen entries)) }

moments_wanted-append : (xs ys : List Expected) → moments_wanted (xs ++ ys) ≡ moments_wanted xs ++ moments_wanted ys
moments_wanted-append [] ys = refl
moments_wanted-append (x ∷ xs) ys = ap (λ (l : List ℕ). (ask_of x).moment ∷ l) (moments_wanted-append xs ys)

moments_seen-append : (xs ys : List Ask) → moments_seen (xs ++ ys) ≡ moments_seen xs ++ moments_seen ys
moments_seen-append [] ys = refl
moments_seen-append (x ∷ xs) ys = ap (λ (l : List ℕ). x.moment ∷ l) (moments_seen-append xs ys)

-- The entries that wait after a step about one thing: `left` are the wanted queries without a partner. The same queries are
-- missing as before, and the queries about other things wait as before.
pub record Stepped (within keep now : ℕ) (asked : Asked ℕ) (step : (due early : List ℕ) → Returns) (old entries : List (Entry ℕ))
    (free before wanted : List Expected) (seen : List Ask) : Type 0 where
  pub left : List Expected
  pub stands : Stands within keep now entries left wanted seen
  pub missing : missing_of before ≡ missing_of (left ++ wanted)
  pub here : returns_of within now asked left entries ≡ step (returns_of within now asked free old).due (returns_of within now asked free old).early
  pub others : (b : Asked ℕ) → is_same b asked ≡ false → returns_of within now b left entries ≡ returns_of within now b free old

-- if nothing is wanted, a seen query waits
none_here : (within now : ℕ) (ws : List Expected) (early after : List ℕ) → ws ≡ [] → after ≡ early ++ now ∷ [] →
    record { due = still_due within now (moments_wanted ws); early = after } ≡ return_seen now (still_due within now (moments_wanted ws)) early
none_here within now ws early after none more = rw none (λ i. record { due = []; early = more i })

-- something was seen, and nothing that is wanted waits for it
see_none : (within keep now : ℕ) (asked : Asked ℕ) (terms : Terms ℕ) (alone : SeenVerdict ℕ) (es : List (Entry ℕ)) (free wanted : List Expected)
    (seen : List Ask) → NoneWanted asked es free → Stands within keep now es free wanted (ask now asked terms ∷ seen)
    → Stepped within keep now asked (return_seen now) es (es ++ Seen now asked terms None alone ∷ []) free (free ++ wanted) wanted seen
see_none within keep now asked terms alone es free wanted seen none st =
    let e = Seen now asked terms None alone in
    let s = ask now asked terms in
    let more : free_seen (es ++ e ∷ []) ≡ free_seen es ++ s ∷ [] = free_seen-append es (e ∷ []) in
    record {
      left = free;
      stands = record {
        holds = holds-put es free e st.holds tt;
        ascending = ascending-put 0 es now e refl st.ascending;
        none_over = none_over-put keep now es e refl st.none_over;
        one_side = by_asked (λ b. (wanted_about b free ≡ []) ⊎ (seen_about b (free_seen (es ++ e ∷ [])) ≡ [])) asked (inl none.none) (λ b differs.
            elim (st.one_side b) [
              | inl n ↦ inl n
              | inr n ↦ inr (ap (seen_about b) more ∙ seen_about-append b (free_seen es) (s ∷ []) ∙ (λ i. n i ++ seen_other b s [] differs i))
            ]);
        pairs = λ b. to_pairs within keep _ _ _ _ refl
            (ap (seen_about b) (sym (append_assoc (free_seen es) (s ∷ []) seen) ∙ ap (λ (l : List Ask). l ++ seen) (sym more))) (st.pairs b);
      };
      missing = refl;
      here = none_here within now (wanted_about asked free) _ _ none.none
          (ap moments_seen (ap (seen_about asked) more ∙ seen_about-append asked (free_seen es) (s ∷ []))
          ∙ moments_seen-append (seen_about asked (free_seen es)) (seen_about asked (s ∷ [])) ∙
          ap (λ (l : List Ask). moments_seen (seen_about asked (free_seen es)) ++ moments_seen l) (seen_here asked s [] (is_same-self asked)));
      others = λ b differs. λ i. record {
        due = still_due within now (moments_wanted (wanted_about b free));
        early = moments_seen
            ((ap (seen_about b) more ∙ seen_about-append b (free_seen es) (s ∷ []) ∙ ap (λ (l : List Ask). seen_about b (free_seen es) ++ l)
            (seen_other b s [] differs) ∙ append-nil (seen_about b (free_seen es))) i);
      };
    }

-- the other side waits for nothing where one side does
no_seen : (within keep now : ℕ) (asked : Asked ℕ) (es : List (Entry ℕ)) (free wanted : List Expected) (seen : List Ask) (x : Expected) (rest : List Expected)
    → wanted_about asked free ≡ x ∷ rest → Stands within keep now es free wanted seen → seen_about asked (free_seen es) ≡ []
no_seen within keep now asked es free wanted seen x rest here st = elim (st.one_side asked) [
  | inl none ↦ absurd (let two : [] ≡ x ∷ rest = sym none ∙ here in cc)
  | inr none ↦ none
]

no_wanted : (within keep now : ℕ) (asked : Asked ℕ) (es : List (Entry ℕ)) (free wanted : List Expected) (seen : List Ask) (s : Ask) (rest : List Ask)
    → seen_about asked (free_seen es) ≡ s ∷ rest → Stands within keep now es free wanted seen → wanted_about asked free ≡ []
no_wanted within keep now asked es free wanted seen s rest here st = elim (st.one_side asked) [
  | inl none ↦ none
  | inr none ↦ absurd (let two : [] ≡ s ∷ rest = sym none ∙ here in cc)
]

-- the first waiting query is gone
first_here : (step : (due early : List ℕ) → Returns) → ((d : ℕ) (due early : List ℕ) → step (d ∷ due) early ≡ record { due = due; early = early })
    → (within now : ℕ) (ws : List Expected) (x : Expected) (rest : List Expected) (early after : List ℕ) → ws ≡ x ∷ rest → after ≡ early →
    now ≤ (ask_of x).moment + within → AllStill within now rest
    → record { due = still_due within now (moments_wanted rest); early = after } ≡ step (still_due within now (moments_wanted ws)) early
first_here step gone within now ws x rest early after first same near later =
    (λ i. record { due = all_still within now rest later i; early = same i }) ∙ sym (gone (ask_of x).moment (moments_wanted rest) early)
    ∙ ap (λ (l : List ℕ). step l early) (sym (all_still within now (x ∷ rest) (near, later))) ∙
    ap (λ (l : List Expected). step (still_due within now (moments_wanted l)) early) (sym first)

-- The first wanted query without a partner was sent, and what is seen answers it. So it lies within the tolerance.
first_partner : (within keep now : ℕ) (asked : Asked ℕ) (terms : Terms ℕ) (es : List (Entry ℕ)) (free wanted : List Expected) (seen : List Ask)
    → (one : OneWanted within keep now asked terms es free) → Stands within keep now es free wanted (ask now asked terms ∷ seen)
    → (w : Ask) × (one.first ≡ Sent w) × Answers within w (ask now asked terms) × PairUp within keep (wanted_about asked (one.rest ++ wanted))
    (seen_about asked seen)
first_partner within keep now asked terms es free wanted seen one st =
    let s = ask now asked terms in
    let none : seen_about asked (free_seen es) ≡ [] = no_seen within keep now asked es free wanted (s ∷ seen) one.first _ one.here st in
    let next : seen_about asked (free_seen es ++ s ∷ seen) ≡ s ∷ seen_about asked seen =
    seen_about-append asked (free_seen es) (s ∷ seen) ∙ (λ i. none i ++ seen_here asked s seen (is_same-self asked) i) in
    first_sent within keep one.first _ s _
    (to_pairs within keep _ _ _ _ (about_append asked one.first free one.rest wanted one.here) next (st.pairs asked)) one.ahead

partner_near : (within now : ℕ) (asked : Asked ℕ) (terms : Terms ℕ) (x : Expected) (w : Ask) → x ≡ Sent w → Answers within w (ask now asked terms) →
    now ≤ (ask_of x).moment + within
partner_near within now asked terms x w is answers = let late : now ≤ w.moment + within = answers.not_late in rw is late

-- a seen query finds the same partner from the tolerance before it on
pub wanted_near : (within keep now : ℕ) (asked : Asked ℕ) (terms : Terms ℕ) (es : List (Entry ℕ)) (free wanted : List Expected) (seen : List Ask)
    → Stands within keep now es free wanted (ask now asked terms ∷ seen) → SameFrom (is_free_wanted asked) (now - within) es
wanted_near within keep now asked terms es free wanted seen st = elim (find_wanted 0 within keep now asked terms es free st.holds st.ascending st.none_over) [
  | inl none ↦ none.same (now - within)
  | inr one ↦
      let first = first_partner within keep now asked terms es free wanted seen one st in
      let near : now ≤ (ask_of one.first).moment + within = partner_near within now asked terms one.first first.0 first.1 first.2 in
      one.same (now - within) (omega arith)
]

-- Something was seen, and is the partner of the first that is wanted; beside it stands what it is compared with.
see_partner : (step : (due early : List ℕ) → Returns) → ((d : ℕ) (due early : List ℕ) → step (d ∷ due) early ≡ record { due = due; early = early })
    → (within keep now : ℕ) (asked : Asked ℕ) (terms partner : Terms ℕ) (alone : SeenVerdict ℕ) (es : List (Entry ℕ)) (free wanted : List Expected)
    (seen : List Ask) → (one : OneWanted within keep now asked terms es free) →
    ((w : Ask) → one.first ≡ Sent w → Answers within w (ask now asked terms) → terms_differ terms partner ≡ [])
    → Stands within keep now es free wanted (ask now asked terms ∷ seen)
    → Stepped within keep now asked step es (first_joined (is_free_wanted asked) terms es ++ Seen now asked terms (Some partner) alone ∷ []) free
    (free ++ wanted) wanted seen
see_partner step gone within keep now asked terms partner alone es free wanted seen one alike st =
    let test = is_free_wanted asked in
    let joined_up = first_joined test terms es in
    let e = Seen now asked terms (Some partner) alone in
    let s = ask now asked terms in
    let none : seen_about asked (free_seen es) ≡ [] = no_seen within keep now asked es free wanted (s ∷ seen) one.first _ one.here st in
    let same : free_seen (joined_up ++ e ∷ []) ≡ free_seen es = free_seen-append joined_up (e ∷ []) ∙ append-nil (free_seen joined_up) ∙ one.seen in
    let first = first_partner within keep now asked terms es free wanted seen one st in
    let near : now ≤ (ask_of one.first).moment + within = partner_near within now asked terms one.first first.0 first.1 first.2 in
    record {
      left = one.rest;
      stands = record {
        holds = holds-put joined_up one.rest e one.holds (alike first.0 first.1 first.2, tt);
        ascending = ascending-put 0 joined_up now e refl (ascending-joined test terms 0 es now st.ascending);
        none_over = none_over-put keep now joined_up e refl (none_over-joined test terms keep now es st.none_over);
        one_side = by_asked (λ b. (wanted_about b one.rest ≡ []) ⊎ (seen_about b (free_seen (joined_up ++ e ∷ [])) ≡ [])) asked
            (inr (ap (seen_about asked) same ∙ none)) (λ b differs.
            elim (st.one_side b) [
              | inl n ↦ inl (sym (one.others b differs) ∙ n)
              | inr n ↦ inr (ap (seen_about b) same ∙ n)
            ]);
        pairs = by_asked (λ b. PairUp within keep (wanted_about b (one.rest ++ wanted)) (seen_about b (free_seen (joined_up ++ e ∷ []) ++ seen))) asked
            (to_pairs within keep _ _ _ _ refl
            (sym (ap (λ (l : List Ask). seen_about asked (l ++ seen)) same ∙ seen_about-append asked (free_seen es) seen ∙
            ap (λ (l : List Ask). l ++ seen_about asked seen) none)) first.3)
            (λ b differs. to_pairs within keep _ _ _ _ (about_same b free one.rest wanted (one.others b differs))
            (seen_about-append b (free_seen es) (s ∷ seen) ∙ ap (λ (l : List Ask). seen_about b (free_seen es) ++ l) (seen_other b s seen differs)
            ∙ sym (seen_about-append b (free_seen es) seen) ∙ ap (λ (l : List Ask). seen_about b (l ++ seen)) (sym same)) (st.pairs b));
      };
      missing = missing_of-append free wanted ∙ ap (λ (l : List _). l ++ missing_of wanted) (one.missing first.0 first.1) ∙
          sym (missing_of-append one.rest wanted);
      here = first_here step gone within now (wanted_about asked free) one.first (wanted_about asked one.rest) _ _ one.here
          (ap (λ (l : List Ask). moments_seen (seen_about asked l)) same) near (one.later near);
      others = λ b differs. λ i. record {
        due = still_due within now (moments_wanted (sym (one.others b differs) i));
        early = moments_seen (seen_about b (same i));
      };
    }

-- something was seen
pub see_one : (within keep now : ℕ) (asked : Asked ℕ) (terms : Terms ℕ) (alone : SeenVerdict ℕ) (es : List (Entry ℕ)) (free wanted : List Expected)
    (seen : List Ask) → Stands within keep now es free wanted (ask now asked terms ∷ seen)
    → Stepped within keep now asked (return_seen now) es (first_joined (is_free_wanted asked) terms es ++
    Seen now asked terms (first_terms (is_free_wanted asked) es) alone ∷ []) free (free ++ wanted) wanted seen
see_one within keep now asked terms alone es free wanted seen st = elim (find_wanted 0 within keep now asked terms es free st.holds st.ascending st.none_over) [
  | inl none ↦ rw (none.joined terms, none.terms) (see_none within keep now asked terms alone es free wanted seen none st)
  | inr one ↦ rw one.terms
      (see_partner (return_seen now) (λ d due early. refl) within keep now asked terms (ask_of one.first).terms alone es free wanted seen one
      (λ w is answers. ap (λ (x : Expected). terms_differ terms (ask_of x).terms) is ∙ answers.alike) st)
]

-- if none was seen before, a wanted query waits
waiting_here : (now : ℕ) (before after : List Ask) (due more : List ℕ) → before ≡ [] → after ≡ [] → more ≡ due ++ now ∷ [] →
    record { due = more; early = moments_seen after } ≡ return_wanted now due (moments_seen before)
waiting_here now before after due more none still is = rw none (λ i. record { due = is i; early = moments_seen (still i) })

answered_here : (now : ℕ) (before : List Ask) (s : Ask) (rest after : List Ask) (due : List ℕ) → before ≡ s ∷ rest → after ≡ rest →
    record { due = due; early = moments_seen after } ≡ return_wanted now due (moments_seen before)
answered_here now before s rest after due first same = rw first (λ i. record { due = due; early = moments_seen (same i) })

-- something is wanted, and nothing that was seen waits for it
want_none : (within keep now : ℕ) (asked : Asked ℕ) (terms : Terms ℕ) (need : Need) (x : Expected) (es : List (Entry ℕ))
    (free wanted : List Expected) (seen : List Ask)
    → IsKept now asked terms need x → NoneSeen asked es → Stands within keep now es free (x ∷ wanted) seen
    → Stepped within keep now asked (return_wanted now) es (es ++ Wanted now asked terms need false ∷ []) free (free ++ x ∷ wanted) wanted seen
want_none within keep now asked terms need x es free wanted seen kept none st =
    let e = Wanted now asked terms need false in
    let is = kept_ask now asked terms need x kept in
    let same : free_seen (es ++ e ∷ []) ≡ free_seen es = free_seen-append es (e ∷ []) ∙ append-nil (free_seen es) in
    let more : free ++ x ∷ wanted ≡ (free ++ x ∷ []) ++ wanted = sym (append_assoc free (x ∷ []) wanted) in
    record {
      left = free ++ x ∷ [];
      stands = record {
        holds = holds-append es (e ∷ []) free (x ∷ []) st.holds (kept, tt);
        ascending = ascending-put 0 es now e refl st.ascending;
        none_over = none_over-put keep now es e refl st.none_over;
        one_side = by_asked (λ b. (wanted_about b (free ++ x ∷ []) ≡ []) ⊎ (seen_about b (free_seen (es ++ e ∷ [])) ≡ [])) asked
            (inr (ap (seen_about asked) same ∙ none.none)) (λ b differs.
            elim (st.one_side b) [
              | inl n ↦ inl (wanted_about-append b free (x ∷ []) ∙ (λ i. n i ++ wanted_other b x [] (ap (λ (a : Ask). is_same b a.asked) is ∙ differs) i))
              | inr n ↦ inr (ap (seen_about b) same ∙ n)
            ]);
        pairs = λ b. to_pairs within keep _ _ _ _ (ap (wanted_about b) more) (ap (λ (l : List Ask). seen_about b (l ++ seen)) (sym same)) (st.pairs b);
      };
      missing = ap missing_of more;
      here =
          waiting_here now (seen_about asked (free_seen es)) (seen_about asked (free_seen (es ++ e ∷ [])))
          (still_due within now (moments_wanted (wanted_about asked free))) _ none.none (ap (seen_about asked) same ∙ none.none)
          (ap (still_due within now)
          (ap moments_wanted (wanted_about-append asked free (x ∷ []) ∙ ap (λ (l : List Expected). wanted_about asked free ++ l)
          (wanted_here asked x [] (ap (λ (a : Ask). is_same asked a.asked) is ∙ is_same-self asked)))
          ∙ moments_wanted-append (wanted_about asked free) (x ∷ []) ∙ ap (λ (a : Ask). moments_wanted (wanted_about asked free) ++ a.moment ∷ []) is)
          ∙ still_put within now (moments_wanted (wanted_about asked free)));
      others = λ b differs. λ i. record {
        due = still_due within now (moments_wanted ((wanted_about-append b free (x ∷ []) ∙ ap (λ (l : List Expected). wanted_about b free ++ l)
            (wanted_other b x [] (ap (λ (a : Ask). is_same b a.asked) is ∙ differs)) ∙ append-nil (wanted_about b free)) i));
        early = moments_seen (seen_about b (same i));
      };
    }

-- the first seen query has come by then, and so it is the partner of a sent query
first_came : (within keep : ℕ) (x : Expected) (xs : List Expected) (s : Ask) (ss : List Ask) → PairUp within keep (x ∷ xs) (s ∷ ss) →
    s.moment ≤ (ask_of x).moment → (w : Ask) × (x ≡ Sent w) × Answers within w s × PairUp within keep xs ss
first_came within keep x xs s ss pairs came = first_sent within keep x xs s ss pairs (omega arith)

-- the wanted query was sent, and the first seen query without a partner answers it
first_wanted : (within keep now : ℕ) (asked : Asked ℕ) (terms : Terms ℕ) (x : Expected) (es : List (Entry ℕ)) (free wanted : List Expected) (seen : List Ask)
    → ask_of x ≡ ask now asked terms → (one : OneSeen now asked terms es free) → Stands within keep now es free (x ∷ wanted) seen
    → (w : Ask) × (x ≡ Sent w) × Answers within w one.first × PairUp within keep (wanted_about asked wanted)
    (seen_about asked (free_seen (first_joined (is_free_seen asked) terms es) ++ seen))
first_wanted within keep now asked terms x es free wanted seen is one st =
    let near : is_same asked (ask_of x).asked ≡ true = ap (λ (a : Ask). is_same asked a.asked) is ∙ is_same-self asked in
    let none : wanted_about asked free ≡ [] = no_wanted within keep now asked es free (x ∷ wanted) seen one.first _ one.here st in
    let next : wanted_about asked (free ++ x ∷ wanted) ≡ x ∷ wanted_about asked wanted =
    wanted_about-append asked free (x ∷ wanted) ∙ (λ i. none i ++ wanted_here asked x wanted near i) in
    let came : one.first.moment ≤ (ask_of x).moment = rw is one.arrived in
    first_came within keep x _ one.first _ (to_pairs within keep _ _ _ _ next
    (seen_append asked one.first (free_seen es) (free_seen (first_joined (is_free_seen asked) terms es)) seen one.here) (st.pairs asked)) came

-- a wanted query finds the same partner from the tolerance before it on
pub seen_near : (within keep now : ℕ) (asked : Asked ℕ) (terms : Terms ℕ) (x : Expected) (es : List (Entry ℕ)) (free wanted : List Expected) (seen : List Ask)
    → ask_of x ≡ ask now asked terms → Stands within keep now es free (x ∷ wanted) seen → SameFrom (is_free_seen asked) (now - within) es
seen_near within keep now asked terms x es free wanted seen is st = elim (find_seen 0 now asked terms es free st.holds st.ascending) [
  | inl none ↦ none.same (now - within)
  | inr one ↦
      let first = first_wanted within keep now asked terms x es free wanted seen is one st in
      let at : now ≡ first.0.moment = ap (λ (a : Ask). a.moment) (sym is ∙ ap ask_of first.1) in
      let early : first.0.moment ≤ one.first.moment + within = first.2.not_early in
      one.same (now - within) (omega arith)
]

want_partner : (within keep now : ℕ) (asked : Asked ℕ) (terms : Terms ℕ) (need : Need) (x : Expected) (es : List (Entry ℕ))
    (free wanted : List Expected) (seen : List Ask)
    → ask_of x ≡ ask now asked terms → (one : OneSeen now asked terms es free) → Stands within keep now es free (x ∷ wanted) seen
    → Stepped within keep now asked (return_wanted now) es (first_joined (is_free_seen asked) terms es ++
    Wanted now asked terms need true ∷ []) free (free ++ x ∷ wanted) wanted seen
want_partner within keep now asked terms need x es free wanted seen is one st =
    let test = is_free_seen asked in
    let joined_up = first_joined test terms es in
    let e = Wanted now asked terms need true in
    let none : wanted_about asked free ≡ [] = no_wanted within keep now asked es free (x ∷ wanted) seen one.first _ one.here st in
    let same : free_seen (joined_up ++ e ∷ []) ≡ free_seen joined_up = free_seen-append joined_up (e ∷ []) ∙ append-nil (free_seen joined_up) in
    let first = first_wanted within keep now asked terms x es free wanted seen is one st in
    let alike : terms_differ one.first.terms terms ≡ [] =
    ap (λ (a : Ask). terms_differ one.first.terms a.terms) (sym is ∙ ap ask_of first.1) ∙ first.2.alike in
    record {
      left = free;
      stands = record {
        holds = holds-put joined_up free e (one.holds alike) tt;
        ascending = ascending-put 0 joined_up now e refl (ascending-joined test terms 0 es now st.ascending);
        none_over = none_over-put keep now joined_up e refl (none_over-joined test terms keep now es st.none_over);
        one_side = by_asked (λ b. (wanted_about b free ≡ []) ⊎ (seen_about b (free_seen (joined_up ++ e ∷ [])) ≡ [])) asked (inl none) (λ b differs.
            elim (st.one_side b) [
              | inl n ↦ inl n
              | inr n ↦ inr (ap (seen_about b) same ∙ sym (one.others b differs) ∙ n)
            ]);
        pairs = by_asked (λ b. PairUp within keep (wanted_about b (free ++ wanted)) (seen_about b (free_seen (joined_up ++ e ∷ []) ++ seen))) asked
            (to_pairs within keep _ _ _ _
            (sym (wanted_about-append asked free wanted ∙ ap (λ (l : List Expected). l ++ wanted_about asked wanted) none))
            (ap (λ (l : List Ask). seen_about asked (l ++ seen)) (sym same)) first.3) (λ b differs.
            let away : is_same b (ask_of x).asked ≡ false = ap (λ (a : Ask). is_same b a.asked) is ∙ differs in
            to_pairs within keep _ _ _ _
            (wanted_about-append b free (x ∷ wanted) ∙ ap (λ (l : List Expected). wanted_about b free ++ l) (wanted_other b x wanted away) ∙
            sym (wanted_about-append b free wanted))
            (seen_same b (free_seen es) (free_seen joined_up) seen (one.others b differs) ∙ ap (λ (l : List Ask). seen_about b (l ++ seen)) (sym same))
            (st.pairs b));
      };
      missing = missing_of-append free (x ∷ wanted) ∙ ap (λ (y : Expected). missing_of free ++ missing_of (y ∷ wanted)) first.1 ∙
          sym (missing_of-append free wanted);
      here = answered_here now (seen_about asked (free_seen es)) one.first (seen_about asked (free_seen joined_up)) _ _ one.here (ap (seen_about asked) same);
      others = λ b differs. λ i. record {
        due = still_due within now (moments_wanted (wanted_about b free));
        early = moments_seen ((ap (seen_about b) same ∙ sym (one.others b differs)) i);
      };
    }

-- something is wanted
pub want_one : (within keep now : ℕ) (asked : Asked ℕ) (terms : Terms ℕ) (need : Need) (x : Expected) (es : List (Entry ℕ))
    (free wanted : List Expected) (seen : List Ask) → IsKept now asked terms need x → Stands within keep now es free (x ∷ wanted) seen
    → Stepped within keep now asked (return_wanted now) es (first_joined (is_free_seen asked) terms es ++
    Wanted now asked terms need (is_some (first_terms (is_free_seen asked) es)) ∷ []) free (free ++ x ∷ wanted) wanted seen
want_one within keep now asked terms need x es free wanted seen kept st = elim (find_seen 0 now asked terms es free st.holds st.ascending) [
  | inl none ↦ rw (none.joined terms, none.terms) (want_none within keep now asked terms need x es free wanted seen kept none st)
  | inr one ↦ rw one.terms (want_partner within keep now asked terms need x es free wanted seen (kept_ask now asked terms need x kept) one st)
]

-- an entry that keeps nothing, behind the others
pub plain_put : (within keep now : ℕ) (e : Entry ℕ) (es : List (Entry ℕ)) (free wanted : List Expected) (seen : List Ask)
    → moment_of e ≡ now → Holds (e ∷ []) [] → free_seen (e ∷ []) ≡ [] → Stands within keep now es free wanted seen →
    Stands within keep now (es ++ e ∷ []) free wanted seen
plain_put within keep now e es free wanted seen at good plain st =
    let same : free_seen (es ++ e ∷ []) ≡ free_seen es = free_seen-append es (e ∷ []) ∙ ap (λ (l : List Ask). free_seen es ++ l) plain ∙
    append-nil (free_seen es) in
    record {
      holds = holds-put es free e st.holds good;
      ascending = ascending-put 0 es now e at st.ascending;
      none_over = none_over-put keep now es e at st.none_over;
      one_side = λ b. elim (st.one_side b) [
        | inl n ↦ inl n
        | inr n ↦ inr (ap (seen_about b) same ∙ n)
      ];
      pairs = λ b. to_pairs within keep _ _ _ _ refl (ap (λ (l : List Ask). seen_about b (l ++ seen)) (sym same)) (st.pairs b);
    }

-- where none is due any more, the first isn't
first_gone : (within now d : ℕ) (ds : List ℕ) → still_due within now (d ∷ ds) ≡ [] → (d + within < now) × (still_due within now ds ≡ [])
first_gone within now d ds none = elim (nat_lt (d + within) now) as (λ b. nat_lt (d + within) now ≡ b → (d + within < now) × (still_due within now ds ≡ [])) [
  | true ↦ λ over. (ltb-true (d + within) now over, let is : still_due within now (d ∷ ds) ≡ still_due within now ds = rw over refl in sym is ∙ none)
  | false ↦ λ ahead. absurd (let is : still_due within now (d ∷ ds) ≡ d ∷ ds = rw ahead refl in let two : d ∷ ds ≡ [] = sym is ∙ none in cc)
] refl

none_due : (now : ℕ) (due early after : List ℕ) → due ≡ [] → after ≡ early → record { due = due; early = after } ≡ general_returned true now due early
none_due now due early after none same = rw none (λ i. record { due = []; early = same i })

-- where no wanted query is due any more, none lies within the tolerance
none_from : (within now : ℕ) (asked : Asked ℕ) (es : List (Entry ℕ)) (free : List Expected) → Holds es free →
    still_due within now (moments_wanted (wanted_about asked free)) ≡ []
    → (other : Terms ℕ) → first_joined (test_from (is_free_wanted asked) (now - within)) other es ≡ es
none_from within now asked [] free holds none other = refl
none_from within now asked (Wanted m a t o true ∷ es) free holds none other =
    let test = test_from (is_free_wanted asked) (now - within) in
    let e = Wanted m a t o true in
    let fails : test e ≡ false = and_left _ _ (and_right _ _ refl) in
    passed_joined test other e es fails ∙ ap (λ (l : List (Entry ℕ)). e ∷ l) (none_from within now asked es free holds none other)
none_from within now asked (Wanted m a t o false ∷ es) [] holds none other = absurd holds
none_from within now asked (Wanted m a t o false ∷ es) (x ∷ xs) holds none other =
    let test = test_from (is_free_wanted asked) (now - within) in
    let e = Wanted m a t o false in
    let is = kept_ask m a t o x holds.0 in
    elim (is_same asked a) as (λ b. is_same asked a ≡ b → first_joined test other (e ∷ es) ≡ e ∷ es) [
      | true ↦ λ same.
          let here = wanted_here asked x xs (ap (λ (b : Ask). is_same asked b.asked) is ∙ same) in
          let gone = first_gone within now (ask_of x).moment (moments_wanted (wanted_about asked xs))
          (ap (λ (l : List Expected). still_due within now (moments_wanted l)) (sym here) ∙ none) in
          let at : (ask_of x).moment ≡ m = ap (λ (b : Ask). b.moment) is in
          let past : (ask_of x).moment + within < now = gone.0 in
          let fails : test e ≡ false = and_right _ _ (lt-leb (now - within) m (omega arith)) in
          passed_joined test other e es fails ∙ ap (λ (l : List (Entry ℕ)). e ∷ l) (none_from within now asked es xs holds.1 gone.1 other)
      | false ↦ λ differs.
          let away = wanted_other asked x xs (ap (λ (b : Ask). is_same asked b.asked) is ∙ differs) in
          let fails : test e ≡ false = and_left _ _ (and_left _ _ differs) in
          passed_joined test other e es fails ∙ ap (λ (l : List (Entry ℕ)). e ∷ l)
          (none_from within now asked es xs holds.1 (ap (λ (l : List Expected). still_due within now (moments_wanted l)) (sym away) ∙ none) other)
    ] refl
none_from within now asked (Seen m a t None alone ∷ es) free holds none other =
    passed_joined (test_from (is_free_wanted asked) (now - within)) other (Seen m a t None alone) es refl ∙
    ap (λ (l : List (Entry ℕ)). Seen m a t None alone ∷ l) (none_from within now asked es free holds none other)
none_from within now asked (Seen m a t (Some w) alone ∷ es) free holds none other =
    passed_joined (test_from (is_free_wanted asked) (now - within)) other (Seen m a t (Some w) alone) es refl ∙
    ap (λ (l : List (Entry ℕ)). Seen m a t (Some w) alone ∷ l) (none_from within now asked es free holds.1 none other)
none_from within now asked (_ ∷ es) free holds none other = absurd holds

-- A general query was seen while the router is querier: it is the partner of the first that is due, if one is, and else
-- waits for none.
pub general_one : (within keep now : ℕ) (terms partner : Terms ℕ) (es : List (Entry ℕ)) (free wanted : List Expected) (seen : List Ask)
    → terms_differ terms partner ≡ [] →
    Stands within keep now es free wanted (general_ask true (still_due within now (moments_wanted (wanted_about AllGroups free))) now terms ++ seen)
    → Stepped within keep now AllGroups (general_returned true now) es (first_joined (test_from (is_free_wanted AllGroups) (now - within)) terms es ++
    Seen now AllGroups terms (Some partner) (as_wanted (Extra NoChange)) ∷ []) free (free ++ wanted) wanted seen
general_one within keep now terms partner es free wanted seen alike st = by_due (still_due within now (moments_wanted (wanted_about AllGroups free))) refl
  where
    by_due : (due : List ℕ) → still_due within now (moments_wanted (wanted_about AllGroups free)) ≡ due
        → Stepped within keep now AllGroups (general_returned true now) es
        (first_joined (test_from (is_free_wanted AllGroups) (now - within)) terms es ++ Seen now AllGroups terms (Some partner) (as_wanted (Extra NoChange)) ∷
        []) free (free ++ wanted) wanted seen
    by_due [] none =
        let e = Seen now AllGroups terms (Some partner) (as_wanted (Extra NoChange)) in
        let before : Stands within keep now es free wanted seen =
        subst (λ (l : List ℕ). Stands within keep now es free wanted (general_ask true l now terms ++ seen)) none st in
        let same : free_seen (es ++ e ∷ []) ≡ free_seen es = free_seen-append es (e ∷ []) ∙ append-nil (free_seen es) in
        rw (none_from within now AllGroups es free st.holds none terms) (record {
          left = free;
          stands = plain_put within keep now e es free wanted seen refl (alike, tt) refl before;
          missing = refl;
          here = none_due now _ _ _ none (ap (λ (l : List Ask). moments_seen (seen_about AllGroups l)) same);
          others = λ b differs. λ i. record { due = still_due within now (moments_wanted (wanted_about b free)); early = moments_seen (seen_about b (same i)) };
        })
    by_due (d ∷ due) some =
        let before : Stands within keep now es free wanted (ask now AllGroups terms ∷ seen) =
        subst (λ (l : List ℕ). Stands within keep now es free wanted (general_ask true l now terms ++ seen)) some st in
        let near = wanted_near within keep now AllGroups terms es free wanted seen before in
        elim (find_wanted 0 within keep now AllGroups terms es free st.holds st.ascending st.none_over) [
          | inl none ↦ absurd (let two : [] ≡ d ∷ due = ap (λ (l : List Expected). still_due within now (moments_wanted l)) (sym none.none) ∙ some in cc)
          | inr one ↦ rw (near.joined terms) (see_partner (general_returned true now) (λ d due early. refl) within keep now AllGroups terms partner
              (as_wanted (Extra NoChange)) es free wanted seen one (λ w is answers. alike) before)
        ]
