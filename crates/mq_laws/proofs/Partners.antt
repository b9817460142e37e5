-- The first entry without a partner: whether there is one, and what is left once it has found its partner.
use Rattle.mq_laws.proofs.Common.{◌≡◌, ℕ, ◌+◌, ◌≤◌, Bool, true, false, List, [], ◌∷◌, refl, ap, sym, ◌∙◌, arith, ◌⊎◌, nat_le, and_left, and_right, and_from}
use Rattle.mq_laws.proofs.Common.{le-leb, Asked, Entry, Need, Wanted, Seen, Terms, first_terms, first_joined, is_free_seen}
use Rattle.mq_laws.proofs.Common.{is_free_wanted, terms_differ, is_same, Ask, Expected, Sent, LeftOut, ask_of, seen_about, wanted_about, missing_of}
use Rattle.mq_laws.proofs.Common.{SeenVerdict, None, Some, ◌&&◌, inl, inr, moment_of}
use Rattle.mq_laws.proofs.Same.{other_than}
use Rattle.mq_laws.proofs.Held.{ask, IsKept, Holds, free_seen, IsAscending, NoneOver, kept_ask, wanted_here, wanted_other, wanted_both, seen_here, seen_other}
use Rattle.mq_laws.proofs.Held.{seen_both, passed_terms, passed_joined, met_terms, met_joined, none_over-ascending, AllStill, ahead-about, ahead-holds}

-- A test of entries from a moment on. It finds the same first entry as the test of all entries.
abbrev pub test_from : (Entry ℕ → Bool) → (from : ℕ) → Entry ℕ → Bool
test_from test from e = test e && nat_le from (moment_of e)

pub record SameFrom (test : Entry ℕ → Bool) (from : ℕ) (es : List (Entry ℕ)) : Type 0 where
  pub terms : first_terms (test_from test from) es ≡ first_terms test es
  pub joined : (other : Terms ℕ) → first_joined (test_from test from) other es ≡ first_joined test other es

pub same_none : (test : Entry ℕ → Bool) (from : ℕ) → SameFrom test from []
same_none test from = record { terms = refl; joined = λ other. refl }

pub same_behind : (test : Entry ℕ → Bool) (from : ℕ) (e : Entry ℕ) (es : List (Entry ℕ)) → test e ≡ false → SameFrom test from es → SameFrom test from (e ∷ es)
same_behind test from e es fails rest =
    let fails_too : test_from test from e ≡ false = and_left _ _ fails in
    record {
      terms = passed_terms (test_from test from) e es fails_too ∙ rest.terms ∙ sym (passed_terms test e es fails);
      joined = λ other. passed_joined (test_from test from) other e es fails_too ∙ ap (λ (l : List (Entry ℕ)). e ∷ l) (rest.joined other) ∙
          sym (passed_joined test other e es fails);
    }

pub same_met : (test : Entry ℕ → Bool) (from : ℕ) (e : Entry ℕ) (es : List (Entry ℕ)) → test e ≡ true → from ≤ moment_of e → SameFrom test from (e ∷ es)
same_met test from e es is near =
    let is_too : test_from test from e ≡ true = and_from _ _ is (le-leb from (moment_of e) near) in
    record {
      terms = met_terms (test_from test from) e es is_too ∙ sym (met_terms test e es is);
      joined = λ other. met_joined (test_from test from) other e es is_too ∙ sym (met_joined test other e es is);
    }

pub same_all : (test : Entry ℕ → Bool) (es : List (Entry ℕ)) → SameFrom test 0 es
same_all test [] = same_none test 0
same_all test (e ∷ es) = elim (test e) as (λ b. test e ≡ b → SameFrom test 0 (e ∷ es)) [
  | true ↦ λ is. same_met test 0 e es is (omega arith)
  | false ↦ λ fails. same_behind test 0 e es fails (same_all test es)
] refl

-- no wanted query about this is without a partner
pub record NoneWanted (asked : Asked ℕ) (es : List (Entry ℕ)) (xs : List Expected) : Type 0 where
  pub terms : first_terms (is_free_wanted asked) es ≡ None
  pub joined : (other : Terms ℕ) → first_joined (is_free_wanted asked) other es ≡ es
  pub none : wanted_about asked xs ≡ []
  pub same : (from : ℕ) → SameFrom (is_free_wanted asked) from es

-- the first one is `first`, and `rest` are left without it
pub record OneWanted (within keep now : ℕ) (asked : Asked ℕ) (other : Terms ℕ) (es : List (Entry ℕ)) (xs : List Expected) : Type 0 where
  pub first : Expected
  pub rest : List Expected
  pub terms : first_terms (is_free_wanted asked) es ≡ Some (ask_of first).terms
  pub holds : Holds (first_joined (is_free_wanted asked) other es) rest
  pub seen : free_seen (first_joined (is_free_wanted asked) other es) ≡ free_seen es
  pub here : wanted_about asked xs ≡ first ∷ wanted_about asked rest
  pub others : (b : Asked ℕ) → is_same b asked ≡ false → wanted_about b xs ≡ wanted_about b rest
  pub missing : (w : Ask) → first ≡ Sent w → missing_of xs ≡ missing_of rest
  pub ahead : now ≤ (ask_of first).moment + keep
  pub same : (from : ℕ) → from ≤ (ask_of first).moment → SameFrom (is_free_wanted asked) from es
  pub later : now ≤ (ask_of first).moment + within → AllStill within now (wanted_about asked rest)

-- an entry that isn't free, and keeps nothing
none_behind : (asked : Asked ℕ) (e : Entry ℕ) (es : List (Entry ℕ)) (xs : List Expected) → is_free_wanted asked e ≡ false → NoneWanted asked es xs →
    NoneWanted asked (e ∷ es) xs
none_behind asked e es xs fails rest = record {
  terms = passed_terms (is_free_wanted asked) e es fails ∙ rest.terms;
  joined = λ other. passed_joined (is_free_wanted asked) other e es fails ∙ ap (λ (l : List (Entry ℕ)). e ∷ l) (rest.joined other);
  none = rest.none;
  same = λ from. same_behind (is_free_wanted asked) from e es fails (rest.same from);
}

one_behind : (within keep now : ℕ) (asked : Asked ℕ) (other : Terms ℕ) (e : Entry ℕ) (es : List (Entry ℕ)) (xs : List Expected) → is_free_wanted asked e ≡ false
    → ((ds : List (Entry ℕ)) (ys : List Expected) → Holds ds ys → Holds (e ∷ ds) ys)
    → ((ds : List (Entry ℕ)) → free_seen ds ≡ free_seen es → free_seen (e ∷ ds) ≡ free_seen (e ∷ es))
    → OneWanted within keep now asked other es xs → OneWanted within keep now asked other (e ∷ es) xs
one_behind within keep now asked other e es xs fails holds seen one = record {
  first = one.first;
  rest = one.rest;
  terms = passed_terms (is_free_wanted asked) e es fails ∙ one.terms;
  holds = rw (passed_joined (is_free_wanted asked) other e es fails) (holds _ _ one.holds);
  seen = ap free_seen (passed_joined (is_free_wanted asked) other e es fails) ∙ seen _ one.seen;
  here = one.here;
  others = one.others;
  missing = one.missing;
  ahead = one.ahead;
  same = λ from near. same_behind (is_free_wanted asked) from e es fails (one.same from near);
  later = one.later;
}

either_behind : (within keep now : ℕ) (asked : Asked ℕ) (other : Terms ℕ) (e : Entry ℕ) (es : List (Entry ℕ)) (xs : List Expected) →
    is_free_wanted asked e ≡ false → ((ds : List (Entry ℕ)) (ys : List Expected) → Holds ds ys → Holds (e ∷ ds) ys)
    → ((ds : List (Entry ℕ)) → free_seen ds ≡ free_seen es → free_seen (e ∷ ds) ≡ free_seen (e ∷ es))
    → NoneWanted asked es xs ⊎ OneWanted within keep now asked other es xs → NoneWanted asked (e ∷ es) xs ⊎ OneWanted within keep now asked other (e ∷ es) xs
either_behind within keep now asked other e es xs fails holds seen (inl none) = inl (none_behind asked e es xs fails none)
either_behind within keep now asked other e es xs fails holds seen (inr one) = inr (one_behind within keep now asked other e es xs fails holds seen one)

-- a wanted query without a partner about something else
missing_both : (x : Expected) (xs ys : List Expected) → missing_of xs ≡ missing_of ys → missing_of (x ∷ xs) ≡ missing_of (x ∷ ys)
missing_both (Sent w) xs ys e = e
missing_both (LeftOut w) xs ys e = rw e refl

missing_sent : (x : Expected) (xs : List Expected) (w : Ask) → x ≡ Sent w → missing_of (x ∷ xs) ≡ missing_of xs
missing_sent (Sent v) xs w is = refl
missing_sent (LeftOut v) xs w is = cc

either_other : (within keep now : ℕ) (asked asked' : Asked ℕ) (other : Terms ℕ) (moment : ℕ) (terms : Terms ℕ) (need : Need)
    (es : List (Entry ℕ)) (x : Expected) (xs : List Expected) → is_same asked asked' ≡ false → IsKept moment asked' terms need x
    → NoneWanted asked es xs ⊎ OneWanted within keep now asked other es xs → NoneWanted asked (Wanted moment asked' terms need false ∷ es) (x ∷ xs) ⊎
    OneWanted within keep now asked other (Wanted moment asked' terms need false ∷ es) (x ∷ xs)
either_other within keep now asked asked' other moment terms need es x xs differs kept (inl none) =
    let e = Wanted moment asked' terms need false in
    let fails : is_free_wanted asked e ≡ false = and_left _ _ differs in
    let away : is_same asked (ask_of x).asked ≡ false = ap (λ (a : Ask). is_same asked a.asked) (kept_ask moment asked' terms need x kept) ∙ differs in
    inl (record {
      terms = passed_terms (is_free_wanted asked) e es fails ∙ none.terms;
      joined = λ other. passed_joined (is_free_wanted asked) other e es fails ∙ ap (λ (l : List (Entry ℕ)). e ∷ l) (none.joined other);
      none = wanted_other asked x xs away ∙ none.none;
      same = λ from. same_behind (is_free_wanted asked) from e es fails (none.same from);
    })
either_other within keep now asked asked' other moment terms need es x xs differs kept (inr one) =
    let e = Wanted moment asked' terms need false in
    let fails : is_free_wanted asked e ≡ false = and_left _ _ differs in
    let away : is_same asked (ask_of x).asked ≡ false = ap (λ (a : Ask). is_same asked a.asked) (kept_ask moment asked' terms need x kept) ∙ differs in
    inr (record {
      first = one.first;
      rest = x ∷ one.rest;
      terms = passed_terms (is_free_wanted asked) e es fails ∙ one.terms;
      holds = rw (passed_joined (is_free_wanted asked) other e es fails) (kept, one.holds);
      seen = ap free_seen (passed_joined (is_free_wanted asked) other e es fails) ∙ one.seen;
      here = wanted_other asked x xs away ∙ one.here ∙ ap (λ (l : List Expected). one.first ∷ l) (sym (wanted_other asked x one.rest away));
      others = λ b differs. wanted_both b x xs one.rest (one.others b differs);
      missing = λ w is. missing_both x xs one.rest (one.missing w is);
      ahead = one.ahead;
      same = λ from near. same_behind (is_free_wanted asked) from e es fails (one.same from near);
      later = λ near. rw (wanted_other asked x one.rest away) (one.later near);
    })

either_here : (within keep now : ℕ) (asked asked' : Asked ℕ) (other : Terms ℕ) (moment : ℕ) (terms : Terms ℕ) (need : Need)
    (es : List (Entry ℕ)) (x : Expected) (xs : List Expected)
    → is_same asked asked' ≡ true → IsKept moment asked' terms need x → Holds es xs → IsAscending moment es now → now ≤ moment + keep
    → OneWanted within keep now asked other (Wanted moment asked' terms need false ∷ es) (x ∷ xs)
either_here within keep now asked asked' other moment terms need es x xs same kept holds ascending ahead =
    let e = Wanted moment asked' terms need false in
    let free : is_free_wanted asked e ≡ true = and_from _ _ same refl in
    let is = kept_ask moment asked' terms need x kept in
    let near : is_same asked (ask_of x).asked ≡ true = ap (λ (a : Ask). is_same asked a.asked) is ∙ same in
    record {
      first = x;
      rest = xs;
      terms = met_terms (is_free_wanted asked) e es free ∙ ap (λ (a : Ask). Some a.terms) (sym is);
      holds = rw (met_joined (is_free_wanted asked) other e es free) holds;
      seen = ap free_seen (met_joined (is_free_wanted asked) other e es free);
      here = wanted_here asked x xs near;
      others = λ b differs. wanted_other b x xs (other_than asked (ask_of x).asked b near differs);
      missing = λ w is. missing_sent x xs w is;
      ahead = rw is ahead;
      same = λ from near. same_met (is_free_wanted asked) from e es free (rw is at near);
      later = λ near. ahead-about within now asked xs
          (ahead-holds within now es xs holds (none_over-ascending within now moment es now (rw is at near) ascending));
    }

pub find_wanted : (low within keep now : ℕ) (asked : Asked ℕ) (other : Terms ℕ) (es : List (Entry ℕ)) (xs : List Expected) → Holds es xs →
    IsAscending low es now → NoneOver keep now es → NoneWanted asked es xs ⊎ OneWanted within keep now asked other es xs
find_wanted low within keep now asked other [] [] holds is ahead =
    inl (record { terms = refl; joined = λ other. refl; none = refl; same = same_none (is_free_wanted asked) })
find_wanted low within keep now asked other [] (x ∷ xs) holds is ahead = absurd holds
find_wanted low within keep now asked other (Wanted moment asked' terms need true ∷ es) xs holds is ahead =
    either_behind within keep now asked other (Wanted moment asked' terms need true) es xs (and_right _ _ refl) (λ ds ys h. h) (λ ds e. e)
    (find_wanted moment within keep now asked other es xs holds is.1 ahead.1)
find_wanted low within keep now asked other (Wanted moment asked' terms need false ∷ es) [] holds is ahead = absurd holds
find_wanted low within keep now asked other (Wanted moment asked' terms need false ∷ es) (x ∷ xs) holds is ahead =
    elim (is_same asked asked') as (λ b. is_same asked asked' ≡ b → NoneWanted asked (Wanted moment asked' terms need false ∷ es) (x ∷ xs) ⊎
    OneWanted within keep now asked other (Wanted moment asked' terms need false ∷ es) (x ∷ xs)) [
      | true ↦ λ same. inr (either_here within keep now asked asked' other moment terms need es x xs same holds.0 holds.1 is.1 ahead.0)
      | false ↦ λ differs. either_other within keep now asked asked' other moment terms need es x xs differs holds.0
          (find_wanted moment within keep now asked other es xs holds.1 is.1 ahead.1)
    ] refl
find_wanted low within keep now asked other (Seen moment asked' terms None alone ∷ es) xs holds is ahead =
    either_behind within keep now asked other (Seen moment asked' terms None alone) es xs refl (λ ds ys h. h)
    (λ ds e. ap (λ (l : List Ask). ask moment asked' terms ∷ l) e) (find_wanted moment within keep now asked other es xs holds is.1 ahead.1)
find_wanted low within keep now asked other (Seen moment asked' terms (Some wanted) alone ∷ es) xs holds is ahead =
    either_behind within keep now asked other (Seen moment asked' terms (Some wanted) alone) es xs refl (λ ds ys h. (holds.0, h)) (λ ds e. e)
    (find_wanted moment within keep now asked other es xs holds.1 is.1 ahead.1)
find_wanted low within keep now asked other (_ ∷ es) xs holds is ahead = absurd holds

-- no query about this that was seen is without a partner
pub record NoneSeen (asked : Asked ℕ) (es : List (Entry ℕ)) : Type 0 where
  pub terms : first_terms (is_free_seen asked) es ≡ None
  pub joined : (other : Terms ℕ) → first_joined (is_free_seen asked) other es ≡ es
  pub none : seen_about asked (free_seen es) ≡ []
  pub same : (from : ℕ) → SameFrom (is_free_seen asked) from es

-- the first one is `first`
pub record OneSeen (now : ℕ) (asked : Asked ℕ) (other : Terms ℕ) (es : List (Entry ℕ)) (xs : List Expected) : Type 0 where
  pub first : Ask
  pub terms : first_terms (is_free_seen asked) es ≡ Some first.terms
  pub holds : terms_differ first.terms other ≡ [] → Holds (first_joined (is_free_seen asked) other es) xs
  pub here : seen_about asked (free_seen es) ≡ first ∷ seen_about asked (free_seen (first_joined (is_free_seen asked) other es))
  pub others : (b : Asked ℕ) → is_same b asked ≡ false → seen_about b (free_seen es) ≡ seen_about b (free_seen (first_joined (is_free_seen asked) other es))
  pub arrived : first.moment ≤ now
  pub same : (from : ℕ) → from ≤ first.moment → SameFrom (is_free_seen asked) from es

-- an entry that isn't free, and is no query without a partner that was seen
seen_behind : (now : ℕ) (asked : Asked ℕ) (other : Terms ℕ) (e : Entry ℕ) (es : List (Entry ℕ)) (xs ys : List Expected) → is_free_seen asked e ≡ false
    → ((ds : List (Entry ℕ)) → Holds ds ys → Holds (e ∷ ds) xs) → ((ds : List (Entry ℕ)) → free_seen (e ∷ ds) ≡ free_seen ds)
    → NoneSeen asked es ⊎ OneSeen now asked other es ys → NoneSeen asked (e ∷ es) ⊎ OneSeen now asked other (e ∷ es) xs
seen_behind now asked other e es xs ys fails holds plain (inl none) = inl (record {
  terms = passed_terms (is_free_seen asked) e es fails ∙ none.terms;
  joined = λ other. passed_joined (is_free_seen asked) other e es fails ∙ ap (λ (l : List (Entry ℕ)). e ∷ l) (none.joined other);
  none = ap (seen_about asked) (plain es) ∙ none.none;
  same = λ from. same_behind (is_free_seen asked) from e es fails (none.same from);
})
seen_behind now asked other e es xs ys fails holds plain (inr one) =
    let left = first_joined (is_free_seen asked) other es in
    let same : free_seen (first_joined (is_free_seen asked) other (e ∷ es)) ≡ free_seen left =
    ap free_seen (passed_joined (is_free_seen asked) other e es fails) ∙ plain left in
    inr (record {
      first = one.first;
      terms = passed_terms (is_free_seen asked) e es fails ∙ one.terms;
      holds = λ alike. rw (passed_joined (is_free_seen asked) other e es fails) (holds left (one.holds alike));
      here = ap (seen_about asked) (plain es) ∙ one.here ∙ ap (λ (l : List Ask). one.first ∷ seen_about asked l) (sym same);
      others = λ b differs. ap (seen_about b) (plain es) ∙ one.others b differs ∙ ap (seen_about b) (sym same);
      arrived = one.arrived;
      same = λ from near. same_behind (is_free_seen asked) from e es fails (one.same from near);
    })

-- a query without a partner about something else
seen_elsewhere : (now : ℕ) (asked asked' : Asked ℕ) (other : Terms ℕ) (moment : ℕ) (terms : Terms ℕ) (alone : SeenVerdict ℕ) (es : List (Entry ℕ))
    (xs : List Expected) → is_same asked asked' ≡ false → NoneSeen asked es ⊎ OneSeen now asked other es xs
    → NoneSeen asked (Seen moment asked' terms None alone ∷ es) ⊎ OneSeen now asked other (Seen moment asked' terms None alone ∷ es) xs
seen_elsewhere now asked asked' other moment terms alone es xs differs (inl none) =
    let e = Seen moment asked' terms None alone in
    let fails : is_free_seen asked e ≡ false = and_left _ _ differs in
    inl (record {
      terms = passed_terms (is_free_seen asked) e es fails ∙ none.terms;
      joined = λ other. passed_joined (is_free_seen asked) other e es fails ∙ ap (λ (l : List (Entry ℕ)). e ∷ l) (none.joined other);
      none = seen_other asked (ask moment asked' terms) (free_seen es) differs ∙ none.none;
      same = λ from. same_behind (is_free_seen asked) from e es fails (none.same from);
    })
seen_elsewhere now asked asked' other moment terms alone es xs differs (inr one) =
    let e = Seen moment asked' terms None alone in
    let s = ask moment asked' terms in
    let left = first_joined (is_free_seen asked) other es in
    let fails : is_free_seen asked e ≡ false = and_left _ _ differs in
    let same : free_seen (first_joined (is_free_seen asked) other (e ∷ es)) ≡ s ∷ free_seen left =
    ap free_seen (passed_joined (is_free_seen asked) other e es fails) in
    inr (record {
      first = one.first;
      terms = passed_terms (is_free_seen asked) e es fails ∙ one.terms;
      holds = λ alike. rw (passed_joined (is_free_seen asked) other e es fails) (one.holds alike);
      here =
          seen_other asked s (free_seen es) differs ∙ one.here
          ∙ ap (λ (l : List Ask). one.first ∷ l) (sym (seen_other asked s (free_seen left) differs))
          ∙ ap (λ (l : List Ask). one.first ∷ seen_about asked l) (sym same);
      others = λ b away. seen_both b s (free_seen es) (free_seen left) (one.others b away) ∙ ap (seen_about b) (sym same);
      arrived = one.arrived;
      same = λ from near. same_behind (is_free_seen asked) from e es fails (one.same from near);
    })

seen_found : (now : ℕ) (asked asked' : Asked ℕ) (other : Terms ℕ) (moment : ℕ) (terms : Terms ℕ) (alone : SeenVerdict ℕ) (es : List (Entry ℕ))
    (xs : List Expected) → is_same asked asked' ≡ true → Holds es xs → moment ≤ now
    → OneSeen now asked other (Seen moment asked' terms None alone ∷ es) xs
seen_found now asked asked' other moment terms alone es xs same holds arrived =
    let e = Seen moment asked' terms None alone in
    let s = ask moment asked' terms in
    let free : is_free_seen asked e ≡ true = and_from _ _ same refl in
    let is = met_joined (is_free_seen asked) other e es free in
    record {
      first = s;
      terms = met_terms (is_free_seen asked) e es free;
      holds = λ alike. rw is (alike, holds);
      here = seen_here asked s (free_seen es) same ∙ ap (λ (l : List (Entry ℕ)). s ∷ seen_about asked (free_seen l)) (sym is);
      others = λ b differs. seen_other b s (free_seen es) (other_than asked asked' b same differs) ∙
          ap (λ (l : List (Entry ℕ)). seen_about b (free_seen l)) (sym is);
      arrived = arrived;
      same = λ from near. same_met (is_free_seen asked) from e es free near;
    }

-- the last moment is no earlier
pub ascending-low : (low : ℕ) (es : List (Entry ℕ)) (now : ℕ) → IsAscending low es now → low ≤ now
ascending-low low [] now is = is
ascending-low low (e ∷ es) now is = let rest = ascending-low (moment_of e) es now is.1 in omega arith

pub find_seen : (low now : ℕ) (asked : Asked ℕ) (other : Terms ℕ) (es : List (Entry ℕ)) (xs : List Expected) → Holds es xs → IsAscending low es now →
    NoneSeen asked es ⊎ OneSeen now asked other es xs
find_seen low now asked other [] xs holds is = inl (record { terms = refl; joined = λ other. refl; none = refl; same = same_none (is_free_seen asked) })
find_seen low now asked other (Wanted moment asked' terms need true ∷ es) xs holds is =
    seen_behind now asked other (Wanted moment asked' terms need true) es xs xs refl (λ ds h. h) (λ ds. refl)
    (find_seen moment now asked other es xs holds is.1)
find_seen low now asked other (Wanted moment asked' terms need false ∷ es) [] holds is = absurd holds
find_seen low now asked other (Wanted moment asked' terms need false ∷ es) (x ∷ xs) holds is =
    seen_behind now asked other (Wanted moment asked' terms need false) es (x ∷ xs) xs refl (λ ds h. (holds.0, h)) (λ ds. refl)
    (find_seen moment now asked other es xs holds.1 is.1)
find_seen low now asked other (Seen moment asked' terms None alone ∷ es) xs holds is =
    elim (is_same asked asked') as (λ b. is_same asked asked' ≡ b → NoneSeen asked (Seen moment asked' terms None alone ∷ es) ⊎
    OneSeen now asked other (Seen moment asked' terms None alone ∷ es) xs) [
      | true ↦ λ same. inr (seen_found now asked asked' other moment terms alone es xs same holds (ascending-low moment es now is.1))
      | false ↦ λ differs. seen_elsewhere now asked asked' other moment terms alone es xs differs (find_seen moment now asked other es xs holds is.1)
    ] refl
find_seen low now asked other (Seen moment asked' terms (Some wanted) alone ∷ es) xs holds is =
    seen_behind now asked other (Seen moment asked' terms (Some wanted) alone) es xs xs (and_right _ _ refl) (λ ds h. (holds.0, h)) (λ ds. refl)
    (find_seen moment now asked other es xs holds.1 is.1)
find_seen low now asked other (_ ∷ es) xs holds is = absurd holds
