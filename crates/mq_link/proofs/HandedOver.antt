-- The datagrams that a sender has passed to its outlet after some queries.
use Rattle.mq_link.proofs.Common.{◌≡◌, ℕ, ◌+◌, Bool, not, List, [], ◌∷◌, ◌++◌, sym, ap, ◌∙◌, subst, arith, cond, list_map, count_by, sum_by-cons, counted_on}
use Rattle.mq_link.proofs.Common.{Family, AllFit, SentQuery, GeneralQuery, GroupQuery, SourcesQuery, Sends, per_query, Sender, HandsOver, HandsAll, FitsOne}
use Rattle.mq_link.proofs.Common.{outgoing_on, TakesQuery, tally_of, Outgoing}
use Rattle.mq_link.specs.State.{one_if}

-- some messages, and then others
pub HandsOver-append : {O : Type 0} (takes : O → Outgoing → Bool → O → Type 0) (old between new : O) (messages more : List Outgoing)
    (answers others : List Bool) → HandsOver takes old messages answers between → HandsOver takes between more others new →
    HandsOver takes old (messages ++ more) (answers ++ others) new
HandsOver-append takes old between new [] more [] others first second = subst (λ s. HandsOver takes s more others new) (sym first) second
HandsOver-append takes old between new [] more (answer ∷ answers) others first second = absurd first
HandsOver-append takes old between new (message ∷ messages) more [] others first second = absurd first
HandsOver-append takes old between new (message ∷ messages) more (answer ∷ answers) others first second =
    (first.0, first.1, HandsOver-append takes first.0 between new messages more answers others first.2 second)

-- the first of some queries that fit does, and so do the others
first_fits : (family : Family) (query : SentQuery) (queries : List SentQuery) → AllFit (per_query family) (query ∷ queries) → FitsOne family query
first_fits family GeneralQuery queries fit = omega arith
first_fits family (GroupQuery group s) queries fit = omega arith
first_fits family (SourcesQuery group s sources) queries fit = fit.0

others_fit : (n : ℕ) (query : SentQuery) (queries : List SentQuery) → AllFit n (query ∷ queries) → AllFit n queries
others_fit n GeneralQuery queries fit = fit
others_fit n (GroupQuery group s) queries fit = fit
others_fit n (SourcesQuery group s sources) queries fit = fit.1

more_on : (old a b : ℕ) → counted_on (counted_on old a) b ≡ counted_on old (a + b)
more_on old a b = omega arith

none_on : (n : ℕ) → n ≡ counted_on n 0
none_on n = omega arith

counted_more : (old : ℕ) (test : Bool → Bool) (answer : Bool) (answers : List Bool) (one new : ℕ)
    → one ≡ counted_on old (one_if (test answer)) → new ≡ counted_on one (count_by test answers)
    → new ≡ counted_on old (count_by test (answer ∷ answers))
counted_more old test answer answers one new first later =
    let n = count_by test answers in
    let all : count_by test (answer ∷ answers) ≡ one_if (test answer) + n = sum_by-cons (λ x. cond (test x) 1 0) answer answers in
    later ∙ ap (λ m. counted_on m n) first ∙ more_on old (one_if (test answer)) n ∙ ap (counted_on old) (sym all)

-- a sender passes on the queries that it takes
pub handed_all : {F O K E : Type 0} (takes : O → Outgoing → Bool → O → Type 0) (family : Family) (old : Sender F O K E) (queries : List SentQuery)
    (new : Sender F O K E)
    → AllFit (per_query family) queries → Sends (TakesQuery takes family) old queries new
    → HandsAll takes family old.terms.now queries (tally_of old) (tally_of new)
handed_all takes family old [] new fit same =
    record {
      answers = [];
      handed = ap (λ s. s.outlet.now) same;
      sent = ap (λ s. s.sent) (sym same) ∙ none_on old.sent;
      unsent =
          ap (λ s. s.unsent) (sym same) ∙ none_on old.unsent;
    }
handed_all takes family old (query ∷ queries) new fit sends =
    let between = sends.0 in
    let one = sends.1.hands.handed (first_fits family query queries fit) in
    let rest = handed_all takes family between queries new (others_fit (per_query family) query queries fit) sends.2 in
    record {
      answers = one.0 ∷ rest.answers;
      handed = (
        between.outlet.now,
        one.1,
        subst (λ terms. HandsOver takes between.outlet.now (list_map (outgoing_on family terms) queries) rest.answers new.outlet.now)
            (ap (λ terms. terms.now) sends.1.same_terms) rest.handed,
      );
      sent = counted_more old.sent (λ b. b) one.0 rest.answers between.sent new.sent one.2 rest.sent;
      unsent = counted_more old.unsent not one.0 rest.answers between.unsent new.unsent one.3 rest.unsent;
    }

-- on the same terms
pub same_terms : {F O K E : Type 0} (takes : O → Outgoing → Bool → O → Type 0) (family : Family) (old : Sender F O K E) (queries : List SentQuery)
    (new : Sender F O K E)
    → Sends (TakesQuery takes family) old queries new → new.terms ≡ old.terms
same_terms takes family old [] new same = ap (λ s. s.terms) (sym same)
same_terms takes family old (query ∷ queries) new sends = same_terms takes family sends.0 queries new sends.2 ∙ sends.1.same_terms

-- to the same outlet
pub same_outlet : {F O K E : Type 0} (takes : O → Outgoing → Bool → O → Type 0) (family : Family) (old : Sender F O K E) (queries : List SentQuery)
    (new : Sender F O K E)
    → Sends (TakesQuery takes family) old queries new → new.outlet.ghost_name ≡ old.outlet.ghost_name
same_outlet takes family old [] new same = ap (λ s. s.outlet.ghost_name) (sym same)
same_outlet takes family old (query ∷ queries) new sends = same_outlet takes family sends.0 queries new sends.2 ∙ sends.1.same_outlet

-- answers that were counted from 0 are counted on
pub counted_from_none : (old n : ℕ) → counted_on old (counted_on 0 n) ≡ counted_on old n
counted_from_none old n = omega arith
