-- Lists of sources that all have one timer, for the worked examples of many sources: what is done to each is done to one.
use Rattle.mq_examples.proofs.Common.{◌≡◌, ℕ, Bool, true, false, cond, ◌||◌, refl, List, [], ◌∷◌, ◌++◌, length, Option, None, Some, sym, ap, ◌∙◌, suc, arith}
use Rattle.mq_examples.proofs.Common.{filter, list_any, nat_cmp, eq_by_cmp, option_and_then, nat_cmp_total, T, nat_tests, find, is_sorted}
use Rattle.mq_examples.proofs.Common.{nat_cmp-IsAntisymmetric, same_entries, SourceTimer, entries_by, each_as, Entries, ordered, find-ordered, sorted-ordered}
use Rattle.mq_examples.proofs.Common.{keys_of, kept_in}
use Rattle.mq_table.specs.Maps.{with_entry}
use Rattle.std.proofs.lemmas.List.Folds.{list_any-append}
use Rattle.mq_examples.proofs.KnownGroups.{named_in, ascending}

-- These sources ascend. It is no `abbrev`, so that no list of hundreds is computed with where it is named.
unfoldable pub Ascend : List ℕ → Type 0
Ascend ss = (timer : SourceTimer) → T (is_sorted nat_cmp (each_as timer ss))

-- each of them is as said
abbrev pub Each : (ℕ → Type 0) → List ℕ → Type 0
Each P ss = (s : ℕ) → named_in ss s ≡ true → P s

pub tied_to_itself : (s : ℕ) → eq_by_cmp nat_cmp s s ≡ true
tied_to_itself s = grind (arith, nat_tests)

or_later : (a b : Bool) → b ≡ true → (a || b) ≡ true
or_later a b h1 = grind arith

pub the_first : {P : ℕ → Type 0} (s : ℕ) (ss : List ℕ) → Each P (s ∷ ss) → P s
the_first s ss each = each s (ap (λ b. b || named_in ss s) (tied_to_itself s))

the_rest : {P : ℕ → Type 0} (s : ℕ) (ss : List ℕ) → Each P (s ∷ ss) → Each P ss
the_rest s ss each q is = each q (or_later (eq_by_cmp nat_cmp q s) (named_in ss q) is)

find-each : (timer : SourceTimer) (ss : List ℕ) (q : ℕ) → find nat_cmp q (each_as timer ss) ≡ cond (named_in ss q) (Some timer) None
find-each timer [] q = refl
find-each timer (s ∷ ss) q =
    elim (eq_by_cmp nat_cmp q s) as (λ b. cond b (Some timer) (find nat_cmp q (each_as timer ss)) ≡ cond (b || named_in ss q) (Some timer) None)
    [ true ↦ refl | false ↦ find-each timer ss q ]

-- the timer of each
pub timer-each : (timer : SourceTimer) (ss : List ℕ) → Each (λ s. find nat_cmp s (each_as timer ss) ≡ Some timer) ss
timer-each timer ss s is = find-each timer ss s ∙ ap (λ b. cond b (Some timer) None) is

in_order : (es : Entries SourceTimer) → T (is_sorted nat_cmp es) → ordered es ≡ es
in_order es sorted = same_entries nat_cmp nat_cmp_total nat_cmp-IsAntisymmetric (ordered es) es (sorted-ordered es) sorted (find-ordered es)

keys-each : (timer : SourceTimer) (ss : List ℕ) → keys_of (each_as timer ss) ≡ ss
keys-each timer [] = refl
keys-each timer (s ∷ ss) = ap (λ rest. s ∷ rest) (keys-each timer ss)

-- they are the sources, ascending, and as many
pub ascending-each : (timer : SourceTimer) (ss : List ℕ) → Ascend ss → ascending (each_as timer ss) ≡ ss
unfolding Ascend
ascending-each timer ss ascend = ap keys_of (in_order (each_as timer ss) (ascend timer)) ∙ keys-each timer ss

pub count-each : (timer : SourceTimer) (ss : List ℕ) → Ascend ss → length (ordered (each_as timer ss)) ≡ length ss
unfolding Ascend
count-each timer ss ascend = ap length (in_order (each_as timer ss) (ascend timer)) ∙ mapped ss
  where
    mapped : (ss : List ℕ) → length (each_as timer ss) ≡ length ss
    mapped [] = refl
    mapped (s ∷ ss) = ap (λ n. suc n) (mapped ss)

entries_by-each : (rule : ℕ → Option SourceTimer) (timer : SourceTimer) (ss : List ℕ) → Each (λ s. rule s ≡ Some timer) ss →
    entries_by rule ss ≡ each_as timer ss
entries_by-each rule timer [] each = refl
entries_by-each rule timer (s ∷ ss) each = λ i. with_entry s (the_first s ss each i) (entries_by-each rule timer ss (the_rest s ss each) i)

entries_by-none : (rule : ℕ → Option SourceTimer) (ss : List ℕ) → Each (λ s. rule s ≡ None) ss → entries_by rule ss ≡ []
entries_by-none rule [] each = refl
entries_by-none rule (s ∷ ss) each = λ i. with_entry s (the_first s ss each i) (entries_by-none rule ss (the_rest s ss each) i)

-- a change of each
pub kept-each : (f : ℕ → SourceTimer → Option SourceTimer) (before after : SourceTimer) (ss : List ℕ) → Ascend ss →
    Each (λ s. f s before ≡ Some after) ss → kept_in f (each_as before ss) ≡ each_as after ss
kept-each f before after ss ascend each =
    ap (entries_by (λ s. option_and_then (f s) (find nat_cmp s (each_as before ss)))) (ascending-each before ss ascend)
    ∙ entries_by-each _ after ss (λ s is. ap (option_and_then (f s)) (timer-each before ss s is) ∙ each s is)

pub kept-none : (f : ℕ → SourceTimer → Option SourceTimer) (before : SourceTimer) (ss : List ℕ) → Ascend ss → Each (λ s. f s before ≡ None) ss →
    kept_in f (each_as before ss) ≡ []
kept-none f before ss ascend each =
    ap (entries_by (λ s. option_and_then (f s) (find nat_cmp s (each_as before ss)))) (ascending-each before ss ascend)
    ∙ entries_by-none _ ss (λ s is. ap (option_and_then (f s)) (timer-each before ss s is) ∙ each s is)

-- a rule's results, if a record names them all
same_named : (ss : List ℕ) (s : ℕ) → named_in (ss ++ ss) s ≡ named_in ss s
same_named ss s = list_any-append (eq_by_cmp nat_cmp s) ss ss ∙ twice (named_in ss s)
  where
    twice : (b : Bool) → (b || b) ≡ b
    twice true = refl
    twice false = refl

pub ruled_anew : (rule : ℕ → Option SourceTimer) (timer : SourceTimer) (ss : List ℕ) → Ascend ss → Each (λ s. rule s ≡ Some timer) ss →
    ordered (entries_by rule ss) ≡ each_as timer ss
unfolding Ascend
ruled_anew rule timer ss ascend each = ap ordered (entries_by-each rule timer ss each) ∙ in_order (each_as timer ss) (ascend timer)

pub ruled_again : (rule : ℕ → Option SourceTimer) (before after : SourceTimer) (ss : List ℕ) → Ascend ss → Each (λ s. rule s ≡ Some after) ss →
    ordered (entries_by rule (keys_of (each_as before ss) ++ ss)) ≡ each_as after ss
unfolding Ascend
ruled_again rule before after ss ascend each =
    ap (λ ks. ordered (entries_by rule (ks ++ ss))) (keys-each before ss)
    ∙ ap ordered (entries_by-each rule after (ss ++ ss) (λ s is. each s (sym (same_named ss s) ∙ is)))
    ∙ same_entries nat_cmp nat_cmp_total nat_cmp-IsAntisymmetric (ordered (each_as after (ss ++ ss))) (each_as after ss)
    (sorted-ordered (each_as after (ss ++ ss))) (ascend after) (λ q.
    find-ordered (each_as after (ss ++ ss)) q ∙ find-each after (ss ++ ss) q ∙ ap (λ b. cond b (Some after) None) (same_named ss q)
    ∙ sym (find-each after ss q))

-- tests of them
pub any-first : (test : ℕ → Bool) (timer : SourceTimer) (s : ℕ) (ss : List ℕ) → Ascend (s ∷ ss) → test s ≡ true →
    list_any test (ascending (each_as timer (s ∷ ss))) ≡ true
any-first test timer s ss ascend is = ap (list_any test) (ascending-each timer (s ∷ ss) ascend) ∙ ap (λ b. b || list_any test ss) is

no_one : (test : ℕ → Bool) (ss : List ℕ) → Each (λ s. test s ≡ false) ss → list_any test ss ≡ false
no_one test [] each = refl
no_one test (s ∷ ss) each = λ i. the_first s ss each i || no_one test ss (the_rest s ss each) i

pub any-none : (test : ℕ → Bool) (timer : SourceTimer) (ss : List ℕ) → Ascend ss → Each (λ s. test s ≡ false) ss →
    list_any test (ascending (each_as timer ss)) ≡ false
any-none test timer ss ascend each = ap (list_any test) (ascending-each timer ss ascend) ∙ no_one test ss each

all_pass : (test : ℕ → Bool) (ss : List ℕ) → Each (λ s. test s ≡ true) ss → filter test ss ≡ ss
all_pass test [] each = refl
all_pass test (s ∷ ss) each = λ i. cond (the_first s ss each i) (s ∷ all_pass test ss (the_rest s ss each) i) (all_pass test ss (the_rest s ss each) i)

none_pass : (test : ℕ → Bool) (ss : List ℕ) → Each (λ s. test s ≡ false) ss → filter test ss ≡ []
none_pass test [] each = refl
none_pass test (s ∷ ss) each = λ i. cond (the_first s ss each i) (s ∷ none_pass test ss (the_rest s ss each) i) (none_pass test ss (the_rest s ss each) i)

pub filter-all : (test : ℕ → Bool) (timer : SourceTimer) (ss : List ℕ) → Ascend ss → Each (λ s. test s ≡ true) ss →
    filter test (ascending (each_as timer ss)) ≡ ss
filter-all test timer ss ascend each = ap (filter test) (ascending-each timer ss ascend) ∙ all_pass test ss each

pub filter-none : (test : ℕ → Bool) (timer : SourceTimer) (ss : List ℕ) → Ascend ss → Each (λ s. test s ≡ false) ss →
    filter test (ascending (each_as timer ss)) ≡ []
filter-none test timer ss ascend each = ap (filter test) (ascending-each timer ss ascend) ∙ none_pass test ss each
