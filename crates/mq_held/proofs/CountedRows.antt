-- The count of a row's sources.
use Rattle.mq_held.proofs.Common.{ℕ, ◌+◌, ◌<◌, ◌≤◌, ◌≡◌, ◌||◌, ◌&&◌, Bool, true, false, cond, ltb, min, refl, arith, List, [], ◌∷◌, take, drop, get_or, Some}
use Rattle.mq_held.proofs.Common.{sym, ap, ◌∙◌, ⊎_elim, list_map, count_by, list_any, cases_lt, cond-false, cond-true, le-ltb, lt-ltb, true≢false, get_or-drop}
use Rattle.mq_held.proofs.Common.{take-append-drop, sum_by-append, sum_by-cons, is_asked_above, source_if_asked, deadline_of, is_ahead}
use Rattle.mq_held.proofs.Common.{item_has_retransmissions}
use Rattle.mq_held.proofs.Common.{source_asked, Source, SourceTimer, Stopped, Running}

-- 1 for an item that passes a test
abbrev one_for : {X : Type 0} → (X → Bool) → X → ℕ
one_for p x = cond (p x) 1 0

none_of_both : {X : Type 0} (p : X → Bool) (x : X) (xs : List X) (b : Bool) → p x ≡ b → (b || list_any p xs) ≡ false →
    (list_any p xs ≡ false → count_by p xs ≡ 0) → count_by p (x ∷ xs) ≡ 0
none_of_both p x xs true is none rest = absurd (true≢false none)
none_of_both p x xs false is none rest =
    let own : one_for p x ≡ 0 = cond-false (p x) 1 0 is in
    omega (arith, sum_by-cons (one_for p) x xs, own, rest none)

-- none is counted where none passes
pub count-none_of_any : {X : Type 0} (p : X → Bool) (xs : List X) → list_any p xs ≡ false → count_by p xs ≡ 0
count-none_of_any p [] none = refl
count-none_of_any p (x ∷ xs) none = none_of_both p x xs (p x) refl none (count-none_of_any p xs)

-- if no item from a place on passes, those that pass stand before it
pub count-before : {X : Type 0} (p : X → Bool) (xs : List X) (i : ℕ) → list_any p (drop i xs) ≡ false → count_by p xs ≡ count_by p (take i xs)
count-before p xs i none =
    ap (count_by p) (sym (take-append-drop i xs)) ∙ omega (arith, sum_by-append (one_for p) (take i xs) (drop i xs), count-none_of_any p (drop i xs) none)

-- lists that agree from a place on have the same there
pub same-behind : {X : Type 0} (xs ys : List X) (i : ℕ) (d : X) → drop i xs ≡ drop i ys → get_or xs i d ≡ get_or ys i d
same-behind xs ys i d same =
    let at : i + 0 ≡ i = omega arith in
    ap (λ k. get_or xs k d) (sym at) ∙ sym (get_or-drop i xs 0 d) ∙ ap (λ zs. get_or zs 0 d) same ∙ get_or-drop i ys 0 d ∙ ap (λ k. get_or ys k d) at

one_of_two : {X Y : Type 0} (test : X → Bool) (p : Y → Bool) (f : X → Y) (b : Bool) (x : X) (xs : List X) (passes : Bool) → test x ≡ passes →
    (test x ≡ true → p (f x) ≡ b) → (passes || list_any test xs) ≡ true → (list_any test xs ≡ true → cond b 1 0 ≤ count_by p (list_map f xs)) →
    cond b 1 0 ≤ count_by p (f x ∷ list_map f xs)
one_of_two test p f b x xs true is each some rest =
    let own : one_for p (f x) ≡ cond b 1 0 = ap (λ (c : Bool). cond {A = ℕ} c 1 0) (each is) in
    omega (arith, sum_by-cons (one_for p) (f x) (list_map f xs), own)
one_of_two test p f b x xs false is each some rest = omega (arith, sum_by-cons (one_for p) (f x) (list_map f xs), rest some)

-- one result passes, if the results of items with another test do and one item passes that test
pub count-made : {X Y : Type 0} (test : X → Bool) (p : Y → Bool) (f : X → Y) (b : Bool) → ((x : X) → test x ≡ true → p (f x) ≡ b) → (xs : List X) →
    list_any test xs ≡ true → cond b 1 0 ≤ count_by p (list_map f xs)
count-made test p f b each [] some = absurd (true≢false (sym some))
count-made test p f b each (x ∷ xs) some = one_of_two test p f b x xs (test x) refl (each x) some (count-made test p f b each xs)

timer-asked : (limit count : ℕ) (asked : Bool) (timer : SourceTimer) → (asked && is_ahead limit (deadline_of (Some timer))) ≡ true →
    cond asked (source_asked limit count timer) timer ≡ Running limit count
timer-asked limit count true Stopped is = absurd (true≢false (sym is))
timer-asked limit count true (Running d n) is = cond-true (ltb limit d) (Running limit count) (Running d n) is
timer-asked limit count false timer is = absurd (true≢false (sym is))

-- a source that is asked for has retransmissions to go
pub asked-has : {K : Type 0} (number : K → ℕ) (limit count : ℕ) (asked : ℕ → Bool) (x : Source K) → is_asked_above number limit asked x ≡ true →
    item_has_retransmissions (source_if_asked number limit count asked x) ≡ ltb 0 count
asked-has number limit count asked x is =
    ap (λ timer. item_has_retransmissions (let y : Source _ = record { address = x.address; timer = timer } in y))
    (timer-asked limit count (asked (number x.address)) x.timer is)

pub one-at_most : (n : ℕ) → cond (ltb 0 n) 1 0 ≡ min 1 n
one-at_most n =
    ⊎_elim
    (λ (some : 0 < n). cond-true (ltb 0 n) 1 0 (lt-ltb 0 n some) ∙ omega (arith, some))
    (λ (none : n ≤ 0). cond-false (ltb 0 n) 1 0 (le-ltb 0 n none) ∙ omega (arith, none))
    (cases_lt 0 n)
