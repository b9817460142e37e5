-- Numbers that are left of a list by a test: a list that is filtered in place, and one whose numbers go to another.
use Rattle.mq_held.proofs.Common.{ℕ, ◌+◌, ◌<◌, ◌≡◌, Bool, true, false, cond, List, [], ◌∷◌, ◌++◌, length, get_or, set, take, sym, ap, ◌∙◌, subst, arith}
use Rattle.mq_held.proofs.Common.{append-nil, filter, All, get_or-drop, take_more_set, filter_more, FiltersInPlace, key_in, HeldState, HasNumber, IsNumber}
use Rattle.mq_held.proofs.KeysByNumber.{first-item}

-- the next item to read has not been written yet
pub unread : {p : ℕ → Bool} {xs ys : List ℕ} {k i : ℕ} → FiltersInPlace p xs ys k i → (d : ℕ) → get_or ys i d ≡ get_or xs i d
unread {xs = xs} {ys = ys} {i = i} h d = ap (λ n. get_or ys n d) zero_more ∙ sym (get_or-drop i ys 0 d) ∙ ap (λ zs. get_or zs 0 d) h.rest ∙
    get_or-drop i xs 0 d ∙ ap (λ n. get_or xs n d) (sym zero_more)
  where
    zero_more : i ≡ i + 0
    zero_more = omega arith

pub unread-is : {p : ℕ → Bool} (P : ℕ → Type 0) {xs ys : List ℕ} {k i : ℕ} (n : ℕ) → FiltersInPlace p xs ys k i → All P xs → i < length xs →
    n ≡ get_or ys i n → P n
unread-is P {xs = xs} {i = i} n h all within is =
    subst P (sym (is ∙ unread h n)) (all i n within)

-- a number of some group has its address
pub number-has : (s : HeldState) (n : ℕ) → IsNumber s n → HasNumber s (key_in s.order.items n) n
number-has s n is = record { is = first-item s.order.items n is }

-- the first numbers that pass, once one more is looked at
pub passed_yes : (p : ℕ → Bool) (xs ys : List ℕ) (k i x : ℕ) → take k ys ≡ filter p (take i xs) → k < length ys → i < length xs → x ≡ get_or xs i x →
    p x ≡ true → take (k + 1) (set ys k x) ≡ filter p (take (i + 1) xs)
passed_yes p xs ys k i x front in_ys in_xs is passes =
    take_more_set ys k x in_ys
    ∙ ap (λ zs. zs ++ x ∷ []) front
    ∙ sym (filter_more p xs i x in_xs ∙ ap (λ y. filter p (take i xs) ++ cond (p y) (y ∷ []) []) (sym is) ∙
    ap (λ b. filter p (take i xs) ++ cond b (x ∷ []) []) passes)

pub passed_no : (p : ℕ → Bool) (xs ys : List ℕ) (k i x : ℕ) → take k ys ≡ filter p (take i xs) → i < length xs → x ≡ get_or xs i x → p x ≡ false →
    take k ys ≡ filter p (take (i + 1) xs)
passed_no p xs ys k i x front in_xs is fails =
    front
    ∙ sym (filter_more p xs i x in_xs ∙ ap (λ y. filter p (take i xs) ++ cond (p y) (y ∷ []) []) (sym is) ∙
    ap (λ b. filter p (take i xs) ++ cond b (x ∷ []) []) fails ∙ append-nil (filter p (take i xs)))
