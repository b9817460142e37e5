-- The items of the order: the one of a number, and the one of an address.
use Rattle.std.proofs.Common.{◌≡◌, ◌==◌, ℕ, zero, suc, ◌<◌, ◌≤◌, true, false, true≢false, refl, List, [], ◌∷◌, length, map, get_or, Option, None}
use Rattle.mq_held.proofs.Common.{Some, is_some, sym, ap, ◌∙◌, arith, ⊎_elim, All, Contains, option_map_or, cases_lt, eqb-true, eq-eqb, eqb_tells, get_or-map}
use Rattle.mq_held.proofs.Common.{get_or_default, length-map, Any-from_list_any, sum_by-cons, IsAscending, set_of, item_with, NumberedKey, key_in, times}
use Rattle.mq_held.proofs.Common.{IsAscending-head, IsAscending-tail, below-eqb, is_cell, is_cell-same, is_cell-other, times-some, found_where_member}
use Rattle.mq_held.proofs.Common.{set_of-found}

-- an item, from its number and its key
abbrev pub item : (number key : ℕ) → NumberedKey
item number key = record { number = number; key = key }

abbrev pub number_of : NumberedKey → ℕ
number_of x = x.number

abbrev pub key_of : NumberedKey → ℕ
key_of x = x.key

-- a number that stands once has one place
pub one-place : (xs : List ℕ) (n i j : ℕ) → times n xs ≤ 1 → i < length xs → j < length xs → get_or xs i 0 ≡ n → get_or xs j 0 ≡ n → i ≡ j
one-place [] n i j once i_in j_in at_i at_j = absurd (omega (arith, i_in))
one-place (x ∷ xs) n zero zero once i_in j_in at_i at_j = refl
one-place (x ∷ xs) n zero (suc j) once i_in j_in at_i at_j =
    absurd (omega (arith, once, sum_by-cons (is_cell n) x xs, is_cell-same n x at_i, times-some xs n j 0 (omega (arith, j_in)) at_j))
one-place (x ∷ xs) n (suc i) zero once i_in j_in at_i at_j =
    absurd (omega (arith, once, sum_by-cons (is_cell n) x xs, is_cell-same n x at_j, times-some xs n i 0 (omega (arith, i_in)) at_i))
one-place (x ∷ xs) n (suc i) (suc j) once i_in j_in at_i at_j =
    ap suc (one-place xs n i j (omega (arith, once, sum_by-cons (is_cell n) x xs)) (omega (arith, i_in)) (omega (arith, j_in)) at_i at_j)

-- the items of one number have one address
pub one-key : (items : List NumberedKey) (n a b : ℕ) → times n (map number_of items) ≤ 1 → Contains items (item n a) → Contains items (item n b) → a ≡ b
one-key items n a b once in_a in_b =
    let size = length-map items number_of in
    let at_a : get_or (map number_of items) in_a.0 0 ≡ n = get_or-map number_of items in_a.0 (item n a) 0 in_a.1 ∙ ap number_of in_a.2 in
    let at_b : get_or (map number_of items) in_b.0 0 ≡ n = get_or-map number_of items in_b.0 (item n b) 0 in_b.1 ∙ ap number_of in_b.2 in
    let same = one-place (map number_of items) n in_a.0 in_b.0 once (omega (arith, size, in_a.1)) (omega (arith, size, in_b.1)) at_a at_b in
    ap key_of (sym in_a.2) ∙ ap key_of (get_or_default items in_a.0 (item n a) (item n b) in_a.1) ∙ ap (λ i. key_of (get_or items i (item n b))) same
    ∙ ap key_of in_b.2

-- the items of one address have one number
pub one-number : (items : List NumberedKey) (a n m : ℕ) → IsAscending key_of items → Contains items (item n a) → Contains items (item m a) → n ≡ m
one-number items a n m up in_n in_m =
    let at_n : get_or items in_n.0 (item m a) ≡ item n a = get_or_default items in_n.0 (item m a) (item n a) in_n.1 ∙ in_n.2 in
    ⊎_elim
    (λ (before : in_n.0 < in_m.0). absurd (omega (arith, up in_n.0 in_m.0 (item m a) before in_m.1, ap key_of at_n, ap key_of in_m.2)))
    (λ (from : in_m.0 ≤ in_n.0).
    ⊎_elim
    (λ (behind : in_m.0 < in_n.0). absurd (omega (arith, up in_m.0 in_n.0 (item m a) behind in_n.1, ap key_of at_n, ap key_of in_m.2)))
    (λ (upto : in_n.0 ≤ in_m.0).
    let same : in_n.0 ≡ in_m.0 = omega (arith, from, upto) in
    ap number_of (sym at_n) ∙ ap (λ i. number_of (get_or items i (item m a))) same ∙ ap number_of in_m.2)
    (cases_lt in_m.0 in_n.0))
    (cases_lt in_n.0 in_m.0)

-- a number, and an address, that some item has
pub has-number : (items : List NumberedKey) (n : ℕ) → set_of number_of items n ≡ true → (a : ℕ) × Contains items (item n a)
has-number items n held =
    let found = Any-from_list_any (λ (x : NumberedKey). x.number == n) items held in
    let x : NumberedKey = found.1 in
    let is : x.number ≡ n = eqb-true x.number n found.4 in
    let same : x ≡ item n x.key = ap (λ k. item k x.key) is in
    (x.key, (found.0, found.2, get_or_default items found.0 (item n x.key) x found.2 ∙ found.3 ∙ same))

pub has-key : (items : List NumberedKey) (a : ℕ) → set_of key_of items a ≡ true → (n : ℕ) × Contains items (item n a)
has-key items a held =
    let found = Any-from_list_any (λ (x : NumberedKey). x.key == a) items held in
    let x : NumberedKey = found.1 in
    let is : x.key ≡ a = eqb-true x.key a found.4 in
    let same : x ≡ item x.number a = ap (λ k. item x.number k) is in
    (x.number, (found.0, found.2, get_or_default items found.0 (item x.number a) x found.2 ∙ found.3 ∙ same))

pub number-in : (items : List NumberedKey) (n a : ℕ) → Contains items (item n a) → set_of number_of items n ≡ true
number-in items n a has = set_of-found number_of items n has.0 (item n a) has.1 (ap number_of has.2)

pub key-in : (items : List NumberedKey) (n a : ℕ) → Contains items (item n a) → set_of key_of items a ≡ true
key-in items n a has = set_of-found key_of items a has.0 (item n a) has.1 (ap key_of has.2)

-- the item that is found by its address
item-found : (items : List NumberedKey) (n a k : ℕ) → IsAscending key_of items → k < length items → get_or items k (item n a) ≡ item n a →
    item_with key_of items a ≡ Some (item n a)
item-found [] n a k up within is = absurd (omega (arith, within))
item-found (x ∷ xs) n a zero up within is = rw (eq-eqb x.key a (ap key_of is)) (ap Some is)
item-found (x ∷ xs) n a (suc k) up within is =
    let above = IsAscending-head key_of x xs up k (item n a) (omega (arith, within)) in
    let at : key_of (get_or xs k (item n a)) ≡ a = ap key_of is in
    rw (below-eqb x.key a (omega (arith, above, at))) (item-found xs n a k (IsAscending-tail key_of x xs up) (omega (arith, within)) is)

pub item-of_key : (items : List NumberedKey) (n a : ℕ) → IsAscending key_of items → Contains items (item n a) → item_with key_of items a ≡ Some (item n a)
item-of_key items n a up has = item-found items n a has.0 up has.1 has.2

pub no-item : (items : List NumberedKey) (a : ℕ) → set_of key_of items a ≡ false → item_with key_of items a ≡ None
no-item items a absent = by_item (item_with key_of items a) (found_where_member key_of items a ∙ absent)
  where
    by_item : (o : Option NumberedKey) → is_some o ≡ false → o ≡ None
    by_item None is = refl
    by_item (Some x) is = absurd (true≢false is)

-- a number that has an item is below what all are
pub number-within : (items : List NumberedKey) (n a room : ℕ) → All (λ (x : NumberedKey). x.number < room) items → Contains items (item n a) → n < room
number-within items n a room within has =
    let below = within has.0 (item n a) has.1 in
    omega (arith, below, ap number_of has.2)

-- how often a number stands, with and without an item
pub times-in : (items : List NumberedKey) (n a : ℕ) → Contains items (item n a) → 1 ≤ times n (map number_of items)
times-in items n a has =
    times-some (map number_of items) n has.0 0 (omega (arith, has.1, length-map items number_of))
    (get_or-map number_of items has.0 (item n a) 0 has.1 ∙ ap number_of has.2)

pub absent-times : (items : List NumberedKey) (n : ℕ) → set_of number_of items n ≡ false → times n (map number_of items) ≡ 0
absent-times [] n absent = refl
absent-times (x ∷ items) n absent =
    ⊎_elim
    (λ same. absurd (true≢false (sym (rw same.0 refl) ∙ absent)))
    (λ other.
    let left : set_of number_of items n ≡ false = rw other.0 at absent in
    omega (arith, absent-times items n left, sum_by-cons (is_cell n) x.number (map number_of items), is_cell-other n x.number other.1))
    (eqb_tells x.number n)

-- the item that is found by its number
item-numbered : (items : List NumberedKey) (n a k : ℕ) → times n (map number_of items) ≤ 1 → k < length items → get_or items k (item n a) ≡ item n a →
    item_with number_of items n ≡ Some (item n a)
item-numbered [] n a k once within is = absurd (omega (arith, within))
item-numbered (x ∷ xs) n a zero once within is = rw (eq-eqb x.number n (ap number_of is)) (ap Some is)
item-numbered (x ∷ xs) n a (suc k) once within is =
    let parts = sum_by-cons (is_cell n) x.number (map number_of xs) in
    let some = times-in xs n a (k, omega (arith, within), is) in
    ⊎_elim
    (λ same. absurd (omega (arith, once, parts, some, is_cell-same n x.number same.1)))
    (λ other. rw other.0 (item-numbered xs n a k (omega (arith, once, parts)) (omega (arith, within)) is))
    (eqb_tells x.number n)

pub item-of_number : (items : List NumberedKey) (n a : ℕ) → times n (map number_of items) ≤ 1 → Contains items (item n a) →
    item_with number_of items n ≡ Some (item n a)
item-of_number items n a once has = item-numbered items n a has.0 once has.1 has.2

-- a number's address
pub key-of_number : (items : List NumberedKey) (n a : ℕ) → times n (map number_of items) ≤ 1 → Contains items (item n a) → key_in items n ≡ a
key-of_number items n a once has = ap (λ o. option_map_or (λ (x : NumberedKey). x.key) o 0) (item-of_number items n a once has)
