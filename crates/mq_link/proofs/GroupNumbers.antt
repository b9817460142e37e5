-- The groups, by their numbers.
use Rattle.mq_link.proofs.Common.{◌≡◌, ◌==◌, cond, ℕ, zero, suc, ◌+◌, ◌<◌, ◌≤◌, Bool, true, false, ◌||◌, refl, List, [], ◌∷◌, length, get_or, Some, sym, ap}
use Rattle.mq_link.proofs.Common.{◌∙◌, subst, arith, list_map, All, Contains, option_map_or, false≢true, eqb-true, eq-eqb, ne_eqb, All-head, All-tail}
use Rattle.mq_link.proofs.Common.{sum_by-cons, IsAscending, set_of, NumberedKey, NumberedKeysState, key_in, times, IsAscending-head, IsAscending-tail}
use Rattle.mq_link.proofs.Common.{HeldState, HasNumber, IsNumber}

-- a number that some item has is that of an item with its key
numbered_item : (items : List NumberedKey) (n : ℕ) → set_of (λ (x : NumberedKey). x.number) items n ≡ true →
    Contains items (record { number = n; key = key_in items n })
numbered_item [] n is = absurd (false≢true is)
numbered_item (x ∷ items) n is = by_test (x.number == n) refl is (numbered_item items n)
  where
    at_first : (k : ℕ) (y : NumberedKey) → get_or items k y ≡ y → get_or (x ∷ items) (suc k) y ≡ y
    at_first k y is = is

    by_test : (b : Bool) → (x.number == n) ≡ b → (b || set_of (λ (x : NumberedKey). x.number) items n) ≡ true
        → (set_of (λ (x : NumberedKey). x.number) items n ≡ true → Contains items (record { number = n; key = key_in items n }))
        → (let y : NumberedKey =
        record {
          number = n;
          key = option_map_or (λ (x : NumberedKey). x.key)
              (cond b (Some x) (Rattle.std.specs.Prelude.find (λ (x : NumberedKey). x.number == n) items)) 0;
        } in Contains (x ∷ items) y)
    by_test true same rest later = (zero, omega arith, λ i. record { number = eqb-true x.number n same i; key = x.key })
    by_test false other rest later = let found = later rest in (suc found.0, (let l = found.1 in omega arith), at_first found.0 _ found.2)

-- the number of a group has an address
pub number_found : (s : HeldState) (n : ℕ) → IsNumber s n → HasNumber s (key_in s.order.items n) n
number_found s n is = record { is = numbered_item s.order.items n is }

-- the order says which group has a number
pub number_stays : (old new : HeldState) (address n : ℕ) → new.order ≡ old.order → HasNumber old address n → HasNumber new address n
number_stays old new address n same has =
    record { is = subst (λ (o : NumberedKeysState). Contains o.items (record { number = n; key = address })) (sym same) has.is }

pub number_stayed : (old new : HeldState) (address n : ℕ) → new.order ≡ old.order → HasNumber new address n → HasNumber old address n
number_stayed old new address n same has =
    record { is = subst (λ (o : NumberedKeysState). Contains o.items (record { number = n; key = address })) same has.is }

pub is_number_stays : (old new : HeldState) (n : ℕ) → new.order ≡ old.order → IsNumber old n → IsNumber new n
is_number_stays old new n same is = ap (λ (o : NumberedKeysState). set_of (λ (x : NumberedKey). x.number) o.items n) same ∙ is

pub is_number_stayed : (old new : HeldState) (n : ℕ) → new.order ≡ old.order → IsNumber new n → IsNumber old n
is_number_stayed old new n same is = sym (ap (λ (o : NumberedKeysState). set_of (λ (x : NumberedKey). x.number) o.items n) same) ∙ is

-- numbers whose keys ascend stand once each
module _ (key : ℕ → ℕ) where
  none_above : (x : ℕ) (xs : List ℕ) → All (λ k. key x < k) (list_map key xs) → times x xs ≡ 0
  none_above x [] above = refl
  none_above x (y ∷ xs) above =
      let rest = none_above x xs (All-tail (λ k. key x < k) (key y) (list_map key xs) above) in
      let first : key x < key y = All-head (λ k. key x < k) (key y) (list_map key xs) above in
      let other : (y == x) ≡ false = ne_eqb y x (λ same. let k = ap key same in absurd (omega (arith, k, first))) in
      sum_by-cons (λ n. cond (n == x) 1 0) y xs ∙ (λ i. cond (other i) 1 0 + rest i)

  pub stands_once : (xs : List ℕ) → IsAscending (λ k. k) (list_map key xs) → (n : ℕ) → times n xs ≤ 1
  stands_once [] up n = omega arith
  stands_once (x ∷ xs) up n = by_test (x == n) refl (stands_once xs (IsAscending-tail (λ k. k) (key x) (list_map key xs) up) n)
    where
      by_test : (b : Bool) → (x == n) ≡ b → times n xs ≤ 1 → times n (x ∷ xs) ≤ 1
      by_test true same rest =
          let is = eqb-true x n same in
          let none = subst (λ m. times m xs ≡ 0) is (none_above x xs (IsAscending-head (λ k. k) (key x) (list_map key xs) up)) in
          let total = sum_by-cons (λ m. cond (m == n) 1 0) x xs in
          let first : ◌≡◌ {A = ℕ} (cond (x == n) 1 0) 1 = ap (λ b. cond b 1 0) same in
          omega (arith, none, total, first)
      by_test false other rest =
          let total = sum_by-cons (λ m. cond (m == n) 1 0) x xs in
          let first : ◌≡◌ {A = ℕ} (cond (x == n) 1 0) 0 = ap (λ b. cond b 1 0) other in
          omega (arith, rest, total, first)

-- a number at a place is among them
pub stands_at : (xs : List ℕ) (k n : ℕ) → k < length xs → get_or xs k 0 ≡ n → 1 ≤ times n xs
stands_at [] k n within is = absurd (omega arith)
stands_at (x ∷ xs) zero n within is =
    let total = sum_by-cons (λ m. cond (m == n) 1 0) x xs in
    let first : ◌≡◌ {A = ℕ} (cond (x == n) 1 0) 1 = ap (λ b. cond b 1 0) (eq-eqb x n is) in
    omega (arith, total, first)
stands_at (x ∷ xs) (suc k) n within is =
    let total = sum_by-cons (λ m. cond (m == n) 1 0) x xs in
    let rest = stands_at xs k n (omega arith) is in
    omega (arith, total, rest)
