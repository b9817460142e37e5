-- Numbers that are read of bytes and written again are these bytes.
use Rattle.mq_laws.proofs.Common.{◌≡◌, ◌≤◌, ◌<◌, ◌+◌, ℕ, Bool, true, false, List, [], ◌∷◌, ◌++◌, length, length-drop, take, drop, get_or, refl, sym, ap, subst}
use Rattle.mq_laws.proofs.Common.{◌∙◌, arith, nat_lt, slice_range, All, ltb-false, ltb-true, get_or_past, length-take-le, take_all, take-append-drop}
use Rattle.mq_laws.proofs.Common.{drop-append_seam, take-add, take-append_seam, field-append, All-drop, All-take, le_bytes_2, le_bytes_4, be_bytes_2, Big}
use Rattle.mq_laws.proofs.Common.{Little, field, big_bytes, big_number, little_bytes, little_number, Endian}

-- these are bytes
abbrev pub AreBytes : List ℕ → Type 0
AreBytes xs = All (λ (byte : ℕ). byte < 256) xs

pub each_byte : (xs : List ℕ) → AreBytes xs → (i : ℕ) → get_or xs i 0 < 256
each_byte xs all i = by_place (nat_lt i (length xs)) refl
  where
    by_place : (b : Bool) → nat_lt i (length xs) ≡ b → get_or xs i 0 < 256
    by_place true is = all i 0 (ltb-true i (length xs) is)
    by_place false is = let past = get_or_past xs i 0 (ltb-false i (length xs) is) in omega (arith, past)

pub four_back : (xs : List ℕ) → 4 ≤ length xs → AreBytes xs → little_bytes 4 (little_number 4 xs) ≡ take 4 xs
four_back (a ∷ b ∷ c ∷ d ∷ rest) long all =
    let xs : List ℕ = a ∷ b ∷ c ∷ d ∷ [] in
    le_bytes_4 xs (little_number 4 (a ∷ b ∷ c ∷ d ∷ rest)) refl (each_byte xs (All-take (λ (byte : ℕ). byte < 256) 4 (a ∷ b ∷ c ∷ d ∷ rest) all)) (omega arith)
four_back _ long all = absurd (omega arith)

pub two_back : (xs : List ℕ) → 2 ≤ length xs → AreBytes xs → big_bytes 2 (big_number 2 xs) ≡ take 2 xs
two_back (a ∷ b ∷ rest) long all =
    let xs : List ℕ = a ∷ b ∷ [] in
    be_bytes_2 xs (big_number 2 (a ∷ b ∷ rest)) refl (each_byte xs (All-take (λ (byte : ℕ). byte < 256) 2 (a ∷ b ∷ rest) all)) (omega arith)
two_back _ long all = absurd (omega arith)

-- this fact for numbers at later places
pub four_at : (place : ℕ) (xs : List ℕ) → place + 4 ≤ length xs → AreBytes xs → little_bytes 4 (field Little place 4 xs) ≡ take 4 (drop place xs)
four_at place xs long all = four_back (drop place xs) (omega (arith, length-drop place xs)) (All-drop (λ (byte : ℕ). byte < 256) place xs all)

pub two_at : (place : ℕ) (xs : List ℕ) → place + 2 ≤ length xs → AreBytes xs → big_bytes 2 (field Big place 2 xs) ≡ take 2 (drop place xs)
two_at place xs long all = two_back (drop place xs) (omega (arith, length-drop place xs)) (All-drop (λ (byte : ℕ). byte < 256) place xs all)

-- four numbers are sixteen bytes
pub four_numbers : (xs : List ℕ) → length xs ≡ 16 → take 4 xs ++ take 4 (drop 4 xs) ++ take 4 (drop 8 xs) ++ take 4 (drop 12 xs) ≡ xs
four_numbers xs size =
    let a : take 8 xs ≡ take 4 xs ++ take 4 (drop 4 xs) = take-add 4 4 xs in
    let b : take 12 xs ≡ take 8 xs ++ take 4 (drop 8 xs) = take-add 8 4 xs in
    let c : take 16 xs ≡ take 12 xs ++ take 4 (drop 12 xs) = take-add 12 4 xs in
    rw (← a, ← b, ← c) (take_all 16 xs (omega (arith, size)))

-- addresses, a type and a payload are a frame
pub three_parts : (xs : List ℕ) → 14 ≤ length xs → slice_range xs 0 12 ++ take 2 (drop 12 xs) ++ drop 14 xs ≡ xs
three_parts xs long =
    let a : take 14 xs ≡ take 12 xs ++ take 2 (drop 12 xs) = take-add 12 2 xs in
    rw (← a) (take-append-drop 14 xs)

-- this fact for two bytes, the lowest first
pub low_two_at : (place : ℕ) (xs : List ℕ) → place + 2 ≤ length xs → AreBytes xs → little_bytes 2 (field Little place 2 xs) ≡ take 2 (drop place xs)
low_two_at place xs long all = low_two_back (drop place xs) (omega (arith, length-drop place xs)) (All-drop (λ (byte : ℕ). byte < 256) place xs all)
  where
    low_two_back : (ys : List ℕ) → 2 ≤ length ys → AreBytes ys → little_bytes 2 (little_number 2 ys) ≡ take 2 ys
    low_two_back [] long all = absurd (omega arith)
    low_two_back (a ∷ []) long all = absurd (omega arith)
    low_two_back (a ∷ b ∷ rest) long all =
        let ys : List ℕ = a ∷ b ∷ [] in
        le_bytes_2 ys (little_number 2 (a ∷ b ∷ rest)) refl (each_byte ys (All-take (λ (byte : ℕ). byte < 256) 2 (a ∷ b ∷ rest) all)) (omega arith)

-- both parts of a list of bytes are bytes
pub front_bytes : (xs ys : List ℕ) → AreBytes (xs ++ ys) → AreBytes xs
front_bytes xs ys all = subst AreBytes (take-append_seam xs ys) (All-take (λ (byte : ℕ). byte < 256) (length xs) (xs ++ ys) all)

pub rest_bytes : (xs ys : List ℕ) → AreBytes (xs ++ ys) → AreBytes ys
rest_bytes xs ys all = subst AreBytes (drop-append_seam xs ys) (All-drop (λ (byte : ℕ). byte < 256) (length xs) (xs ++ ys) all)

-- a field of the first bytes
pub field-take : (order : Endian) (place n m : ℕ) (xs : List ℕ) → place + n ≤ m → m ≤ length xs → field order place n (take m xs) ≡ field order place n xs
field-take order place n m xs within long =
    let size = length-take-le m xs long in
    sym (field-append order place n (take m xs) (drop m xs) (omega (arith, size, within))) ∙ ap (field order place n) (take-append-drop m xs)
