-- Addresses that stand one after the other.
use Rattle.mq_wire.proofs.Common.{◌≡◌, ◌<◌, ◌≤◌, ◌-◌, ◌+◌, ℕ, zero, suc, List, ◌∷◌, length, take, drop, refl, arith, big_from, big_number, get_or-take}
use Rattle.mq_wire.proofs.Common.{length-drop, take_all, addresses}

-- a number of n bytes reads no byte past them
big_from-take : (i n m : ℕ) (bytes : List ℕ) → i + n ≤ m → big_from i n (take m bytes) ≡ big_from i n bytes
big_from-take i zero m bytes within = refl
big_from-take i (suc n) m bytes within =
    let byte = get_or-take m bytes i 0 (omega arith) in
    let rest = big_from-take (suc i) n m bytes (omega arith) in
    rw (byte, rest) refl

pub length_addresses : (width count : ℕ) (bytes : List ℕ) → length (addresses width count bytes) ≡ count
length_addresses width zero bytes = refl
length_addresses width (suc count) bytes = let rest = length_addresses width count (drop width bytes) in omega (arith, rest)

-- the first of them, and the others
pub first_address : (width count : ℕ) (bytes : List ℕ) → 0 < count →
    addresses width count bytes ≡ big_number width (take width bytes) ∷ addresses width (count - 1) (drop width bytes)
first_address width zero bytes some = absurd (omega arith)
first_address width (suc count) bytes some =
    let read = big_from-take 0 width width bytes (omega arith) in
    let less : suc count - 1 ≡ count = omega arith in rw (read, less) refl

-- all bytes behind a place, and how many these are
pub all_behind : (place : ℕ) (bytes : List ℕ) → take (length bytes - place) (drop place bytes) ≡ drop place bytes
all_behind place bytes =
    let behind = length-drop place bytes in take_all (length bytes - place) (drop place bytes) (omega (arith, behind))

pub bytes_behind : (place n : ℕ) (bytes : List ℕ) → place + n ≤ length bytes → n ≤ length (take (length bytes - place) (drop place bytes))
bytes_behind place n bytes within =
    let behind = length-drop place bytes in
    let all = all_behind place bytes in rw all (omega (arith, behind))
