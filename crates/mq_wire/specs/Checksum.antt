-- The checksum of a message, by RFC 1112 appendix I and RFC 2236 section 2.3. It is the 16-bit one's complement of the
-- one's complement sum of the whole message, with the checksum field as zero (RFC 3376 sections 4.1.2 and 4.2.2).
use Rattle.std.specs.Prelude.{◌≡◌, ℕ, ◌+◌, ◌-◌, ◌*◌, ◌%◌, ◌<◌, nat_lt, ◌==◌, ◌&&◌, if◌then◌else◌, Bool, List, [], ◌∷◌, ◌++◌, take, drop}

-- The sum of the 16-bit words, most significant byte first.
-- A zero byte follows an odd last byte (RFC 1071 section 1).
abbrev pub sum_of_words : List ℕ → ℕ
sum_of_words [] = 0
sum_of_words (high ∷ []) = high * 256
sum_of_words (high ∷ low ∷ bytes) = high * 256 + low + sum_of_words bytes

-- a checksum is right: the sum of all words, the field included, is not zero and is divisible by 65535
pub record IsRight (bytes : List ℕ) : Type 0 where
  pub some : 0 < sum_of_words bytes
  pub divisible : sum_of_words bytes % 65535 ≡ 0

-- a checksum is right, as a test
abbrev pub is_right : List ℕ → Bool
is_right bytes = nat_lt 0 (sum_of_words bytes) && sum_of_words bytes % 65535 == 0

-- The one's complement sum of words with this sum.
-- A carry out of the high bit is added to the low bit (RFC 1071 section 1).
abbrev pub ones_complement : ℕ → ℕ
ones_complement sum = if sum == 0 then 0 else (sum - 1) % 65535 + 1

-- a message with these two bytes in its checksum field, at place 2
abbrev pub with_field : ℕ → ℕ → List ℕ → List ℕ
with_field high low bytes = take 2 bytes ++ high ∷ low ∷ drop 4 bytes

-- the checksum of a message
abbrev pub checksum_of : List ℕ → ℕ
checksum_of bytes = 65535 - ones_complement (sum_of_words (with_field 0 0 bytes))

-- the checksum of a message that also covers these bytes before it
abbrev pub checksum_behind : (pseudo bytes : List ℕ) → ℕ
checksum_behind pseudo bytes = 65535 - ones_complement (sum_of_words (pseudo ++ with_field 0 0 bytes))
