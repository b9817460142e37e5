-- Consecutive fields of a message, each a span of its bytes.
use Rattle.std.specs.Prelude.{◌≡◌, ℕ, zero, suc, ◌+◌, nat_le, if◌then◌else◌, List, [], ◌∷◌, Option, None, Some, Result, Ok, Err, drop, sum}
use Rattle.std.specs.Option.{option_map}
use Rattle.byteorder.specs.Endian.{big_number}
use Rattle.mq_wire.specs.declared.message.WireFault.{WireFault}
use Rattle.mq_wire.specs.declared.message.WireFault.TheVariants.{Truncated}

-- the number in the n bytes at a place, most significant first
abbrev pub number_at : (place n : ℕ) → List ℕ → ℕ
number_at place n bytes = big_number n (drop place bytes)

-- `count` consecutive addresses of `width` bytes each
abbrev pub addresses : (width count : ℕ) → List ℕ → List ℕ
addresses width zero bytes = []
addresses width (suc count) bytes = big_number width bytes ∷ addresses width count (drop width bytes)

-- the place of the first truncated span, in `len` bytes and with the first span at `at`
abbrev pub first_cut : ℕ → ℕ → List ℕ → Option ℕ
first_cut len at [] = None
first_cut len at (width ∷ widths) = if nat_le (at + width) len then first_cut len (at + width) widths else Some at

-- the fault of `len` bytes with a truncated span
abbrev pub cut_from : (len at : ℕ) → List ℕ → Option WireFault
cut_from len at widths = option_map (λ place. Truncated place) (first_cut len at widths)

-- the end of these spans, or the fault of the first truncated one
abbrev pub EndsAt : (len at : ℕ) → List ℕ → Result ℕ WireFault → Type 0
EndsAt len at widths (Ok end) = (first_cut len at widths ≡ None) × (end ≡ at + sum widths)
EndsAt len at widths (Err fault) = cut_from len at widths ≡ Some fault
