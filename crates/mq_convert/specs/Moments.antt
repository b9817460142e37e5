-- The moments of packets, in nanoseconds from the start of 1970.
use Rattle.std.specs.Prelude.{ℕ, ◌+◌, ◌-◌, ◌*◌, ◌/◌, ◌^◌, nat_lt, if◌then◌else◌, Option, None, Some}
use Rattle.mq_pcap.specs.declared.form.Fraction.{Fraction}
use Rattle.mq_pcap.specs.declared.form.Fraction.TheVariants.{Microseconds, Nanoseconds}
use Rattle.mq_convert.specs.declared.context.Interface.{Interface}

-- nanoseconds of a second
abbrev pub second : ℕ
second = 1000000000

-- the moment, if its seconds have 32 bits, as in a classic capture
unfoldable pub placed : ℕ → Option ℕ
placed nanoseconds = if nat_lt nanoseconds (2 ^ 32 * second) then Some nanoseconds else None

abbrev pub unit_of : Fraction → ℕ
unit_of Microseconds = 1000
unit_of Nanoseconds = 1

-- the moment of a record of a classic capture; a fraction of a second or more is added like any other
unfoldable pub classic_moment : Fraction → (seconds part : ℕ) → Option ℕ
classic_moment fraction seconds part = placed (seconds * second + part * unit_of fraction)

-- Whole nanoseconds of a count of units. A resolution below 128 is the power of a tenth of a second. From 128 on, the
-- excess over 128 is the power of a half.
unfoldable pub nanoseconds : (resolution count : ℕ) → ℕ
nanoseconds resolution count =
    if nat_lt resolution 128
    then (if nat_lt 9 resolution then count / 10 ^ (resolution - 9) else count * 10 ^ (9 - resolution))
    else count * second / 2 ^ (resolution - 128)

-- a moment moved by this many seconds, in two's complement of 64 bits; None before 1970
unfoldable pub moved : (offset nanoseconds : ℕ) → Option ℕ
moved offset nanoseconds =
    let earlier = (2 ^ 64 - offset) * second in
    if nat_lt offset (2 ^ 63)
    then Some (nanoseconds + offset * second)
    else (if nat_lt nanoseconds earlier then None else Some (nanoseconds - earlier))

-- the moment of a count of an interface
unfoldable pub moment_of : Interface → (count : ℕ) → Option ℕ
moment_of interface count =
    elim (moved interface.offset (nanoseconds interface.resolution count)) [ None ↦ None | Some moment ↦ placed moment ]
