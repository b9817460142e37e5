-- Times of a written query, as they are parsed.
use Rattle.std.specs.Prelude.{ℕ, ◌*◌, ◌/◌}
use Rattle.mq_wire.specs.Codes.{value8, value16, code8_of, code16_of}
use Rattle.mq_wire.specs.Family.{Family, Igmp, Mld}

-- a response in milliseconds, lowered to a response that a code has: in IGMP codes are in tenths of a second
abbrev pub response_lowered : Family → ℕ → ℕ
response_lowered Igmp response = value8 (code8_of (response / 100)) * 100
response_lowered Mld response = value16 (code16_of response)

-- an interval in seconds, lowered to an interval that a code has
abbrev pub interval_lowered : ℕ → ℕ
interval_lowered interval = value8 (code8_of interval)
