-- The pseudo-header under the checksum of an ICMPv6 message (RFC 2710 section 3.3, RFC 3810 section 5.1.2).
use Rattle.std.specs.Prelude.{ℕ, ◌%◌, ◌^◌, List, [], ◌∷◌, ◌++◌}
use Rattle.std.specs.Int.{w32, w128, to_be_bytes}

-- The source and the destination of the packet, the low 32 bits of the message's length, and the next header.
-- Three zero bytes stand before the next header, 58.
abbrev pub pseudo_header : (source destination len : ℕ) → List ℕ
pseudo_header source destination len =
    to_be_bytes w128 source ++ to_be_bytes w128 destination ++ to_be_bytes w32 (len % 2 ^ 32) ++ 0 ∷ 0 ∷ 0 ∷ 58 ∷ []
