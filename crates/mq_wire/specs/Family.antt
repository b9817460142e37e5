-- The two families of messages: IGMP in packets of IPv4, and MLD in packets of IPv6.
use Rattle.std.specs.Prelude.{ℕ, ◌+◌}

pub data Family : Type 0 where
  Igmp : Family
  Mld : Family

-- the bytes of an address
abbrev pub address_width : Family → ℕ
address_width Igmp = 4
address_width Mld = 16

-- The place of the group in a query, an older Report, a Leave and a Done.
-- RFC 3376 section 4.1, RFC 2236 sections 2.1 to 2.4; RFC 3810 section 5.1, RFC 2710 section 3.
abbrev pub group_place : Family → ℕ
group_place Igmp = 4
group_place Mld = 8

-- the end of the group
abbrev pub group_end : Family → ℕ
group_end family = group_place family + address_width family
