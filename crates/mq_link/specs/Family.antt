-- The facts about IGMP and MLD in the definitions of a link. An address is its number, the most significant octet
-- first, so its octets are quotients.
use Rattle.std.specs.Prelude.{ℕ, ◌+◌, ◌*◌, ◌/◌, ◌%◌, ◌^◌, ◌==◌, not, ◌&&◌, nat_lt, nat_le, Bool, true, false}
use Rattle.mq_wire.specs.Family.{Family, Igmp, Mld}

-- the highest octet of an address, and for IPv6 the high and the low half of the next
abbrev pub first_octet : Family → ℕ → ℕ
first_octet Igmp address = address / 2 ^ 24
first_octet Mld address = address / 2 ^ 120

abbrev pub flags_of : ℕ → ℕ
flags_of address = address / 2 ^ 116 % 16

abbrev pub scope_of : ℕ → ℕ
scope_of address = address / 2 ^ 112 % 16

-- The destination of general queries: all systems, 224.0.0.1, or all nodes, ff02::1. RFC 3376 section 4.1.12, RFC 3810
-- section 5.1.15.
abbrev pub general_destination : Family → ℕ
general_destination Igmp = 224 * 2 ^ 24 + 1
general_destination Mld = 0xff02 * 2 ^ 112 + 1

-- The group is admitted. IGMP admits 224.0.0.0/4 except 224.0.0.1, for which no host reports (RFC 3376 section 5). MLD
-- admits ff00::/8 except ff02::1 and the scopes 0 and 1, for which none does (RFC 3810 section 6).
abbrev pub is_admitted : Family → ℕ → Bool
is_admitted Igmp group =
    nat_le 224 (first_octet Igmp group) && nat_lt (first_octet Igmp group) 240 && not (group == general_destination Igmp)
is_admitted Mld group =
    first_octet Mld group == 255 && nat_le 2 (scope_of group) && not (group == general_destination Mld)

-- fe80::/10, the link-local addresses of IPv6
abbrev pub is_link_local : ℕ → Bool
is_link_local address = address / 2 ^ 118 == 0x3fa

-- A router may have this address. In IPv4 it is neither 0.0.0.0 nor one of 224.0.0.0 and above. In IPv6 it is
-- link-local (RFC 3810 section 5.1.14).
abbrev pub is_router_address : Family → ℕ → Bool
is_router_address Igmp address = nat_lt 0 address && nat_lt (first_octet Igmp address) 224
is_router_address Mld address = is_link_local address

-- The group is in the range that may be kept for source-specific multicast. It is 232.0.0.0/8, or ff3x::/32 for each
-- scope x (RFC 4604 section 2).
abbrev pub in_source_specific_range : Family → ℕ → Bool
in_source_specific_range Igmp group = first_octet Igmp group == 232
in_source_specific_range Mld group =
    first_octet Mld group == 255 && flags_of group == 3 && group / 2 ^ 96 % 2 ^ 16 == 0

-- hosts of version 1 mute Leave (RFC 3376 section 7.3.2; RFC 3810 section 8.3.2 doesn't have this rule)
abbrev pub v1_mutes_leave : Family → Bool
v1_mutes_leave Igmp = true
v1_mutes_leave Mld = false

-- The unit of the maximum response code in milliseconds, and the greatest value that it can carry. RFC 3376 section
-- 4.1.1, RFC 3810 section 5.1.3.
abbrev pub response_unit : Family → ℕ
response_unit Igmp = 100
response_unit Mld = 1

abbrev pub greatest_response : Family → ℕ
greatest_response Igmp = 3174400
greatest_response Mld = 8387584

-- the sources that a query holds in a packet of 1500 octets (RFC 3376 section 4.1.8, RFC 3810 section 5.1.10)
abbrev pub per_query : Family → ℕ
per_query Igmp = 366
per_query Mld = 89
