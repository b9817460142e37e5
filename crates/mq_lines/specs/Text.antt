-- Words in the texts of messages.
use Rattle.std.specs.Prelude.{ℕ, Bool, true, false, List, [], ◌++◌, codes}
use Rattle.mq_count.specs.declared.versions.OlderVersion.{OlderVersion}
use Rattle.mq_count.specs.declared.versions.OlderVersion.TheVariants.{V1, V2}
use Rattle.mq_text.specs.AddressV4.{v4_text}
use Rattle.mq_text.specs.AddressV6.{v6_text}
use Rattle.mq_wire.specs.declared.query.QueryVersion.{QueryVersion}
use Rattle.mq_wire.specs.declared.query.QueryVersion.TheVariants.{Older, Current}
use Rattle.mq_wire.specs.Family.{Family, Igmp, Mld}

abbrev pub address_text : Family → ℕ → List ℕ
address_text Igmp address = v4_text address
address_text Mld address = v6_text address

-- the family's own version: IGMPv3, MLDv2
abbrev pub current_version : Family → ℕ
current_version Igmp = 3
current_version Mld = 2

abbrev pub older_version : OlderVersion → ℕ
older_version V1 = 1
older_version V2 = 2

-- a query of IGMPv1 has no response, every other query has one
abbrev pub has_response : Family → OlderVersion → Bool
has_response Igmp V1 = false
has_response Igmp V2 = true
has_response Mld version = true

-- 0 or 1
abbrev pub flag_text : Bool → List ℕ
flag_text true = codes "1"
flag_text false = codes "0"

abbrev pub query_version : Family → QueryVersion ℕ → ℕ
query_version family (Older version) = older_version version
query_version family (Current fields) = current_version family

-- the sources of a query, if its version has any
abbrev pub query_sources : QueryVersion ℕ → List ℕ
query_sources (Older version) = []
query_sources (Current fields) = fields.sources

-- a text and a line feed
abbrev pub line_of : List ℕ → List ℕ
line_of text = text ++ codes "\n"
