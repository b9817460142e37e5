-- The data of IGMP that cross from C and to C.
use Rattle.std.specs.Prelude.{ℕ, ◌==◌, List, [], ◌∷◌, false, if◌then◌else◌}
use Rattle.std.specs.List.{flat_map}
use Rattle.std.specs.Int.{w32, from_be_bytes, to_be_bytes}
use Rattle.mq_wire.specs.Family.{Igmp}
use Rattle.mq_link.specs.declared.ranges.GroupRange.{GroupRange}
use Rattle.mq_link.specs.Configuration.{Configuration}
use Rattle.mq_link.specs.Receive.{Envelope}
use Rattle.mq_c.specs.declared.forms.IgmpConfig.{IgmpConfig}
use Rattle.mq_c.specs.declared.forms.IgmpGroup.{IgmpGroup}
use Rattle.mq_c.specs.declared.forms.IgmpRange.{IgmpRange}
use Rattle.mq_c.specs.declared.forms.IgmpSource.{IgmpSource}
use Rattle.mq_c.specs.Making.{asked_of}

-- a range, unless its place is unused
abbrev pub range_in : IgmpRange → List GroupRange
range_in r =
    if r.rule == 0 then []
    else record { address = from_be_bytes w32 r.address; length = r.length; allows = r.rule == 1 } ∷ []

-- the requested configuration
abbrev pub asked : IgmpConfig → Configuration
asked c = asked_of Igmp c.settings (from_be_bytes w32 c.own) c.source_specific (flat_map range_in c.ranges)

-- the facts of a datagram beside its bytes
abbrev pub envelope : (source : List ℕ) → Envelope
envelope source = record { source = from_be_bytes w32 source; destination = 0; hop_limit = 0; alert = false }

-- an address
abbrev pub octets_with : (address : ℕ) → List ℕ
octets_with address = to_be_bytes w32 address

-- a held group, and a source of it
abbrev pub group_with : (address sources deadline v1 v2 : ℕ) → IgmpGroup
group_with address sources deadline v1 v2 =
    record { address = to_be_bytes w32 address; sources = sources; deadline = deadline; v1 = v1; v2 = v2 }

abbrev pub source_with : (address deadline : ℕ) → IgmpSource
source_with address deadline = record { address = to_be_bytes w32 address; deadline = deadline }
