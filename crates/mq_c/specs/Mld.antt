-- The data of MLD that cross from C and to C.
use Rattle.std.specs.Prelude.{ℕ, ◌==◌, Bool, List, [], ◌∷◌, if◌then◌else◌}
use Rattle.std.specs.List.{flat_map}
use Rattle.std.specs.Int.{w128, from_be_bytes, to_be_bytes}
use Rattle.mq_wire.specs.Family.{Mld}
use Rattle.mq_link.specs.declared.ranges.GroupRange.{GroupRange}
use Rattle.mq_link.specs.Configuration.{Configuration}
use Rattle.mq_link.specs.Receive.{Envelope}
use Rattle.mq_c.specs.declared.forms.MldConfig.{MldConfig}
use Rattle.mq_c.specs.declared.forms.MldGroup.{MldGroup}
use Rattle.mq_c.specs.declared.forms.MldRange.{MldRange}
use Rattle.mq_c.specs.declared.forms.MldSource.{MldSource}
use Rattle.mq_c.specs.Making.{asked_of}

-- a range, unless its place is unused
abbrev pub range_in : MldRange → List GroupRange
range_in r =
    if r.rule == 0 then []
    else record { address = from_be_bytes w128 r.address; length = r.length; allows = r.rule == 1 } ∷ []

-- the requested configuration
abbrev pub asked : MldConfig → Configuration
asked c = asked_of Mld c.settings (from_be_bytes w128 c.own) c.source_specific (flat_map range_in c.ranges)

-- the facts of a datagram beside its bytes
abbrev pub envelope : (source destination : List ℕ) → (hop_limit : ℕ) → (alert : Bool) → Envelope
envelope source destination hop_limit alert = record {
  source = from_be_bytes w128 source;
  destination = from_be_bytes w128 destination;
  hop_limit = hop_limit;
  alert = alert;
}

-- an address
abbrev pub octets_with : (address : ℕ) → List ℕ
octets_with address = to_be_bytes w128 address

-- a held group, and a source of it; MLD has no deadline of version 2
abbrev pub group_with : (address sources deadline v1 v2 : ℕ) → MldGroup
group_with address sources deadline v1 v2 =
    record { address = to_be_bytes w128 address; sources = sources; deadline = deadline; v1 = v1 }

abbrev pub source_with : (address deadline : ℕ) → MldSource
source_with address deadline = record { address = to_be_bytes w128 address; deadline = deadline }
