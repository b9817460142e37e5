-- The listing of a capture: a line for each of its packets, as text or as an object of JSON.
use Rattle.std.specs.Prelude.{◌≡◌, ℕ, ◌+◌, Bool, true, false, List, [], ◌∷◌, ◌++◌, length, Option, None, Some, Result, Ok, Err, unwrap_or, codes}
use Rattle.std.specs.Fmt.{decimal}
use Rattle.std.specs.Io.KnownBytes.{Appends, IsAtEnd}
use Rattle.mq_pcap.specs.declared.fault.PcapFault.{PcapFault}
use Rattle.mq_pcap.specs.declared.fault.PcapFault.TheVariants as fault
use Rattle.mq_pcap.specs.declared.form.Form.{Form}
use Rattle.mq_pcap.specs.declared.link_type.LinkType.{LinkType}
use Rattle.mq_pcap.specs.Capture.{Captured, Captures}
use Rattle.mq_pcap.specs.Filling.{InputState, Takes}
use Rattle.mq_pcap.specs.Frame.{Carried, Igmp, Mld, Other, Cut, Fragment, carried_in}
use Rattle.mq_wire.specs.Family.{Family}
use Rattle.mq_wire.specs.Family as family
use Rattle.mq_wire.specs.PseudoHeader.{pseudo_header}
use Rattle.mq_text.specs.Printing.{GrowsByBeginning}
use Rattle.mq_lines.specs.Line.{IsTextOf}
use Rattle.mq_lines.specs.Messages.{either}
use Rattle.mq_lines.specs.Objects.{address_object, protocol_text, truth_object}
use Rattle.mq_lines.specs.Text.{address_text}
use Rattle.mq_walk.specs.declared.capture_fault.CaptureFault.{CaptureFault}
use Rattle.mq_walk.specs.declared.capture_fault.CaptureFault.TheVariants as answer
use Rattle.mq_walk.specs.PlacedPackets.{moment_of}
use Rattle.mq_walk.specs.Walking.{IsOfTheFile}

-- the fields of a packet's headers, up to its message
abbrev pub address_fields : Family → (source destination : ℕ) → List ℕ
address_fields family source destination =
    codes ",\"family\":\"" ++ protocol_text family ++ codes "\",\"source\":" ++ address_object family source
    ++ codes ",\"destination\":" ++ address_object family destination

abbrev pub header_fields : (ttl : ℕ) → (alert : Bool) → List ℕ
header_fields ttl alert =
    codes ",\"ttl\":" ++ decimal ttl ++ codes ",\"alert\":" ++ truth_object alert ++ codes ",\"message\":"

abbrev pub packet_fields : Family → (source destination ttl : ℕ) → (alert : Bool) → List ℕ
packet_fields family source destination ttl alert = address_fields family source destination ++ header_fields ttl alert

-- the headers of a packet in words: its source and its protocol
abbrev pub headers_in : (json : Bool) → Family → (source destination ttl : ℕ) → (alert : Bool) → List ℕ
headers_in true family source destination ttl alert = packet_fields family source destination ttl alert
headers_in false family source destination ttl alert =
    address_text family source ++ codes " " ++ protocol_text family ++ codes " "

-- the text of a packet with a message, to the end of its line
abbrev pub IsMessageSaid : (json : Bool) → Family → (pseudo : List ℕ) → (source destination ttl : ℕ) → (alert : Bool) → (body said : List ℕ) → Type 0
IsMessageSaid json family pseudo source destination ttl alert body said =
    (flag : Bool) × (text : List ℕ) × IsTextOf json family pseudo body flag text
    × (said ≡ headers_in json family source destination ttl alert ++ (text ++ either json (codes "}\n") (codes "\n")))

-- the text of the message of a packet, or of the reason why there is none; it ends the line
abbrev pub IsSaidIn : (json : Bool) → Carried → List ℕ → Type 0
IsSaidIn json (Igmp source destination ttl alert body) said =
    IsMessageSaid json family.Igmp [] source destination ttl alert body said
IsSaidIn json (Mld source destination hop_limit alert body) said =
    IsMessageSaid json family.Mld (pseudo_header source destination (length body)) source destination hop_limit alert body said
IsSaidIn json Other said = said ≡ either json (codes ",\"skipped\":\"other\"}\n") (codes "other\n")
IsSaidIn json Cut said = said ≡ either json (codes ",\"skipped\":\"cut\"}\n") (codes "cut\n")
IsSaidIn json Fragment said = said ≡ either json (codes ",\"skipped\":\"fragment\"}\n") (codes "fragment\n")

-- the number and the moment of a packet: each before a space, or in the first fields of its object
abbrev pub place_in : (json : Bool) → (number moment : ℕ) → List ℕ
place_in json number moment =
    either json (codes "{\"packet\":") [] ++ decimal number ++ either json (codes ",\"time\":") (codes " ") ++ decimal moment
    ++ either json [] (codes " ")

-- the line of a packet
abbrev pub IsPacketLine : (json : Bool) → LinkType → (number moment : ℕ) → (frame line : List ℕ) → Type 0
IsPacketLine json link number moment frame line =
    (said : List ℕ) × IsSaidIn json (carried_in link frame) said × (line ≡ place_in json number moment ++ said)

-- The lines of packets, one after the other. `number` is that of the next packet, and its moment is counted from
-- `first` and `before`.
abbrev pub AreLines : (json : Bool) → LinkType → (first : Option ℕ) (before number : ℕ) → List Captured → List ℕ → Type 0
AreLines json link first before number [] text = text ≡ []
AreLines json link first before number (packet ∷ packets) text =
    let moment = moment_of first before packet.stamp in
    (line : List ℕ) × (rest : List ℕ) × (text ≡ line ++ rest) × IsPacketLine json link number moment packet.bytes line
    × AreLines json link (Some (unwrap_or first packet.stamp)) moment (number + 1) packets rest

-- The listing of a capture: the lines of its packets, numbered from 1. A capture with a fault in its header has none.
abbrev pub IsListing : (json : Bool) → Result Form PcapFault → List Captured → List ℕ → Type 0
IsListing json (Ok form) packets text = AreLines json form.link None 0 1 packets text
IsListing json (Err f) packets text = text ≡ []

-- the end of the input, by the result
abbrev pub IsEndedBy : Result Form PcapFault → (packets : List Captured) → (end : Option PcapFault) → (bytes : List ℕ) → (old new : InputState) → Result ℕ CaptureFault → Type 0
IsEndedBy header packets end bytes old new (Ok count) =
    (end ≡ None) × IsAtEnd new.ahead × (count ≡ length packets) × (new.failed ≡ old.failed)
IsEndedBy header packets end bytes old new (Err (answer.Pcap fault.Read)) = new.failed ≡ true
IsEndedBy header packets end bytes old new (Err (answer.Pcap f)) =
    (end ≡ Some f) × IsOfTheFile header f bytes new × (new.failed ≡ old.failed)
IsEndedBy header packets end bytes old new (Err answer.Write) = Unit {0}
IsEndedBy header packets end bytes old new (Err (answer.Gap number)) = ⊥
IsEndedBy header packets end bytes old new (Err (answer.Waiting number)) = ⊥
IsEndedBy header packets end bytes old new (Err answer.Memory) = bytes ≡ []

-- the written part of the listing: all of it, or a prefix if a write failed
abbrev pub IsWritten : (old new : Option (List ℕ)) → List ℕ → Result ℕ CaptureFault → Type 0
IsWritten old new text (Err answer.Write) = GrowsByBeginning old new text
IsWritten old new text r = Appends old new text

-- A capture was shown. Some bytes were read from the input. As a whole file they are a capture, and its listing was
-- written. They are the whole file, or its prefix up to a fault that later bytes don't change, unless a read or a write
-- failed.
pub record Shows (json : Bool) (old new : InputState) (before after : Option (List ℕ)) (r : Result ℕ CaptureFault) : Type 0 where
  pub bytes : List ℕ
  pub header : Result Form PcapFault
  pub packets : List Captured
  pub end : Option PcapFault
  pub text : List ℕ
  pub takes : Takes old new bytes
  pub capture : Captures bytes header packets end
  pub listing : IsListing json header packets text
  pub ended : IsEndedBy header packets end bytes old new r
  pub written : IsWritten before after text r
