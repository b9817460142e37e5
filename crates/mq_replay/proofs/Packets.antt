-- The line of a packet, behind what stands in a buffer.
use Rattle.mq_replay.proofs.Common.{◌≡◌, ℕ, Bool, true, false, List, [], ◌++◌, length, Option, None, Some, Result, refl, subst, Carried, WireFault, Family}
use Rattle.mq_replay.proofs.Common.{GrowsByBeginning, Passes, Puts, nothing_passed, held_more, broken_behind, broken_within, then_put, message_in, place_in}
use Rattle.mq_replay.proofs.Common.{PutsPacket}
use Rattle.mq_pcap.specs.Frame.{Igmp, Mld}
use Rattle.mq_wire.{specs.PseudoHeader.pseudo_header, specs.Spelling.fault_of, proofs.Spelled.spelled}
use Rattle.mq_lines.specs.{Line.IsTextOf, Messages.fault_in}
use Rattle.mq_replay.specs.{Listing.IsMessageSaid, Listing.IsSaidIn, Putting.PutsSaid}
use Rattle.mq_wire.specs.Family as family

-- each packet has a text
some_text : (json : Bool) (family : Family) (pseudo bytes : List ℕ) → (flag : Bool) × (text : List ℕ) × IsTextOf json family pseudo bytes flag text
some_text json family pseudo bytes = by_fault (fault_of family pseudo bytes) refl
  where
    by_fault : (fault : Option WireFault) → fault_of family pseudo bytes ≡ fault →
        (flag : Bool) × (text : List ℕ) × IsTextOf json family pseudo bytes flag text
    by_fault None none = let spelled = spelled family pseudo bytes none in (true, message_in json family spelled.0, (spelled.0, spelled.1, refl))
    by_fault (Some fault) is = (false, fault_in json fault, (fault, is, refl))

some_message : (json : Bool) (family : Family) (pseudo : List ℕ) (source destination ttl : ℕ) (alert : Bool) (body : List ℕ) →
    (said : List ℕ) × IsMessageSaid json family pseudo source destination ttl alert body said
some_message json family pseudo source destination ttl alert body =
    let it = some_text json family pseudo body in
    (_, (it.0, it.1, it.2, refl))

pub some_said : (json : Bool) (carried : Carried) → (said : List ℕ) × IsSaidIn json carried said
some_said json (Igmp source destination ttl alert body) = some_message json family.Igmp [] source destination ttl alert body
some_said json (Mld source destination hop_limit alert body) =
    some_message json family.Mld (pseudo_header source destination (length body)) source destination hop_limit alert body
some_said json _ = (_, refl)

-- a text was put after a piece and before the end of its line
pub text_put : {T E : Type 0} (old mid new : Option (List ℕ)) (held more between left piece text end : List ℕ) (r : Result T E) → more ≡ held ++ piece
    → Passes old mid more between text → Puts mid new between left end r → Puts old new held left (piece ++ (text ++ end)) r
text_put old mid new held more between left piece text end r behind passed put =
    then_put old old new held more left piece (text ++ end) r (held_more old old held held more [] piece (nothing_passed old held) behind)
    (then_put old mid new more between left text end r passed put)

pub text_broken : (old new : Option (List ℕ)) (held more piece text end : List ℕ) → more ≡ held ++ piece → GrowsByBeginning old new (more ++ text) →
    GrowsByBeginning old new (held ++ (piece ++ (text ++ end)))
text_broken old new held more piece text end behind begun =
    broken_behind old old new held more piece (text ++ end) (held_more old old held held more [] piece (nothing_passed old held) behind)
    (broken_within old new more text end begun)

-- the text of a packet was put after its number and its moment
pub put_as_packet : {T E : Type 0} (json : Bool) (old mid new : Option (List ℕ)) (held more left : List ℕ) (number moment : ℕ) (found carried : Carried)
    (r : Result T E) → found ≡ carried → Passes old mid held more (place_in json number moment) → PutsSaid json mid new more left found r
    → PutsPacket json old new held left number moment carried r
put_as_packet json old mid new held more left number moment found carried r same placed put =
    record {
      said = put.said;
      is_said = subst (λ (it : Carried). IsSaidIn json it put.said) same put.is_said;
      put = then_put old mid new held more left (place_in json number moment) put.said r placed put.put;
    }
