-- The results of the parts of a listing that go to a writer through a buffer.
use Rattle.std.specs.Prelude.{◌≡◌, ℕ, Bool, ◌||◌, List, ◌++◌, Option, Result, Ok, Err, is_err}
use Rattle.mq_pcap.specs.declared.fault.PcapFault.{PcapFault}
use Rattle.mq_pcap.specs.declared.form.Form.{Form}
use Rattle.mq_pcap.specs.Capture.{Captured, Captures}
use Rattle.mq_pcap.specs.Filling.{InputState, Takes}
use Rattle.mq_pcap.specs.Frame.{Carried, carried_in}
use Rattle.mq_text.specs.Printing.{GrowsByBeginning, OutputState, Passes, Puts}
use Rattle.mq_walk.specs.declared.capture_fault.CaptureFault.{CaptureFault}
use Rattle.mq_walk.specs.declared.capture_fault.CaptureFault.TheVariants as answer
use Rattle.mq_walk.specs.PlacedPackets.{PlacedPacket}
use Rattle.mq_replay.specs.Listing.{IsSaidIn, place_in, IsListing, IsEndedBy}

-- the text of a packet was put
pub record PutsSaid {T E : Type 0} (json : Bool) (old new : Option (List ℕ)) (held left : List ℕ) (carried : Carried) (r : Result T E) : Type 0 where
  pub said : List ℕ
  pub is_said : IsSaidIn json carried said
  pub put : Puts old new held left said r

-- the line of a packet was put
pub record PutsPacket {T E : Type 0} (json : Bool) (old new : Option (List ℕ)) (held left : List ℕ) (number moment : ℕ) (carried : Carried) (r : Result T E) : Type 0 where
  pub said : List ℕ
  pub is_said : IsSaidIn json carried said
  pub put : Puts old new held left (place_in json number moment ++ said) r

-- a listing was put, or a prefix of it was written if a write failed
abbrev pub IsPut : (old new : Option (List ℕ)) → (held left text : List ℕ) → Result ℕ CaptureFault → Type 0
IsPut old new held left text (Err answer.Write) = GrowsByBeginning old new (held ++ text)
IsPut old new held left text r = Passes old new held left text

-- a listing in the code: whether its lines are objects, the text that isn't written yet, and the output
pub record ListingState : Type 0 where
  pub json : Bool
  pub held : List ℕ
  pub output : OutputState

-- the line of a packet was put, unless a write failed
pub record ListsPacket {E : Type 0} (packet : PlacedPacket) (old new : ListingState) (r : Result Unit E) : Type 0 where
  pub same_json : new.json ≡ old.json
  pub puts : PutsPacket old.json old.output.held new.output.held old.held new.held packet.number packet.moment (carried_in packet.link packet.frame) r
  pub failed : new.output.failed ≡ old.output.failed || is_err r

-- the effect of a packet on a listing
abbrev pub TakesListed : PlacedPacket → ListingState → ListingState → Result Unit CaptureFault → Type 0
TakesListed packet old new (Ok u) = ListsPacket {E = Unit} packet old new (Ok u)
TakesListed packet old new (Err answer.Write) = ListsPacket {E = Unit} packet old new (Err tt)
TakesListed packet old new (Err (answer.Pcap f)) = ⊥
TakesListed packet old new (Err (answer.Gap number)) = ⊥
TakesListed packet old new (Err (answer.Waiting number)) = ⊥
TakesListed packet old new (Err answer.Memory) = ⊥

-- the lines of a capture were put
pub record PutsListing (json : Bool) (old new : InputState) (before after : Option (List ℕ)) (held left : List ℕ) (r : Result ℕ CaptureFault) : Type 0 where
  pub bytes : List ℕ
  pub header : Result Form PcapFault
  pub packets : List Captured
  pub end : Option PcapFault
  pub text : List ℕ
  pub takes : Takes old new bytes
  pub capture : Captures bytes header packets end
  pub listing : IsListing json header packets text
  pub ended : IsEndedBy header packets end bytes old new r
  pub put : IsPut before after held left text r
