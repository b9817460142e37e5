-- The state of a sieve: the packets that went out last, and the counts of the packets so far.
use Rattle.std.specs.Prelude.{◌≡◌, ℕ, ◌+◌, Bool, if◌then◌else◌, List, [], length, take}
use Rattle.mq_convert.specs.declared.choice.Choice.{Choice}
use Rattle.mq_convert.specs.declared.counts.ConvertCounts.{ConvertCounts}
use Rattle.mq_convert.specs.declared.kept.Kept.{Kept}
use Rattle.mq_convert.specs.Blocks.{Captured}
use Rattle.mq_convert.specs.Frames.{Framed, Whole}
use Rattle.mq_convert.specs.Records.{unread_links}
use Rattle.mq_convert.specs.Repeats.{Gone, frame_out, gone_behind, gone_with, is_compared, left_out, repeats}
use Rattle.mq_convert.specs.Tallies.{Tallies, counted}

-- the choice of packets, those that went out last, and the counts
pub record SieveState : Type 0 where
  pub choice : Choice
  pub gone : List Gone
  pub counts : ConvertCounts

-- a packet that the code keeps for comparison
abbrev pub gone_of : Kept → Gone
gone_of kept = record { moment = kept.moment; frame = Whole kept.addresses kept.kind (take kept.length kept.payload) }

-- A frame came at a moment. It is left out if it is compared and repeats a frame that went out. Otherwise it is kept if
-- it is compared.
pub record SiftsFrame (old new : SieveState) (compared : Bool) (moment : ℕ) (frame : Framed) (left : Bool) : Type 0 where
  pub is_left : left ≡ repeats compared old.gone moment frame
  pub same : new.choice ≡ old.choice
  pub gone : new.gone ≡ gone_with compared old.gone moment frame
  pub unread : new.counts.unread ≡ old.counts.unread
  pub repeated : new.counts.repeated ≡ (if left then counted (old.counts.repeated + 1) else old.counts.repeated)

-- a packet came, with its moment and its frame without tags
abbrev pub Sifts : (old new : SieveState) → Captured → (left : Bool) → Type 0
Sifts old new packet left = SiftsFrame old new (is_compared old.choice packet) packet.moment (frame_out packet) left

-- the counts of these packets: those written with an unread link type, and those that come again
pub record Counts (choice : Choice) (packets : List Captured) (counts : ConvertCounts) : Type 0 where
  pub unread : Tallies (unread_links choice [] packets) counts.unread
  pub repeated : counts.repeated ≡ counted (length (left_out choice [] packets))

-- these packets came
pub record HasSieved (choice : Choice) (packets : List Captured) (sieve : SieveState) : Type 0 where
  pub chosen : sieve.choice ≡ choice
  pub gone : sieve.gone ≡ gone_behind choice [] packets
  pub counts : Counts choice packets sieve.counts
