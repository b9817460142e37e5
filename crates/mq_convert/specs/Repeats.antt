-- Repeated packets. If each packet is to go out once, a packet that soon repeats another is left out.
use Rattle.std.specs.Prelude.{ℕ, ◌+◌, ◌-◌, nat_lt, Bool, false, not, ◌&&◌, ◌==◌, if◌then◌else◌, List, [], ◌∷◌, ◌++◌, length, drop}
use Rattle.std.specs.Int.{abs_diff}
use Rattle.std.specs.List.{list_any}
use Rattle.std.specs.Str.{bytes_eq}
use Rattle.mq_convert.specs.declared.choice.Choice.{Choice}
use Rattle.mq_convert.specs.Blocks.{Captured}
use Rattle.mq_convert.specs.Choices.{is_chosen_packet}
use Rattle.mq_convert.specs.Frames.{Framed, Whole, Cut, frame_of, untagged}

-- a packet that went out: its moment, and its frame without tags
pub record Gone : Type 0 where
  pub moment : ℕ
  pub frame : Framed

-- the longest time between a packet that went out and its repetition, in nanoseconds: 5 ms
abbrev pub soon : ℕ
soon = 5000000

-- the number of packets, the latest that went out, with which a packet is compared
abbrev pub most_gone : ℕ
most_gone = 256

-- the most bytes of a frame that is compared
abbrev pub most_compared : ℕ
most_compared = 2048

-- The frames have the same bytes. The rest of a cooked header, such as the interface and the direction, is in no frame.
abbrev pub is_same_frame : Framed → Framed → Bool
is_same_frame (Whole addresses kind payload) (Whole addresses' kind' payload') =
    bytes_eq addresses addresses' && (kind == kind' && bytes_eq payload payload')
is_same_frame frame frame' = false

-- a frame at a moment repeats this packet, which went out
abbrev pub is_again : (moment : ℕ) → Framed → Gone → Bool
is_again moment frame gone = not (nat_lt soon (abs_diff moment gone.moment)) && is_same_frame frame gone.frame

-- a frame is compared: it has a type, and at most `most_compared` bytes
abbrev pub is_short : Framed → Bool
is_short (Whole addresses kind payload) = not (nat_lt most_compared (14 + length payload))
is_short (Cut bytes) = false

-- the frame that goes out of a packet
abbrev pub frame_out : Captured → Framed
frame_out packet = untagged (frame_of packet.link packet.bytes)

-- a packet is compared: each goes out once, it is chosen, and all its bytes were captured
unfoldable pub is_compared : Choice → Captured → Bool
is_compared choice packet =
    choice.once && (is_chosen_packet choice packet && (packet.original == length packet.bytes && is_short (frame_out packet)))

-- a frame at a moment is compared, and repeats one of these packets, which went out before
abbrev pub repeats : (compared : Bool) → List Gone → (moment : ℕ) → Framed → Bool
repeats compared gone moment frame = compared && list_any (is_again moment frame) gone

-- the latest of the packets that went out
abbrev pub latest : List Gone → List Gone
latest gone = drop (length gone - most_gone) gone

-- the packets that went out, with this frame if it is compared and repeats none of them
abbrev pub gone_with : (compared : Bool) → List Gone → (moment : ℕ) → Framed → List Gone
gone_with compared gone moment frame =
    if compared && not (list_any (is_again moment frame) gone)
    then latest (gone ++ (record { moment = moment; frame = frame } ∷ []))
    else gone

-- a packet repeats one of these packets, which went out before
abbrev pub comes_again : Choice → List Gone → Captured → Bool
comes_again choice gone packet = repeats (is_compared choice packet) gone packet.moment (frame_out packet)

abbrev pub gone_after : Choice → List Gone → Captured → List Gone
gone_after choice gone packet = gone_with (is_compared choice packet) gone packet.moment (frame_out packet)

-- the packets that went out, after several packets came
abbrev pub gone_behind : Choice → List Gone → List Captured → List Gone
gone_behind choice gone [] = gone
gone_behind choice gone (packet ∷ packets) = gone_behind choice (gone_after choice gone packet) packets

-- the packets without those that come again
abbrev pub going_out : Choice → List Gone → List Captured → List Captured
going_out choice gone [] = []
going_out choice gone (packet ∷ packets) =
    (if comes_again choice gone packet then [] else packet ∷ []) ++ going_out choice (gone_after choice gone packet) packets

-- the packets that come again
abbrev pub left_out : Choice → List Gone → List Captured → List Captured
left_out choice gone [] = []
left_out choice gone (packet ∷ packets) =
    (if comes_again choice gone packet then packet ∷ [] else []) ++ left_out choice (gone_after choice gone packet) packets
