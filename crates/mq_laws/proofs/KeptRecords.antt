-- A record of Ethernet without tags, in nanoseconds, and its conversion, which has the same bytes.
use Rattle.mq_laws.proofs.Common.{◌≡◌, ◌≤◌, ◌<◌, ◌+◌, ◌-◌, ◌*◌, ◌^◌, min, ℕ, Bool, true, false, List, [], ◌∷◌, ◌++◌, length, take, drop, Some, Ok, refl, arith}
use Rattle.mq_laws.proofs.Common.{◌∙◌, ap, subst, length-append, length-drop, nat_lt, slice_range, le-ltb, lt-ltb, ltb-false, ltb-true, take_all, take_at}
use Rattle.mq_laws.proofs.Common.{All-drop, div-mul-add, mod-mul-add, drop-append_seam, little_bytes, little_from-lt, Big, Little, field, most_bytes}
use Rattle.mq_laws.proofs.Common.{field-append, Captured, block_in, seen_in, ContextState, original_of, IsWhole, most_seen, everything, is_untagged, not}
use Rattle.mq_laws.proofs.Common.{Nanoseconds, second, record_of}
use Rattle.mq_convert.specs.{declared.context.Kind.TheVariants.Classic, Moments.classic_moment, Moments.placed, Records.record_header, Sizes.record_size}
use Rattle.mq_convert.{specs.Blocks.record_in, specs.Frames.untagged, proofs.Seen.all_seen}
use Rattle.mq_convert.specs.Frames.{Framed, Whole, before_type, behind_tags, carried_of, frame_bytes, frame_length, frame_of, frame_size, is_tag, of_ethernet}
use Rattle.mq_laws.proofs.KeptBytes.{AreBytes, each_byte, four_at, four_numbers, three_parts, two_at}

-- a block that is seen whole comes to what its bytes come to
pub whole_seen : (context : ContextState) (block : List ℕ) → length block ≤ most_seen → block_in context block ≡ seen_in context (length block) block
whole_seen context block short = ap (seen_in context (length block)) (all_seen block short)

-- no tag
pub no_tag : (addresses : List ℕ) (kind : ℕ) (payload : List ℕ) → is_tag kind ≡ false → behind_tags addresses kind payload ≡ Whole addresses kind payload
no_tag addresses kind (a ∷ (b ∷ (c ∷ (d ∷ rest)))) tag = rw tag refl
no_tag addresses kind _ tag = rw tag refl

-- the context after the header of such a file
abbrev pub behind_header : ContextState
behind_header = record {
  kind = Classic Little Nanoseconds;
  interfaces = record { link = 1; limit = 0; resolution = 0; offset = 0; name = 0; dropped = 0 } ∷ [];
  earlier = 0;
  dropped = 0;
}

-- the packet of a record with this header
abbrev pub packet_of : (header bytes : List ℕ) → Captured
packet_of header bytes = record {
  interface = 0;
  name = 0;
  link = 1;
  moment = field Little 0 4 header * second + field Little 4 4 header;
  original = field Little 12 4 header;
  bytes = bytes;
}

-- a record is a whole block
pub whole_record : (header bytes : List ℕ) → length header ≡ 16 → length bytes ≡ field Little 8 4 header → length bytes ≤ most_bytes →
    IsWhole (Classic Little Nanoseconds) (header ++ bytes)
unfolding record_size
whole_record header bytes size captured within =
    let long = length-append header bytes in
    let front : take 16 (header ++ bytes) ≡ header = take_at header bytes 16 size in
    let fits = le-ltb most_seen (16 + length bytes) (omega (arith, within)) in
    let all : 16 + length bytes ≡ length (header ++ bytes) = omega (arith, long, size) in
    record { head = omega (arith, long, size); size = rw (front, ← captured, fits, all) refl }

moment_kept : (seconds part : ℕ) → seconds < 2 ^ 32 → part < second → classic_moment Nanoseconds seconds part ≡ Some (seconds * second + part)
unfolding classic_moment placed
moment_kept seconds part few below =
    let same : seconds * second + part * 1 ≡ seconds * second + part = omega arith in
    let within = lt-ltb (seconds * second + part) (2 ^ 32 * second) (omega (arith, few, below)) in
    rw (same, within) refl

number_below : (place : ℕ) (xs : List ℕ) → AreBytes xs → field Little place 4 xs < 2 ^ 32
number_below place xs all = little_from-lt 0 4 (drop place xs) (each_byte (drop place xs) (All-drop (λ (byte : ℕ). byte < 256) place xs all))

-- the packet of a record
pub record_read : (header bytes : List ℕ) → length header ≡ 16 → length bytes ≤ most_bytes → AreBytes header → field Little 4 4 header < second →
    block_in behind_header (header ++ bytes) ≡ Ok (behind_header, Some (packet_of header bytes))
unfolding record_in
record_read header bytes size within all below =
    let a = field-append Little 0 4 header bytes (omega (arith, size)) in
    let b = field-append Little 4 4 header bytes (omega (arith, size)) in
    let c = field-append Little 12 4 header bytes (omega (arith, size)) in
    let moment = moment_kept (field Little 0 4 header) (field Little 4 4 header) (number_below 0 header all) below in
    let behind : drop 16 (header ++ bytes) ≡ bytes = subst (λ n. drop n (header ++ bytes) ≡ bytes) size (drop-append_seam header bytes) in
    let captured : slice_range (header ++ bytes) 16 (length (header ++ bytes)) ≡ bytes =
    rw behind (take_all (length (header ++ bytes) - 16) bytes (omega (arith, size, length-append header bytes))) in
    let is : seen_in behind_header (length (header ++ bytes)) (header ++ bytes) ≡ Ok (behind_header, Some (packet_of header bytes)) =
    rw (record_in, a, b, moment) (rw (c, captured) refl) in
    whole_seen behind_header (header ++ bytes) (omega (arith, size, within, length-append header bytes)) ∙ is

-- its frame
record IsKept (bytes : List ℕ) (frame : Framed) : Type 0 where
  is : frame_bytes frame ≡ bytes
  size : frame_size frame ≡ length bytes
  whole : frame_length frame ≡ length bytes

no_test : (b : Bool) → not b ≡ true → b ≡ false
no_test true is = absurd (cc)
no_test false is = refl

frame_kept : (bytes : List ℕ) → AreBytes bytes → length bytes ≤ most_bytes → is_untagged bytes ≡ true → (short : Bool) →
    nat_lt (length bytes) 14 ≡ short → IsKept bytes (untagged (frame_of 1 bytes))
unfolding frame_of of_ethernet
frame_kept bytes all within plainly true short =
    let few = ltb-true (length bytes) 14 short in
    let it : before_type bytes ≡ bytes = take_all (min (length bytes) 13) bytes (omega (arith, few)) in
    rw short (record { is = it; size = ap length it; whole = refl })
frame_kept bytes all within plainly false long =
    let many = ltb-false (length bytes) 14 long in
    let kind = field Big 12 2 bytes in
    let payload = drop 14 bytes in
    let some = length-drop 14 bytes in
    let plain_kind : is_tag kind ≡ false = no_test (is_tag kind) (rw long at plainly) in
    let it : carried_of payload ≡ payload = take_all (min (length payload) (most_bytes - 14)) payload (omega (arith, some, within)) in
    rw (long, no_tag (slice_range bytes 0 12) kind payload plain_kind) (record {
      is = rw (it, two_at 12 bytes (omega (arith, many)) all) (three_parts bytes many);
      size = rw it (omega (arith, some, many));
      whole = omega (arith, some, many);
    })

joined : (a b c d a' b' c' d' : List ℕ) → a ≡ a' → b ≡ b' → c ≡ c' → d ≡ d' → a ++ b ++ c ++ d ≡ a' ++ b' ++ c' ++ d'
joined a b c d a' b' c' d' p q r s = rw (p, q, r, s) refl

header_kept : (header : List ℕ) (n : ℕ) → length header ≡ 16 → AreBytes header → n ≡ field Little 8 4 header → field Little 4 4 header < second
    → record_header (field Little 0 4 header * second + field Little 4 4 header) n (field Little 12 4 header) ≡ header
unfolding record_header
header_kept header n size all is below =
    let whole = div-mul-add (field Little 0 4 header) second (field Little 4 4 header) below in
    let rest = mod-mul-add (field Little 0 4 header) second (field Little 4 4 header) below in
    let a = four_at 0 header (omega (arith, size)) all in
    let b = four_at 4 header (omega (arith, size)) all in
    let c = four_at 8 header (omega (arith, size)) all in
    let d = four_at 12 header (omega (arith, size)) all in
    joined _ _ _ _ _ _ _ _ (ap (little_bytes 4) whole ∙ a) (ap (little_bytes 4) rest ∙ b) (ap (little_bytes 4) is ∙ c) d ∙ four_numbers header size

pub record_kept : (header bytes : List ℕ) → length header ≡ 16 → AreBytes header → AreBytes bytes → length bytes ≡ field Little 8 4 header →
    length bytes ≤ most_bytes
    → field Little 4 4 header < second → is_untagged bytes ≡ true → record_of everything (packet_of header bytes) ≡ header ++ bytes
unfolding record_of
record_kept header bytes size all each captured within below plainly =
    let f = frame_kept bytes each within plainly (nat_lt (length bytes) 14) refl in
    let few = number_below 12 header all in
    let same : original_of (field Little 12 4 header) (length bytes) (length bytes) ≡ field Little 12 4 header = omega (arith, few) in
    rw (f.size, f.whole, same, f.is) (ap (λ xs. xs ++ bytes) (header_kept header (length bytes) size all captured below))
