-- Bytes that are written one part after another at the front of a list.
use Rattle.mq_wire.proofs.Common.{◌≡◌, ℕ, ◌+◌, ◌*◌, ◌/◌, ◌%◌, ◌≤◌, List, ◌∷◌, ◌++◌, length, take, drop, [], ◌-◌, ap, sym, ◌∙◌, arith, append_assoc}
use Rattle.mq_wire.proofs.Common.{length-append, drop-drop, length-take-le, drop_all, take_all, length-drop, append-nil, big_bytes, QuerierFields, fields_bytes}
use Rattle.mq_wire.proofs.Common.{with_checksum, checksum_behind, length-bytes_high_first}
use Rattle.std.{proofs.Math.Seq.take-append_seam, proofs.Math.Seq.drop-append_seam, specs.List.flat_map}
use borrow.Rule.Slice.PartMut.{put_mid}

-- these are written before the place, the rest is unchanged, and the sources of a width are left
pub record IsWritten (width place : ℕ) (sources left first out : List ℕ) : Type 0 where
  pub written : List ℕ
  pub front : flat_map (big_bytes width) sources ≡ written ++ flat_map (big_bytes width) left
  pub all : out ≡ written ++ drop place first
  pub at : length written ≡ place
  pub ahead : place + length left * width ≡ length sources * width

-- a part from a place on that was written on
from_place : (place : ℕ) (out part new : List ℕ) → place ≤ length out → part ≡ new → put_mid place (length out - place) out part ≡ take place out ++ new
from_place place out part new within same =
    let none : drop (length out - place) (drop place out) ≡ [] = drop_all (length out - place) (drop place out) (omega (arith, length-drop place out)) in
    rw (none, same) (ap (λ (xs : List ℕ). take place out ++ xs) (append-nil new))

-- the bytes written at the front of a part, which begins at the place
behind_place : (width place : ℕ) (out part piece : List ℕ) → place ≤ length out → part ≡ piece ++
    drop width (take (length out - place) (drop place out)) → part ≡ piece ++ drop width (drop place out)
behind_place width place out part piece within is_part =
    let whole : take (length out - place) (drop place out) ≡ drop place out = take_all (length out - place) (drop place out)
    (omega (arith, length-drop place out)) in
    rw whole at is_part

-- A part more: behind a text that stands at the front, up to a place, so many bytes are written.
pub next_part : (place n : ℕ) (text piece first out part : List ℕ) → length text ≡ place → place ≤ length out → out ≡ text ++ drop place first →
    part ≡ piece ++ drop n (take (length out - place) (drop place out)) → put_mid place (length out - place) out part ≡ (text ++ piece) ++
    drop (place + n) first
next_part place n text piece first out part is_place within is_out is_part =
    let before : take place out ≡ text = rw (is_out, ← is_place) (take-append_seam text (drop (length text) first)) in
    let behind : drop place out ≡ drop place first = rw (is_out, ← is_place) (drop-append_seam text (drop (length text) first)) in
    let further : drop n (drop place first) ≡ drop (place + n) first = drop-drop n place first in
    let is_new = from_place place out part (piece ++ drop n (drop place out)) within (behind_place n place out part piece within is_part) in
    is_new ∙ rw (before, behind, further) (sym (append_assoc text piece (drop (place + n) first)))

-- one source more
pub one_more : (width place : ℕ) (sources left rest first out part : List ℕ) (source : ℕ) → place ≤ length out →
    IsWritten width place sources left first out → left ≡ source ∷ rest → length (big_bytes width source) ≡ width → part ≡ big_bytes width source ++
    drop width (take (length out - place) (drop place out)) → IsWritten width (place + width) sources rest first (put_mid place (length out - place) out part)
one_more width place sources left rest first out part source within w is_left is_width is_part =
    let piece = big_bytes width source in
    record {
      written = w.written ++ piece;
      front = w.front ∙ ap (λ (xs : List ℕ). w.written ++ flat_map (big_bytes width) xs) is_left ∙
          sym (append_assoc w.written piece (flat_map (big_bytes width) rest));
      all = next_part place width w.written piece first out part w.at within w.all is_part;
      at = omega (arith, length-append w.written piece, is_width, w.at);
      ahead = let ahead = rw is_left at w.ahead in omega (arith, ahead);
    }

-- the bytes of the sources
pub length_sources : (width : ℕ) (sources : List ℕ) → length (flat_map (big_bytes width) sources) ≡ length sources * width
length_sources width [] = omega arith
length_sources width (source ∷ sources) =
    let rest = length_sources width sources in
    let first = length-bytes_high_first width source in
    omega (arith, length-append (big_bytes width source) (flat_map (big_bytes width) sources), rest, first)

-- the bytes of a query after its head
pub length_query : {K : Type 0} (width group : ℕ) (head : List ℕ) (fields : QuerierFields K) →
    length (head ++ big_bytes width group ++ fields_bytes width fields) ≡ length head + width + 4 + length fields.sources * width
length_query width group head fields =
    let address = length-bytes_high_first width group in
    let sources = length_sources width fields.sources in
    let front = length-append head (big_bytes width group) in
    let all = length-append (head ++ big_bytes width group) (fields_bytes width fields) in
    omega (arith, address, sources, front, all)

-- a checksum in its field changes no length
pub length_with_checksum : (pseudo message : List ℕ) → 4 ≤ length message → length (with_checksum pseudo message) ≡ length message
length_with_checksum pseudo message long =
    let front = length-take-le 2 message (omega (arith, long)) in
    let checksum = checksum_behind pseudo message in
    let all = length-append (take 2 message) (checksum / 256 ∷ checksum % 256 ∷ drop 4 message) in
    omega (arith, long, front, all, length-drop 4 message)
