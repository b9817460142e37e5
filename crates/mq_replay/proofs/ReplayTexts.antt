-- The texts of a replay, in parts.
use Rattle.mq_replay.proofs.Common.{◌≡◌, ℕ, ◌+◌, ◌<◌, List, [], ◌∷◌, ◌++◌, take, drop, get_or, length, refl, sym, ap, ◌∙◌, list_map, flat_map, flat_map-append}
use Rattle.mq_replay.proofs.Common.{encode_lower, Family, IsAscending, IsAscending-map, Source, SourceTimer, number_in, timers_in, key_of, timer_text}
use Rattle.std.proofs.{lemmas.List.drop_more, Math.Seq.take-add}
use Rattle.hex.specs.Hex.{encode_with}
use Rattle.mq_held.proofs.{HeldMoments.entries-from_entries, Sorted.sorted-ascending}
use Rattle.std.specs.FinMap as map

-- the text of one byte
abbrev pub byte_text : ℕ → List ℕ
byte_text byte = encode_lower (byte ∷ [])

-- bytes in hexadecimal, one after the other
pub encode_lower-each : (bytes : List ℕ) → encode_lower bytes ≡ flat_map byte_text bytes
unfolding encode_with
encode_lower-each [] = refl
encode_lower-each (byte ∷ bytes) = ap (λ (rest : List ℕ). byte_text byte ++ rest) (encode_lower-each bytes)

-- and so are some more of them
pub encode_lower-next : (bytes : List ℕ) (done count : ℕ) → flat_map byte_text (take (done + count) bytes) ≡ flat_map byte_text (take done bytes) ++
    encode_lower (take count (drop done bytes))
encode_lower-next bytes done count =
    let first : List ℕ = take done bytes in
    let next : List ℕ = take count (drop done bytes) in
    ap (flat_map byte_text) (take-add done count bytes) ∙ flat_map-append byte_text first next
    ∙ ap (λ (t : List ℕ). flat_map byte_text first ++ t) (sym (encode_lower-each next))

-- the rest of a list is its next item and those after it
pub one_left : {A : Type 0} (items : List A) (i : ℕ) (item default : A) → i < length items → item ≡ get_or items i default
    → drop i items ≡ item ∷ drop (i + 1) items
one_left items i item default within is = drop_more items i default within ∙ ap (λ (x : _). x ∷ drop (i + 1) items) (sym is)

-- the sources of a stored group are in the order of their addresses
module _ {K : Type 0} (number : K → ℕ) where
  abbrev pair : Source K → ℕ × SourceTimer
  pair x = (number x.address, x.timer)

  pub timers-entries : (row : List (Source K)) → IsAscending (number_in number) row → map.entries (timers_in number row) ≡ list_map pair row
  timers-entries row up = entries-from_entries (list_map pair row) (sorted-ascending (list_map pair row) (IsAscending-map key_of pair row up))

module _ {K : Type 0} (number : K → ℕ) (family : Family) where
  pub timers-row : (row : List (Source K)) → IsAscending (number_in number) row
      → flat_map (λ (e : ℕ × SourceTimer). timer_text family e.0 e.1) (map.entries (timers_in number row))
      ≡ flat_map (λ (x : Source K). timer_text family (number x.address) x.timer) row
  timers-row row up =
      ap (λ (es : List (ℕ × SourceTimer)). flat_map (λ (e : ℕ × SourceTimer). timer_text family e.0 e.1) es) (timers-entries number row up) ∙ each row
    where
      each : (row : List (Source K)) → flat_map (λ (e : ℕ × SourceTimer). timer_text family e.0 e.1)
          (list_map (λ (x : Source K). let e : ℕ × SourceTimer = (number x.address, x.timer) in e) row)
          ≡ flat_map (λ (x : Source K). timer_text family (number x.address) x.timer) row
      each [] = refl
      each (x ∷ row) = ap (λ (rest : List ℕ). timer_text family (number x.address) x.timer ++ rest) (each row)
