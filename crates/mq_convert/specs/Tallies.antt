-- The number of written packets with unread link types, and their number for each of these link types.
use Rattle.std.specs.Prelude.{◌≡◌, ℕ, ◌+◌, ◌-◌, ◌^◌, min, nat_lt, Bool, not, ◌||◌, ◌==◌, if◌then◌else◌, List, [], ◌∷◌, ◌++◌, length, map}
use Rattle.std.specs.List.{All, list_any}
use Rattle.mq_convert.specs.declared.unread.LinkCount.{LinkCount}
use Rattle.mq_convert.specs.declared.unread.Unread.{Unread}

-- a number, up to the greatest u64
abbrev pub counted : ℕ → ℕ
counted n = min n (2 ^ 64 - 1)

-- the number of times that a link type is among these
abbrev pub times : (link : ℕ) → (links : List ℕ) → ℕ
times link [] = 0
times link (other ∷ links) = (if link == other then 1 else 0) + times link links

-- the link types that have a row, with one more if it has none and fewer than 16 have one
abbrev pub with_link : (seen : List ℕ) → (link : ℕ) → List ℕ
with_link seen link =
    if list_any (λ other. other == link) seen || not (nat_lt (length seen) 16) then seen else seen ++ (link ∷ [])

-- the link types that have a row after these packets, each once, in the order in which they first come
abbrev pub first_links : (seen links : List ℕ) → List ℕ
first_links seen [] = seen
first_links seen (link ∷ links) = first_links (with_link seen link) links

-- the number of packets with these link types, and their number for each of the first 16 link types
pub record Tallies (links : List ℕ) (unread : Unread) : Type 0 where
  pub count : unread.count ≡ counted (length links)
  pub kinds : map (λ row. row.link) unread.links.items ≡ first_links [] links
  pub each : All (λ row. row.count ≡ counted (times row.link links)) unread.links.items

-- a row after a packet of this link type
abbrev pub raised : (link : ℕ) → LinkCount → LinkCount
raised link row = if row.link == link then record row { count = counted (row.count + 1) } else row

-- the row is of this link type
abbrev pub is_of : (link : ℕ) → LinkCount → Bool
is_of link row = row.link == link

-- a packet of this link type gets no row of its own: there is one, or there is no room
abbrev pub is_known : (link : ℕ) → List LinkCount → Bool
is_known link rows = list_any (is_of link) rows || not (nat_lt (length rows) 16)
