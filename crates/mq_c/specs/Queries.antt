-- The queries of a call, in memory of the caller.
use Rattle.std.specs.Prelude.{◌≡◌, ℕ, ◌+◌, ◌-◌, ◌^◌, ◌<◌, ◌≤◌, ◌↔◌, IsTrue, min, Bool, true, false, List, [], ◌∷◌, ◌++◌, length, take, drop}
use Rattle.byteorder.specs.Endian.{big_bytes}
use Rattle.mq_link.specs.Sent.{Outgoing}
use Rattle.mq_c.specs.declared.queries.Queries.{Queries}

-- a query in the memory: the destination, the length of the message in two bytes, the message
abbrev pub framed : (width to : ℕ) → List ℕ → List ℕ
framed width to bytes = big_bytes width to ++ big_bytes 2 (length bytes) ++ bytes

-- The memory and its counts: bytes written, queries sent, and queries that didn't fit.
pub record Outbox : Type 0 where
  pub bytes : List ℕ
  pub written : ℕ
  pub sent : ℕ
  pub unsent : ℕ

abbrev pub outbox_at : List ℕ → Outbox
outbox_at bytes = record { bytes = bytes; written = 0; sent = 0; unsent = 0 }

abbrev pub outbox_of : Queries → Outbox
outbox_of q = record { bytes = q.out.now; written = q.written; sent = q.sent; unsent = q.unsent }

-- the number plus one; it stays at the greatest number
abbrev pub one_more : ℕ → ℕ
one_more n = n + min 1 (2 ^ 32 - 1 - n)

-- there is room for a query after the written bytes
pub record Fits (width : ℕ) (message : Outgoing) (box : Outbox) : Type 0 where
  pub told : length message.bytes < 2 ^ 16
  pub room : box.written + (width + (2 + length message.bytes)) ≤ length box.bytes

-- The outbox after a query. A query that is answered by true is written after the written bytes, and all other bytes
-- stay. Otherwise no byte differs.
abbrev pub put : (width : ℕ) → Outgoing → Bool → Outbox → Outbox
put width message true box = record {
  bytes = take box.written box.bytes ++ framed width message.to message.bytes
      ++ drop (box.written + (width + (2 + length message.bytes))) box.bytes;
  written = box.written + (width + (2 + length message.bytes));
  sent = one_more box.sent;
  unsent = box.unsent;
}
put width message false box = record box { unsent = one_more box.unsent }

-- These queries were written in order, each if it fits.
abbrev pub Puts : (width : ℕ) → Outbox → List Outgoing → List Bool → Outbox → Type 0
Puts width old [] [] new = old ≡ new
Puts width old [] (answer ∷ answers) new = ⊥
Puts width old (message ∷ messages) [] new = ⊥
Puts width old (message ∷ messages) (answer ∷ answers) new =
    (IsTrue answer ↔ Fits width message old) × Puts width (put width message answer old) messages answers new

-- The effect of one query on the outlet.
pub record TakesFramed (width : ℕ) (old : Queries) (message : Outgoing) (answer : Bool) (new : Queries) : Type 0 where
  pub same_out : new.out.ghost_name ≡ old.out.ghost_name
  pub fits : IsTrue answer ↔ Fits width message (outbox_of old)
  pub puts : outbox_of new ≡ put width message answer (outbox_of old)
