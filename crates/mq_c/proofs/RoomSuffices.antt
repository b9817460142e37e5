-- Room for all queries, which leaves none out.
use Rattle.mq_c.proofs.Common.{◌≡◌, ℕ, ◌+◌, ◌<◌, ◌≤◌, ◌^◌, Bool, true, false, List, [], ◌∷◌, ◌++◌, length, take, drop, sum_by, sym, ap, arith, length-append}
use Rattle.mq_c.proofs.Common.{length-drop, length-take-le, sum_by-cons, big_bytes, Outgoing, Outbox, Puts}
use Rattle.std.proofs.lemmas.Bool.{false≢true}
use Rattle.byteorder.specs.Numbers.{length-bytes_high_first}
use Rattle.mq_c.specs.Queries.{Fits, framed, put}

-- the bytes of a query there
abbrev pub taken_by : (width : ℕ) → Outgoing → ℕ
taken_by width message = width + (2 + length message.bytes)

-- two bytes tell the length of each
abbrev pub AreTold : List Outgoing → Type 0
AreTold [] = Unit {0}
AreTold (message ∷ messages) = (length message.bytes < 2 ^ 16) × AreTold messages

length_framed : (width to : ℕ) (bytes : List ℕ) → length (framed width to bytes) ≡ width + (2 + length bytes)
length_framed width to bytes =
    let address = length-bytes_high_first width to in
    let told = length-bytes_high_first 2 (length bytes) in
    let front = length-append (big_bytes width to) (big_bytes 2 (length bytes)) in
    let behind = length-append (big_bytes width to ++ big_bytes 2 (length bytes)) bytes in
    omega (arith, address, told, front, behind)

-- the memory keeps its length
length_put : (width : ℕ) (message : Outgoing) (box : Outbox) → Fits width message box → length (put width message true box).bytes ≡ length box.bytes
length_put width message box fits =
    let room = fits.room in
    let at = box.written + (width + (2 + length message.bytes)) in
    let text = framed width message.to message.bytes in
    let before = length-take-le box.written box.bytes (omega (arith, room)) in
    let long = length_framed width message.to message.bytes in
    let behind = length-drop at box.bytes in
    let front = length-append (take box.written box.bytes) text in
    let all = length-append (take box.written box.bytes ++ text) (drop at box.bytes) in
    omega (arith, room, before, long, behind, front, all)

first_fits : (width : ℕ) (old : Outbox) (message : Outgoing) (messages : List Outgoing) → AreTold (message ∷ messages)
    → old.written + sum_by (taken_by width) (message ∷ messages) ≤ length old.bytes → Fits width message old
first_fits width old message messages told room =
    let sum = sum_by-cons (taken_by width) message messages in
    record { told = told.0; room = omega (arith, sum, room) }

-- where all fit, none is left out
pub none_left_out : (width : ℕ) (old : Outbox) (messages : List Outgoing) (answers : List Bool) (new : Outbox) → AreTold messages
    → old.written + sum_by (taken_by width) messages ≤ length old.bytes → Puts width old messages answers new → new.unsent ≡ old.unsent
none_left_out width old [] [] new told room puts = ap (λ (box : Outbox). box.unsent) (sym puts)
none_left_out width old [] (answer ∷ answers) new told room puts = absurd puts
none_left_out width old (message ∷ messages) [] new told room puts = absurd puts
none_left_out width old (message ∷ messages) (true ∷ answers) new told room puts =
    let sum = sum_by-cons (taken_by width) message messages in
    let fits = first_fits width old message messages told room in
    none_left_out width (put width message true old) messages answers new told.1 (omega (arith, sum, room, length_put width message old fits)) puts.1
none_left_out width old (message ∷ messages) (false ∷ answers) new told room puts =
    absurd (false≢true (puts.0.1 (first_fits width old message messages told room)))
