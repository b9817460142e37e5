-- The room of a datagram suffices for its queries.
use Rattle.mq_c.proofs.Common.{◌≡◌, ℕ, ◌+◌, ◌*◌, ◌≤◌, List, length, sum_by, refl, sym, ap, subst, arith, ◌∙◌, Configuration, IsFaultless, LinkValue, Envelope}
use Rattle.mq_c.proofs.Common.{receipt_of, outgoing_of, LinkState, IsWellFormed, Answer, Outbox, outbox_at, asking_records, most_asked}
use Rattle.mq_link.specs.declared.answers.Received.{Received, TheVariants.Taken, TheVariants.Dropped}
use Rattle.mq_link.proofs.AllFits.{fits-receipt_of}
use Rattle.mq_c.{specs.Calls.ReceivesInto, specs.Calls.answer_to, specs.Rooms.receive_room, proofs.RoomTaken.room_taken}
use Rattle.mq_c.proofs.{QueryLengths.all_told, ReceiptQueries.receipt_few, RoomSuffices.taken_by, RoomSuffices.AreTold, RoomSuffices.none_left_out}

-- all that its queries take
receive_taken : (width longest : ℕ) (config : Configuration) (envelope : Envelope) (bytes : List ℕ) (now : ℕ) (state : LinkState) →
    IsFaultless config → IsWellFormed config state → length bytes ≤ longest
    → sum_by (taken_by width) (outgoing_of config (receipt_of config envelope bytes now state).step) ≤ receive_room width longest config
receive_taken width longest config envelope bytes now state faultless formed short =
    let step = (receipt_of config envelope bytes now state).step in
    room_taken width config step.timing step.queries (1 + 2 * config.limits.scheduled + 3 * asking_records longest config) (most_asked longest config)
    (receipt_few longest config envelope bytes now state faultless formed short)

unsent_of : (received : Received) (box : Outbox) → (answer_to received box).unsent ≡ box.unsent
unsent_of (Taken applied ignored refused) box = refl
unsent_of (Dropped reason) box = refl

-- a datagram leaves none out where there is so much
pub receive_leaves_none : (width longest : ℕ) (envelope : Envelope) (bytes : List ℕ) (now : ℕ) (before after : LinkValue) (old new : List ℕ)
    (answer : Answer) → IsFaultless before.config → IsWellFormed before.config before.state
    → ReceivesInto width envelope bytes now before after old new answer → receive_room width longest before.config ≤ length old →
    length bytes ≤ longest → answer.unsent ≡ 0
receive_leaves_none width longest envelope bytes now before after old new answer faultless formed did room short =
    let config = before.config in
    let step = (receipt_of config envelope bytes now before.state).step in
    let taken = receive_taken width longest config envelope bytes now before.state faultless formed short in
    let handed = did.receives.hands_out.handed in
    let told = subst AreTold (sym handed) (all_told config step.timing step.queries (fits-receipt_of config envelope bytes now before.state)) in
    let fit : sum_by (taken_by width) did.messages ≤ length old = rw handed (omega (arith, taken, room)) in
    ap (λ (a : Answer). a.unsent) did.answer_is
    ∙ unsent_of did.received did.box
    ∙ none_left_out width (outbox_at old) did.messages did.answers did.box told (omega (arith, fit)) did.puts
