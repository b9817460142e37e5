-- The room of a tick suffices for its queries.
use Rattle.mq_c.proofs.Common.{◌≡◌, ℕ, ◌+◌, ◌*◌, ◌≤◌, List, length, sum_by, sym, ap, subst, arith, ◌∙◌, Configuration, LinkValue, outgoing_of, LinkState}
use Rattle.mq_c.proofs.Common.{IsWellFormed, moment_of, tick_of, Answer, outbox_at}
use Rattle.mq_link.proofs.AllFits.{fits-tick_of}
use Rattle.mq_c.{specs.Calls.TicksInto, specs.Rooms.tick_room, proofs.RoomTaken.room_taken}
use Rattle.mq_c.proofs.{QueryCounts.tick_few, QueryLengths.all_told, RoomSuffices.taken_by, RoomSuffices.AreTold, RoomSuffices.none_left_out}

-- all that its queries take
tick_taken : (width : ℕ) (config : Configuration) (now : ℕ) (state : LinkState) → IsWellFormed config state
    → sum_by (taken_by width) (outgoing_of config (tick_of config now state)) ≤ tick_room width config
tick_taken width config now state formed =
    let step = tick_of config now state in
    room_taken width config step.timing step.queries (1 + 2 * config.limits.scheduled) config.limits.sources
    (tick_few config (moment_of state now) state formed.within)

-- a tick leaves none out where there is so much
pub tick_leaves_none : (width now : ℕ) (before after : LinkValue) (old new : List ℕ) (answer : Answer) → IsWellFormed before.config before.state
    → TicksInto width now before after old new answer → tick_room width before.config ≤ length old → answer.unsent ≡ 0
tick_leaves_none width now before after old new answer formed ticks room =
    let config = before.config in
    let step = tick_of config now before.state in
    let taken = tick_taken width config now before.state formed in
    let handed = ticks.ticks.handed in
    let told = subst AreTold (sym handed) (all_told config step.timing step.queries (fits-tick_of config now before.state)) in
    let fit : sum_by (taken_by width) ticks.messages ≤ length old = rw handed (omega (arith, taken, room)) in
    ap (λ (a : Answer). a.unsent) ticks.answer_is
    ∙ none_left_out width (outbox_at old) ticks.messages ticks.answers ticks.box told (omega (arith, fit)) ticks.puts
