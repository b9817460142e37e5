-- The costs of a tick and of a datagram, in comparisons and moved list items.
use Rattle.std.specs.Prelude.{◌≡◌, ℕ, ◌+◌, ◌*◌, ◌<◌, Bool, true, if◌then◌else◌, List, length}
use Rattle.std.specs.FinMap as map
use Rattle.mq_count.specs.Spending.{Spends}
use Rattle.mq_held.specs.Groups.{sources_in}
use Rattle.mq_link.specs.Cost.{cost_of}
use Rattle.mq_link.specs.LeastCost.{least_received, least_ticked}
use Rattle.mq_link.specs.Link.{LinkValue}
use Rattle.mq_link.specs.Moved.{most_moved}
use Rattle.mq_link.specs.Receive.{Envelope}
use Rattle.mq_link.specs.State.{held_of}
use Rattle.mq_link.specs.Tick.{moment_of, next_of}

-- The comparisons of a tick, and the list items that it moves. A call that isn't done has no lower bounds. If nothing is
-- due, a tick makes two or three comparisons and moves nothing.
pub record TickCosts (done : Bool) (now : ℕ) (before after : LinkValue) : Type 0 where
  pub spent : (let groups = before.state.groups in
      Spends 0 (4 * sources_in groups + 44 * map.len groups + 3) before.spent after.spent)
  pub least : (let groups = before.state.groups in
      let least = least_ticked (moment_of before.state now) groups in
      done ≡ true → Spends (2 + least) (4 * sources_in groups + 44 * map.len groups + 3) before.spent after.spent)
  pub bounded : Spends 0 (cost_of 0 (held_of before.state)) before.spent after.spent
  pub moved : (let groups = before.state.groups in
      Spends 0 (6 * sources_in groups + 136 * map.len groups) before.moved after.moved)
  pub quiet : moment_of before.state now < next_of before.state → Spends (if done then 2 else 0) 3 before.spent after.spent
  pub still : moment_of before.state now < next_of before.state → after.moved ≡ before.moved

-- The comparisons of a datagram, and the list items that it moves. A call that isn't done has no lower bound.
pub record ReceiveCosts (done : Bool) (envelope : Envelope) (bytes : List ℕ) (now : ℕ) (before after : LinkValue) : Type 0 where
  pub spent : Spends 0 (cost_of (length bytes) (held_of before.state)) before.spent after.spent
  pub least : (let least = least_received before.config envelope bytes now before.state in
      done ≡ true → Spends (2 + least) (cost_of (length bytes) (held_of before.state)) before.spent after.spent)
  pub moved : Spends 0 (most_moved (length bytes) (held_of before.state)) before.moved after.moved
