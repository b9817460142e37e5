-- The groups that an event names as changed, in the worked examples.
use Rattle.std.specs.Prelude.{◌≡◌, ℕ, Bool}
use Rattle.mq_link.specs.Configuration.{Configuration}
use Rattle.mq_link.specs.Forwarding.{changed_by_event}
use Rattle.mq_link.specs.Run.{Event}
use Rattle.mq_examples.specs.Links.{ListedLink, as_link}

-- the event names the group, or does not
pub record Names (config : Configuration) (event : Event) (l : ListedLink) (group : ℕ) (answer : Bool) : Type 0 where
  pub named : changed_by_event config event (as_link l) group ≡ answer
