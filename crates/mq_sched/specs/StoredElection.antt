-- An election as a router keeps it.
use Rattle.std.specs.Prelude.{◌≡◌, ℕ, IsTrue, Option, None, Some}
use Rattle.mq_table.specs.declared.timing.Timing.{Timing}
use Rattle.mq_sched.specs.Election.{Role, Querier, Other, ElectionState, is_querier}
use Rattle.mq_sched.specs.declared.roles.OtherQuerier.{OtherQuerier}
use Rattle.mq_sched.specs.declared.roles.StoredRole.{StoredRole}
use Rattle.mq_sched.specs.declared.roles.StoredRole.TheVariants.{Querier as StoredQuerier, NonQuerier}

-- an election, as a contract sees it: the router's own address, its configured timing, and the state
pub record RouterElection : Type 0 where
  pub own : ℕ
  pub configured : Timing
  pub state : ElectionState

-- the role with its addresses as numbers
abbrev pub role_in : {K : Type 0} → (K → ℕ) → StoredRole K → Role
role_in number (StoredQuerier due startup_queries) = Querier due startup_queries
role_in number (NonQuerier other) = Other (number other.address) other.deadline

-- this is the other querier of the role; without one, the router is querier itself
abbrev pub IsOtherOf : {K : Type 0} → (K → ℕ) → Role → Option (OtherQuerier K) → Type 0
IsOtherOf number role None = IsTrue (is_querier role)
IsOtherOf number role (Some other) = role ≡ Other (number other.address) other.deadline
