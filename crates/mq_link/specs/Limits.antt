-- A change of a group that is judged before it is kept.
use Rattle.std.specs.Prelude.{◌≡◌, ℕ}
use Rattle.std.specs.FinMap as map
use Rattle.mq_held.specs.Groups.{Groups, group_at, sources_of}
use Rattle.mq_link.specs.declared.limits.Change.{Change}

-- the change is of the group of this address: what it knows of the group before is right
pub record IsChangeAt (groups : Groups) (address : ℕ) (change : Change) : Type 0 where
  pub is_held : map.contains_key groups address ≡ change.is_held
  pub sources : sources_of (group_at groups address) ≡ change.sources
  pub schedule : (group_at groups address).schedule ≡ change.before
