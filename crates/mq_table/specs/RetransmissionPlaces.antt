-- The places of the sources of a group that have retransmissions to go.
use Rattle.std.specs.Prelude.{◌≡◌, ℕ, ◌≤◌, Bool, false, nat_lt, List, length, take, drop, Some}
use Rattle.std.specs.List.{list_any}
use Rattle.std.specs.FinMap as map
use Rattle.mq_table.specs.declared.sources.Source.{Source}
use Rattle.mq_table.specs.Group.{GroupState, retransmissions_of}
use Rattle.mq_table.specs.Retransmissions.{has_retransmissions}

-- a source of a list has a retransmission to go
abbrev pub item_has_retransmissions : {K : Type 0} → Source K → Bool
item_has_retransmissions x = nat_lt 0 (retransmissions_of (Some x.timer))

-- Two places in a list, the first not after the second. No item before the first passes the test, and none from the
-- second on.
pub record PassesBetween {X : Type 0} (test : X → Bool) (first end : ℕ) (xs : List X) : Type 0 where
  pub ordered : first ≤ end
  pub within : end ≤ length xs
  pub none_before : list_any test (take first xs) ≡ false
  pub none_behind : list_any test (drop end xs) ≡ false

-- two places among the ascending sources of a group; outside of them none has a retransmission to go
abbrev pub SendsBetween : (first end : ℕ) → GroupState → Type 0
SendsBetween first end g = PassesBetween (has_retransmissions g) first end (map.keys g.sources)
