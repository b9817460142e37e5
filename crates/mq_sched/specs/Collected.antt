-- Sources that are collected for the messages of one sending.
use Rattle.std.specs.Prelude.{ℕ, Bool, true, false, ◌&&◌, not, List, map, filter, Some}
use Rattle.mq_table.specs.declared.sources.Source.{Source}
use Rattle.mq_table.specs.Group.{is_ahead, deadline_of}
use Rattle.mq_table.specs.RetransmissionPlaces.{item_has_retransmissions}
use Rattle.mq_table.specs.Stored.{number_in}

-- The source has a retransmission to go, with this S flag. S is set if its timer is above the limit, otherwise clear.
abbrev pub goes_with : {K : Type 0} → (limit : ℕ) → (suppress : Bool) → Source K → Bool
goes_with limit true x = item_has_retransmissions x && is_ahead limit (deadline_of (Some x.timer))
goes_with limit false x = item_has_retransmissions x && not (is_ahead limit (deadline_of (Some x.timer)))

-- the numbers of the sources that go with a flag
abbrev pub going_with : {K : Type 0} → (K → ℕ) → (limit : ℕ) → (suppress : Bool) → List (Source K) → List ℕ
going_with number limit suppress row = map (number_in number) (filter (goes_with limit suppress) row)
