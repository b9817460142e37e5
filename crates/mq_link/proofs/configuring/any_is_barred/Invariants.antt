use Rattle.std.specs.Prelude.{◌≡◌, false, take}
use Rattle.std.specs.List.{list_any}
use Rattle.std.specs.FinMap as map
use Rattle.mq_link.specs.Configuring.{is_barred}
use Rattle.mq_link.proofs.configuring.any_is_barred.Given as goal

-- no group so far is barred
abbrev pub invariant-loop-place : goal.invariant-loop-place
invariant-loop-place g l = list_any (is_barred l.config) (take l.place (map.entries l.held.groups)) ≡ false
