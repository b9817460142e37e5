use Rattle.mq_c.proofs.Common.{◌≡◌, ◌++◌, ◌≤◌, length, drop, flat_map}
use Rattle.mq_c.proofs.ranges.ranges_of.Given as goal

-- the ranges so far and those that are left are all, and there is a place for each that is left
abbrev pub invariant-loop-range : goal.invariant-loop-range
invariant-loop-range g l =
    (l.ranges ++ flat_map g.F.CFamily.range_in (drop l.range-index l.given) ≡ flat_map g.F.CFamily.range_in l.given) × (length l.ranges ≤ l.range-index)
