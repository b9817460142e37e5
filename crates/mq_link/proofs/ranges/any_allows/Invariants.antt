use Rattle.std.specs.Prelude.{◌≡◌, drop}
use Rattle.mq_link.specs.Ranges.{any_allows}
use Rattle.mq_link.proofs.ranges.any_allows.Given as goal

-- some range that is left allows if some of all does
abbrev pub invariant-loop-range : goal.invariant-loop-range
invariant-loop-range l = any_allows (drop l.range-index l.ranges) ≡ any_allows l.ranges
