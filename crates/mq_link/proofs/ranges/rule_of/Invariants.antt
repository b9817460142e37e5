use Rattle.std.specs.Prelude.{◌≡◌, drop}
use Rattle.mq_link.specs.Ranges.{rule_of}
use Rattle.mq_link.proofs.ranges.rule_of.Given as goal

-- the rule is that of the ranges that are left
abbrev pub invariant-loop-range : goal.invariant-loop-range
invariant-loop-range l = rule_of l.bits (drop l.range-index l.ranges) l.group ≡ rule_of l.bits l.ranges l.group
