use Rattle.mq_wire.proofs.Common.{◌≡◌, ◌≤◌, ◌+◌, ◌-◌, ◌^◌}
use Rattle.mq_wire.specs.Codes as spec
use Rattle.mq_wire.proofs.codes.code_of.Given as goal

-- no lesser exponent is that of the value
abbrev pub invariant-loop-exponent : goal.invariant-loop-exponent
invariant-loop-exponent l =
    record {
      same : spec.code_of l.bits l.value ≡ spec.composed_for l.bits l.value (8 - l.exponent) l.exponent;
      low : 2 ^ (l.bits + l.exponent + 3) ≤ l.value;
    }
