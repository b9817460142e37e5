use Rattle.mq_wire.proofs.Common.{◌≡◌, ◌+◌, ◌*◌, ◌/◌, ◌^◌, sym, ◌∙◌, arith}
use Rattle.mq_wire.proofs.FoundCodes.{own, begins, stops, goes_on, ends, shifted, shifted_base, mantissa_bounds, fits_sum}
use Rattle.mq_wire.proofs.codes.code_of.Goals as goal

pub returns-then-value-bits : goal.returns-then-value-bits
returns-then-value-bits c =
    let less = rw (shifted (c.args.bits + 3) (omega (arith, c.requires))) at c.if-value-bits.true in
    sym (own c.args.bits c.args.value less)

pub loop-exponent-init : goal.loop-exponent-init
loop-exponent-init c =
    let more = rw (shifted (c.args.bits + 3) (omega (arith, c.requires))) at c.if-value-bits.false in
    let place : c.args.bits + 0 + 3 ≡ c.args.bits + 3 = omega arith in
    record { same = begins c.args.bits c.args.value more; low = rw place more }

pub overflow_sub-result : goal.overflow_sub-result
overflow_sub-result c =
    let exponent = c.loop-exponent.exponent in
    let below = rw (shifted (c.args.bits + exponent + 4) (omega (arith, c.requires, c.loop-exponent-test.true))) at c.if-value-bits-2.true in
    let bounds = mantissa_bounds c.args.bits exponent c.args.value c.loop-exponent.invariant.low below in
    rw (shifted_base 1 c.args.bits (omega arith) c.requires) (omega (arith, bounds.0))

pub returns-then-value-bits-2 : goal.returns-then-value-bits-2
returns-then-value-bits-2 c =
    let exponent = c.loop-exponent.exponent in
    let less = c.loop-exponent-test.true in
    let below = rw (shifted (c.args.bits + exponent + 4) (omega (arith, c.requires, less))) at c.if-value-bits-2.true in
    let one : 1 * 2 ^ c.args.bits ≡ 2 ^ c.args.bits = omega arith in
    rw (c.from.ensures, shifted_base (8 + exponent) c.args.bits (omega (arith, less)) c.requires, shifted_base 1 c.args.bits (omega arith) c.requires, one)
    (sym (c.loop-exponent.invariant.same ∙ stops c.args.bits c.args.value exponent less below))

pub loop-exponent-preserved : goal.loop-exponent-preserved
loop-exponent-preserved c =
    let exponent = c.loop-exponent.exponent in
    let less = c.loop-exponent-test.true in
    let more = rw (shifted (c.args.bits + exponent + 4) (omega (arith, c.requires, less))) at c.if-value-bits-2.false in
    let place : c.args.bits + (exponent + 1) + 3 ≡ c.args.bits + exponent + 4 = omega arith in
    record {
      same = c.loop-exponent.invariant.same ∙ goes_on c.args.bits c.args.value exponent less more;
      low = rw place more;
    }

pub overflow_add-result-then-value-bits-2 : goal.overflow_add-result-then-value-bits-2
overflow_add-result-then-value-bits-2 c =
    let exponent = c.loop-exponent.exponent in
    let less = c.loop-exponent-test.true in
    let below = rw (shifted (c.args.bits + exponent + 4) (omega (arith, c.requires, less))) at c.if-value-bits-2.true in
    let bounds = mantissa_bounds c.args.bits exponent c.args.value c.loop-exponent.invariant.low below in
    let one : 1 * 2 ^ c.args.bits ≡ 2 ^ c.args.bits = omega arith in
    let fits = fits_sum c.args.bits exponent (c.args.value / 2 ^ (exponent + 3)) c.requires less bounds.1 in
    rw (c.from.ensures, shifted_base (8 + exponent) c.args.bits (omega (arith, less)) c.requires, shifted_base 1 c.args.bits (omega arith) c.requires, one)
    (omega (arith, fits))

pub returns : goal.returns
returns c =
    let last : c.loop-exponent.exponent ≡ 8 = omega (arith, c.loop-exponent-test.false, c.loop-exponent.auto.exponent-end) in
    rw (shifted_base 16 c.args.bits (omega arith) c.requires)
    (sym (c.loop-exponent.invariant.same ∙ ends c.args.bits c.args.value c.loop-exponent.exponent last))
