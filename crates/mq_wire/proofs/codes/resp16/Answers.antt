use Rattle.mq_wire.proofs.Common.{◌≤◌, ◌+◌, ◌*◌, ◌^◌, ◌/◌, ◌%◌, arith, pow-le-pow_right, mul-le}
use Rattle.mq_wire.proofs.codes.resp16.Goals as goal

pub returns-clause-greatest : goal.returns-clause-greatest
returns-clause-greatest c =
    let exponent = c.args.code / 4096 % 8 + 3 in
    let shift : 2 ^ exponent ≤ 2 ^ 10 = pow-le-pow_right (omega arith) {i = exponent} {j = 10} (omega arith) in
    let whole : (c.from-mantissa.result + 4096) * 2 ^ exponent ≤ 8191 * 1024 =
    mul-le (c.from-mantissa.result + 4096) (2 ^ exponent) 8191 1024 (omega (arith, c.from-mantissa.ensures)) shift in omega (arith, whole)
