use Rattle.std.proofs.{Common.ℕ, Common.◌≤◌, Common.◌<◌, Common.◌^◌, Common.length, Common.arith, lemmas.Fmt.length-decimal-le}
use Rattle.std.specs.Fmt.{decimal}
use Rattle.mq_text.proofs.text.put_decimal.Goals as goal

at_most_20 : (number : ℕ) → number < 2 ^ 64 → length (decimal number) ≤ 20
at_most_20 number fits = length-decimal-le 20 number (omega arith) (omega (arith, fits)) (omega arith)

pub put_some_digits-requires-clause-room : goal.put_some_digits-requires-clause-room
put_some_digits-requires-clause-room c =
    let short = at_most_20 c.args.number (omega (arith, c.ranges.number.fits)) in omega (arith, short, c.requires)

pub returns-then-number-lt100000000-clause-room : goal.returns-then-number-lt100000000-clause-room
returns-then-number-lt100000000-clause-room c =
    let short = at_most_20 c.args.number (omega (arith, c.ranges.number.fits)) in omega (arith, short, c.put_some_digits.ensures.room)

pub put_digits-requires : goal.put_digits-requires
put_digits-requires c =
    let short = at_most_20 c.args.number (omega (arith, c.ranges.number.fits)) in omega (arith, short, c.requires)

pub returns-clause-room : goal.returns-clause-room
returns-clause-room c =
    let short = at_most_20 c.args.number (omega (arith, c.ranges.number.fits)) in omega (arith, short, c.put_digits.ensures.room)
