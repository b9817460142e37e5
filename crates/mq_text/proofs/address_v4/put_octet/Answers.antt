use Rattle.std.proofs.{Common.◌<◌, Common.arith, lemmas.Fmt.length-decimal-le}
use Rattle.mq_text.proofs.address_v4.put_octet.Goals as goal

pub put_few_digits-requires : goal.put_few_digits-requires
put_few_digits-requires c =
    let small : c.from.result < 256 = omega (arith, c.from.ensures, c.ranges.octet.fits) in
    let short = length-decimal-le 3 c.from.result (omega arith) (omega (arith, small)) (omega (arith, small)) in
    record { few = omega (arith, small); room = omega (arith, short, c.requires) }

pub returns-clause-room : goal.returns-clause-room
returns-clause-room c =
    let small : c.from.result < 256 = omega (arith, c.from.ensures, c.ranges.octet.fits) in
    let short = length-decimal-le 3 c.from.result (omega arith) (omega (arith, small)) (omega (arith, small)) in
    omega (arith, short, c.put_few_digits.ensures.room)
