use Rattle.std.proofs.Common.{◌≤◌, arith}
use Rattle.mq_text.proofs.Digits.{four_more, put_in_two}
use Rattle.mq_text.proofs.text.+put_digits.Goals as goal

pub put_digits-requires : goal.put_digits-requires
put_digits-requires t c =
    let more : 10000 ≤ c.args.number = omega (arith, c.if-number-lt100000000.false) in
    let longer = four_more c.args.number more (omega (arith, c.ranges.number.fits)) in
    (omega (arith, more, c.decreases), omega (arith, longer, c.requires))

pub put-requires : goal.put-requires
put-requires t c =
    let longer = four_more c.args.number (omega (arith, c.if-number-lt100000000.false)) (omega (arith, c.ranges.number.fits)) in
    omega (arith, longer, c.requires, c.put_digits.ensures.room)

pub returns-clause-text : goal.returns-clause-text
returns-clause-text t c =
    put_in_two c.args.text.now.items c.put_digits.new.text.items c.put.new.text.items c.four_digits.result c.args.number
    (omega (arith, c.if-number-lt100000000.false)) (omega (arith, c.ranges.number.fits)) c.put_digits.ensures.text c.four_digits.ensures c.put.ensures.text

pub returns-clause-room : goal.returns-clause-room
returns-clause-room t c =
    let longer = four_more c.args.number (omega (arith, c.if-number-lt100000000.false)) (omega (arith, c.ranges.number.fits)) in
    omega (arith, longer, c.put_digits.ensures.room, c.put.ensures.room)
