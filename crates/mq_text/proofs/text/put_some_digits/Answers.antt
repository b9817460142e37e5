use Rattle.std.proofs.Common.{arith}
use Rattle.mq_text.proofs.Digits.{four_more, put_in_two}
use Rattle.mq_text.proofs.text.put_some_digits.Goals as goal

pub put_few_digits-requires-2 : goal.put_few_digits-requires-2
put_few_digits-requires-2 c =
    let longer = four_more c.args.number c.if-number-lt10000.false (omega (arith, c.requires.some)) in
    record { few = omega (arith, c.requires.some); room = omega (arith, longer, c.requires.room) }

pub put-requires : goal.put-requires
put-requires c =
    let longer = four_more c.args.number c.if-number-lt10000.false (omega (arith, c.requires.some)) in
    omega (arith, longer, c.requires.room, c.put_few_digits-2.ensures.room)

pub returns-clause-text : goal.returns-clause-text
returns-clause-text c =
    put_in_two c.args.text.now.items c.put_few_digits-2.new.text.items c.put.new.text.items c.four_digits.result c.args.number
    c.if-number-lt10000.false (omega (arith, c.requires.some)) c.put_few_digits-2.ensures.text c.four_digits.ensures c.put.ensures.text

pub returns-clause-room : goal.returns-clause-room
returns-clause-room c =
    let longer = four_more c.args.number c.if-number-lt10000.false (omega (arith, c.requires.some)) in
    omega (arith, longer, c.put_few_digits-2.ensures.room, c.put.ensures.room)
