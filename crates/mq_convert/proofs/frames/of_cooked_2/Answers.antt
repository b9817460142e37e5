use Rattle.mq_convert.proofs.Common.{length, refl, le-ltb, from_place, of_cooked_2}
use Rattle.mq_convert.proofs.frames.of_cooked_2.Goals as goal

pub returns : goal.returns
unfolding of_cooked_2
returns c =
    let long = le-ltb (length c.args.bytes.now) 20 c.if-bytes-lt20.false in
    rw (long, from_place 20 c.args.bytes.now, c.sent_by.ensures, c.word.ensures, c.from.ensures) refl
