use Rattle.mq_convert.proofs.Common.{length, refl, le-ltb, from_place, of_cooked}
use Rattle.mq_convert.proofs.frames.of_cooked.Goals as goal

pub returns : goal.returns
unfolding of_cooked
returns c =
    let long = le-ltb (length c.args.bytes.now) 16 c.if-bytes-lt16.false in
    rw (long, from_place 16 c.args.bytes.now, c.sent_by.ensures, c.word-2.ensures, c.word.ensures) refl
