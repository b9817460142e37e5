use Rattle.mq_convert.proofs.Common.{◌≡◌, true, arith, record_of}
use Rattle.mq_convert.proofs.records.put_record.Goals as goal

pub returns-clause-text : goal.returns-clause-text
unfolding record_of
returns-clause-text g c =
    let taken : c.takes.result ≡ true = grind (arith, c.if-not-takes.false) in
    rw (← c.frame_of-frame.ensures, ← c.tag_of.ensures, ← c.number_of.ensures, ← c.takes.ensures, taken, ← c.untagged.ensures) c.put_frame.ensures.text
