use Rattle.mq_text.proofs.Spelled.{none_v4}
use Rattle.mq_text.proofs.reading.read_v4.Goals as goal

pub returns-in-Err : goal.returns-in-Err
returns-in-Err c = none_v4 c.args.text.now c.in-Err.ensures.value
