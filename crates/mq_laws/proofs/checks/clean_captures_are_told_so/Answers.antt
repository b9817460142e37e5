use Rattle.mq_laws.proofs.Common.{ahead_in, end_in, events_in}
use Rattle.mq_laws.proofs.{Laws.none_of_moved, Laws.tells_of, Told.tells_what_happened}
use Rattle.mq_laws.proofs.checks.clean_captures_are_told_so.Goals as goal

pub returns : goal.returns
returns c k began faultless answered on_time are =
    let told = tells_what_happened k answered in
    let order = c.what_happens_comes_in_order.ensures.order k faultless in
    let ahead = c.what_happens_comes_in_order.ensures.ahead k faultless in
    let tells = tells_of k _ told
    (none_of_moved k.within k.config.timing k.flags (end_in k) (events_in k) (ahead_in k) began order ahead on_time told.room are) in
    record { text = tells.text; none = tells.counted; none_possible = tells.possible }
