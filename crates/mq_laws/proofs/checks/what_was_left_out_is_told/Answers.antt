use Rattle.mq_laws.proofs.Common.{no_differences, ahead_in, end_in, events_in}
use Rattle.mq_laws.proofs.{Found.found_is, Laws.missing_reported, Laws.tells_of, Told.tells_what_happened}
use Rattle.mq_laws.proofs.checks.what_was_left_out_is_told.Goals as goal

pub returns : goal.returns
returns c k expected began faultless answered is =
    let told = tells_what_happened k answered in
    let order = c.what_happens_comes_in_order.ensures.order k faultless in
    let ahead = c.what_happens_comes_in_order.ensures.ahead k faultless in
    let tells = tells_of k _ told (found_is k.within k.config.timing k.flags (end_in k) expected (events_in k) (ahead_in k) began order ahead is told.room) in
    rw (missing_reported k.additions.once no_differences expected) at tells
