-- Three parts one after the other, or a prefix of them.
use Rattle.mq_check.proofs.Common.{[], ◌++◌, err_from_is_err_and, both_passed, broken_behind, broken_within, held_more}
use Rattle.mq_check.specs.FindingLines.{packets_line, querier_line, totals_line}
use Rattle.mq_check.proofs.finding_writer.put_last_lines.Goals as goal

pub returns-in_err-make_room-clause-text : goal.returns-in_err-make_room-clause-text
returns-in_err-make_room-clause-text g c =
    let p = err_from_is_err_and c.from_residual.result c.from_residual.ensures.1 in
    let a = totals_line c.args.totals.now in
    let b = packets_line c.args.totals.now.basis in
    let d = querier_line c.args.totals.now.basis in
    rw p.1 (broken_within _ _ _ (a ++ b) d (broken_within _ _ _ a b (broken_within _ _ _ [] a c.in_err-make_room.ensures.text)))

pub returns-in_err-make_room-2-clause-text : goal.returns-in_err-make_room-2-clause-text
returns-in_err-make_room-2-clause-text g c =
    let p = err_from_is_err_and c.from_residual-in_err-make_room-2.result c.from_residual-in_err-make_room-2.ensures.1 in
    let a = totals_line c.args.totals.now in
    let b = packets_line c.args.totals.now.basis in
    let d = querier_line c.args.totals.now.basis in
    let one = held_more _ _ _ _ _ [] a c.in_ok-make_room.ensures.text c.put_totals.ensures in
    rw p.1 (broken_within _ _ _ (a ++ b) d (broken_behind _ _ _ _ _ a b one (broken_within _ _ _ [] b c.in_err-make_room-2.ensures.text)))

pub returns-in_err-make_room-3-clause-text : goal.returns-in_err-make_room-3-clause-text
returns-in_err-make_room-3-clause-text g c =
    let p = err_from_is_err_and c.from_residual-in_err-make_room-3.result c.from_residual-in_err-make_room-3.ensures.1 in
    let a = totals_line c.args.totals.now in
    let b = packets_line c.args.totals.now.basis in
    let d = querier_line c.args.totals.now.basis in
    let one = held_more _ _ _ _ _ [] a c.in_ok-make_room.ensures.text c.put_totals.ensures in
    let two = held_more _ _ _ _ _ [] b c.in_ok-make_room-2.ensures.text c.put_packets.ensures in
    rw p.1 (broken_behind _ _ _ _ _ (a ++ b) d (both_passed _ _ _ _ _ _ a b one two) (broken_within _ _ _ [] d c.in_err-make_room-3.ensures.text))

pub returns-clause-text : goal.returns-clause-text
returns-clause-text g c =
    let a = totals_line c.args.totals.now in
    let b = packets_line c.args.totals.now.basis in
    let d = querier_line c.args.totals.now.basis in
    let one = held_more _ _ _ _ _ [] a c.in_ok-make_room.ensures.text c.put_totals.ensures in
    let two = held_more _ _ _ _ _ [] b c.in_ok-make_room-2.ensures.text c.put_packets.ensures in
    let three = held_more _ _ _ _ _ [] d c.in_ok-make_room-3.ensures.text c.put_querier_line.ensures in
    both_passed _ _ _ _ _ _ (a ++ b) d (both_passed _ _ _ _ _ _ a b one two) three
