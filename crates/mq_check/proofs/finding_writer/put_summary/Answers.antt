-- Five parts one after the other, or a prefix of them.
use Rattle.mq_check.proofs.Common.{[], List, ℕ, ◌++◌, err_from_is_err_and, both_passed, broken_behind, broken_within, held_more, Totals}
use Rattle.mq_check.specs.FindingLines.{checked_fields, kinds_field, packets_field, roles_field, summary_start}
use Rattle.mq_check.proofs.finding_writer.put_summary.Goals as goal

-- the parts after the third, the second and the first
abbrev after_3 : Totals → List ℕ
after_3 totals = roles_field totals.basis ++ packets_field totals.basis

abbrev after_2 : Totals → List ℕ
after_2 totals = checked_fields totals.basis ++ after_3 totals

abbrev after_1 : Totals → List ℕ
after_1 totals = kinds_field totals.kinds ++ after_2 totals

pub returns-in_err-make_room-clause-text : goal.returns-in_err-make_room-clause-text
returns-in_err-make_room-clause-text g c =
    let p = err_from_is_err_and c.from_residual.result c.from_residual.ensures.1 in
    let totals = c.args.totals.now in
    rw p.1 (broken_within _ _ _ (summary_start totals) (after_1 totals) (broken_within _ _ _ [] (summary_start totals) c.in_err-make_room.ensures.text))

pub returns-in_err-make_room-2-clause-text : goal.returns-in_err-make_room-2-clause-text
returns-in_err-make_room-2-clause-text g c =
    let p = err_from_is_err_and c.from_residual-in_err-make_room-2.result c.from_residual-in_err-make_room-2.ensures.1 in
    let totals = c.args.totals.now in
    let one = held_more _ _ _ _ _ [] (summary_start totals) c.in_ok-make_room.ensures.text c.put_summary_start.ensures in
    rw p.1 (broken_behind _ _ _ _ _ (summary_start totals) (after_1 totals) one (broken_within _ _ _ (kinds_field totals.kinds) (after_2 totals)
    (broken_within _ _ _ [] (kinds_field totals.kinds) c.in_err-make_room-2.ensures.text)))

pub returns-in_err-make_room-3-clause-text : goal.returns-in_err-make_room-3-clause-text
returns-in_err-make_room-3-clause-text g c =
    let p = err_from_is_err_and c.from_residual-in_err-make_room-3.result c.from_residual-in_err-make_room-3.ensures.1 in
    let totals = c.args.totals.now in
    let one = held_more _ _ _ _ _ [] (summary_start totals) c.in_ok-make_room.ensures.text c.put_summary_start.ensures in
    let two = held_more _ _ _ _ _ [] (kinds_field totals.kinds) c.in_ok-make_room-2.ensures.text c.put_kinds.ensures in
    rw p.1 (broken_behind _ _ _ _ _ (summary_start totals) (after_1 totals) one (broken_behind _ _ _ _ _ (kinds_field totals.kinds) (after_2 totals) two
    (broken_within _ _ _ (checked_fields totals.basis) (after_3 totals)
    (broken_within _ _ _ [] (checked_fields totals.basis) c.in_err-make_room-3.ensures.text))))

pub returns-in_err-make_room-4-clause-text : goal.returns-in_err-make_room-4-clause-text
returns-in_err-make_room-4-clause-text g c =
    let p = err_from_is_err_and c.from_residual-in_err-make_room-4.result c.from_residual-in_err-make_room-4.ensures.1 in
    let totals = c.args.totals.now in
    let one = held_more _ _ _ _ _ [] (summary_start totals) c.in_ok-make_room.ensures.text c.put_summary_start.ensures in
    let two = held_more _ _ _ _ _ [] (kinds_field totals.kinds) c.in_ok-make_room-2.ensures.text c.put_kinds.ensures in
    let three = held_more _ _ _ _ _ [] (checked_fields totals.basis) c.in_ok-make_room-3.ensures.text c.put_checked.ensures in
    rw p.1 (broken_behind _ _ _ _ _ (summary_start totals) (after_1 totals) one (broken_behind _ _ _ _ _ (kinds_field totals.kinds) (after_2 totals) two
    (broken_behind _ _ _ _ _ (checked_fields totals.basis) (after_3 totals) three
    (broken_within _ _ _ (roles_field totals.basis) (packets_field totals.basis)
    (broken_within _ _ _ [] (roles_field totals.basis) c.in_err-make_room-4.ensures.text)))))

pub returns-in_err-make_room-5-clause-text : goal.returns-in_err-make_room-5-clause-text
returns-in_err-make_room-5-clause-text g c =
    let p = err_from_is_err_and c.from_residual-in_err-make_room-5.result c.from_residual-in_err-make_room-5.ensures.1 in
    let totals = c.args.totals.now in
    let one = held_more _ _ _ _ _ [] (summary_start totals) c.in_ok-make_room.ensures.text c.put_summary_start.ensures in
    let two = held_more _ _ _ _ _ [] (kinds_field totals.kinds) c.in_ok-make_room-2.ensures.text c.put_kinds.ensures in
    let three = held_more _ _ _ _ _ [] (checked_fields totals.basis) c.in_ok-make_room-3.ensures.text c.put_checked.ensures in
    let four = held_more _ _ _ _ _ [] (roles_field totals.basis) c.in_ok-make_room-4.ensures.text c.put_roles.ensures in
    rw p.1 (broken_behind _ _ _ _ _ (summary_start totals) (after_1 totals) one (broken_behind _ _ _ _ _ (kinds_field totals.kinds) (after_2 totals) two
    (broken_behind _ _ _ _ _ (checked_fields totals.basis) (after_3 totals) three
    (broken_behind _ _ _ _ _ (roles_field totals.basis) (packets_field totals.basis) four
    (broken_within _ _ _ [] (packets_field totals.basis) c.in_err-make_room-5.ensures.text)))))

pub returns-clause-text : goal.returns-clause-text
returns-clause-text g c =
    let totals = c.args.totals.now in
    let one = held_more _ _ _ _ _ [] (summary_start totals) c.in_ok-make_room.ensures.text c.put_summary_start.ensures in
    let two = held_more _ _ _ _ _ [] (kinds_field totals.kinds) c.in_ok-make_room-2.ensures.text c.put_kinds.ensures in
    let three = held_more _ _ _ _ _ [] (checked_fields totals.basis) c.in_ok-make_room-3.ensures.text c.put_checked.ensures in
    let four = held_more _ _ _ _ _ [] (roles_field totals.basis) c.in_ok-make_room-4.ensures.text c.put_roles.ensures in
    let five = held_more _ _ _ _ _ [] (packets_field totals.basis) c.in_ok-make_room-5.ensures.text c.put_packets_field.ensures in
    both_passed _ _ _ _ _ _ (summary_start totals) (after_1 totals) one (both_passed _ _ _ _ _ _ (kinds_field totals.kinds) (after_2 totals) two
    (both_passed _ _ _ _ _ _ (checked_fields totals.basis) (after_3 totals) three
    (both_passed _ _ _ _ _ _ (roles_field totals.basis) (packets_field totals.basis) four five)))
