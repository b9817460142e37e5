use Rattle.mq_convert.proofs.Common.{[], err_from_is_err_and, broken_within, file_header}
use Rattle.mq_convert.proofs.converting.put_file_header.Goals as goal

pub returns-in_err-make_room-clause-text : goal.returns-in_err-make_room-clause-text
returns-in_err-make_room-clause-text g c =
    let p = err_from_is_err_and c.from_residual.result c.from_residual.ensures.1 in
    rw p.1 (broken_within _ _ _ [] file_header c.in_err-make_room.ensures.text)
