use Rattle.mq_convert.proofs.Common.{◌≡◌, arith, err_from_is_err_and, broken_within, then_put, file_header}
use Rattle.mq_convert.proofs.converting.put_held.Goals as goal

pub returns-in_err-put_file_header-clause-text : goal.returns-in_err-put_file_header-clause-text
returns-in_err-put_file_header-clause-text g c =
    let p = err_from_is_err_and c.from_residual.result c.from_residual.ensures.1 in
    let first : c.args.number ≡ 0 = let is = c.if-number-eq0.true in omega (arith, is) in
    rw (p.1, first) (broken_within _ _ _ file_header _ c.in_err-put_file_header.ensures.text)

pub returns-then-number-eq0-clause-text : goal.returns-then-number-eq0-clause-text
returns-then-number-eq0-clause-text g c =
    let first : c.args.number ≡ 0 = let is = c.if-number-eq0.true in omega (arith, is) in
    rw first (then_put _ _ _ _ _ _ file_header _ c.put_packet.result c.in_ok-put_file_header.ensures.text c.put_packet.ensures.text)
