use Rattle.std.proofs.lemmas.Result.{err_from_is_err_and}
use Rattle.mq_walk.proofs.WalkedOver.{opened_faulty, opened_well}
use Rattle.mq_walk.proofs.walking.walk.Goals as goal

pub returns-in_err-capture : goal.returns-in_err-capture
returns-in_err-capture g c =
    let p = err_from_is_err_and c.from_residual.result c.from_residual.ensures.1 in
    rw p.1 (opened_faulty _ _ _ _ _ _ _ p.2 c.in_err-capture.ensures)

pub returns : goal.returns
returns g c = opened_well _ _ _ _ _ _ _ _ _ c.in_ok-capture.ensures c.walk_packets.ensures
