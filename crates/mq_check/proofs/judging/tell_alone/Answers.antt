-- A query that may be extra, and then the differing fields.
use Rattle.mq_check.proofs.Common.{[], ◌∷◌, err_from_is_err_and, PossiblyExtra, numbered_asked}
use Rattle.mq_check.proofs.Tellings.{broken_as, then_told, told_broken}
use Rattle.mq_check.proofs.judging.tell_alone.Goals as goal

pub returns-in_err-tell_finding-in-Possible : goal.returns-in_err-tell_finding-in-Possible
returns-in_err-tell_finding-in-Possible g c =
    let p = err_from_is_err_and c.from_residual.result c.from_residual.ensures.1 in
    let extra = PossiblyExtra c.args.moment c.args.terms.now.packet (numbered_asked g.F.Address.Key.number c.args.asked) in
    rw (p.1, c.in-Possible.is) (broken_as _ _ _ _ _ _ _ _ (told_broken _ (extra ∷ []) _ _ _ _ _ _ c.in_err-tell_finding-in-Possible.ensures))

pub returns-in_ok-tell_finding-in-Possible : goal.returns-in_ok-tell_finding-in-Possible
returns-in_ok-tell_finding-in-Possible g c =
    let extra = PossiblyExtra c.args.moment c.args.terms.now.packet (numbered_asked g.F.Address.Key.number c.args.asked) in
    rw c.in-Possible.is (then_told _ (extra ∷ []) _ _ _ _ _ _ _ _ _ c.in_ok-tell_finding-in-Possible.ensures c.tell_differences.ensures)
