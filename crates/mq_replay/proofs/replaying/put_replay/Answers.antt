use Rattle.mq_replay.proofs.Common.{◌≤◌, ◌||◌, Bool, ap, sym, subst, ◌∙◌, err_from_is_err_and, output_of, is_failed_write, fault_or, Asked}
use Rattle.std.{proofs.Common.◌^◌, specs.Prelude.IfSome}
use Rattle.mq_replay.proofs.ReplayedOver.{kept, replayed_early, replayed_well}
use Rattle.mq_replay.proofs.replaying.put_replay.Goals as goal

pub returns-in_err-walked-clause-puts : goal.returns-in_err-walked-clause-puts
returns-in_err-walked-clause-puts g c =
    let p = err_from_is_err_and c.from_residual.result c.from_residual.ensures.1 in
    rw (p.1, p.2) (replayed_early
    (λ x. record { link = x.0.link; asked = x.0.asked; held = x.0.buffer.items; output = output_of g.W.Write.contents x.1 })
    (λ y. (y.0.steps, y.1)) _ _ _ _ c.requires.starts _ c.in_err-walked.ensures).0

pub returns-in_err-walked-clause-failed : goal.returns-in_err-walked-clause-failed
returns-in_err-walked-clause-failed g c =
    let p = err_from_is_err_and c.from_residual.result c.from_residual.ensures.1 in
    rw (p.1, p.2) (replayed_early
    (λ x. record { link = x.0.link; asked = x.0.asked; held = x.0.buffer.items; output = output_of g.W.Write.contents x.1 })
    (λ y. (y.0.steps, y.1)) _ _ _ _ c.requires.starts _ c.in_err-walked.ensures).1

pub returns-in_err-walked-clause-no_memory : goal.returns-in_err-walked-clause-no_memory
returns-in_err-walked-clause-no_memory g c =
    let p = err_from_is_err_and c.from_residual.result c.from_residual.ensures.1 in
    rw (p.1, p.2) (λ is. (replayed_early
    (λ x. record { link = x.0.link; asked = x.0.asked; held = x.0.buffer.items; output = output_of g.W.Write.contents x.1 })
    (λ y. (y.0.steps, y.1)) _ _ _ _ c.requires.starts _ c.in_err-walked.ensures).2 (ap (fault_or c.in_err-walked.field-0.0) is))

pub put_rest-requires : goal.put_rest-requires
put_rest-requires g c =
    let same = kept (λ x. record { link = x.0.link; asked = x.0.asked; held = x.0.buffer.items; output = output_of g.W.Write.contents x.1 })
    (λ y. (y.0.steps, y.1)) _ _ _ _ c.requires.starts c.in_ok-walked.walked c.in_ok-walked.ensures in
    subst (λ (a : Asked). IfSome a.until (λ moment. moment ≤ 2 ^ 53)) (sym same.0) c.requires.in_range

pub returns-clause-puts : goal.returns-clause-puts
returns-clause-puts g c =
    replayed_well (λ x. record { link = x.0.link; asked = x.0.asked; held = x.0.buffer.items; output = output_of g.W.Write.contents x.1 })
    (λ y. (y.0.steps, y.1)) _ _ _ _ c.requires.starts c.in_ok-walked.walked c.in_ok-walked.ensures _ _ _ c.put_rest.ensures.rest

pub returns-clause-failed : goal.returns-clause-failed
returns-clause-failed g c =
    let same = kept (λ x. record { link = x.0.link; asked = x.0.asked; held = x.0.buffer.items; output = output_of g.W.Write.contents x.1 })
    (λ y. (y.0.steps, y.1)) _ _ _ _ c.requires.starts c.in_ok-walked.walked c.in_ok-walked.ensures in
    c.put_rest.ensures.failed ∙ ap (λ (b : Bool). b || is_failed_write c.put_rest.result) same.1
