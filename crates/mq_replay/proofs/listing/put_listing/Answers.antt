use Rattle.mq_replay.proofs.Common.{ap, err_from_is_err_and, output_of, fault_or}
use Rattle.mq_replay.proofs.ListedOver.{listed_early, listed_well}
use Rattle.mq_replay.proofs.listing.put_listing.Goals as goal

pub returns-in_err-walked-clause-puts : goal.returns-in_err-walked-clause-puts
returns-in_err-walked-clause-puts g c =
    let p = err_from_is_err_and c.from_residual.result c.from_residual.ensures.1 in
    rw (p.1, p.2) (listed_early (λ x. record { json = x.0.json; held = x.0.buffer.items; output = output_of g.W.Write.contents x.1 }) _ _ _ _ _
    c.in_err-walked.ensures).0

pub returns-in_err-walked-clause-failed : goal.returns-in_err-walked-clause-failed
returns-in_err-walked-clause-failed g c =
    let p = err_from_is_err_and c.from_residual.result c.from_residual.ensures.1 in
    rw (p.1, p.2) (listed_early (λ x. record { json = x.0.json; held = x.0.buffer.items; output = output_of g.W.Write.contents x.1 }) _ _ _ _ _
    c.in_err-walked.ensures).1

pub returns-in_err-walked-clause-no_memory : goal.returns-in_err-walked-clause-no_memory
returns-in_err-walked-clause-no_memory g c =
    let p = err_from_is_err_and c.from_residual.result c.from_residual.ensures.1 in
    rw (p.1, p.2) (λ is.
    (listed_early (λ x. record { json = x.0.json; held = x.0.buffer.items; output = output_of g.W.Write.contents x.1 }) _ _ _ _ _
    c.in_err-walked.ensures).2 (ap (fault_or c.in_err-walked.field-0.0) is))

pub returns-clause-puts : goal.returns-clause-puts
returns-clause-puts g c =
    (listed_well (λ x. record { json = x.0.json; held = x.0.buffer.items; output = output_of g.W.Write.contents x.1 }) _ _ _ _
    c.in_ok-walked.walked c.in_ok-walked.ensures).0

pub returns-clause-failed : goal.returns-clause-failed
returns-clause-failed g c =
    (listed_well (λ x. record { json = x.0.json; held = x.0.buffer.items; output = output_of g.W.Write.contents x.1 }) _ _ _ _
    c.in_ok-walked.walked c.in_ok-walked.ensures).1
