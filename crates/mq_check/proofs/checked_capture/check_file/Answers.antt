use Rattle.mq_check.proofs.Common.{◌≤◌, ◌^◌, ◌||◌, Bool, ap, sym, subst, ◌∙◌, IfSome, err_from_is_err_and, Configuration, output_of, CheckTerms}
use Rattle.mq_walk.{specs.Faults.is_failed_write, proofs.WalkedOver.fault_or}
use Rattle.mq_check.proofs.CheckedOver.{kept, verdict_early, verdict_well}
use Rattle.mq_check.proofs.checked_capture.check_file.Goals as goal

pub returns-in_err-walked-clause-puts : goal.returns-in_err-walked-clause-puts
returns-in_err-walked-clause-puts g c =
    let p = err_from_is_err_and c.from_residual.result c.from_residual.ensures.1 in
    let family = g.met.F.CapturedFamily.same_family ∙ sym c.is_faultless.ensures.family ∙ ap (λ (k : Configuration). k.family) c.config.ensures in
    rw (p.1, p.2) (verdict_early g.F.Address.LineKey.family
    (λ x. record { link = x.0.link; queries = x.0.queries; terms = x.0.terms; told = x.0.told; output = output_of g.W.Write.contents x.1 })
    (λ y. (y.0.steps, y.1)) _ _ _ _ family c.requires.told c.requires.starts _ c.in_err-walked.ensures).0

pub returns-in_err-walked-clause-failed : goal.returns-in_err-walked-clause-failed
returns-in_err-walked-clause-failed g c =
    let p = err_from_is_err_and c.from_residual.result c.from_residual.ensures.1 in
    let family = g.met.F.CapturedFamily.same_family ∙ sym c.is_faultless.ensures.family ∙ ap (λ (k : Configuration). k.family) c.config.ensures in
    rw (p.1, p.2) (verdict_early g.F.Address.LineKey.family
    (λ x. record { link = x.0.link; queries = x.0.queries; terms = x.0.terms; told = x.0.told; output = output_of g.W.Write.contents x.1 })
    (λ y. (y.0.steps, y.1)) _ _ _ _ family c.requires.told c.requires.starts _ c.in_err-walked.ensures).1

pub returns-in_err-walked-clause-no_memory : goal.returns-in_err-walked-clause-no_memory
returns-in_err-walked-clause-no_memory g c =
    let p = err_from_is_err_and c.from_residual.result c.from_residual.ensures.1 in
    let family = g.met.F.CapturedFamily.same_family ∙ sym c.is_faultless.ensures.family ∙ ap (λ (k : Configuration). k.family) c.config.ensures in
    rw (p.1, p.2) (λ is. (verdict_early g.F.Address.LineKey.family
    (λ x. record { link = x.0.link; queries = x.0.queries; terms = x.0.terms; told = x.0.told; output = output_of g.W.Write.contents x.1 })
    (λ y. (y.0.steps, y.1)) _ _ _ _ family c.requires.told c.requires.starts _ c.in_err-walked.ensures).2 (ap (fault_or c.in_err-walked.field-0.0) is))

pub rest-requires : goal.rest-requires
rest-requires g c =
    let family = g.met.F.CapturedFamily.same_family ∙ sym c.is_faultless.ensures.family ∙ ap (λ (k : Configuration). k.family) c.config.ensures in
    let same = kept g.F.Address.LineKey.family
    (λ x. record { link = x.0.link; queries = x.0.queries; terms = x.0.terms; told = x.0.told; output = output_of g.W.Write.contents x.1 })
    (λ y. (y.0.steps, y.1)) _ _ _ _ family c.requires.told c.requires.starts c.in_ok-walked.walked c.in_ok-walked.ensures in
    subst (λ (t : CheckTerms). IfSome t.until (λ ms. ms ≤ 2 ^ 53)) (sym same.0) c.requires.in_range

pub returns-clause-puts : goal.returns-clause-puts
returns-clause-puts g c =
    let family = g.met.F.CapturedFamily.same_family ∙ sym c.is_faultless.ensures.family ∙ ap (λ (k : Configuration). k.family) c.config.ensures in
    verdict_well g.F.Address.LineKey.family
    (λ x. record { link = x.0.link; queries = x.0.queries; terms = x.0.terms; told = x.0.told; output = output_of g.W.Write.contents x.1 })
    (λ y. (y.0.steps, y.1)) _ _ _ _ family c.requires.told c.requires.starts c.in_ok-walked.walked c.in_ok-walked.ensures _ _ _ c.rest.ensures.rest

pub returns-clause-failed : goal.returns-clause-failed
returns-clause-failed g c =
    let family = g.met.F.CapturedFamily.same_family ∙ sym c.is_faultless.ensures.family ∙ ap (λ (k : Configuration). k.family) c.config.ensures in
    let same = kept g.F.Address.LineKey.family
    (λ x. record { link = x.0.link; queries = x.0.queries; terms = x.0.terms; told = x.0.told; output = output_of g.W.Write.contents x.1 })
    (λ y. (y.0.steps, y.1)) _ _ _ _ family c.requires.told c.requires.starts c.in_ok-walked.walked c.in_ok-walked.ensures in
    c.rest.ensures.failed ∙ ap (λ (b : Bool). b || is_failed_write c.rest.result) same.1
