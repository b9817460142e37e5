use Rattle.mq_replay.proofs.Common.{ap, sym, ◌∙◌, err_from_is_err_and, Configuration}
use Rattle.mq_replay.proofs.OnePacket.{receipt_broken, receipt_cut, receipt_lined, receipt_whole}
use Rattle.mq_replay.proofs.one_packet.hand_over.Goals as goal

pub returns-in_err-answer-clause-puts : goal.returns-in_err-answer-clause-puts
returns-in_err-answer-clause-puts g c =
    let p = err_from_is_err_and c.from_residual.result c.from_residual.ensures.1 in
    let is_family = g.met.F.CapturedFamily.same_family ∙ sym c.is_faultless.ensures.family ∙ ap (λ (config : Configuration). config.family) c.config.ensures in
    rw p.1 (receipt_broken _ _ _ _ _ _ _ _ _ _ _ _ _ is_family c.in_err-answer.ensures.config c.in_err-answer.ensures.receives)

pub returns-in_err-put_receipt-clause-puts : goal.returns-in_err-put_receipt-clause-puts
returns-in_err-put_receipt-clause-puts g c =
    let p = err_from_is_err_and c.from_residual-in_err-put_receipt.result c.from_residual-in_err-put_receipt.ensures.1 in
    let is_family = g.met.F.CapturedFamily.same_family ∙ sym c.is_faultless.ensures.family ∙ ap (λ (config : Configuration). config.family) c.config.ensures in
    rw p.1 (receipt_cut _ _ _ _ _ _ _ _ _ _ c.in_err-put_receipt.field-0.0 _
    (receipt_lined _ _ _ _ _ _ _ _ _ _ _ _ _ _ _ _ is_family c.source.ensures c.in_ok-answer.ensures.config c.in_ok-answer.ensures.receives
    c.in_err-put_receipt.ensures.text))

pub returns-clause-puts : goal.returns-clause-puts
returns-clause-puts g c =
    let is_family = g.met.F.CapturedFamily.same_family ∙ sym c.is_faultless.ensures.family ∙ ap (λ (config : Configuration). config.family) c.config.ensures in
    receipt_whole _ _ _ _ _ _ _ _ _ _ _ _ _ _ is_family c.in_ok-answer.ensures.changed
    (receipt_lined _ _ _ _ _ _ _ _ _ _ _ _ _ _ _ _ is_family c.source.ensures c.in_ok-answer.ensures.config c.in_ok-answer.ensures.receives
    c.in_ok-put_receipt.ensures.text) c.put_changes.ensures.text
