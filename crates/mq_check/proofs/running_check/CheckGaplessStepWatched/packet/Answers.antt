use Rattle.mq_check.proofs.Common.{Ok, Err, ap, refl, sym, ◌∙◌, err_from_is_err_and, LineFault, CheckingValue}
use Rattle.mq_check.proofs.WalkedChecks.{comes_broken, comes_then, comes_well}
use Rattle.mq_check.proofs.running_check.CheckGaplessStepWatched.packet.Goals as goal

pub returns-in_err-check_packet-clause-taken : goal.returns-in_err-check_packet-clause-taken
returns-in_err-check_packet-clause-taken g c =
    let p = err_from_is_err_and c.from_residual.result c.from_residual.ensures.1 in
    rw (p.1, p.2) (record {
      same_terms = c.in_err-check_packet.ensures.terms;
      comes = comes_broken _ _ _ _ _ _ _ _ _ _ c.in_err-check_packet.ensures.comes;
    })

pub returns-then-is_full-clause-taken : goal.returns-then-is_full-clause-taken
returns-then-is_full-clause-taken g c =
    let state = c.is_full.ensures ∙ ap (λ (s : CheckingValue). s.waiting.is_full) c.checking.ensures in (
      record {
        same_terms = c.in_ok-check_packet.ensures.terms;
        comes = comes_well _ _ _ _ _ _ _ _ _ c.in_ok-check_packet.ensures.comes;
      },
      sym state ∙ c.if-is_full.true,
      refl,
    )

pub returns-in_err-write_before_wait-clause-taken : goal.returns-in_err-write_before_wait-clause-taken
returns-in_err-write_before_wait-clause-taken g c =
    let p = err_from_is_err_and c.from_residual-in_err-write_before_wait.result c.from_residual-in_err-write_before_wait.ensures.1 in
    let written = c.in_err-write_before_wait.ensures in
    rw (p.1, p.2) (record {
      same_terms = c.in_ok-check_packet.ensures.terms;
      comes = comes_broken _ _ _ _ _ _ _ _ _ _
          (comes_then (Unit {0}) LineFault _ _ _ _ _ _ _ c.write_before_wait.new.self _ _ _ _ (Err c.in_err-write_before_wait.field-0.0)
          c.in_ok-check_packet.ensures.comes written.text written.additions written.last written.count written.failed);
    })

pub returns-clause-taken : goal.returns-clause-taken
returns-clause-taken g c =
    let state = c.is_full.ensures ∙ ap (λ (s : CheckingValue). s.waiting.is_full) c.checking.ensures in
    let written = c.in_ok-write_before_wait.ensures in (
      record {
        same_terms = c.in_ok-check_packet.ensures.terms;
        comes = comes_well _ _ _ _ _ _ _ _ _
            (comes_then (Unit {0}) LineFault _ _ _ _ _ _ _ c.write_before_wait.new.self _ _ _ _
            (Ok c.in_ok-write_before_wait.field-0) c.in_ok-check_packet.ensures.comes written.text written.additions written.last written.count written.failed);
      },
      sym state ∙ c.if-is_full.false,
    )
