use Rattle.mq_check.proofs.Common.{ap, refl, sym, ◌∙◌, err_from_is_err_and, Configuration, WantingValue}
use Rattle.mq_check.proofs.CheckedPackets.{headers_left, received_comes, seen_comes, told_judged}
use Rattle.mq_check.proofs.Tellings.{broken_as, tells_as}
use Rattle.mq_check.proofs.running_check.Check.check_datagram.Goals as goal

pub returns-in_err-purge-clause-comes : goal.returns-in_err-purge-clause-comes
returns-in_err-purge-clause-comes g c =
    let p = err_from_is_err_and c.from_residual.result c.from_residual.ensures.1 in
    rw p.1 (record {
      same_config = refl;
      checked = tt;
      tells = broken_as _ _ _ _ _ _ _ _
          (tells_as _ _ _ _ _ _ _ _ (told_judged _ _ _ _ _ _ c.judge.ensures c.moment-now.ensures.same) c.in_err-purge.ensures.tells);
    })

-- the headers, behind what is over
pub returns-in_default-clause-comes : goal.returns-in_default-clause-comes
returns-in_default-clause-comes g c =
    let looks = ap (λ (w : WantingValue). w.checking) c.see_headers.ensures in
    let purges = c.in_ok-purge.ensures.purged in
    record {
      same_config = c.take.ensures.config;
      checked = received_comes c.args.self.now.link.config c.config-3.result.now c.args.packet.now.link c.args.self.now.terms.within
          c.args.packet.now.moment c.moment-now.result c.args.packet.now.number c.args.packet.now.frame.now _ c.args.self.now.link
          c.take.new.self.link c.args.self.now.queries c.see_headers.new.queries c.take.new.self.queries
          c.in_default.ensures c.config-3.ensures c.moment-now.ensures.same
          (headers_left _ _ _ _ _ _ _ _ _ _ _ _ _ (c.config-2.ensures ∙ sym c.config-3.ensures)
          (ap (λ (w : WantingValue). w.checking) c.judge.ensures) purges looks)
          (ap (λ (w : WantingValue). w.basis) c.see_headers.ensures ∙ c.in_ok-purge.ensures.basis ∙ ap (λ (w : WantingValue). w.basis) c.judge.ensures)
          c.take.ensures.takes;
      tells = rw c.take.ensures.told
          (tells_as _ _ _ _ _ _ _ _ (told_judged _ _ _ _ _ _ c.judge.ensures c.moment-now.ensures.same) c.in_ok-purge.ensures.tells);
    }

pub returns-clause-comes : goal.returns-clause-comes
returns-clause-comes g c =
    let family = sym c.is_faultless.ensures.family ∙ ap (λ (k : Configuration). k.family) c.config.ensures in
    let looks = ap (λ (w : WantingValue). w.checking) c.see_headers.ensures in
    let purges = c.in_ok-purge.ensures.purged in
    record {
      same_config = refl;
      checked = seen_comes c.args.self.now.link.config c.config-3.result.now c.args.self.now.link.config c.args.packet.now.link
          c.args.self.now.terms.within c.args.packet.now.moment c.moment-now.result c.args.packet.now.number _ c.args.packet.now.frame.now _ _
          g.F.Family.FAMILY c.args.self.now.link c.args.self.now.queries c.see_headers.new.queries c.see.new.self
          c.in-Some.ensures c.config-3.ensures c.moment-now.ensures.same
          (headers_left _ _ _ _ _ _ _ _ _ _ _ _ _ (c.config-2.ensures ∙ sym c.config-3.ensures)
          (ap (λ (w : WantingValue). w.checking) c.judge.ensures) purges looks)
          (ap (λ (w : WantingValue). w.basis) c.see_headers.ensures ∙ c.in_ok-purge.ensures.basis ∙ ap (λ (w : WantingValue). w.basis) c.judge.ensures)
          (ap (λ (w : WantingValue). w.basis) c.see.ensures ∙ ap (λ (w : WantingValue). w.basis) c.see_headers.ensures ∙ c.in_ok-purge.ensures.basis
          ∙ ap (λ (w : WantingValue). w.basis) c.judge.ensures)
          (ap (λ (w : WantingValue). w.checking) c.see.ensures) refl c.destination-to.ensures family;
      tells = tells_as _ _ _ _ _ _ _ _ (told_judged _ _ _ _ _ _ c.judge.ensures c.moment-now.ensures.same) c.in_ok-purge.ensures.tells;
    }
