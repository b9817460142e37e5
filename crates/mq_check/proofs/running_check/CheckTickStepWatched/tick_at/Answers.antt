use Rattle.mq_check.proofs.Common.{ap, refl, ◌∙◌, err_from_is_err_and, ticked, purged, WantingValue}
use Rattle.mq_check.proofs.{CheckedPackets.told_judged, Tellings.broken_as, Tellings.tells_as}
use Rattle.mq_check.proofs.running_check.CheckTickStepWatched.tick_at.Goals as goal

pub returns-in_err-purge-clause-effect : goal.returns-in_err-purge-clause-effect
returns-in_err-purge-clause-effect g c =
    let p = err_from_is_err_and c.from_residual.result c.from_residual.ensures.1 in
    rw p.1 (record {
      same_terms = refl;
      comes = record {
        same_config = refl;
        checked = tt;
        tells = broken_as _ _ _ _ _ _ _ _ (tells_as _ _ _ _ _ _ _ _ (told_judged _ _ _ _ _ _ c.judge.ensures refl) c.in_err-purge.ensures.tells);
      };
    })

pub returns-clause-effect : goal.returns-clause-effect
returns-clause-effect g c = record {
  same_terms = c.tick.ensures.terms;
  comes = record {
    same_config = c.tick.ensures.config;
    checked = c.tick.ensures.ticks ∙ (λ i. ticked c.args.self.now.link.config c.args.self.now.terms.within c.args.moment (record {
      link = c.args.self.now.link.state;
      checking = (c.in_ok-purge.ensures.purged ∙ ap (λ (w : WantingValue). purged c.args.moment w.checking) c.judge.ensures) i;
      basis = (c.in_ok-purge.ensures.basis ∙ ap (λ (w : WantingValue). w.basis) c.judge.ensures) i;
    }));
    tells = rw c.tick.ensures.told (tells_as _ _ _ _ _ _ _ _ (told_judged _ _ _ _ _ _ c.judge.ensures refl) c.in_ok-purge.ensures.tells);
  };
}
