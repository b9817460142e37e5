use Rattle.mq_check.proofs.Common.{ap, sym, ◌∙◌, Configuration, WantingValue}
use Rattle.mq_check.specs.Basis.{basis_at_start, named, variables_in}
use Rattle.mq_check.proofs.running_check.Check.new.Goals as goal

pub returns-clause-starts : goal.returns-clause-starts
returns-clause-starts g c =
    let checking = ap (λ (w : WantingValue). w.checking) c.new-queries.ensures ∙ c.requires.starts in
    let family = sym c.is_faultless.ensures.family ∙ ap (λ (k : Configuration). k.family) c.config.ensures in
    let variables = c.of-variables.ensures ∙ ap variables_in c.config-2.ensures in
    let own = c.own-own.ensures ∙ ap (λ (k : Configuration). k.own) c.config-3.ensures in
    let basis = ap (λ (w : WantingValue). w.basis) c.new-queries.ensures ∙ (λ i. basis_at_start (variables i) (named (family i) (own i))) in
    λ i. record { link = c.requires.link_starts i; checking = checking i; basis = basis i }
