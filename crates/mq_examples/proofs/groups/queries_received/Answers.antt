use Rattle.mq_examples.proofs.Common.{◌∙◌, [], ◌∷◌, arith, nat_tests, gets, members, Include, default_timing, until, group_in, naming, same_group}
use Rattle.mq_table.proofs.Lower.{timer_at-sources_lowered}
use Rattle.std.specs.FinSet as set
use Rattle.mq_examples.proofs.groups.queries_received.Goals as goal

pub returns-clause-source : goal.returns-clause-source
returns-clause-source c = same_group _ _ _ _ _ (λ s.
    timer_at-sources_lowered default_timing 5000 (set.contains (naming (1 ∷ 3 ∷ []))) (group_in Include ((1, until 261000) ∷ (2, until 261000) ∷ [])) s
    ∙ grind (arith, nat_tests, gets, members))

pub returns-clause-source_sooner : goal.returns-clause-source_sooner
returns-clause-source_sooner c = same_group _ _ _ _ _ (λ s.
    timer_at-sources_lowered default_timing 5000 (set.contains (naming (1 ∷ []))) (group_in Include ((1, until 6000) ∷ [])) s
    ∙ grind (arith, nat_tests, gets, members))
