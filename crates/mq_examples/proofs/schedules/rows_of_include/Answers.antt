use Rattle.mq_examples.proofs.Common.{false, [], ◌∷◌, refl, arith, nat_tests, gets, members, IsIn, IsEx, ToIn, ToEx, Allow, Block, Include, Exclude, Stopped}
use Rattle.mq_examples.proofs.Common.{until, included, at_1000, get-by_rule, same_group, no_schedule}
use Rattle.mq_examples.proofs.Explicit.{change_sends}
use Rattle.mq_examples.proofs.schedules.rows_of_include.Goals as goal

pub returns : goal.returns
returns c = record {
  is_in =
      change_sends 1000 (at_1000 included IsIn (2 ∷ 3 ∷ [])) no_schedule Include ((1, until 260000) ∷ (2, until 261000) ∷ (3, until 261000) ∷ []) false []
      (same_group _ _ _ _ _ (λ s. grind (arith, nat_tests, get-by_rule, gets, members))) (λ s. grind (arith, nat_tests, gets, members))
      refl tt tt tt refl refl;
  is_ex =
      change_sends 1000 (at_1000 included IsEx (2 ∷ 3 ∷ [])) no_schedule (Exclude 261000) ((2, until 260000) ∷ (3, Stopped) ∷ []) false []
      (same_group _ _ _ _ _ (λ s. grind (arith, nat_tests, get-by_rule, gets, members))) (λ s. grind (arith, nat_tests, gets, members))
      refl tt tt tt refl refl;
  allow =
      change_sends 1000 (at_1000 included Allow (2 ∷ 3 ∷ [])) no_schedule Include ((1, until 260000) ∷ (2, until 261000) ∷ (3, until 261000) ∷ []) false []
      (same_group _ _ _ _ _ (λ s. grind (arith, nat_tests, get-by_rule, gets, members))) (λ s. grind (arith, nat_tests, gets, members))
      refl tt tt tt refl refl;
  block =
      change_sends 1000 (at_1000 included Block (2 ∷ 3 ∷ [])) no_schedule Include ((1, until 260000) ∷ (2, until 260000) ∷ []) false (2 ∷ [])
      (same_group _ _ _ _ _ (λ s. grind (arith, nat_tests, get-by_rule, gets, members))) (λ s. grind (arith, nat_tests, gets, members))
      refl tt tt tt refl refl;
  to_ex =
      change_sends 1000 (at_1000 included ToEx (2 ∷ 3 ∷ [])) no_schedule (Exclude 261000) ((2, until 260000) ∷ (3, Stopped) ∷ []) false (2 ∷ [])
      (same_group _ _ _ _ _ (λ s. grind (arith, nat_tests, get-by_rule, gets, members))) (λ s. grind (arith, nat_tests, gets, members))
      refl tt tt tt refl refl;
  to_in =
      change_sends 1000 (at_1000 included ToIn (2 ∷ 3 ∷ [])) no_schedule Include ((1, until 260000) ∷ (2, until 261000) ∷ (3, until 261000) ∷ []) false (1 ∷ [])
      (same_group _ _ _ _ _ (λ s. grind (arith, nat_tests, get-by_rule, gets, members))) (λ s. grind (arith, nat_tests, gets, members))
      refl tt tt tt refl refl;
}
