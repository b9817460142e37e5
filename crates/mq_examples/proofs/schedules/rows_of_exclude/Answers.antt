use Rattle.mq_examples.proofs.Common.{true, false, [], ◌∷◌, refl, arith, nat_tests, gets, members, IsIn, IsEx, ToIn, ToEx, Allow, Block, Exclude, Stopped}
use Rattle.mq_examples.proofs.Common.{until, excluded, at_1000, get-by_rule, same_group, no_schedule}
use Rattle.mq_examples.proofs.Explicit.{change_sends}
use Rattle.mq_examples.proofs.schedules.rows_of_exclude.Goals as goal

pub returns : goal.returns
returns c = record {
  is_in =
      change_sends 1000 (at_1000 excluded IsIn (2 ∷ 3 ∷ 4 ∷ [])) no_schedule (Exclude 260000)
      ((1, until 260500) ∷ (2, until 261000) ∷ (3, until 261000) ∷ (4, until 261000) ∷ []) false []
      (same_group _ _ _ _ _ (λ s. grind (arith, nat_tests, get-by_rule, gets, members))) (λ s. grind (arith, nat_tests, gets, members))
      refl tt tt tt refl refl;
  is_ex =
      change_sends 1000 (at_1000 excluded IsEx (2 ∷ 3 ∷ 4 ∷ [])) no_schedule (Exclude 261000)
      ((2, Stopped) ∷ (3, until 261000) ∷ (4, until 260500) ∷ []) false []
      (same_group _ _ _ _ _ (λ s. grind (arith, nat_tests, get-by_rule, gets, members))) (λ s. grind (arith, nat_tests, gets, members))
      refl tt tt tt refl refl;
  allow =
      change_sends 1000 (at_1000 excluded Allow (2 ∷ 3 ∷ 4 ∷ [])) no_schedule (Exclude 260000)
      ((1, until 260500) ∷ (2, until 261000) ∷ (3, until 261000) ∷ (4, until 261000) ∷ []) false []
      (same_group _ _ _ _ _ (λ s. grind (arith, nat_tests, get-by_rule, gets, members))) (λ s. grind (arith, nat_tests, gets, members))
      refl tt tt tt refl refl;
  block =
      change_sends 1000 (at_1000 excluded Block (2 ∷ 3 ∷ 4 ∷ [])) no_schedule (Exclude 260000)
      ((1, until 260500) ∷ (2, Stopped) ∷ (3, until 260000) ∷ (4, until 260500) ∷ []) false (3 ∷ 4 ∷ [])
      (same_group _ _ _ _ _ (λ s. grind (arith, nat_tests, get-by_rule, gets, members))) (λ s. grind (arith, nat_tests, gets, members))
      refl tt tt tt refl refl;
  to_ex =
      change_sends 1000 (at_1000 excluded ToEx (2 ∷ 3 ∷ 4 ∷ [])) no_schedule (Exclude 261000)
      ((2, Stopped) ∷ (3, until 260000) ∷ (4, until 260500) ∷ []) false (3 ∷ 4 ∷ [])
      (same_group _ _ _ _ _ (λ s. grind (arith, nat_tests, get-by_rule, gets, members))) (λ s. grind (arith, nat_tests, gets, members))
      refl tt tt tt refl refl;
  to_in =
      change_sends 1000 (at_1000 excluded ToIn (2 ∷ 3 ∷ 4 ∷ [])) no_schedule (Exclude 260000)
      ((1, until 260500) ∷ (2, until 261000) ∷ (3, until 261000) ∷ (4, until 261000) ∷ []) true (1 ∷ [])
      (same_group _ _ _ _ _ (λ s. grind (arith, nat_tests, get-by_rule, gets, members))) (λ s. grind (arith, nat_tests, gets, members))
      refl tt tt tt refl refl;
}
