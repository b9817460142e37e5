use Rattle.mq_examples.proofs.Common.{false, [], ◌∷◌, None, refl, arith, nat_tests, gets, members, Allow, Block, default_timing, until, change_of, Include}
use Rattle.mq_examples.proofs.Common.{Running, group_in, naming, blocked, refreshed, get-by_rule, get-kept, held_or_vacant-some, same_group, no_schedule}
use Rattle.mq_examples.proofs.Explicit.{change_leaves, change_sends, known_sends}
use Rattle.mq_examples.proofs.schedules.a_source_refreshed.Goals as goal

pub returns : goal.returns
returns c = record {
  first_sending =
      change_sends 2000 (change_of default_timing 2000 (group_in Include ((1, until 261000) ∷ (2, until 261000) ∷ [])) Block (naming (1 ∷ 2 ∷ [])))
      no_schedule Include ((1, until 261000) ∷ (2, until 261000) ∷ []) false (1 ∷ 2 ∷ [])
      (same_group _ _ _ _ _ (λ s. grind (arith, nat_tests, get-by_rule, gets, members))) (λ s. grind (arith, nat_tests, gets, members))
      refl tt tt tt refl refl;
  refresh =
      change_leaves 2500 (change_of default_timing 2500 blocked.group Allow (naming (1 ∷ []))) blocked.schedule Include
      ((1, Running 262500 1) ∷ (2, Running 4000 1) ∷ []) false []
      (same_group _ _ _ _ _ (λ s. grind (arith, nat_tests, get-by_rule, gets, members))) (λ s. grind (arith, nat_tests, gets, members)) refl tt;
  second_sending = known_sends 3000 Include ((1, Running 262500 1) ∷ (2, Running 4000 1) ∷ []) None None refreshed.schedule tt tt refl refl;
  end = held_or_vacant-some _ _ None None 1 (Running 262500 0) (simp gets) (λ s. grind (arith, nat_tests, get-kept, gets));
  blocked_again =
      change_leaves 2500 (change_of default_timing 2500 blocked.group Block (naming (1 ∷ 2 ∷ []))) blocked.schedule Include
      ((1, Running 4000 1) ∷ (2, Running 4000 1) ∷ []) false (1 ∷ 2 ∷ [])
      (same_group _ _ _ _ _ (λ s. grind (arith, nat_tests, get-by_rule, gets, members))) (λ s. grind (arith, nat_tests, gets, members)) refl tt;
}
