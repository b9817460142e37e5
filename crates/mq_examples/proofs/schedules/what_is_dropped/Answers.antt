use Rattle.mq_examples.proofs.Common.{false, [], ◌∷◌, refl, ap, ◌∙◌, arith, nat_tests, gets, members, IsEx, Block, Include, Exclude, Stopped, Running}
use Rattle.mq_examples.proofs.Common.{default_timing, until, change_of, source_cleared, group_in, naming, included, blocked, get-by_rule, keys-from_entries}
use Rattle.mq_examples.proofs.Common.{kept-from_entries, same_group, no_schedule, after_change}
use Rattle.mq_examples.proofs.Explicit.{change_is, change_leaves}
use Rattle.mq_examples.proofs.schedules.what_is_dropped.Goals as goal

pub returns : goal.returns
returns c = record {
  not_querier =
      ap (λ x. after_change false default_timing 1000 x no_schedule) (change_is (change_of default_timing 1000 included Block (naming (2 ∷ 3 ∷ [])))
      (group_in Include ((1, until 260000) ∷ (2, until 260000) ∷ [])) false (2 ∷ [])
      (same_group _ _ _ _ _ (λ s. grind (arith, nat_tests, get-by_rule, gets, members))) (λ s. grind (arith, nat_tests, gets, members)) refl)
      ∙ rw (keys-from_entries ((1, until 260000) ∷ (2, until 260000) ∷ []) tt) (simp gets);
  role_lost = rw (kept-from_entries (λ _. source_cleared) ((1, Running 4000 1) ∷ (2, Stopped) ∷ [])) refl;
  sources_gone =
      change_leaves 2500 (change_of default_timing 2500 blocked.group IsEx (naming (3 ∷ []))) blocked.schedule (Exclude 262500) ((3, Stopped) ∷ []) false []
      (same_group _ _ _ _ _ (λ s. grind (arith, nat_tests, get-by_rule, gets, members))) (λ s. grind (arith, nat_tests, gets, members)) refl tt;
  group_included = rw (keys-from_entries ((1, Running 9000 1) ∷ []) tt) (simp gets);
}
