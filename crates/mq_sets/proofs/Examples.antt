-- Worked examples of the definitions.
use Rattle.mq_sets.proofs.Common.{ℕ, ◌≡◌, [], ◌∷◌, None, Some, refl, merged_lists, comparisons_along}

-- {1, 3, 5} and {2, 3, 6}: left 1, right 2, both 3, left 5, right 6
merged_example : merged_lists (λ (n : ℕ). n) (λ (n : ℕ). n) (1 ∷ 3 ∷ 5 ∷ []) (2 ∷ 3 ∷ 6 ∷ []) ≡ (Some 1, None) ∷ (None, Some 2) ∷ (Some 3, Some 3) ∷
    (Some 5, None) ∷ (None, Some 6) ∷ []
merged_example = refl

-- and it takes four comparisons
comparisons_example : comparisons_along (merged_lists (λ (n : ℕ). n) (λ (n : ℕ). n) (1 ∷ 3 ∷ 5 ∷ []) (2 ∷ 3 ∷ 6 ∷ [])) ≡ 4
comparisons_example = refl
