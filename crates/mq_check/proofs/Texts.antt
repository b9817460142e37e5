-- Texts that are put together.
use Rattle.mq_check.proofs.Common.{◌≡◌, refl, ℕ, List, ◌++◌, append_assoc}

pub three_parts : (old a b c : List ℕ) → old ++ a ++ b ++ c ≡ old ++ (a ++ b ++ c)
three_parts old a b c = simp append_assoc refl

pub four_parts : (old a b c d : List ℕ) → old ++ a ++ b ++ c ++ d ≡ old ++ (a ++ b ++ c ++ d)
four_parts old a b c d = simp append_assoc refl

pub five_parts : (old a b c d e : List ℕ) → old ++ a ++ b ++ c ++ d ++ e ≡ old ++ (a ++ b ++ c ++ d ++ e)
five_parts old a b c d e = simp append_assoc refl

pub six_parts : (old a b c d e f : List ℕ) → old ++ a ++ b ++ c ++ d ++ e ++ f ≡ old ++ (a ++ b ++ c ++ d ++ e ++ f)
six_parts old a b c d e f = simp append_assoc refl
