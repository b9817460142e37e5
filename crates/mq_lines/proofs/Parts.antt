-- Texts of several parts.
use Rattle.mq_lines.proofs.Common.{◌≡◌, ℕ, List, ◌++◌, ◌∙◌, ap, append_assoc}

pub three_parts : (t a b c : List ℕ) → t ++ a ++ b ++ c ≡ t ++ (a ++ b ++ c)
three_parts t a b c = ap (λ (x : List ℕ). x ++ c) (append_assoc t a b) ∙ append_assoc t (a ++ b) c

pub four_parts : (t a b c d : List ℕ) → t ++ a ++ b ++ c ++ d ≡ t ++ (a ++ b ++ c ++ d)
four_parts t a b c d = ap (λ (x : List ℕ). x ++ d) (three_parts t a b c) ∙ append_assoc t (a ++ b ++ c) d

pub five_parts : (t a b c d e : List ℕ) → t ++ a ++ b ++ c ++ d ++ e ≡ t ++ (a ++ b ++ c ++ d ++ e)
five_parts t a b c d e = ap (λ (x : List ℕ). x ++ e) (four_parts t a b c d) ∙ append_assoc t (a ++ b ++ c ++ d) e

pub six_parts : (t a b c d e f : List ℕ) → t ++ a ++ b ++ c ++ d ++ e ++ f ≡ t ++ (a ++ b ++ c ++ d ++ e ++ f)
six_parts t a b c d e f = ap (λ (x : List ℕ). x ++ f) (five_parts t a b c d e) ∙ append_assoc t (a ++ b ++ c ++ d ++ e) f
