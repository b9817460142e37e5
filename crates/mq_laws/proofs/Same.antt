-- Equality of the subjects that two queries ask about.
use Rattle.mq_laws.proofs.Common.{◌≡◌, ℕ, true, false, refl, ap, sym, ◌∙◌, and_parts, and_from, eqb-true, eq-eqb, Asked, AllGroups, Group, Source, is_same}

pub is_same-self : (a : Asked ℕ) → is_same a a ≡ true
is_same-self AllGroups = refl
is_same-self (Group g) = eq-eqb g g refl
is_same-self (Source g s) = and_from _ _ (eq-eqb g g refl) (eq-eqb s s refl)

pub same_asked : (a b : Asked ℕ) → is_same a b ≡ true → a ≡ b
same_asked AllGroups AllGroups is = refl
same_asked (Group g) (Group g') is = ap Group (eqb-true g g' is)
same_asked (Source g s) (Source g' s') is = let both = and_parts _ _ is in λ i. Source (eqb-true g g' both.0 i) (eqb-true s s' both.1 i)
same_asked _ _ is = cc

pub other_than : (a b c : Asked ℕ) → is_same a b ≡ true → is_same c a ≡ false → is_same c b ≡ false
other_than a b c same other = ap (is_same c) (sym (same_asked a b same)) ∙ other
