use Rattle.mq_laws.proofs.Common.{◌≡◌, ◌+◌, ◌∙◌, ℕ, true, false, List, [], ◌∷◌, ◌++◌, length, refl, ap, sym, arith, Finding, Additions, certain_in}
use Rattle.mq_laws.proofs.Common.{finding_lines, possible_in, Family}
use Rattle.mq_check.specs.FindingLines.{finding_line, is_possible}
use Rattle.mq_laws.proofs.checks.possible_findings_stand_apart.Goals as goal

parted : (found : List (Finding ℕ)) → length found ≡ length (certain_in found) + length (possible_in found)
parted [] = refl
parted (f ∷ fs) =
    let rest = parted fs in
    elim (is_possible f) as (λ b. is_possible f ≡ b → length (f ∷ fs) ≡ length (certain_in (f ∷ fs)) + length (possible_in (f ∷ fs))) [
      | true ↦ λ is. rw is (omega (arith, rest))
      | false ↦ λ is. rw is (omega (arith, rest))
    ] refl

pub returns-clause-parted : goal.returns-clause-parted
returns-clause-parted c = parted

-- a certain finding stays
kept : (f : Finding ℕ) (fs : List (Finding ℕ)) → is_possible f ≡ false → certain_in (f ∷ fs) ≡ f ∷ certain_in fs
kept f fs is = rw is refl

-- a possible finding goes, and has no line unless it is asked for
gone : (f : Finding ℕ) (fs : List (Finding ℕ)) → is_possible f ≡ true → certain_in (f ∷ fs) ≡ certain_in fs
gone f fs is = rw is refl

silent : (family : Family) (additions : Additions) (f : Finding ℕ) → is_possible f ≡ true → additions.possible ≡ false
    → finding_line family additions f ≡ []
silent family additions f is off = rw (is, off) refl

unasked : (family : Family) (additions : Additions) (found : List (Finding ℕ)) → additions.possible ≡ false
    → finding_lines family additions found ≡ finding_lines family additions (certain_in found)
unasked family additions [] off = refl
unasked family additions (f ∷ fs) off =
    let rest = unasked family additions fs off in
    elim (is_possible f) as (λ b. is_possible f ≡ b → finding_lines family additions (f ∷ fs) ≡ finding_lines family additions (certain_in (f ∷ fs))) [
      | true ↦ λ is.
          ap (λ (text : List ℕ). text ++ finding_lines family additions fs) (silent family additions f is off) ∙ rest
          ∙ sym (ap (finding_lines family additions) (gone f fs is))
      | false ↦ λ is. ap (λ (text : List ℕ). finding_line family additions f ++ text) rest ∙ sym (ap (finding_lines family additions) (kept f fs is))
    ] refl

pub returns-clause-unasked : goal.returns-clause-unasked
returns-clause-unasked c = unasked
