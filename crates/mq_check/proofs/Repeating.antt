-- Reported findings of two lists, one after the other.
use Rattle.mq_check.proofs.Common.{◌≡◌, ℕ, Bool, true, false, List, [], ◌∷◌, ◌++◌, refl, ap, ◌∙◌, Finding, LastDifferences, is_left_out, reported, unless}
use Rattle.mq_check.proofs.Common.{with_finding, with_findings}

-- the state after both lists
pub last_of_both : (xs ys : List (Finding ℕ)) (last : LastDifferences) → with_findings (xs ++ ys) last ≡ with_findings ys (with_findings xs last)
last_of_both [] ys last = refl
last_of_both (x ∷ xs) ys last = last_of_both xs ys (with_finding x last)

unless_before : (is_left_out : Bool) (x : Finding ℕ) (xs ys : List (Finding ℕ)) → unless is_left_out x (xs ++ ys) ≡ unless is_left_out x xs ++ ys
unless_before true x xs ys = refl
unless_before false x xs ys = refl

-- the reported ones of both lists
pub reported_of_both : (once : Bool) (xs ys : List (Finding ℕ)) (last : LastDifferences) → reported once last (xs ++ ys) ≡ reported once last xs ++
    reported once (with_findings xs last) ys
reported_of_both once [] ys last = refl
reported_of_both once (x ∷ xs) ys last =
    ap (unless (is_left_out once last x) x) (reported_of_both once xs ys (with_finding x last))
    ∙ unless_before (is_left_out once last x) x (reported once (with_finding x last) xs) (reported once (with_findings xs (with_finding x last)) ys)
