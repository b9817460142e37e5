-- The names of lists of no source and of one source.
use Rattle.mq_link.proofs.Common.{◌≡◌, ℕ, false, List, [], ◌∷◌, ap, ◌∙◌, or-false, nat_cmp, eq_by_cmp, nat_cmp_total, named_in}
use Rattle.std.specs.FinSet as set

pub names-none : {K : Type 0} (number : K → ℕ) (xs : List K) → xs ≡ [] → (s : ℕ) → set.contains (named_in number xs) s ≡ false
names-none number xs none s = ap (λ ys. set.contains (named_in number ys) s) none ∙ set.contains-from_list nat_cmp_total [] s

pub names-one : {K : Type 0} (number : K → ℕ) (xs : List K) (x : K) → xs ≡ x ∷ [] → (s : ℕ) → set.contains (named_in number xs) s
    ≡ eq_by_cmp nat_cmp s (number x)
names-one number xs x one s = ap (λ ys. set.contains (named_in number ys) s) one ∙ set.contains-from_list nat_cmp_total (number x ∷ []) s ∙
    or-false (eq_by_cmp nat_cmp s (number x))
