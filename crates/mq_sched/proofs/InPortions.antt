-- Lists in portions: what they are together, and how long each is.
use Rattle.mq_sched.proofs.Common.{◌≡◌, ℕ, zero, suc, ◌<◌, ◌≤◌, List, [], ◌∷◌, ◌++◌, length, take, drop, refl, ap, ◌∙◌, arith, length-drop, take-append-drop}
use Rattle.mq_sched.proofs.Common.{take_at, drop_at, length-append, length-take-le, concat, portions_within, portions_of, AllButLast}

shorter : (n most : ℕ) (x : ℕ) (xs : List ℕ) → 0 < n → length (x ∷ xs) ≤ suc most → length (drop n (x ∷ xs)) ≤ most
shorter n most x xs positive enough = omega (arith, length-drop n (x ∷ xs))

together_within : (most n : ℕ) (xs : List ℕ) → 0 < n → length xs ≤ most → concat (portions_within most n xs) ≡ xs
together_within most n [] positive enough = refl
together_within zero n (x ∷ xs) positive enough = absurd (omega arith)
together_within (suc most) n (x ∷ xs) positive enough =
    ap (λ ys. take n (x ∷ xs) ++ ys) (together_within most n (drop n (x ∷ xs)) positive (shorter n most x xs positive enough))
    ∙ take-append-drop n (x ∷ xs)

-- the portions, put together, are the list
pub together : (n : ℕ) (xs : List ℕ) → 0 < n → concat (portions_of n xs) ≡ xs
together n xs positive = together_within (length xs) n xs positive (omega arith)

first_full : (most n : ℕ) (xs ys : List ℕ) → (0 < length ys → length xs ≡ n) → AllButLast (λ portion. length portion ≡ n) (portions_within most n ys)
    → AllButLast (λ portion. length portion ≡ n) (xs ∷ portions_within most n ys)
first_full most n xs ys full rest = grind arith

full_within : (most n : ℕ) (xs : List ℕ) → AllButLast (λ portion. length portion ≡ n) (portions_within most n xs)
full_within most n [] = tt
full_within zero n (x ∷ xs) = tt
full_within (suc most) n (x ∷ xs) =
    first_full most n (take n (x ∷ xs)) (drop n (x ∷ xs))
    (λ more. length-take-le n (x ∷ xs) (omega (arith, more, length-drop n (x ∷ xs))))
    (full_within most n (drop n (x ∷ xs)))

-- each portion but the last is full
pub full : (n : ℕ) (xs : List ℕ) → AllButLast (λ portion. length portion ≡ n) (portions_of n xs)
full n xs = full_within (length xs) n xs

-- more portions are allowed than there are
same_within : (most more n : ℕ) (xs : List ℕ) → 0 < n → length xs ≤ most → length xs ≤ more → portions_within most n xs ≡ portions_within more n xs
same_within most more n [] positive enough also = refl
same_within zero more n (x ∷ xs) positive enough also = absurd (omega arith)
same_within (suc most) zero n (x ∷ xs) positive enough also = absurd (omega arith)
same_within (suc most) (suc more) n (x ∷ xs) positive enough also =
    ap (λ portions. take n (x ∷ xs) ∷ portions)
    (same_within most more n (drop n (x ∷ xs)) positive (shorter n most x xs positive enough) (shorter n more x xs positive also))

-- a full portion is the first, whatever follows
pub first_portion : (n : ℕ) (portion rest : List ℕ) → 0 < n → length portion ≡ n → portions_of n (portion ++ rest) ≡ portion ∷ portions_of n rest
first_portion n portion rest positive long = grind (arith, take_at, drop_at, same_within, length-append)
