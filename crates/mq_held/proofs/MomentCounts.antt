-- The number of moments that are compared for the earliest one.
use Rattle.mq_held.proofs.Common.{ℕ, ◌+◌, ◌-◌, ◌≡◌, min, refl, arith, List, [], ◌∷◌, ◌++◌, length, Option, length-append, option_to_list, Spends, those_of}
use Rattle.mq_held.proofs.Common.{earliest_of}

-- one moment is the earliest, where there is one
pub one-earliest : (xs : List ℕ) → length (option_to_list (earliest_of xs)) ≡ min 1 (length xs)
one-earliest [] = refl
one-earliest (x ∷ xs) = omega arith

-- for the earliest of five, each but the first
pub compared-five : (a b c d e : Option ℕ)
    → let hosts = earliest_of (option_to_list b ++ option_to_list c) in
    let timers = earliest_of (option_to_list a ++ option_to_list hosts) in
    let queries = earliest_of (option_to_list d ++ option_to_list e) in
    (length (option_to_list b ++ option_to_list c) - 1) + (length (option_to_list a ++ option_to_list hosts) - 1) +
    (length (option_to_list d ++ option_to_list e) - 1) + (length (option_to_list timers ++ option_to_list queries) - 1)
    ≡ length (those_of (a ∷ b ∷ c ∷ d ∷ e ∷ [])) - 1
compared-five a b c d e =
    let l : Option ℕ → List ℕ = option_to_list in
    let hosts = l b ++ l c in
    let timers = l a ++ l (earliest_of hosts) in
    let queries = l d ++ l e in
    omega (
      arith,
      length-append (l b) (l c),
      length-append (l a) (l (earliest_of hosts)),
      length-append (l d) (l e),
      length-append (l (earliest_of timers)) (l (earliest_of queries)),
      one-earliest hosts,
      one-earliest timers,
      one-earliest queries,
      length-append (l a) (l b ++ (l c ++ (l d ++ (l e ++ [])))),
      length-append (l b) (l c ++ (l d ++ (l e ++ []))),
      length-append (l c) (l d ++ (l e ++ [])),
      length-append (l d) (l e ++ []),
      length-append (l e) [],
    )

-- for the earliest of those of a head and of a row, each but the first
pub compared-both : (head row : List ℕ) → (length head - 1) + (length (option_to_list (earliest_of head) ++ row) - 1) ≡ length (head ++ row) - 1
compared-both head row =
    omega (arith, length-append head row, length-append (option_to_list (earliest_of head)) row, one-earliest head)

-- no fewer than one count says, and no more than another
pub Spends-both : {low high low-2 high-2 old new : ℕ} → Spends low high old new → Spends low-2 high-2 old new → Spends low high-2 old new
Spends-both first second = record { at_least = first.at_least; at_most = second.at_most }
