-- Sets of sources, each as the test for its members. RFC 3376 section 4.2.15 and RFC 3810 section 5.2.12
-- write A+B for A ∪ B, A*B for A ∩ B and A-B for A ∖ B.
use Rattle.std.specs.Prelude.{ℕ, Bool, false, not, ◌&&◌, ◌||◌}

abbrev pub Set : Type 0
Set = ℕ → Bool

abbrev pub ∅ : Set
∅ s = false

infixl 40 ◌∪◌
abbrev pub ◌∪◌ : Set → Set → Set
(A ∪ B) s = A s || B s

infixl 40 ◌∩◌
abbrev pub ◌∩◌ : Set → Set → Set
(A ∩ B) s = A s && B s

infixl 40 ◌∖◌
abbrev pub ◌∖◌ : Set → Set → Set
(A ∖ B) s = A s && not (B s)
