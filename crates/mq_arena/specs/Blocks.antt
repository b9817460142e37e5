-- Blocks of memory: the size of a request, and the granted requests.
use Rattle.std.specs.Prelude.{ℕ, ◌+◌, ◌-◌, ◌*◌, ◌/◌, ◌≤◌, List, [], ◌∷◌, ⊤, ◌↔◌}

-- the bytes of the block for a request of n bytes: whole units of 16
abbrev pub size_of_block : ℕ → ℕ
size_of_block n = (n + 15) / 16 * 16

-- a request: a number of bytes, and their alignment
abbrev pub Request : Type 0
Request = ℕ × ℕ

-- a request is granted with `left` bytes left
abbrev pub Fits : ℕ → Request → Type 0
Fits left r = (r.0 ≤ left) × (r.1 ≤ 16)

-- the requests are granted in turn
abbrev pub GrantedInTurn : ℕ → List Request → Type 0
GrantedInTurn left [] = ⊤
GrantedInTurn left (r ∷ rs) = Fits left r × GrantedInTurn (left - size_of_block r.0) rs

-- the bytes of all their blocks
abbrev pub size_of_blocks : List Request → ℕ
size_of_blocks [] = 0
size_of_blocks (r ∷ rs) = size_of_block r.0 + size_of_blocks rs

-- no alignment is above 16
abbrev pub Aligned : List Request → Type 0
Aligned [] = ⊤
Aligned (r ∷ rs) = (r.1 ≤ 16) × Aligned rs

-- memory grants requests in turn exactly if no alignment is above 16 and it has the bytes of all blocks
abbrev pub GrantsInTurn : Type 0
GrantsInTurn = (units : ℕ) (rs : List Request) → GrantedInTurn (16 * units) rs ↔ (Aligned rs × (size_of_blocks rs ≤ 16 * units))
