-- Memory for parts and for the object after them.
use Rattle.mq_c.proofs.Common.{◌≡◌, ℕ, ◌+◌, ◌<◌, ◌≤◌, arith}
use Rattle.std.proofs.Common.{max}
use Rattle.mq_arena.specs.{Blocks.size_of_block, Vectors.bytes_for}

-- memory without room for both is smaller than the stated size
pub too_small : (item parts told left : ℕ) → told ≡ parts → (parts + bytes_for item 1 ≤ left → ⊥) → left < size_of_block (told + bytes_for item 1)
too_small item parts told left same none =
    let less : left < parts + bytes_for item 1 = grind (arith, none) in
    omega (arith, same, less)

-- after the parts there is room for the object
pub has_room_left : (size parts old left : ℕ) → parts + bytes_for (max 1 size) 1 ≤ old → old + 1 ≤ left + 1 + parts → size ≤ left
unfolding bytes_for
has_room_left size parts old left fits taken = omega (arith, fits, taken)
