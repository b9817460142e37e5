-- Requests that are granted in turn, where so many bytes are left as their blocks take.
use Rattle.mq_arena.proofs.Common.{◌≡◌, ℕ, ◌+◌, ◌-◌, ◌*◌, ◌≤◌, List, [], ◌∷◌, subst, sym, arith, size_of_block}
use Rattle.std.proofs.Common.{◌/◌}
use Rattle.mq_arena.specs.Blocks.{Request, GrantedInTurn, size_of_blocks, Aligned}

-- the units that are left once a block was taken
left : (units : ℕ) (n : ℕ) → 16 * units - size_of_block n ≡ 16 * (units - (n + 15) / 16)
left units n = omega arith

-- the rest after a request that fits
whole : (units : ℕ) (n m : ℕ) → n ≤ 16 * units → m ≤ 16 * (units - (n + 15) / 16) → size_of_block n + m ≤ 16 * units
whole units n m fits rest = omega arith

rest : (units : ℕ) (n m : ℕ) → size_of_block n + m ≤ 16 * units → m ≤ 16 * (units - (n + 15) / 16)
rest units n m enough = omega arith

first : (units : ℕ) (n m : ℕ) → size_of_block n + m ≤ 16 * units → n ≤ 16 * units
first units n m enough = omega arith

pub granted-enough : (units : ℕ) (rs : List Request) → GrantedInTurn (16 * units) rs → Aligned rs × (size_of_blocks rs ≤ 16 * units)
granted-enough units [] g = (tt, omega arith)
granted-enough units (r ∷ rs) g =
    let next : GrantedInTurn (16 * (units - (r.0 + 15) / 16)) rs = subst (λ (k : ℕ). GrantedInTurn k rs) (left units r.0) g.1 in
    let after = granted-enough (units - (r.0 + 15) / 16) rs next in
    ((g.0.1, after.0), whole units r.0 (size_of_blocks rs) g.0.0 after.1)

pub enough-granted : (units : ℕ) (rs : List Request) → Aligned rs → size_of_blocks rs ≤ 16 * units → GrantedInTurn (16 * units) rs
enough-granted units [] a e = tt
enough-granted units (r ∷ rs) a e =
    let next : GrantedInTurn (16 * (units - (r.0 + 15) / 16)) rs = enough-granted (units - (r.0 + 15) / 16) rs a.1 (rest units r.0 (size_of_blocks rs) e) in
    ((first units r.0 (size_of_blocks rs) e, a.0), subst (λ (k : ℕ). GrantedInTurn k rs) (sym (left units r.0)) next)
