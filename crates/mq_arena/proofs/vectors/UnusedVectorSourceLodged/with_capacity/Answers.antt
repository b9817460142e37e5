use Rattle.mq_arena.proofs.Common.{ℕ, ◌≡◌, ◌+◌, ◌*◌, ◌^◌, ◌<◌, ◌≤◌, true, false, Ok, Err, is_ok, arith, max, Result, IfOk, size_of_block, bytes_for}
use Rattle.std.proofs.Math.Nat.{mul-le-mul_left, le-mul_of_pos_right}
use Rattle.mq_arena.proofs.vectors.UnusedVectorSourceLodged.with_capacity.Goals as goal

-- an item of no bytes counts as one, so what suffices by that count suffices
suffices : (size count left : ℕ) → size_of_block (count * max 1 size) < left + 1 → left < 2 ^ 63 → (count * size ≤ left) × (count < 2 ^ 63)
suffices size count left fits small =
    let more : count * size ≤ count * max 1 size = mul-le-mul_left count (omega arith) in
    let some : count ≤ count * max 1 size = le-mul_of_pos_right {m = max 1 size} count (omega arith) in
    (omega (arith, more), omega (arith, some))

-- the rest after the request, if it was granted
is_left : {T E : Type 0} (r : Result T E) (size count old new : ℕ) → IfOk r (λ _. new + size_of_block (count * size) ≡ old) → is_ok r ≡ true
    → old + 1 ≤ new + 1 + size_of_block (count * max 1 size)
is_left (Ok x) size count old new left is =
    let more : count * size ≤ count * max 1 size = mul-le-mul_left count (omega arith) in
    omega (arith, more, left)
is_left (Err e) size count old new left is = absurd (let never : false ≡ true = is in cc)

pub returns-clause-memory : goal.returns-clause-memory
unfolding bytes_for
returns-clause-memory g c = record {
  granted = λ fits. c.vec_with_capacity.ensures.granted.1 (suffices _ c.args.capacity c.args.self.now fits c.vec_with_capacity.ensures.small);
  taken = is_left c.vec_with_capacity.result _ c.args.capacity c.args.self.now c.vec_with_capacity.new.self c.vec_with_capacity.ensures.taken;
}
