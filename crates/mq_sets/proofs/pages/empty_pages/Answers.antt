use Rattle.mq_sets.proofs.Common.{arith, refl, ◌≡◌, ℕ, ◌+◌, ◌*◌, ◌≤◌, bytes_for, common_steps}
use Rattle.std.proofs.Math.Nat.{mul-le-mul_right}
use Rattle.mq_sets.proofs.pages.empty_pages.Goals as goal

one_more : (i b : ℕ) → (i + 1) * b ≡ i * b + b
one_more i b = omega arith

pub returns-in_err-with_capacity-clause-memory : goal.returns-in_err-with_capacity-clause-memory
returns-in_err-with_capacity-clause-memory g c =
    let one_page = bytes_for 2 511 in
    let more = one_more c.loop.counter one_page in
    let within : (c.loop.counter + 1) * one_page ≤ c.args.count * one_page = mul-le-mul_right one_page (omega arith) in
    grind (arith, common_steps)

pub loop-preserved : goal.loop-preserved
loop-preserved g c =
    let more = one_more c.loop.counter (bytes_for 2 511) in
    let taken = c.in_ok-with_capacity.ensures.memory.taken refl in (
      grind (arith, c.in_ok-push.ensures.items, c.in_ok-with_capacity.ensures.room),
      grind (arith, common_steps, c.in_ok-push.ensures.items),
      grind (arith, c.in_ok-push.ensures.capacity),
      omega (arith, taken, more),
    )
