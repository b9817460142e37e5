use Rattle.mq_sched.proofs.Common.{ℕ, ◌*◌, ◌<◌, length, arith, refl, ap, ◌∙◌, length-replicate, nat_cmp}
use Rattle.std.specs.FinMap as map
use Rattle.mq_sched.proofs.deadlines.Deadlines.with_room.Goals as goal

pub invariant_of-result : goal.invariant_of-result
invariant_of-result g c =
    let none : (leaf : ℕ) → leaf < 2 * 0 → ⊥ = λ leaf below. omega (arith, below) in
    rw (c.in_ok-with_room.ensures.tree, c.in_ok-with_capacity.ensures.room.0) (
      record { size = refl; below = λ leaf from below. absurd (none leaf below); leaf = λ leaf from below. absurd (none leaf below) },
      map.len-empty nat_cmp ℕ,
      refl,
      omega arith,
      ap length c.in_ok-filled.ensures.items ∙ length-replicate c.args.room 0,
      c.requires.numbered,
      omega (arith, c.in_ok-with_capacity.ensures.room.1),
    )
