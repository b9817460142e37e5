-- Memory that is taken twice.
use Rattle.mq_arena.proofs.Common.{ℕ, ◌+◌, ◌≡◌, Bool, true, false, refl, arith, Takes, Result, is_ok, Ok, Err}
use Rattle.std.specs.Prelude.{IsErr}

-- the first granted request is taken, and then that of the second
pub both : {a b old between new : ℕ} {is_granted : Bool} → Takes a old between true → Takes b between new is_granted → Takes (a + b) old new is_granted
both first second =
    let had = first.taken refl in
    record { granted = λ fits. second.granted (omega (arith, had, fits)); taken = λ is. let more = second.taken is in omega (arith, had, more) }

-- where the first isn't granted, neither are both
pub neither : {a old between new : ℕ} (b : ℕ) → Takes a old between false → Takes (a + b) old new false
neither {a} {old} b first = record { granted = λ fits. first.granted (omega (arith, fits)); taken = λ is. search (arith, is) }

-- the taken memory, by a result
pub refused : {T E : Type 0} {a old new : ℕ} (r : Result T E) → IsErr r → Takes a old new false → Takes a old new (is_ok r)
refused (Ok x) is none = absurd (let never : false ≡ true = is in cc)
refused (Err e) is none = none
