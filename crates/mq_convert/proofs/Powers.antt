-- A count of units that are far below a nanosecond.
use Rattle.mq_convert.proofs.Common.{◌≡◌, ℕ, ◌-◌, ◌^◌, ◌<◌, ◌≤◌, refl, arith, lit<, pow-le-pow_right, div-eq_of_lt, lt-ltb}
use Rattle.mq_convert.specs.Moments.{nanoseconds}

-- one of 64 bits is less than a nanosecond, where the unit is 10 to the power of -29 seconds or less
pub far_below : (resolution count : ℕ) → count < 2 ^ 64 → 28 < resolution → resolution < 128 → 0 ≡ nanoseconds resolution count
unfolding nanoseconds
far_below resolution count fits far within =
    let a = lt-ltb resolution 128 within in
    let b = lt-ltb 9 resolution (omega arith) in
    let power : 10 ^ 20 ≤ 10 ^ (resolution - 9) = pow-le-pow_right {n = 10} (lit< tt) {i = 20} {j = resolution - 9} (omega arith) in
    let none = div-eq_of_lt {n = count} {m = 10 ^ (resolution - 9)} (omega arith) in
    rw (a, b, none) refl
