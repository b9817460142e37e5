-- The number of the answered bytes, which has 64 bits.
use Rattle.mq_c.proofs.Common.{ℕ, ◌+◌, ◌*◌, ◌/◌, ◌^◌, ◌<◌, ◌≤◌, arith}
use Rattle.std.proofs.Math.Nat.{div-le_self, mul-le-mul}

-- the bytes of queries and addresses
two_products : (head queries width asked : ℕ) → head ≤ 2 ^ 10 → queries ≤ 2 ^ 40 → width ≤ 2 ^ 8 → asked ≤ 2 ^ 40 → head * queries + width * asked < 2 ^ 64
two_products head queries width asked few_bytes few narrow small =
    let first = mul-le-mul few_bytes few in
    let second = mul-le-mul narrow small in
    omega (arith, first, second)

pub told_in_64 : (width head per_query longest asking sources scheduled : ℕ) → width < 2 ^ 8 → head < 2 ^ 8 → longest < 2 ^ 32 →
    asking ≤ 1 + longest / (4 + width) → sources < 2 ^ 32 → scheduled < 2 ^ 32
    → (width + 2 + head) * (1 + 2 * scheduled + 3 * asking + (sources + 4 * (sources + longest / width)) / per_query) + width *
    (sources + 4 * (sources + longest / width)) < 2 ^ 64
told_in_64 width head per_query longest asking sources scheduled narrow short small few few_sources few_schedules =
    let asked = sources + 4 * (sources + longest / width) in
    let named = div-le_self longest width in
    let records = div-le_self longest (4 + width) in
    let few_asked : asked ≤ 2 ^ 36 = omega (arith, named, small, few_sources) in
    let full = div-le_self asked per_query in
    two_products (width + 2 + head) (1 + 2 * scheduled + 3 * asking + asked / per_query) width asked
    (omega (arith, narrow, short)) (omega (arith, few, records, small, few_schedules, full, few_asked)) (omega (arith, narrow)) (omega (arith, few_asked))
