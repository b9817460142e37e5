-- Ticks between packets, at the next moments of a state.
use Rattle.std.specs.Prelude.{◌≡◌, ◌<◌, ◌≤◌, ℕ, zero, suc, nat_lt, true, false, Result, Ok, Err}

-- The state after ticks at its next moments, while these are before a limit. There are at most `most`.
unfoldable pub ticked_within : {X : Type 0} → (next : X → ℕ) → (tick : X → X) → (most limit : ℕ) → X → X
ticked_within next tick zero limit x = x
ticked_within next tick (suc most) limit x =
    elim (nat_lt (next x) limit) [
      | true ↦ ticked_within next tick most limit (tick x)
      | false ↦ x
    ]

-- The state after all ticks before a limit. After each the next moment is later, so there are at most as many as moments
-- before the limit.
abbrev pub ticked_before : {X : Type 0} → (next : X → ℕ) → (tick : X → X) → (limit : ℕ) → X → X
ticked_before next tick limit x = ticked_within next tick limit limit x

-- `count` ticks happened, each at the next moment of its state, which was before a limit. After each the next moment was
-- later. Then no tick was left before the limit, or the next one failed. `ticks` states the effect of a tick at a moment.
abbrev pub TicksInTurn : {X E : Type 0} → (next : X → ℕ) → (ticks : ℕ → X → X → Result Unit E → Type 0) → (limit count : ℕ) → X → X → Result Unit E → Type 0
TicksInTurn next ticks limit zero old new (Ok u) = (new ≡ old) × (limit ≤ next old)
TicksInTurn next ticks limit zero old new (Err e) = (next old < limit) × ticks (next old) old new (Err e)
TicksInTurn {X} next ticks limit (suc n) old new r =
    (mid : X) × (next old < limit) × (next old < next mid) × ticks (next old) old mid (Ok tt) × TicksInTurn next ticks limit n mid new r

-- all ticks before a limit happened, or one of them failed, which was the last
abbrev pub TicksBefore : {X E : Type 0} → (next : X → ℕ) → (ticks : ℕ → X → X → Result Unit E → Type 0) → (limit : ℕ) → X → X → Result Unit E → Type 0
TicksBefore next ticks limit old new r = (count : ℕ) × TicksInTurn next ticks limit count old new r
