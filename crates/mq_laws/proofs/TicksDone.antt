-- The ticks before a limit leave none.
use Rattle.mq_laws.proofs.Common.{◌≡◌, ℕ, zero, suc, ◌+◌, ◌<◌, ◌≤◌, true, false, refl, arith, nat_lt, ltb-false, Configuration, IsFaultless, LinkState}
use Rattle.mq_laws.proofs.Common.{IsWellFormed, tick_of, next_of, Replayed, ticked_before, ticked_within}
use Rattle.mq_link.specs.Tick.{moment_of}
use Rattle.mq_replay.{specs.Report.ticked_at, proofs.Growing.next_in, proofs.Growing.tick_in}

-- the facts about ticks
abbrev pub KeepsForm : Type 0
KeepsForm = (config : Configuration) (now : ℕ) (state : LinkState) → IsFaultless config → IsWellFormed config state →
    IsWellFormed config (tick_of config now state).state

abbrev pub IsLaterThen : Type 0
IsLaterThen = (config : Configuration) (now : ℕ) (state : LinkState) → IsFaultless config → IsWellFormed config state →
    moment_of state now < next_of (tick_of config now state).state

formed_then : KeepsForm → (config : Configuration) (moment : ℕ) (r : Replayed) → IsFaultless config → IsWellFormed config r.link →
    IsWellFormed config (ticked_at config moment r).link
unfolding ticked_at
formed_then keeps config moment r faultless formed =
    let h = keeps config moment r.link faultless formed in
    record { groups = h.groups; within = h.within; timing = h.timing; silent = h.silent }

later_then : IsLaterThen → (config : Configuration) (moment : ℕ) (r : Replayed) → IsFaultless config → IsWellFormed config r.link →
    moment < next_of (ticked_at config moment r).link
unfolding ticked_at
later_then later config moment r faultless formed = let after = later config moment r.link faultless formed in omega (arith, after)

none_within : KeepsForm → IsLaterThen → (most : ℕ) (config : Configuration) (limit : ℕ) (r : Replayed) → IsFaultless config → IsWellFormed config r.link
    → limit ≤ most + next_of r.link → limit ≤ next_of (ticked_within next_in (tick_in config) most limit r).link
unfolding ticked_within
none_within keeps later zero config limit r faultless formed enough = omega (arith, enough)
none_within keeps later (suc most) config limit r faultless formed enough =
    elim (nat_lt (next_of r.link) limit) as (λ b.
    nat_lt (next_of r.link) limit ≡ b
    → limit ≤ next_of (elim b as (λ _. Replayed) [ true ↦ ticked_within next_in (tick_in config) most limit (tick_in config r) | false ↦ r ]).link) [
      | true ↦ λ due.
          let after = later_then later config (next_of r.link) r faultless formed in
          none_within keeps later most config limit (tick_in config r) faultless
          (formed_then keeps config (next_of r.link) r faultless formed) (omega (arith, enough, after))
      | false ↦ λ reached. ltb-false (next_of r.link) limit reached
    ] refl

pub none_before : KeepsForm → IsLaterThen → (config : Configuration) (limit : ℕ) (r : Replayed) → IsFaultless config → IsWellFormed config r.link →
    limit ≤ next_of (ticked_before config limit r).link
none_before keeps later config limit r faultless formed = none_within keeps later limit config limit r faultless formed (omega arith)
