-- Ticks at the next moments of a state, one after the other.
use Rattle.std.proofs.Common.{◌≡◌, ℕ, zero, suc, ◌<◌, ◌≤◌, true, false, refl, sym, ap, subst, ◌∙◌}
use Rattle.std.specs.Prelude.{nat_lt}
use Rattle.std.proofs.lemmas.Bool.{lt-ltb, le-ltb}
use Rattle.mq_walk.specs.Ticks.{ticked_within}

module _ {S : Type 0} (next : S → ℕ) (tick : S → S) where
  -- no tick is left where the next moment isn't before the limit, or one is
  pub none_within : (most limit : ℕ) (s : S) → limit ≤ next s → ticked_within next tick most limit s ≡ s
  unfolding ticked_within
  none_within zero limit s reached = refl
  none_within (suc most) limit s reached =
      ap (λ b. elim b [ true ↦ ticked_within next tick most limit (tick s) | false ↦ s ]) (le-ltb (next s) limit reached)

  pub one_within : (most limit : ℕ) (s : S) → next s < limit → ticked_within next tick (suc most) limit s ≡ ticked_within next tick most limit (tick s)
  unfolding ticked_within
  one_within most limit s due = ap (λ b. elim b [ true ↦ ticked_within next tick most limit (tick s) | false ↦ s ]) (lt-ltb (next s) limit due)

-- ticks of states that stand for others
pub through_within : {S U : Type 0} (next : S → ℕ) (tick : S → S) (next' : U → ℕ) (tick' : U → U) (f : S → U) → ((s : S) → next' (f s) ≡ next s) →
    ((s : S) → tick' (f s) ≡ f (tick s)) → (most limit : ℕ) (s : S) → ticked_within next' tick' most limit (f s) ≡ f (ticked_within next tick most limit s)
unfolding ticked_within
through_within next tick next' tick' f same_next same_tick zero limit s = refl
through_within next tick next' tick' f same_next same_tick (suc most) limit s =
    ap (λ (n : ℕ). elim (nat_lt n limit) [ true ↦ ticked_within next' tick' most limit (tick' (f s)) | false ↦ f s ]) (same_next s)
    ∙ elim (nat_lt (next s) limit) as (λ b. elim b [ true ↦ ticked_within next' tick' most limit (tick' (f s)) | false ↦ f s ]
    ≡ f (elim b [ true ↦ ticked_within next tick most limit (tick s) | false ↦ s ])) [
      | true ↦ ap (ticked_within next' tick' most limit) (same_tick s) ∙ through_within next tick next' tick' f same_next same_tick most limit (tick s)
      | false ↦ refl
    ]

-- a fact that each tick keeps stays
pub kept_within : {S : Type 0} (next : S → ℕ) (tick : S → S) (P : S → Type 0) → ((s : S) → P s → P (tick s)) → (most limit : ℕ) (s : S) → P s →
    P (ticked_within next tick most limit s)
kept_within {S} next tick P keeps most limit s is =
    let tick' : (u : S) × P u → (u : S) × P u = λ u. (tick u.0, keeps u.0 u.1) in
    subst P (sym (through_within (λ u. next u.0) tick' next tick (λ u. u.0) (λ u. refl) (λ u. refl) most limit (s, is)))
    (ticked_within (λ u. next u.0) tick' most limit (s, is)).1
