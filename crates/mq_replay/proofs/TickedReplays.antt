-- A replay in the code, and the ticks between packets.
use Rattle.mq_replay.proofs.Common.{◌≡◌, ℕ, ◌+◌, ◌<◌, ◌≤◌, Bool, ◌||◌, Result, Ok, Err, IfOk, is_err, refl, ap, sym, subst, ◌∙◌, arith, or-false, Configuration}
use Rattle.mq_replay.proofs.Common.{LinkState, tick_of, next_of, broken_within, nothing_passed, then_put, ticked_within, Asked, Replayed, ticked_at}
use Rattle.mq_replay.proofs.Common.{ReplayState, ReplaysTo, begun_with}
use Rattle.std.proofs.Common.{zero, suc}
use Rattle.mq_walk.{specs.Ticks.TicksInTurn, proofs.Ticking.none_within, proofs.Ticking.one_within}
use Rattle.mq_replay.specs.Steps.{ReplaysTick}
use Rattle.mq_replay.proofs.Growing.{as_behind, behind, next_in, tick_in, ticked_asked, within_behind}

-- after a tick the next moment is later
pub comes_later : {T E : Type 0} (asked : Asked) (config : Configuration) (before after : LinkState) (moment : ℕ) (r : Result T E) →
    ((m : ℕ) → m < next_of (tick_of config m before).state)
    → IfOk r (λ _. after ≡ (ticked_at config moment (begun_with asked before)).link) → IfOk r (λ _. moment < next_of after)
unfolding ticked_at
comes_later asked config before after moment (Ok x) later same = subst (λ (s : LinkState). moment < next_of s) (sym same) (later moment)
comes_later asked config before after moment (Err e) later same = tt

-- a tick, and then the others behind its text
abbrev rest_of : (most : ℕ) → Configuration → (limit : ℕ) → Replayed → Replayed
rest_of most config limit r = ticked_within next_in (tick_in config) most limit (begun_with r.asked r.link)

one_ticked : (most : ℕ) (config : Configuration) (limit : ℕ) (r : Replayed) → next_in r < limit →
    ticked_within next_in (tick_in config) (suc most) limit r ≡ behind (tick_in config r).text (rest_of most config limit (tick_in config r))
one_ticked most config limit r due =
    let next = tick_in config r in
    one_within next_in (tick_in config) most limit r due ∙ ap (ticked_within next_in (tick_in config) most limit) (sym (as_behind next))
    ∙ within_behind most config limit next.text (begun_with next.asked next.link)

module _ {X : Type 0} (state : X → ReplayState) where
  abbrev next_at : X → ℕ
  next_at x = next_of (state x).link.state

  abbrev ticks : {E : Type 0} → ℕ → X → X → Result Unit E → Type 0
  ticks moment x x' r = ReplaysTick moment (state x) (state x') r

  abbrev start : X → Replayed
  start x = begun_with (state x).asked (state x).link.state

  abbrev all : (most limit : ℕ) → X → Replayed
  all most limit x = ticked_within next_in (tick_in (state x).link.config) most limit (start x)

  pub ticks_put : {E : Type 0} (limit count most : ℕ) (x x' : X) (r : Result Unit E) → limit ≤ most + next_at x →
      TicksInTurn next_at ticks limit count x x' r → ReplaysTo (all most limit x) (state x) (state x') r
  ticks_put {E} limit zero most x x' (Ok u) enough (same, reached) =
      subst (λ (y : X). ReplaysTo {E = E} (all most limit x) (state x) (state y) (Ok u)) (sym same)
      (subst (λ (p : Replayed). ReplaysTo {E = E} p (state x) (state x) (Ok u))
      (sym (none_within next_in (tick_in (state x).link.config) most limit (start x) reached)) (record {
        same_asked = refl;
        puts = record { same_config = refl; link = refl; text = nothing_passed _ _ };
        failed = sym (or-false _);
      }))
  ticks_put limit zero zero x x' (Err e) enough (due, step) = absurd (omega (arith, enough, due))
  ticks_put {E} limit zero (suc most) x x' (Err e) enough (due, step) =
      let next = tick_in (state x).link.config (start x) in
      subst (λ (p : Replayed). ReplaysTo {E = E} p (state x) (state x') (Err e)) (sym (one_ticked most (state x).link.config limit (start x) due))
      (record {
        same_asked = step.same_asked;
        puts = record {
          same_config = step.puts.same_config;
          link = tt;
          text = broken_within _ _ _ next.text (rest_of most (state x).link.config limit next).text step.puts.text;
        };
        failed = step.failed;
      })
  ticks_put limit (suc n) zero x x' r enough (mid, due, later, step, rest) = absurd (omega (arith, enough, due))
  ticks_put {E} limit (suc n) (suc most) x x' r enough (mid, due, later, step, rest) =
      let config = (state x).link.config in
      let next = tick_in config (start x) in
      let there = ticks_put limit n most mid x' r (omega (arith, enough, later)) rest in
      let asked = ticked_asked config (next_at x) (start x) ∙ sym step.same_asked in
      let same : rest_of most config limit next ≡ all most limit mid =
      λ i. ticked_within next_in (tick_in (sym step.puts.same_config i)) most limit (begun_with (asked i) (sym step.puts.link i)) in
      subst (λ (p : Replayed). ReplaysTo {E = E} p (state x) (state x') r)
      (sym (one_ticked most config limit (start x) due ∙ ap (behind next.text) same)) (record {
        same_asked = there.same_asked ∙ step.same_asked;
        puts = record {
          same_config = there.puts.same_config ∙ step.puts.same_config;
          link = there.puts.link;
          text = then_put _ _ _ _ _ _ next.text (all most limit mid).text r step.puts.text there.puts.text;
        };
        failed = there.failed ∙ ap (λ (b : Bool). b || is_err r) (step.failed ∙ or-false _);
      })
