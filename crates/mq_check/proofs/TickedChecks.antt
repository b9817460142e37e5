-- A check in the code, and the ticks between packets.
use Rattle.mq_check.proofs.Common.{◌≡◌, ℕ, zero, suc, ◌+◌, ◌<◌, ◌≤◌, Result, Ok, Err, refl, sym, subst, ◌∙◌, append_assoc, append-nil, arith, Some, Family}
use Rattle.mq_check.proofs.Common.{Configuration, Checked, Outcome, behind, judged_at, quiet, told, CheckState, checked_in}
use Rattle.mq_link.specs.Tick.{next_of}
use Rattle.mq_walk.{specs.Ticks.TicksInTurn, specs.Ticks.ticked_within, proofs.Ticking.none_within, proofs.Ticking.one_within, proofs.Ticking.through_within}
use Rattle.mq_check.specs.{Check.ticked_at, Coming.ChecksTick, Coming.ChecksTo}
use Rattle.mq_check.proofs.{CheckedPackets.both_came, CheckedPackets.first_broken, Tellings.none_told}

-- the tick at the next moment
abbrev pub next_in : Outcome → ℕ
next_in o = next_of o.checked.link

abbrev pub tick_in : Configuration → (within : ℕ) → Outcome → Outcome
tick_in config within o = behind o.found (ticked_at config within (next_in o) o.checked)

-- a tick, and then the others behind what was found by it
abbrev pub rest_of : (most : ℕ) → Configuration → (within limit : ℕ) → Checked → Outcome
rest_of most config within limit r = ticked_within next_in (tick_in config within) most limit (quiet r)

pub one_ticked : (most : ℕ) (config : Configuration) (within limit : ℕ) (r : Checked) → next_of r.link < limit
    → rest_of (suc most) config within limit r ≡ behind (told within (next_of r.link) (judged_at within (Some (next_of r.link)) r).checking)
    (rest_of most config within limit (ticked_at config within (next_of r.link) r).checked)
one_ticked most config within limit r due =
    let found = told within (next_of r.link) (judged_at within (Some (next_of r.link)) r).checking in
    let next = (ticked_at config within (next_of r.link) r).checked in
    one_within next_in (tick_in config within) most limit (quiet r) due
    ∙ (λ i. ticked_within next_in (tick_in config within) most limit (record { checked = next; found = sym (append-nil found) i }))
    ∙ through_within next_in (tick_in config within) next_in (tick_in config within) (behind found) (λ o. refl) (λ o i. record {
      checked = (ticked_at config within (next_in o) o.checked).checked;
      found = append_assoc found o.found (told within (next_in o) (judged_at within (Some (next_in o)) o.checked).checking) i;
    }) most limit (quiet next)

module _ {X : Type 0} (family : Family) (state : X → CheckState) where
  abbrev next_at : X → ℕ
  next_at x = next_of (state x).link.state

  abbrev ticks : {E : Type 0} → ℕ → X → X → Result Unit E → Type 0
  ticks moment x x' r = ChecksTick family moment (state x) (state x') r

  abbrev start : X → Checked
  start x = checked_in (state x).link (state x).queries

  abbrev all : (most limit : ℕ) → X → Outcome
  all most limit x = rest_of most (state x).link.config (state x).terms.within limit (start x)

  pub ticks_come : {E : Type 0} (limit count most : ℕ) (x x' : X) (r : Result Unit E) → limit ≤ most + next_at x →
      TicksInTurn next_at ticks limit count x x' r → ChecksTo family (all most limit x) (state x) (state x') r
  ticks_come {E} limit zero most x x' (Ok u) enough (same, reached) =
      subst (λ (y : X). ChecksTo {E = E} family (all most limit x) (state x) (state y) (Ok u)) (sym same)
      (subst (λ (o : Outcome). ChecksTo {E = E} family o (state x) (state x) (Ok u))
      (sym (none_within next_in (tick_in (state x).link.config (state x).terms.within) most limit (quiet (start x)) reached))
      (record { same_terms = refl; comes = record { same_config = refl; checked = refl; tells = none_told family _ _ u } }))
  ticks_come limit zero zero x x' (Err e) enough (due, step) = absurd (omega (arith, enough, due))
  ticks_come {E} limit zero (suc most) x x' (Err e) enough (due, step) =
      subst (λ (o : Outcome). ChecksTo {E = E} family o (state x) (state x') (Err e))
      (sym (one_ticked most (state x).link.config (state x).terms.within limit (start x) due))
      (record { same_terms = step.same_terms; comes = first_broken family _ _ _ _ _ _ _ _ _ _ e e step.comes })
  ticks_come limit (suc n) zero x x' r enough (mid, due, later, step, rest) = absurd (omega (arith, enough, due))
  ticks_come {E} limit (suc n) (suc most) x x' r enough (mid, due, later, step, rest) =
      let config = (state x).link.config in
      let within = (state x).terms.within in
      let one = ticked_at config within (next_at x) (start x) in
      let there = ticks_come limit n most mid x' r (omega (arith, enough, later)) rest in
      let same : behind one.found (rest_of most config within limit one.checked) ≡ behind one.found (all most limit mid) =
      λ i. behind one.found (rest_of most (sym step.comes.same_config i) (sym step.same_terms i).within limit (sym step.comes.checked i)) in
      subst (λ (o : Outcome). ChecksTo {E = E} family o (state x) (state x') r) (sym (one_ticked most config within limit (start x) due ∙ same))
      (record {
        same_terms = there.same_terms ∙ step.same_terms;
        comes = both_came family one (all most limit mid) _ _ _ _ _ _ _ _ _ _ _ tt r step.comes there.comes;
      })
