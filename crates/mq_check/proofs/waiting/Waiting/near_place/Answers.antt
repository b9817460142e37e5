use Rattle.mq_check.proofs.Common.{◌<◌, ℕ, List, length, false, ap, sym, subst, ◌∙◌, arith, ◌≡◌, nat_le, Entry, moment_of, numbered_entry, AreMarked}
use Rattle.mq_check.proofs.Common.{WaitingValue}
use Rattle.mq_check.proofs.{MarkedEntries.none_of_further, Waits.made_at, Waits.made_long}
use Rattle.mq_check.proofs.waiting.Waiting.near_place.Goals as goal

pub loop-place-preserved : goal.loop-place-preserved
loop-place-preserved g c =
    let f = numbered_entry g.F.Address.Key.number in
    let made = ap (λ (w : WaitingValue). w.entries) c.self.view_is in
    let within : c.loop-place.place < length c.args.self.now.entries = omega (arith, made_long f _ _ made, c.self.inside.entries.ok.0) in
    let early : nat_le c.args.from.now (moment_of (f c.index.result.now)) ≡ false = ap (λ (m : ℕ). nat_le c.args.from.now m) (sym c.moment.ensures) ∙
    sym c.is_reached.ensures ∙ c.if-not-is_reached.true in
    none_of_further _ _ _ _ c.loop-place.place _ _ _ _
    (subst (λ (es : List (Entry ℕ)). AreMarked g.F.Address.WireKey.WIDTH c.self.inside.horizon es c.self.inside.trails) made c.self.invariant.1) within
    (made_at f _ _ _ _ made c.index.ensures) early c.next-place.ensures.passed c.loop-place.invariant
