use Rattle.mq_check.proofs.Common.{ℕ, ◌<◌, ◌≤◌, List, length, ap, sym, subst, refl, ◌∙◌, arith, Entry, numbered_entry, AreMarked, WaitingValue}
use Rattle.mq_check.proofs.MarkedEntries.{AreNoneBefore, none_at_start, none_further, passed_up_to}
use Rattle.mq_check.proofs.Waits.{made_at, made_long, free_at, none_free}
use Rattle.mq_check.proofs.waiting.Waiting.place_of.Goals as goal

pub loop-place-init : goal.loop-place-init
loop-place-init g c = none_at_start _ _ _ _ _ _ _ c.slot_of-slot.ensures.slot c.start-place.ensures

pub loop-place-preserved : goal.loop-place-preserved
loop-place-preserved g c =
    let f = numbered_entry g.F.Address.Key.number in
    let made = ap (λ (w : WaitingValue). w.entries) c.self.view_is in
    let within : c.loop-place.place < length c.args.self.now.entries = omega (arith, made_long f _ _ made, c.self.inside.entries.ok.0) in
    none_further _ _ _ _ _ _ _ _ c.loop-place.place _ _
    (subst (λ (es : List (Entry ℕ)). AreMarked g.F.Address.WireKey.WIDTH c.self.inside.horizon es c.self.inside.trails) made c.self.invariant.1)
    c.slot_of-slot.ensures.slot within
    (made_at f _ _ _ _ made c.index.ensures) (sym c.is_free.ensures ∙ c.if-is_free.false) c.next-place.ensures.passed c.loop-place.invariant

pub returns-then-is_free-clause-some : goal.returns-then-is_free-clause-some
returns-then-is_free-clause-some g c =
    let f = numbered_entry g.F.Address.Key.number in
    let made = ap (λ (w : WaitingValue). w.entries) c.self.view_is in
    let within : c.loop-place.place < length c.args.self.now.entries = omega (arith, made_long f _ _ made, c.self.inside.entries.ok.0) in
    free_at _ _ _ _ c.loop-place.place _ within (made_at f _ _ _ _ made c.index.ensures) (sym c.is_free.ensures ∙ c.if-is_free.true)
    (passed_up_to _ _ _ _ _ c.loop-place.invariant (omega (arith, within)))

pub returns-clause-none : goal.returns-clause-none
returns-clause-none g c =
    let f = numbered_entry g.F.Address.Key.number in
    let made = ap (λ (w : WaitingValue). w.entries) c.self.view_is in
    let all : length c.args.self.now.entries ≤ c.loop-place.place = omega (arith, made_long f _ _ made, c.self.inside.entries.ok.0) in
    let none : AreNoneBefore _ _ _ c.args.self.now.entries (length c.args.self.now.entries) =
    record { none = λ k before within. c.loop-place.invariant.none k (omega (arith, before, all)) within } in
    none_free _ _ _ _ _ refl (passed_up_to _ _ _ _ _ none (omega arith))
