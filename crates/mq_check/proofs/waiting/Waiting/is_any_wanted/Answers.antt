use Rattle.mq_check.proofs.Common.{◌≡◌, ◌<◌, length, refl, ap, sym, ◌∙◌, arith, numbered_entry, WaitingValue}
use Rattle.mq_check.proofs.Waits.{made_at, made_long, one_any, any_at, any_of_none}
use Rattle.mq_check.proofs.waiting.Waiting.is_any_wanted.Goals as goal

pub loop-place-init : goal.loop-place-init
loop-place-init g c = refl

pub loop-place-preserved : goal.loop-place-preserved
loop-place-preserved g c =
    let f = numbered_entry g.F.Address.Key.number in
    let made = ap (λ (w : WaitingValue). w.entries) c.self.view_is in
    let within : c.loop-place.place < length c.args.self.now.entries = omega (arith, made_long f _ _ made, c.self.inside.entries.ok.0) in
    one_any _ _ c.loop-place.place _ within (made_at f _ _ _ _ made c.index.ensures)
    (sym c.is_group_wanted.ensures ∙ c.if-is_group_wanted.false) c.loop-place.invariant

pub returns-then-is_group_wanted : goal.returns-then-is_group_wanted
returns-then-is_group_wanted g c =
    let f = numbered_entry g.F.Address.Key.number in
    let made = ap (λ (w : WaitingValue). w.entries) c.self.view_is in
    let within : c.loop-place.place < length c.args.self.now.entries = omega (arith, made_long f _ _ made, c.self.inside.entries.ok.0) in
    sym (any_at _ _ c.loop-place.place _ within (made_at f _ _ _ _ made c.index.ensures)
    (sym c.is_group_wanted.ensures ∙ c.if-is_group_wanted.true) c.loop-place.invariant)

pub returns : goal.returns
returns g c =
    let f = numbered_entry g.F.Address.Key.number in
    let made = ap (λ (w : WaitingValue). w.entries) c.self.view_is in
    let all : c.loop-place.place ≡ length c.args.self.now.entries = omega (arith, made_long f _ _ made, c.self.inside.entries.ok.0) in
    sym (any_of_none _ _ c.loop-place.place all c.loop-place.invariant)
