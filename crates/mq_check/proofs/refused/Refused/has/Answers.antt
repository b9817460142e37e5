use Rattle.mq_check.proofs.Common.{◌≡◌, ◌<◌, length, refl, sym, ◌∙◌, arith}
use Rattle.mq_check.proofs.Waits.{made_at, made_long, one_any, any_at, any_of_none}
use Rattle.mq_check.proofs.refused.Refused.has.Goals as goal

pub loop-place-init : goal.loop-place-init
loop-place-init g c = refl

pub loop-place-preserved : goal.loop-place-preserved
loop-place-preserved g c =
    let f = g.F.Address.Key.number in
    let made = c.self.view_is in
    let within : c.loop-place.place < length c.args.self.now = omega (arith, made_long f _ _ made, c.self.inside.groups.ok.0) in
    one_any _ _ c.loop-place.place _ within (made_at f _ _ _ _ made c.index.ensures) (sym c.is_same.ensures ∙ c.if-is_same.false) c.loop-place.invariant

pub returns-then-is_same : goal.returns-then-is_same
returns-then-is_same g c =
    let f = g.F.Address.Key.number in
    let made = c.self.view_is in
    let within : c.loop-place.place < length c.args.self.now = omega (arith, made_long f _ _ made, c.self.inside.groups.ok.0) in
    sym (any_at _ _ c.loop-place.place _ within (made_at f _ _ _ _ made c.index.ensures)
    (sym c.is_same.ensures ∙ c.if-is_same.true) c.loop-place.invariant)

pub returns : goal.returns
returns g c =
    let f = g.F.Address.Key.number in
    let made = c.self.view_is in
    let all : c.loop-place.place ≡ length c.args.self.now = omega (arith, made_long f _ _ made, c.self.inside.groups.ok.0) in
    sym (any_of_none _ _ c.loop-place.place all c.loop-place.invariant)
