use Rattle.mq_convert.proofs.Common.{◌≡◌, ◌<◌, length, refl, ap, sym, ◌∙◌, arith, SieveState, gone_of}
use Rattle.mq_convert.proofs.AnyOf.{any_at, any_of_none, made_at, made_long, one_any}
use Rattle.mq_convert.proofs.sieve.Sieve.has_gone.Goals as goal

pub loop-place-init : goal.loop-place-init
loop-place-init g c = refl

pub loop-place-preserved : goal.loop-place-preserved
loop-place-preserved g c =
    let made = ap (λ (s : SieveState). s.gone) c.self.view_is in
    let within : c.loop-place.place < length c.args.self.now.gone = omega (arith, made_long gone_of _ _ made, c.self.inside.gone.ok.0) in
    one_any _ _ c.loop-place.place _ within (made_at gone_of _ _ _ _ made c.index.ensures) (sym c.is_again.ensures ∙ c.if-is_again.false) c.loop-place.invariant

pub returns-then-is_again : goal.returns-then-is_again
returns-then-is_again g c =
    let made = ap (λ (s : SieveState). s.gone) c.self.view_is in
    let within : c.loop-place.place < length c.args.self.now.gone = omega (arith, made_long gone_of _ _ made, c.self.inside.gone.ok.0) in
    sym (any_at _ _ c.loop-place.place _ within (made_at gone_of _ _ _ _ made c.index.ensures)
    (sym c.is_again.ensures ∙ c.if-is_again.true) c.loop-place.invariant)

pub returns : goal.returns
returns g c =
    let made = ap (λ (s : SieveState). s.gone) c.self.view_is in
    let all : c.loop-place.place ≡ length c.args.self.now.gone = omega (arith, made_long gone_of _ _ made, c.self.inside.gone.ok.0) in
    sym (any_of_none _ _ c.loop-place.place all c.loop-place.invariant)
