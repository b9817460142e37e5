use Rattle.mq_link.proofs.Common.{◌≡◌, ◌/◌, ◌^◌, eqb, ap, sym, ◌∙◌, arith}
use Rattle.std.proofs.Math.Nat.{div-eq_of_lt}
use Rattle.mq_link.proofs.ranges.are_alike.Goals as goal

-- no bit is left of either
pub returns-then-others-eq128 : goal.returns-then-others-eq128
returns-then-others-eq128 c =
    let is = c.if-others-eq128.true in
    let one : c.args.one / 2 ^ 128 ≡ 0 = div-eq_of_lt (omega (arith, c.ranges.one.fits)) in
    let other : c.args.other / 2 ^ 128 ≡ 0 = div-eq_of_lt (omega (arith, c.ranges.other.fits)) in
    ap (λ n. eqb n 128) is ∙ sym ((λ i. eqb (c.args.one / 2 ^ is i) (c.args.other / 2 ^ is i)) ∙ (λ i. eqb (one i) (other i)))
