use Rattle.std.proofs.Common.{◌≡◌, ◌-◌, drop, take, length-drop, ap, sym, ◌∙◌, arith}
use Rattle.std.proofs.lemmas.List.{take_all}
use Rattle.mq_text.{specs.AddressV6.zeros_ahead, proofs.LongestRun.first_run}
use Rattle.mq_text.proofs.address_v6.longest_zeros.Goals as goal

pub returns-then-place-count-ge8-clause-run : goal.returns-then-place-count-ge8-clause-run
returns-then-place-count-ge8-clause-run c =
    let place = c.first_zero-place.result in
    let left = length-drop place c.args.groups.now in
    let all : take (8 - place) (drop place c.args.groups.now) ≡ drop place c.args.groups.now = take_all (8 - place) (drop place c.args.groups.now)
    (omega (arith, left, c.told-groups)) in
    first_run c.args.groups.now place c.zeros_ahead-count.result c.told-groups c.first_zero-place.ensures.others
    (sym (c.zeros_ahead-count.ensures.zeros ∙ ap zeros_ahead all)) c.if-count-gt0.true c.if-place-count-ge8.true
