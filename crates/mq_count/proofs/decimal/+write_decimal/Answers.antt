use Rattle.mq_count.proofs.Common.{◌≡◌, ◌+◌, ◌/◌, ◌<◌, length, length-append, arith, ap, sym, ◌∙◌, take_more_set}
use Rattle.std.{proofs.lemmas.Fmt.decimal_digit, proofs.lemmas.Fmt.decimal_step, proofs.lemmas.Fmt.length-decimal-le, specs.Fmt.decimal}
use Rattle.mq_count.proofs.decimal.+write_decimal.Goals as goal

pub returns-then-number-lt10-clause-text : goal.returns-then-number-lt10-clause-text
returns-then-number-lt10-clause-text t c =
    take_more_set _ 0 _ (omega arith) ∙ sym (decimal_digit c.args.number c.if-number-lt10.true)

pub returns-then-number-lt10-clause-len : goal.returns-then-number-lt10-clause-len
returns-then-number-lt10-clause-len t c =
    rw (decimal_digit c.args.number c.if-number-lt10.true)

pub bounds-out-before_last : goal.bounds-out-before_last
bounds-out-before_last t c =
    let before = length-decimal-le 19 (c.args.number / 10) (omega arith) (omega arith) (omega arith) in
    omega (arith, before, c.write_decimal-before_last.ensures.len)

pub returns-clause-text : goal.returns-clause-text
returns-clause-text t c =
    let out = c.write_decimal-before_last.new.out in
    let in_array : c.write_decimal-before_last.result < length out = omega (arith, bounds-out-before_last t c) in
    rw (take_more_set out _ _ in_array, c.write_decimal-before_last.ensures.text)
    (sym (decimal_step c.args.number c.if-number-lt10.false (omega arith)))

pub returns-clause-len : goal.returns-clause-len
returns-clause-len t c =
    let more : length (decimal c.args.number) ≡ length (decimal (c.args.number / 10)) + 1 =
    ap length (decimal_step c.args.number c.if-number-lt10.false (omega arith)) ∙ length-append _ _ in
    omega (arith, more, c.write_decimal-before_last.ensures.len)

pub returns-clause-fits : goal.returns-clause-fits
returns-clause-fits t c = omega (arith, bounds-out-before_last t c)
