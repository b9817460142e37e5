use Rattle.std.proofs.{Common.◌++◌, Common.List, Common.ℕ, Common.length, Common.ap, Common.sym, Common.◌∙◌, Common.arith, lemmas.Fmt.decimal_digit}
use Rattle.mq_text.proofs.Digits.{two_digits, three_digits, three_from_pair, all_four_digits}
use Rattle.mq_text.proofs.text.put_few_digits.Goals as goal

pub put-requires : goal.put-requires
put-requires c =
    let one = ap length (decimal_digit c.args.number (omega arith)) in omega (arith, one, c.requires.room)

pub put-requires-in-10-to-99 : goal.put-requires-in-10-to-99
put-requires-in-10-to-99 c =
    let two = ap length (two_digits c.args.number (omega arith) (omega arith)) in omega (arith, two, c.requires.room)

pub put-requires-in-100-to-999 : goal.put-requires-in-100-to-999
put-requires-in-100-to-999 c =
    let three = ap length (three_digits c.args.number (omega arith) (omega arith)) in omega (arith, three, c.requires.room)

pub put-requires-in_default : goal.put-requires-in_default
put-requires-in_default c =
    let four = ap length (all_four_digits c.args.number (omega arith) (omega (arith, c.requires.few))) in omega (arith, four, c.requires.room)

pub returns-in-0-to-9-clause-text : goal.returns-in-0-to-9-clause-text
returns-in-0-to-9-clause-text c =
    c.put.ensures.text ∙ ap (λ (digits : List ℕ). c.args.text.now.items ++ digits) (rw c.digit.ensures (sym (decimal_digit c.args.number (omega arith))))

pub returns-in-0-to-9-clause-room : goal.returns-in-0-to-9-clause-room
returns-in-0-to-9-clause-room c =
    let one = ap length (decimal_digit c.args.number (omega arith)) in omega (arith, one, c.put.ensures.room)

pub returns-in-10-to-99-clause-text : goal.returns-in-10-to-99-clause-text
returns-in-10-to-99-clause-text c =
    c.put-in-10-to-99.ensures.text ∙ ap (λ (digits : List ℕ). c.args.text.now.items ++ digits)
    (c.pair.ensures ∙ sym (two_digits c.args.number (omega arith) (omega arith)))

pub returns-in-10-to-99-clause-room : goal.returns-in-10-to-99-clause-room
returns-in-10-to-99-clause-room c =
    let two = ap length (two_digits c.args.number (omega arith) (omega arith)) in omega (arith, two, c.put-in-10-to-99.ensures.room)

pub returns-in-100-to-999-clause-text : goal.returns-in-100-to-999-clause-text
returns-in-100-to-999-clause-text c =
    c.put-in-100-to-999.ensures.text
    ∙ ap (λ (digits : List ℕ). c.args.text.now.items ++ digits)
    (three_from_pair c.args.number c.digit-in-100-to-999.result c.pair-in-100-to-999.result (omega arith)
    (omega arith) c.digit-in-100-to-999.ensures c.pair-in-100-to-999.ensures)

pub returns-in-100-to-999-clause-room : goal.returns-in-100-to-999-clause-room
returns-in-100-to-999-clause-room c =
    let three = ap length (three_digits c.args.number (omega arith) (omega arith)) in omega (arith, three, c.put-in-100-to-999.ensures.room)

pub returns-in_default-clause-text : goal.returns-in_default-clause-text
returns-in_default-clause-text c =
    c.put-in_default.ensures.text
    ∙ ap (λ (digits : List ℕ). c.args.text.now.items ++ digits)
    (c.four_digits.ensures ∙ sym (all_four_digits c.args.number (omega arith) (omega (arith, c.requires.few))))

pub returns-in_default-clause-room : goal.returns-in_default-clause-room
returns-in_default-clause-room c =
    let four = ap length (all_four_digits c.args.number (omega arith) (omega (arith, c.requires.few))) in omega (arith, four, c.put-in_default.ensures.room)
