use Rattle.std.proofs.Common.{◌++◌, List, ℕ, ap, sym, ◌∙◌, arith}
use Rattle.mq_text.proofs.Hexadecimal.{one_digit, two_digits, three_digits, all_four_digits}
use Rattle.mq_text.proofs.address_v6.put_hexadecimal.Goals as goal

pub returns-in-0-to-15-clause-text : goal.returns-in-0-to-15-clause-text
returns-in-0-to-15-clause-text c =
    c.put.ensures.text ∙ ap (λ (digits : List ℕ). c.args.text.now.items ++ digits) (rw c.digit.ensures (sym (one_digit c.args.number (omega arith))))

pub returns-in-16-to-255-clause-text : goal.returns-in-16-to-255-clause-text
returns-in-16-to-255-clause-text c =
    c.put-in-16-to-255.ensures.text
    ∙ ap (λ (digits : List ℕ). c.args.text.now.items ++ digits)
    (rw (c.digit-in-16-to-255.ensures, c.digit-in-16-to-255-2.ensures) (sym (two_digits c.args.number (omega arith) (omega arith))))

pub returns-in-256-to-4095-clause-text : goal.returns-in-256-to-4095-clause-text
returns-in-256-to-4095-clause-text c =
    c.put-in-256-to-4095.ensures.text
    ∙ ap (λ (digits : List ℕ). c.args.text.now.items ++ digits)
    (rw (c.digit-in-256-to-4095.ensures, c.digit-in-256-to-4095-2.ensures, c.digit-in-256-to-4095-3.ensures)
    (sym (three_digits c.args.number (omega arith) (omega arith))))

pub returns-in_default-clause-text : goal.returns-in_default-clause-text
returns-in_default-clause-text c =
    c.put-in_default.ensures.text
    ∙ ap (λ (digits : List ℕ). c.args.text.now.items ++ digits)
    (rw (c.digit-in_default.ensures, c.digit-in_default-2.ensures, c.digit-in_default-3.ensures, c.digit-in_default-4.ensures)
    (sym (all_four_digits c.args.number (omega arith) (omega arith))))
