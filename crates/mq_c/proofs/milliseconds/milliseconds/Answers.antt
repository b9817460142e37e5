use Rattle.mq_c.proofs.Common.{rules, ◌≡◌, refl, sym, ◌∙◌, subst}
use Rattle.std.specs.{Result.MatchResult, Str.IsUtf8, Fmt.decimal}
use Rattle.std.proofs.lemmas.{Str.IsUtf8-from_ascii, Fmt.parse-decimal, Fmt.IsAscii-decimal}
use Rattle.mq_c.proofs.milliseconds.milliseconds.Goals as goal

pub unreachable-requires : goal.unreachable-requires
unreachable-requires c =
    let p = parse-decimal 64 c.args.moment c.in-Ok.text.now c.from_str_radix.result (search rules) (search rules)
    (c.in-Ok.ensures.cases.0 ∙ c.digits-length.ensures.text) c.from_str_radix.ensures.value in
    subst (λ r. MatchResult r (λ n. Unit {0}) (λ e. ⊥)) (sym p ∙ c.in-Err-from_str_radix.is) tt

pub unreachable-requires-in-Err : goal.unreachable-requires-in-Err
unreachable-requires-in-Err c =
    c.in-Err.ensures.cases.0
    (subst (λ bs. IsUtf8 bs) (sym c.digits-length.ensures.text) (IsUtf8-from_ascii (decimal c.args.moment) (IsAscii-decimal c.args.moment (search rules))))

pub returns : goal.returns
returns c =
    let p = parse-decimal 64 c.args.moment c.in-Ok.text.now c.from_str_radix.result (search rules) (search rules)
    (c.in-Ok.ensures.cases.0 ∙ c.digits-length.ensures.text) c.from_str_radix.ensures.value in
    subst (λ r. MatchResult r (λ n. n ≡ c.args.moment) (λ e. ⊥)) (sym p ∙ c.in-Ok-from_str_radix.is) refl
