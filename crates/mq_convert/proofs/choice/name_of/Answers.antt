use Rattle.mq_convert.proofs.Common.{length, ap, ◌∙◌, arith, refl, le-ltb, name_of}
use Rattle.std.specs.Int.{w128, from_be_bytes}
use Rattle.mq_convert.proofs.Named.{filled_up}
use Rattle.mq_convert.proofs.choice.name_of.Goals as goal

pub returns : goal.returns
unfolding name_of
returns c =
    let few = c.if-text-gt16.false in
    let fits = le-ltb 16 (length c.args.text.now) (omega (arith, few)) in
    rw fits (c.from_be_bytes.ensures ∙
    ap (from_be_bytes w128)
    (filled_up c.args.text.now c.copy_from_slice.new.self (length c.args.text.now) refl c.copy_from_slice.ensures.after (omega (arith, few))))
