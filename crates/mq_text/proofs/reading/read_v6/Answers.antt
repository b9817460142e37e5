use Rattle.std.{proofs.Common.sym, proofs.Common.◌∙◌, proofs.Common.ap, specs.Int.w128, specs.Int.from_be_bytes, specs.Net.Addr.ipv6_segments}
use Rattle.mq_text.{specs.Reading.has_dot, specs.Reading.number_of, proofs.Spelled.none_with_dot, proofs.Spelled.none_v6, proofs.Spelled.spelled_from_std}
use Rattle.mq_text.proofs.reading.read_v6.Goals as goal

pub returns-then-has_dot : goal.returns-then-has_dot
returns-then-has_dot c = none_with_dot c.args.text.now (ap has_dot (sym c.as_bytes.ensures.value) ∙ sym c.has_dot.ensures ∙ c.if-has_dot.true)

pub returns-in-Ok : goal.returns-in-Ok
unfolding number_of
returns-in-Ok c = (
  ipv6_segments c.in-Ok.address,
  spelled_from_std c.args.text.now _ (ap has_dot (sym c.as_bytes.ensures.value) ∙ sym c.has_dot.ensures ∙ c.if-has_dot.false) c.in-Ok.ensures.value,
  c.from_octets.ensures ∙ ap (from_be_bytes w128) c.octets.ensures,
)

pub returns-in-Err : goal.returns-in-Err
returns-in-Err c = none_v6 c.args.text.now c.in-Err.ensures.value
