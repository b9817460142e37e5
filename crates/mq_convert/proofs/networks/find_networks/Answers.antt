use Rattle.mq_convert.proofs.Common.{◌∙◌, arith, refl, err_from_is_err_and, or-false, context_of}
use Rattle.mq_convert.proofs.Networked.{none_known, next_known, known_faulty, known_whole, known_within}
use Rattle.mq_convert.proofs.networks.find_networks.Goals as goal

pub loop-size-init : goal.loop-size-init
loop-size-init g c = record {
  known = none_known _ _ _ _ _ c.new-context.ensures c.requires.start;
  few = omega arith;
  room = c.requires.room;
  read = refl;
}

pub returns-in_err-size : goal.returns-in_err-size
returns-in_err-size g c =
    let p = err_from_is_err_and c.from_residual.result c.from_residual.ensures.1 in
    let now = c.loop-size.invariant in
    rw (p.1, p.2) (record { finds = known_faulty _ _ _ _ _ _ _ _ _ _ now.known now.read now.few c.in_err-size.ensures.next })

pub returns-in_err-held : goal.returns-in_err-held
returns-in_err-held g c =
    let p = err_from_is_err_and c.from_residual-in_err-held.result c.from_residual-in_err-held.ensures.1 in
    let now = c.loop-size.invariant in
    let next = rw c.in-Some.is at c.in_ok-size.ensures.next in
    rw (p.1, p.2) (record {
      finds = known_within _ _ _ _ _ _ (context_of c.read_block.new.context) _ _ _ _ _ c.in_err-held.field-0.0 now.known now.read
          next c.min.ensures c.in_err-held.ensures;
    })

pub returns : goal.returns
returns g c =
    let now = c.loop-size.invariant in
    let next = rw c.in_default.is at c.in_ok-size.ensures.next in
    record { finds = known_whole _ _ _ _ _ (context_of c.loop-size.context) _ _ _ _ now.known now.read now.few next }

pub loop-size-preserved : goal.loop-size-preserved
loop-size-preserved g c =
    let now = c.loop-size.invariant in
    let next = rw c.in-Some.is at c.in_ok-size.ensures.next in
    record {
      known = next_known _ _ _ _ _ _ _ _ _ _ _ _ _ _ now.known next c.min.ensures c.in_ok-held.ensures c.add_held.ensures;
      few = let few = next.answers.0 in omega (arith, few);
      room = let room = now.room in omega (arith, room, c.next_block.auto.buffer);
      read = next.failed ∙ or-false _ ∙ now.read;
    }
