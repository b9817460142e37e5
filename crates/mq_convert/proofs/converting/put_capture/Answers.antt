use Rattle.mq_convert.proofs.Common.{[], Ok, Err, ◌∙◌, arith, refl, err_from_is_err_and, or-false, nothing_passed, context_of}
use Rattle.mq_text.specs.declared.printing.LineFault.{LineFault}
use Rattle.mq_convert.proofs.SoFar.{nothing_read, ended_well, ended_faulty, ended_within, next_put, next_broken}
use Rattle.mq_convert.proofs.WrittenEarly.{then_nothing}
use Rattle.mq_convert.proofs.converting.put_capture.Goals as goal

pub loop-sieve-init : goal.loop-sieve-init
loop-sieve-init g c = record {
  put = (nothing_read _ _ _ _ c.new-context.ensures c.requires.start, nothing_passed _ _);
  few = omega arith;
  room = c.requires.room;
  read = refl;
  written = refl;
}

pub returns-in_err-size-clause-puts : goal.returns-in_err-size-clause-puts
returns-in_err-size-clause-puts g c =
    let p = err_from_is_err_and c.from_residual.result c.from_residual.ensures.1 in
    let now = c.loop-sieve.invariant in
    rw (p.1, p.2) (ended_faulty _ _ _ _ _ _ _ _ _ _ _ _ _ now.put.0 now.put.1 now.read now.few c.in_err-size.ensures.next)

pub returns-in_err-held-clause-puts : goal.returns-in_err-held-clause-puts
returns-in_err-held-clause-puts g c =
    let p = err_from_is_err_and c.from_residual-in_err-held.result c.from_residual-in_err-held.ensures.1 in
    let now = c.loop-sieve.invariant in
    let next = rw c.in-Some.is at c.in_ok-size.ensures.next in
    rw (p.1, p.2) (ended_within _ _ _ _ _ _ _ _ _ (context_of c.read_block.new.context) _ _ _ _ _ c.in_err-held.field-0.0 now.put.0 now.put.1 now.read
    next c.min.ensures c.in_err-held.ensures)

pub returns-in_err-put_held-clause-puts : goal.returns-in_err-put_held-clause-puts
returns-in_err-put_held-clause-puts g c =
    let p = err_from_is_err_and c.from_residual-in_err-put_held.result c.from_residual-in_err-put_held.ensures.1 in
    let now = c.loop-sieve.invariant in
    let next = rw c.in-Some.is at c.in_ok-size.ensures.next in
    rw (p.1, p.2) (next_broken (Unit {0}) LineFault _ _ _ _ _ _ _ _ _ _ _ _ _ _ _ _ _ _ c.in_err-put_held.field-0.0 now.put.0 now.put.1 next
    c.min.ensures c.in_ok-held.ensures c.in_err-put_held.ensures.text)

pub returns-in_err-write_before_wait-clause-puts : goal.returns-in_err-write_before_wait-clause-puts
returns-in_err-write_before_wait-clause-puts g c =
    let p = err_from_is_err_and c.from_residual-in_err-write_before_wait.result c.from_residual-in_err-write_before_wait.ensures.1 in
    let now = c.loop-sieve.invariant in
    let next = rw c.in-Some.is at c.in_ok-size.ensures.next in
    rw (p.1, p.2) (next_broken (Unit {0}) LineFault _ _ _ _ _ _ _ _ _ _ _ _ _ _ _ _ _ _ c.in_err-write_before_wait.field-0.0 now.put.0 now.put.1 next
    c.min.ensures c.in_ok-held.ensures
    (then_nothing (Unit {0}) LineFault _ _ _ _ _ [] _ (Err c.in_err-write_before_wait.field-0.0) c.in_ok-put_held.ensures.text
    c.in_err-write_before_wait.ensures.text))

pub returns-clause-puts : goal.returns-clause-puts
returns-clause-puts g c =
    let now = c.loop-sieve.invariant in
    let next = rw c.in_default.is at c.in_ok-size.ensures.next in
    rw c.into_counts.ensures (ended_well _ _ _ _ _ _ _ _ (context_of c.loop-sieve.context) _ _ _ now.put.0 now.put.1 now.read now.few next)

pub loop-sieve-preserved : goal.loop-sieve-preserved
loop-sieve-preserved g c =
    let now = c.loop-sieve.invariant in
    let next = rw c.in-Some.is at c.in_ok-size.ensures.next in
    record {
      put = next_put (Unit {0}) LineFault _ _ _ _ _ _ _ _ _ _ _ _ _ _ _ _ _ _ _ _ now.put.0 now.put.1 next c.min.ensures c.in_ok-held.ensures
          (then_nothing (Unit {0}) LineFault _ _ _ _ _ _ _ (Ok c.in_ok-write_before_wait.field-0) c.in_ok-put_held.ensures.text
          c.in_ok-write_before_wait.ensures.text) c.in_ok-put_held.ensures.sieved;
      few = let few = next.answers.0 in omega (arith, few);
      room = let room = now.room in omega (arith, room, c.next_block.auto.buffer);
      read = next.failed ∙ or-false _ ∙ now.read;
      written = c.in_ok-write_before_wait.ensures.failed ∙ or-false _ ∙ c.in_ok-put_held.ensures.failed ∙ or-false _ ∙ now.written;
    }
