use Rattle.std.proofs.Common.{zero, suc, ◌<◌, ◌≤◌, Ok, Err, refl, subst, arith}
use Rattle.std.proofs.lemmas.Bool.Decides.{nat_tests}
use Rattle.std.proofs.lemmas.Result.{err_from_is_err_and}
use Rattle.mq_walk.proofs.ticks.tick_before.Goals as goal

pub loop-limit-init : goal.loop-limit-init
loop-limit-init g c = record { ticked = λ count end r rest. (count, rest); next = c.next_moment-next.ensures }

pub loop-limit-preserved : goal.loop-limit-preserved
loop-limit-preserved g c =
    let now = c.loop-limit.invariant in
    let due : c.loop-limit.next < c.args.limit = grind (arith, nat_tests) in
    record {
      ticked = λ count end r rest. now.ticked (suc count) end r (
        (c.tick_at.new.self, c.tick_at.new.output),
        subst (λ m. m < c.args.limit) now.next due,
        subst (λ m. m < g.T.TickStep.next c.tick_at.new.self) now.next c.in_ok-tick_at.ensures.later,
        subst (λ m. g.T.TickStep.ticks m (c.loop-limit.steps, c.loop-limit.output) (c.tick_at.new.self, c.tick_at.new.output) (Ok tt)) now.next
            c.in_ok-tick_at.ensures.effect,
        rest,
      );
      next = c.next_moment-next-in-loop-limit.ensures;
    }

pub returns-in_err-tick_at : goal.returns-in_err-tick_at
returns-in_err-tick_at g c =
    let p = err_from_is_err_and c.from_residual.result c.from_residual.ensures.1 in
    let now = c.loop-limit.invariant in
    let due : c.loop-limit.next < c.args.limit = grind (arith, nat_tests) in
    rw (p.1, p.2) (now.ticked zero _ (Err c.in_err-tick_at.field-0.0) (
      subst (λ m. m < c.args.limit) now.next due,
      subst (λ m. g.T.TickStep.ticks m (c.loop-limit.steps, c.loop-limit.output) (c.tick_at.new.self, c.tick_at.new.output)
          (Err c.in_err-tick_at.field-0.0)) now.next c.in_err-tick_at.ensures.effect,
    ))

pub returns : goal.returns
returns g c =
    let now = c.loop-limit.invariant in
    let reached : c.args.limit ≤ c.loop-limit.next = grind (arith, nat_tests) in
    now.ticked zero _ (Ok tt) (refl, subst (λ m. c.args.limit ≤ m) now.next reached)
