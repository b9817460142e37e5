use Rattle.mq_c.proofs.Common.{refl, sym, ap, is_ok, ◌∙◌, subst, arith, outbox_of, Puts}
use Rattle.mq_link.specs.CallCosts.{TickCosts}
use Rattle.mq_c.proofs.{DoneCalls.done_in_range, HandedInto.handed, RoomForTicks.tick_leaves_none}
use Rattle.mq_c.proofs.calls.tick.Goals as goal

pub returns-in-Ok-clause-ticks : goal.returns-in-Ok-clause-ticks
returns-in-Ok-clause-ticks g c =
    let enough = sym c.tick.ensures.answer ∙ ap is_ok c.in-Ok.is in
    let ticks = c.tick.ensures.ticks (c.tick.ensures.answer ∙ enough) in
    let made = c.new-queries.ensures in
    let width = g.F.Address.WireKey.WIDTH in
    let left = c.tick.new.outlet in
    let done = handed width c.new-queries.result ticks.messages ticks.answers left ticks.handed in
    rw (c.out-1.given.1.1 (sym (done.1 ∙ made.same_out)), ← c.in-Some.ensures.1)
    (record {
      done = λ _ _. (
        record {
          messages = ticks.messages;
          answers = ticks.answers;
          ticks = ticks.ticks;
          box = outbox_of left;
          puts = subst (λ box. Puts width box ticks.messages ticks.answers (outbox_of left)) made.empty done.0;
          bytes_are = refl;
          answer_is = c.answer_to_tick.ensures;
        },
        c.tick.ensures.config,
      );
      too_late = λ late. absurd (omega (arith, c.in-Some.ensures, late));
      no_workspace = λ _ none. absurd (let wrong = sym none ∙ enough in cc);
    })

pub returns-in-Ok-clause-none_left_out : goal.returns-in-Ok-clause-none_left_out
returns-in-Ok-clause-none_left_out g c room =
    let enough = sym c.tick.ensures.answer ∙ ap is_ok c.in-Ok.is in
    tick_leaves_none g.F.Address.WireKey.WIDTH c.args.now _ _ _ _ _
    c.is_well_formed.ensures.formed ((returns-in-Ok-clause-ticks g c).done (omega (arith, c.in-Some.ensures)) enough).0 room

pub returns-in-Ok-clause-costs : goal.returns-in-Ok-clause-costs
returns-in-Ok-clause-costs g c =
    let done = done_in_range _ _ c.args.now (omega (arith, c.in-Some.ensures)) c.tick.ensures.answer in
    subst (λ d. TickCosts d c.args.now c.args.link.now c.tick.new.self) done (rw (← c.in-Some.ensures.1) c.tick.ensures.costs)
