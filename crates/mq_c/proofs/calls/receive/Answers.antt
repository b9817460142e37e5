use Rattle.mq_c.proofs.Common.{refl, sym, ap, is_ok, ◌∙◌, subst, arith, IsFaultless, outbox_of, Puts}
use Rattle.mq_link.specs.CallCosts.{ReceiveCosts}
use Rattle.mq_c.proofs.{DoneCalls.done_in_range, HandedInto.handed, RoomForReceives.receive_leaves_none}
use Rattle.mq_c.proofs.calls.receive.Goals as goal

pub returns-in-Ok-clause-receives : goal.returns-in-Ok-clause-receives
returns-in-Ok-clause-receives g c =
    let enough = sym c.receive.ensures.answer ∙ ap is_ok c.in-Ok.is in
    let receives = c.in-Ok.ensures.receives in
    let made = c.new-queries.ensures in
    let width = g.F.Address.WireKey.WIDTH in
    let left = c.receive.new.outlet in
    let done = handed width c.new-queries.result receives.messages receives.answers left receives.handed in
    rw (c.out-1.given.1.1 (sym (done.1 ∙ made.same_out)), ← c.in-Some.ensures.1)
    (record {
      done = λ _ _. (
        record {
          received = c.in-Ok.received;
          messages = receives.messages;
          answers = receives.answers;
          receives = receives.receives;
          box = outbox_of left;
          puts = subst (λ box. Puts width box receives.messages receives.answers (outbox_of left)) made.empty done.0;
          bytes_are = refl;
          answer_is = c.answer_to.ensures;
        },
        c.receive.ensures.config,
      );
      too_late = λ late. absurd (omega (arith, c.in-Some.ensures, late));
      no_workspace = λ _ none. absurd (let wrong = sym none ∙ enough in cc);
    })

pub returns-in-Ok-clause-none_left_out : goal.returns-in-Ok-clause-none_left_out
returns-in-Ok-clause-none_left_out g c longest room short =
    let enough = sym c.receive.ensures.answer ∙ ap is_ok c.in-Ok.is in
    receive_leaves_none g.F.Address.WireKey.WIDTH longest (g.F.Family.envelope_of c.args.envelope) c.args.body.now c.args.now _ _ _ _ _
    (subst IsFaultless c.config.ensures c.is_faultless.ensures.faultless) c.is_well_formed.ensures.formed
    ((returns-in-Ok-clause-receives g c).done (omega (arith, c.in-Some.ensures)) enough).0 room short

pub returns-in-Ok-clause-costs : goal.returns-in-Ok-clause-costs
returns-in-Ok-clause-costs g c =
    let envelope = g.F.Family.envelope_of c.args.envelope in
    let done = done_in_range _ _ c.args.now (omega (arith, c.in-Some.ensures)) c.receive.ensures.answer in
    subst (λ d. ReceiveCosts d envelope c.args.body.now c.args.now c.args.link.now c.receive.new.self) done (rw (← c.in-Some.ensures.1) c.receive.ensures.costs)
