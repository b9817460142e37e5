use Rattle.mq_replay.proofs.Common.{Bool, ◌||◌, is_err, refl, ap, sym, ◌∙◌, err_from_is_err_and, or-false, Configuration}
use Rattle.mq_replay.proofs.{EventLines.tick_broken_off, EventLines.tick_lined, TickedReplays.comes_later}
use Rattle.mq_replay.proofs.running_replay.ReplayTickStepWatched.tick_at.Goals as goal

pub returns-in_err-tick-clause-effect : goal.returns-in_err-tick-clause-effect
returns-in_err-tick-clause-effect g c =
    let p = err_from_is_err_and c.from_residual.result c.from_residual.ensures.1 in
    let is_family = g.met.F.CapturedFamily.same_family ∙ sym c.is_faultless.ensures.family ∙ ap (λ (config : Configuration). config.family) c.config.ensures in
    rw p.1 (record {
      same_asked = refl;
      puts = tick_broken_off _ _ _ _ _ _ _ _ _ _ _ is_family c.in_err-tick.ensures.config c.in_err-tick.ensures.ticks;
      failed = c.in_err-tick.ensures.failed;
    })

pub returns-clause-effect : goal.returns-clause-effect
returns-clause-effect g c =
    let is_family = g.met.F.CapturedFamily.same_family ∙ sym c.is_faultless.ensures.family ∙ ap (λ (config : Configuration). config.family) c.config.ensures in
    record {
      same_asked = refl;
      puts = tick_lined _ _ _ _ _ _ _ _ _ _ _ _ is_family c.in_ok-tick.ensures.config c.in_ok-tick.ensures.changed c.in_ok-tick.ensures.ticks
          c.put_changes.ensures.text;
      failed = c.put_changes.ensures.failed ∙ ap (λ (b : Bool). b || is_err c.put_changes.result) (c.in_ok-tick.ensures.failed ∙ or-false _);
    }

pub returns-clause-later : goal.returns-clause-later
returns-clause-later g c =
    let is_family = g.met.F.CapturedFamily.same_family ∙ sym c.is_faultless.ensures.family ∙ ap (λ (config : Configuration). config.family) c.config.ensures in
    comes_later _ _ _ _ _ _ c.is_well_formed.ensures.later (tick_lined c.args.self.now.asked _ _ _ _ _ _ _ _ _ _ _ is_family
    c.in_ok-tick.ensures.config c.in_ok-tick.ensures.changed c.in_ok-tick.ensures.ticks c.put_changes.ensures.text).link
