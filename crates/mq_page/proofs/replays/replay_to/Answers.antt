use Rattle.mq_page.proofs.Common.{rules, refl, inl, inr, [], ◌∷◌, ◌++◌, Some, Err, ℕ, drop-nil, Reports, Memory, configuration_asked, unread, passed_in}
use Rattle.mq_replay.specs.Report.{replay_of}
use Rattle.mq_page.{specs.Asked.replay_asked, proofs.Marked.begun_at, proofs.Marked.of_equal, proofs.Marked.reports_on}
use Rattle.mq_page.proofs.replays.replay_to.Goals as goal

pub returns-in-Err : goal.returns-in-Err
returns-in-Err g c = record {
  text = [];
  outcome = Err c.in-Err.fault;
  told = rw (drop-nil {A = ℕ} c.args.skip) c.told.ensures;
  replays = inl (c.in-Err.fault, c.in-Err.ensures, refl, refl);
}

pub returns-in_default : goal.returns-in_default
returns-in_default g c = record {
  text = [];
  outcome = Err Memory;
  told = rw (drop-nil {A = ℕ} c.args.skip) c.told-in_default.ensures;
  replays = inr (c.in-Ok.ensures.0, inl (search rules, refl, refl));
}

pub returns : goal.returns
returns g c =
    let room = c.into_inner-room.result in
    let text = passed_in room.passed.items ++ room.bytes.items in
    let done = reports_on c.args.skip room.skip text c.replay.result
    (begun_at (Reports _) c.replay.ensures.replays (unread c.args.capture.now) (Some (c.args.skip ∷ [])) (Some (room.skip ∷ text))
    (search rules) (search rules) (search rules)) in
    let config = configuration_asked g.F.Family.FAMILY (g.F.Address.Key.number c.args.own) c.args.settings.now in
    let reports = of_equal done.1 (replay_of config (replay_asked c.args.settings.now)) (search rules) in
    record {
      text = text;
      outcome = c.match-replay.outcome;
      told = rw (← done.0, ← c.part.ensures) c.told-2.ensures;
      replays = inr (c.in-Ok.ensures.0, inr (search rules, _, c.replay.result, search rules, reports, search rules));
    }
