use Rattle.mq_page.proofs.Common.{◌≡◌, ap, rules, refl, inl, inr, [], ◌∷◌, ◌++◌, Some, Err, ℕ, drop-nil, Reports, Memory, configuration_asked, unread}
use Rattle.mq_page.proofs.Common.{passed_in}
use denote.Param.{copied}
use Rattle.mq_check.specs.Check.{check_of}
use Rattle.mq_link.specs.Configuration.{Configuration}
use Rattle.mq_page.specs.{Asked.check_asked, Faults.shown, Sizes.bytes_to_check}
use Rattle.mq_page.proofs.Marked.{after_text, before_text, begun_at, granted_by, of_equal, reports_on}
use Rattle.mq_page.proofs.ShownChecks.{drop_shown}
use Rattle.mq_page.proofs.checks.check_at.Goals as goal

pub returns-in-Err : goal.returns-in-Err
returns-in-Err g c = record {
  text = [];
  outcome = Err c.in-Err.fault;
  told = rw (drop-nil {A = ℕ} c.args.skip) c.told.ensures;
  checks = inl (c.in-Err.fault, c.in-Err.ensures, refl, refl);
}

pub returns-in_default : goal.returns-in_default
returns-in_default g c = record {
  text = [];
  outcome = Err Memory;
  told = rw (drop-nil {A = ℕ} c.args.skip) c.told-in_default.ensures;
  checks = inr (c.in-Ok.ensures.0, inl (search rules, refl, refl));
}

pub returns : goal.returns
returns g c =
    let room = c.into_inner-room.result in
    let text = passed_in room.passed.items ++ room.bytes.items in
    let done = reports_on c.args.skip room.skip text c.check_in-answer.result
    (begun_at (Reports _) c.check_in-answer.ensures.checks (unread c.args.capture.now) (Some (c.args.skip ∷ [])) (Some (room.skip ∷ text))
    (search (rules, c.new-reader.ensures))
    (before_text _ _ c.args.skip c.new-writer.ensures.inner c.in-Some.ensures.skip c.in-Some.ensures.text.0 c.in-Some.ensures.text.1)
    (after_text _ room c.into_inner-room.ensures)) in
    let config = configuration_asked g.F.Family.FAMILY (g.F.Address.Key.number c.args.own) c.args.settings.now in
    let reports = of_equal done.1 (check_of config (check_asked c.args.settings.now)) (search (rules, c.in-Ok.ensures, c.end.ensures)) in
    let same = ap (λ (x : Configuration). bytes_to_check (copied 1 g.row.F-Address) x.room) c.in-Ok.ensures.1 in
    let granted = granted_by _ _ _ _ _ _ _ same c.in-Some.ensures.rest c.check_in-answer.ensures.takes in
    record {
      text = shown c.check_in-answer.result text;
      outcome = c.outcome_of.result;
      told = rw (drop_shown c.args.skip c.check_in-answer.result text, ← done.0, ← c.part.ensures, ← c.shown.ensures) c.told-2.ensures;
      checks = inr (
        c.in-Ok.ensures.0,
        inr (
          c.in-Some.ensures.granted.0 refl,
          _,
          c.check_in-answer.result,
          c.outcome_of.ensures,
          (text, reports, refl),
          granted,
        ),
      );
    }
