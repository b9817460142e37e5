use Rattle.mq_replay.proofs.Common.{ℕ, ap, sym, ◌∙◌, ScheduledGroup, put_as, Changes, event_in}
use Rattle.mq_link.specs.Storage.{group_stored}
use Rattle.mq_replay.proofs.ChangeTexts.{event-absent}
use Rattle.mq_replay.proofs.change_lines.put_group.Goals as goal

pub returns-in-Some-clause-text : goal.returns-in-Some-clause-text
returns-in-Some-clause-text g c =
    let number = g.F.Address.Key.number in
    let family = g.F.Address.LineKey.family in
    let found = c.in-Some.ensures.found in
    put_as _ _ _ _ _ _ c.put_change.result
    (ap (λ (n : ℕ). event_in c.args.json family c.args.moment (Changes n (group_stored number c.in-Some.group))) found.address_is
    ∙ ap (λ (e : ScheduledGroup). event_in c.args.json family c.args.moment (Changes (number c.args.address) e.group)) found.group_is)
    c.put_change.ensures.text

pub returns-in-None-clause-text : goal.returns-in-None-clause-text
returns-in-None-clause-text g c =
    let number = g.F.Address.Key.number in
    put_as _ _ _ _ _ _ c.put_unheld.result
    (event-absent c.args.json g.F.Address.LineKey.family c.args.moment (number c.args.address) _ (sym c.in-None.ensures.held)) c.put_unheld.ensures.text
