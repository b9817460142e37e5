use Rattle.mq_link.proofs.Common.{ap, sym, ◌∙◌, forwards_in, ScheduledGroup, group_at, LinkValue}
use Rattle.mq_link.specs.State as state
use Rattle.mq_link.proofs.{KeptGroups.is_number, KeptGroups.absent_unheld, LinkStored.absent_forwards}
use Rattle.mq_link.proofs.bare_link.BareLink.forwards.Goals as goal

pub entry_of-requires : goal.entry_of-requires
entry_of-requires g c = record { number = is_number _ (g.F.Address.Key.number c.args.group) c.in-Ok.number c.in-Ok.ensures.found }

pub returns-in-Ok : goal.returns-in-Ok
returns-in-Ok g c =
    let group = g.F.Address.Key.number c.args.group in
    let source = g.F.Address.Key.number c.args.source in
    c.forwards.ensures.answer
    ∙ ap (λ (e : ScheduledGroup). forwards_in e.group source) (c.entry_of.ensures.group group c.in-Ok.ensures.found)
    ∙ ap (λ groups. forwards_in (group_at groups group).group source) c.held-held.ensures
    ∙ ap (λ (v : LinkValue). state.forwards v.state group source) c.self.view_is

pub returns-in-Err : goal.returns-in-Err
returns-in-Err g c =
    let group = g.F.Address.Key.number c.args.group in
    let source = g.F.Address.Key.number c.args.source in
    let absent = absent_unheld _ group (sym c.in-Err.ensures.held) in
    sym (absent_forwards _ group source absent)
    ∙ ap (λ groups. forwards_in (group_at groups group).group source) c.held-held.ensures
    ∙ ap (λ (v : LinkValue). state.forwards v.state group source) c.self.view_is
