use Rattle.mq_link.proofs.Common.{ap, ◌∙◌, group_at, sources_of, LinkValue}
use Rattle.mq_link.proofs.KeptGroups.{is_number}
use Rattle.mq_link.proofs.bare_link.BareLink.find.Goals as goal

pub entry_of-requires : goal.entry_of-requires
entry_of-requires g c = record { number = is_number _ (g.F.Address.Key.number c.args.group) c.in-Ok.number c.in-Ok.ensures.found }

pub returns-in-Ok-clause-found : goal.returns-in-Ok-clause-found
returns-in-Ok-clause-found g c =
    let group = g.F.Address.Key.number c.args.group in
    let groups = c.held-held.ensures ∙ ap (λ (v : LinkValue). v.state.groups) c.self.view_is in
    record {
      address_is = c.lemma_is_numbered.ensures.same _ group c.in-Ok.number c.entry_of.ensures.address c.in-Ok.ensures.found;
      group_is = c.entry_of.ensures.group group c.in-Ok.ensures.found ∙ ap (λ gs. group_at gs group) groups;
      ascending = c.entry_of.ensures.ascending;
      len = c.entry_of.ensures.len group c.in-Ok.ensures.found ∙ ap (λ gs. sources_of (group_at gs group)) groups;
    }
