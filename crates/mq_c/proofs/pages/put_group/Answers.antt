use Rattle.mq_c.proofs.Common.{◌≡◌, ◌∙◌, ap, sym, subst, arith, group_deadline, ScheduledGroup, group_at, IsFaultless, few_sources, group_form, source_form}
use Rattle.mq_c.proofs.Common.{deadline_or_none}
use Rattle.mq_link.proofs.KeptGroups.{absent_sources}
use Rattle.mq_c.proofs.OneGroup.{not_shown, shown_whole}
use Rattle.mq_c.proofs.pages.put_group.Goals as goal

pub group_of-requires : goal.group_of-requires
group_of-requires g c =
    let address = g.F.Address.Key.number c.args.group in
    let at = c.in-Some.ensures.found in
    let few = few_sources c.args.link.now.config (subst IsFaultless c.config.ensures c.is_faultless.ensures.faultless) in
    record { few = omega (arith, at.len, few, c.is_well_formed.ensures.formed.within.group_sources address) }

pub returns-in-None : goal.returns-in-None
returns-in-None g c =
    let groups = c.args.link.now.state.groups in
    let address = g.F.Address.Key.number c.args.group in
    let absent = sym c.in-None.ensures.held in
    not_shown (group_form g.F.CFamily.group_with) (source_form g.F.CFamily.source_with) groups address c.args.entry.now c.args.sources.now c.page_of.result
    absent (absent_sources groups address absent) c.page_of.ensures

pub returns-else-sources-held : goal.returns-else-sources-held
returns-else-sources-held g c =
    let groups = c.args.link.now.state.groups in
    let number = g.F.Address.Key.number in
    let address = number c.args.group in
    let at = c.in-Some.ensures.found in
    let row = c.in-Some.held.sources.now in
    let room = c.if-sources-held.false in
    let form : c.group_of.result ≡ group_form g.F.CFamily.group_with (address, group_at groups address) = c.group_of.ensures
    ∙ (λ i. g.F.CFamily.group_with (at.address_is i) (at.len i) (deadline_or_none (group_deadline (at.group_is i).group.mode))
    (deadline_or_none (at.group_is i).group.v1) (deadline_or_none (at.group_is i).group.v2)) in
    shown_whole (group_form g.F.CFamily.group_with) (source_form g.F.CFamily.source_with) groups address number row c.args.entry.now c.group_of.result
    c.args.sources.now c.put_sources.new.out c.page_of-in-Some.result
    (sym c.in-Some.ensures.held) at.ascending (sym (ap (λ (e : ScheduledGroup). e.group.sources) at.group_is)) at.len (omega (arith, room))
    form c.put_sources.ensures c.page_of-in-Some.ensures
