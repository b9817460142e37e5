use Rattle.mq_c.proofs.Common.{◌≤◌, ℕ, ◌∙◌, ap, sym, subst, refl, length, arith, group_deadline, sources_of, IsFaultless, few_sources, group_form, source_form}
use Rattle.mq_c.proofs.Common.{deadline_or_none}
use Rattle.mq_c.proofs.ShownGroups.{so_far_more, page_full}
use Rattle.mq_c.proofs.pages.put_groups.Goals as goal

pub returns-then-sources-used : goal.returns-then-sources-used
returns-then-sources-used g c =
    let address = g.F.Address.Key.number c.entry-entry.result.address in
    let has = c.entry-entry.ensures.place in
    page_full (group_form g.F.CFamily.group_with) (source_form g.F.CFamily.source_with) c.args.link.now.state.groups c.args.first c.args.groups.now
    c.loop-count.groups c.args.sources.now c.loop-count.sources c.loop-count.count c.loop-count.used address (length c.entry-entry.result.sources.now)
    c.page_of-then-sources-used.result
    c.loop-count.invariant c.page_of-then-sources-used.ensures has (c.entry-entry.ensures.len address has) c.loop-count.auto.sources c.if-sources-used.true

pub group_of-requires : goal.group_of-requires
group_of-requires g c =
    let address = g.F.Address.Key.number c.entry-entry.result.address in
    let here = c.entry-entry.ensures.len address c.entry-entry.ensures.place in
    let few = few_sources c.args.link.now.config (subst IsFaultless c.config.ensures c.is_faultless.ensures.faultless) in
    record { few = omega (arith, here, few, c.is_well_formed.ensures.formed.within.group_sources address) }

pub loop-count-preserved : goal.loop-count-preserved
loop-count-preserved g c =
    let entry = c.entry-entry.result in
    let address = g.F.Address.Key.number entry.address in
    let here = c.entry-entry.ensures.len address c.entry-entry.ensures.place in
    let few = few_sources c.args.link.now.config (subst IsFaultless c.config.ensures c.is_faultless.ensures.faultless) in
    let small : length entry.sources.now ≤ 1024 = omega (arith, here, few, c.is_well_formed.ensures.formed.within.group_sources address) in
    let is = c.entry-entry.ensures.group address c.entry-entry.ensures.place in
    let size = here ∙ sym (ap sources_of is) in
    let sized = λ (n : ℕ). g.F.CFamily.group_with address n (deadline_or_none (group_deadline entry.mode)) (deadline_or_none entry.v1)
    (deadline_or_none entry.v2) in
    so_far_more (group_form g.F.CFamily.group_with) (source_form g.F.CFamily.source_with) c.args.link.now.state.groups c.args.first
    g.F.Address.Key.number c.args.groups.now c.loop-count.groups c.args.sources.now c.loop-count.sources c.put_sources.new.out c.loop-count.count
    c.loop-count.used address entry.sources.now _ c.group_of.result
    c.loop-count.invariant (omega arith) c.entry-entry.ensures.place is c.entry-entry.ensures.ascending refl small (omega arith)
    (c.group_of.ensures ∙ ap sized size)
    c.put_sources.ensures
