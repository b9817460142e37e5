use Rattle.mq_c.proofs.Common.{refl, subst, LinkValue, group_with, source_with, IsPage, group_form, source_form}
use Rattle.mq_c.proofs.igmp.mq_igmp_groups.Goals as goal

pub returns : goal.returns
returns c = record {
  page = subst (λ (kept : LinkValue). IsPage (group_form group_with)
      (source_form source_with) kept.state.groups c.args.first c.args.groups.now c.put_groups.new.groups c.args.sources.now c.put_groups.new.sources
      c.put_groups.result) c.lend.ensures.value c.put_groups.ensures;
  same = rw c.lend.ensures.value refl;
}
