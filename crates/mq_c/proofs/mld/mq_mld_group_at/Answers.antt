use Rattle.mq_c.proofs.Common.{ℕ, refl, subst, w128, from_be_bytes, LinkValue, ShowsGroup, group_form, source_form}
use Rattle.mq_c.specs.Mld.{group_with, source_with}
use Rattle.mq_c.proofs.mld.mq_mld_group_at.Goals as goal

pub returns : goal.returns
returns c = record {
  group =
      let shown = subst (λ (address : ℕ). ShowsGroup (group_form group_with)
      (source_form source_with) c.lend.result.now.state.groups address c.args.group.now c.put_group.new.entry c.args.sources.now
      c.put_group.new.sources c.put_group.result) c.from_octets.ensures c.put_group.ensures in
      subst (λ (kept : LinkValue). ShowsGroup (group_form group_with) (source_form source_with) kept.state.groups
      (from_be_bytes w128 c.args.address.now) c.args.group.now c.put_group.new.entry c.args.sources.now c.put_group.new.sources c.put_group.result)
      c.lend.ensures.value shown;
  same = rw c.lend.ensures.value refl;
}
