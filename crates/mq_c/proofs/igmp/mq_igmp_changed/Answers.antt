use Rattle.mq_c.proofs.Common.{refl, subst, WorkspaceState, TellsChanged}
use Rattle.mq_c.specs.Igmp.{octets_with}
use Rattle.mq_c.proofs.igmp.mq_igmp_changed.Goals as goal

pub returns : goal.returns
returns c = record {
  changed = subst (λ (kept : WorkspaceState). TellsChanged octets_with kept.changed c.args.first c.args.addresses.now c.put_changed.new.out
      c.put_changed.result) c.lend.ensures.value c.put_changed.ensures;
  same = rw c.lend.ensures.value refl;
}
