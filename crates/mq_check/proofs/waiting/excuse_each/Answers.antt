use Rattle.mq_check.proofs.Common.{Bool, ap, refl, ◌∙◌, arith, length-set, excused_if, numbered_entry}
use Rattle.mq_check.proofs.Excusing.{one_excused, all_were_excused}
use Rattle.mq_check.proofs.waiting.excuse_each.Goals as goal

pub loop-place-init : goal.loop-place-init
loop-place-init g c = record { excused = refl; long = refl; capacity = refl }

pub loop-place-preserved : goal.loop-place-preserved
loop-place-preserved g c =
    let f = numbered_entry g.F.Address.Key.number in
    let now = c.loop-place.invariant in
    record {
      excused = one_excused _ f _ _ _ c.loop-place.place _ _ now.excused (omega (arith, now.long)) c.index.ensures refl
          (c.excused_if.ensures ∙ ap (λ (b : Bool). excused_if b (f c.index.result.now)) c.may_still_come-may_come.ensures);
      long = length-set _ _ _ ∙ now.long;
      capacity = omega (arith, now.capacity);
    }

pub returns-clause-entries : goal.returns-clause-entries
returns-clause-entries g c =
    let now = c.loop-place.invariant in
    all_were_excused _ (numbered_entry g.F.Address.Key.number) _ _ c.loop-place.place now.excused (omega (arith, now.long))
