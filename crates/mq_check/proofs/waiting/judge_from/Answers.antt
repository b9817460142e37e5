use Rattle.mq_check.proofs.Common.{refl, sym, ◌∙◌, arith, numbered_entry}
use Rattle.mq_check.proofs.{JudgedEntries.item_judged, JudgedEntries.items_judged, JudgedEntries.items_judged_to, Waits.made_long}
use Rattle.mq_check.proofs.waiting.judge_from.Goals as goal

pub loop-place-init : goal.loop-place-init
loop-place-init g c = record { so_far = record { same = refl; to = c.requires.judged }; capacity = refl }

pub loop-place-preserved : goal.loop-place-preserved
loop-place-preserved g c =
    let f = numbered_entry g.F.Address.Key.number in
    let now = c.loop-place.invariant in
    record {
      so_far = item_judged _ _ _ f _ _ _ c.loop-place.place _ _ now.so_far (omega (arith, made_long f c.loop-place.entries.items _ refl)) c.index.ensures
          (sym c.may_change_s.ensures ∙ c.if-may_change_s.false) refl c.judged_by.ensures;
      capacity = omega (arith, now.capacity);
    }

pub returns-then-may_change_s-clause-entries : goal.returns-then-may_change_s-clause-entries
returns-then-may_change_s-clause-entries g c =
    let f = numbered_entry g.F.Address.Key.number in
    items_judged_to _ _ _ f _ _ c.loop-place.place _ c.loop-place.invariant.so_far (omega (arith, made_long f c.loop-place.entries.items _ refl))
    c.index.ensures (sym c.may_change_s.ensures ∙ c.if-may_change_s.true)

pub returns-clause-entries : goal.returns-clause-entries
returns-clause-entries g c =
    let f = numbered_entry g.F.Address.Key.number in
    items_judged _ _ _ f _ _ c.loop-place.place c.loop-place.invariant.so_far (omega (arith, made_long f c.loop-place.entries.items _ refl))
