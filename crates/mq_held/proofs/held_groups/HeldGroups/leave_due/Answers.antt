use Rattle.mq_held.proofs.Common.{◌<◌, ◌∙◌, not, length, sym, arith, FiltersInPlace-more_set, FiltersInPlace-more_no, IsNumber, is_vacant_at, common_steps}
use Rattle.mq_held.proofs.{Inside.within-rows, DueNumbers.due-number, DueNumbers.looked-more, DueNumbers.running-number, LeftNumbers.unread}
use Rattle.mq_held.proofs.{LeftNumbers.unread-is}
use Rattle.mq_held.proofs.held_groups.HeldGroups.leave_due.Goals as goal
use Rattle.mq_held.proofs.held_groups.HeldGroups.leave_due.Goals.{then-is_due, else-is_due}

pub is_due-requires : goal.is_due-requires
is_due-requires g c =
    let n = c.index-number.result.now in
    let within : c.loop-place.place < length c.args.numbers.now.items =
    omega (arith, c.loop-place-test.true, c.len-place-end.ensures, c.args.numbers.now.ok.0) in
    let is : IsNumber c.args.self.now n = unread-is (IsNumber c.args.self.now) n c.loop-place.invariant.0 c.requires.there within c.index-number.ensures in
    record { number = omega (arith, within-rows g.K.Key.number c.self.invariant.0 c.self.view_is n is, c.self.invariant.2, c.self.invariant.4) }

pub loop-place-preserved : goal.loop-place-preserved
loop-place-preserved g c =
    let n = c.index-number.result.now in
    let kept = c.loop-place.invariant.0 in
    let within : c.loop-place.place < length c.args.numbers.now.items =
    omega (arith, c.loop-place-test.true, c.len-place-end.ensures, c.args.numbers.now.ok.0) in
    let is : IsNumber c.args.self.now n = unread-is (IsNumber c.args.self.now) n kept c.requires.there within c.index-number.ensures in
    let told = c.is_due.ensures.due ∙ due-number g.K.Key.number c.self.invariant.0 c.self.view_is c.args.now n is in
    let inside : c.loop-place.place < length c.loop-place.numbers.items = omega (arith, within, kept.long) in
    let running = running-number g.K.Key.number c.self.invariant.0 c.self.view_is n is in
    let looked = rw running at c.is_due.ensures.spent in
    let spent = looked-more (λ k. not (is_vacant_at c.args.self.now k)) c.args.numbers.now.items c.loop-place.place n within
    (c.index-number.ensures ∙ unread kept n) c.loop-place.invariant.2 looked in
    elim c.if-is_due.branch [
      | then-is_due w ↦ rw (w.numbers-is, w.due-is) (
        FiltersInPlace-more_set kept inside (sym told ∙ w.if-is_due.true) c.index-number.ensures,
        c.loop-place.invariant.1,
        spent,
      )
      | else-is_due w ↦ rw (w.numbers-is, w.due-is) (
        FiltersInPlace-more_no kept inside (sym told ∙ w.if-is_due.false) c.index-number.ensures,
        c.loop-place.invariant.1,
        spent,
      )
    ]

pub returns-clause-numbers : goal.returns-clause-numbers
returns-clause-numbers g c = grind (arith, common_steps)
