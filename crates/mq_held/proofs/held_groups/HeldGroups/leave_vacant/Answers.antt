use Rattle.mq_held.proofs.Common.{◌<◌, ◌∙◌, length, sym, arith, FiltersInPlace-more_set, FiltersInPlace-more_no, key_in, IsNumber}
use Rattle.mq_held.proofs.LeftNumbers.{unread-is, number-has}
use Rattle.mq_held.proofs.held_groups.HeldGroups.leave_vacant.Goals as goal
use Rattle.mq_held.proofs.held_groups.HeldGroups.leave_vacant.Goals.{then-is_vacant, else-is_vacant}

pub is_vacant-requires : goal.is_vacant-requires
is_vacant-requires g c =
    let within : c.loop-place.place < length c.args.numbers.now.items =
    omega (arith, c.loop-place-test.true, c.len-place-end.ensures, c.args.numbers.now.ok.0) in
    record { number = unread-is (IsNumber c.args.self.now) c.index-number.result.now c.loop-place.invariant.0 c.requires.there within c.index-number.ensures }

pub loop-place-preserved : goal.loop-place-preserved
loop-place-preserved g c =
    let n = c.index-number.result.now in
    let kept = c.loop-place.invariant.0 in
    let within : c.loop-place.place < length c.args.numbers.now.items =
    omega (arith, c.loop-place-test.true, c.len-place-end.ensures, c.args.numbers.now.ok.0) in
    let is : IsNumber c.args.self.now n = unread-is (IsNumber c.args.self.now) n kept c.requires.there within c.index-number.ensures in
    let told = c.is_vacant.ensures (key_in c.args.self.now.order.items n) (number-has c.args.self.now n is) in
    let inside : c.loop-place.place < length c.loop-place.numbers.items = omega (arith, within, kept.long) in
    elim c.if-is_vacant.branch [
      | then-is_vacant w ↦ rw (w.numbers-is, w.gone-is) (
        FiltersInPlace-more_set kept inside (sym told ∙ w.if-is_vacant.true) c.index-number.ensures,
        c.loop-place.invariant.1,
      )
      | else-is_vacant w ↦ rw (w.numbers-is, w.gone-is) (
        FiltersInPlace-more_no kept inside (sym told ∙ w.if-is_vacant.false) c.index-number.ensures,
        c.loop-place.invariant.1,
      )
    ]
