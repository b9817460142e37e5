use Rattle.mq_held.proofs.Common.{◌<◌, ◌∙◌, length, not, sym, ap, subst, arith, Spends-join_within, key_in, IsNumber, common_steps}
use Rattle.mq_held.proofs.{KeysByNumber.numbers_in, GroupsInOrder.IsOrdered-stored, GroupsInOrder.len-view, GroupsInOrder.len-all, GroupsInOrder.all-known}
use Rattle.mq_held.proofs.{LeftNumbers.number-has, LeftNumbers.passed_yes, LeftNumbers.passed_no}
use Rattle.mq_held.proofs.held_groups.HeldGroups.part.Goals as goal
use Rattle.mq_held.proofs.held_groups.HeldGroups.part.Goals.{then-not-is_vacant, else-not-is_vacant}

pub all-requires : goal.all-requires
all-requires g c =
    let known = IsOrdered-stored g.K.Key.number c.self.invariant.0 c.self.view_is in
    record { space = omega (arith, c.requires.space, len-view known (ap (λ s. s.order) c.self.view_is)) }

pub is_vacant-requires : goal.is_vacant-requires
is_vacant-requires g c =
    let known = IsOrdered-stored g.K.Key.number c.self.invariant.0 c.self.view_is in
    let all = c.all.ensures.numbers ∙ ap (λ s. numbers_in s.order.items) c.self.view_is in
    let within : c.loop-place.place < length c.all.new.numbers.items = omega (arith, c.loop-place-test.true, c.len-place-end.ensures, c.all.new.numbers.ok.0) in
    record { number = subst (IsNumber c.args.self.now) (sym c.index-number.ensures) (all-known known all c.loop-place.place c.index-number.result.now within) }

pub bounds-kept-count : goal.bounds-kept-count
bounds-kept-count g c =
    let known = IsOrdered-stored g.K.Key.number c.self.invariant.0 c.self.view_is in
    let all = c.all.ensures.numbers ∙ ap (λ s. numbers_in s.order.items) c.self.view_is in
    let within : c.loop-place.place < length c.all.new.numbers.items = omega (arith, c.loop-place-test.true, c.len-place-end.ensures, c.all.new.numbers.ok.0) in
    omega (arith, within, c.loop-place.invariant.1, len-all known all, c.requires.kept_space, c.loop-place.auto.kept)

pub loop-place-preserved : goal.loop-place-preserved
loop-place-preserved g c =
    let n = c.index-number.result.now in
    let known = IsOrdered-stored g.K.Key.number c.self.invariant.0 c.self.view_is in
    let all = c.all.ensures.numbers ∙ ap (λ s. numbers_in s.order.items) c.self.view_is in
    let within : c.loop-place.place < length c.all.new.numbers.items = omega (arith, c.loop-place-test.true, c.len-place-end.ensures, c.all.new.numbers.ok.0) in
    let is : IsNumber c.args.self.now n = subst (IsNumber c.args.self.now) (sym c.index-number.ensures) (all-known known all c.loop-place.place n within) in
    let told = c.is_vacant.ensures (key_in c.args.self.now.order.items n) (number-has c.args.self.now n is) in
    let inside : c.loop-place.count < length c.loop-place.kept =
    omega (arith, within, c.loop-place.invariant.1, len-all known all, c.requires.kept_space, c.loop-place.auto.kept) in
    let front = c.loop-place.invariant.0 in
    let upto = c.loop-place.invariant.1 in
    elim c.if-not-is_vacant.branch [
      | then-not-is_vacant w ↦
          rw (w.kept-is, w.count-is) (
            passed_yes _ _ _ _ _ n front inside within c.index-number.ensures (ap not (sym told ∙ w.if-not-is_vacant.true)),
            omega (arith, upto),
          )
      | else-not-is_vacant w ↦
          rw (w.kept-is, w.count-is) (
            passed_no _ _ _ _ _ n front within c.index-number.ensures (ap not (sym told ∙ w.if-not-is_vacant.false)),
            omega (arith, upto),
          )
    ]

pub leave_vacant-requires : goal.leave_vacant-requires
leave_vacant-requires g c =
    let known = IsOrdered-stored g.K.Key.number c.self.invariant.0 c.self.view_is in
    record { there = all-known known (c.all.ensures.numbers ∙ ap (λ s. numbers_in s.order.items) c.self.view_is) }

pub returns-clause-within : goal.returns-clause-within
returns-clause-within g c =
    let known = IsOrdered-stored g.K.Key.number c.self.invariant.0 c.self.view_is in
    let all = c.all.ensures.numbers ∙ ap (λ s. numbers_in s.order.items) c.self.view_is in
    omega (
      arith,
      c.loop-place.auto.place-end,
      c.len-place-end.ensures,
      c.all.new.numbers.ok.0,
      c.loop-place.invariant.1,
      len-all known all,
      c.requires.kept_space,
      c.loop-place.auto.kept,
    )

pub returns-clause-moved : goal.returns-clause-moved
returns-clause-moved g c =
    let known = IsOrdered-stored g.K.Key.number c.self.invariant.0 c.self.view_is in
    let all = c.all.ensures.numbers ∙ ap (λ s. numbers_in s.order.items) c.self.view_is in
    let size = len-view known (ap (λ s. s.order) c.self.view_is) in
    Spends-join_within _ _ c.all.ensures.moved c.leave_vacant.ensures.moved (omega (arith, size, len-all known all)) (omega (arith, size, len-all known all))

pub returns-clause-kept : goal.returns-clause-kept
returns-clause-kept g c = grind (arith, common_steps)
