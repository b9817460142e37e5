use Rattle.mq_table.proofs.Common.{◌≡◌, true, false, ◌<◌, ◌≤◌, ◌∙◌, ap, sym, [], length, drop, refl, arith, rules, length-set, or-true, or-false, false≢true}
use Rattle.mq_table.proofs.Common.{drop_all, Spends-join, Spends-within, Spends-join_within, set_of, is_ahead, source_if_asked, is_asked_above}
use Rattle.mq_table.proofs.InOrder.{in_order, some_held}
use Rattle.mq_table.proofs.{MadeLists.all_made, Asking.step, Asking.made_at, Asking.stays, Asking.none_ahead, Asking.all_asked, Asking.some_asked}
use Rattle.mq_table.proofs.retransmissions.ask_each.Goals as goal
use Rattle.mq_table.proofs.retransmissions.ask_each.Goals.{then-is_next+then-runs_on, then-is_next+else-runs_on, else-is_next}

pub loop-place-init : goal.loop-place-init
loop-place-init g c = record {
  next = omega arith;
  passed = omega arith;
  len = refl;
  ahead = in_order g.K.Key.number c.args.sources.now.items c.args.asked.now c.requires.asked_ascend c.requires.sources_ascend c.requires.held;
  made = refl;
  rest = refl;
  some = refl;
  capacity = refl;
  spent = record { at_least = omega arith; at_most = omega arith };
}

pub loop-place-preserved : goal.loop-place-preserved
loop-place-preserved g c =
    let initial = c.args.sources.now.items in
    let xs = c.loop-place.sources.items in
    let place = c.loop-place.place in
    let held = c.index.result.now in
    let so_far = c.loop-place.invariant in
    let within : place < length initial = omega (arith, so_far.len, c.loop-place-test.true, c.len-place-end.ensures, c.args.sources.now.ok.0) in
    let known = step g.K.Key.number c.args.limit c.args.count c.args.asked.now initial xs c.loop-place.next place held within so_far.len so_far.made
    so_far.rest so_far.ahead c.index.ensures in
    let next : c.is_next.result ≡ true → c.loop-place.next < length c.args.asked.now = c.is_next.ensures.within in
    elim c.if-is_next.branch [
      | then-is_next+then-runs_on w ↦
          let one = known true true (sym c.is_next.ensures.answer ∙ w.if-is_next.true)
          (λ _. ap (is_ahead c.args.limit) (sym w.deadline.ensures) ∙ sym w.runs_on.ensures.answer ∙ w.if-runs_on.true) in
          rw (w.sources-is, w.next-is, w.some-is, w.m-is) (record {
            next = omega (arith, next w.if-is_next.true);
            passed = omega (arith, so_far.passed);
            len = length-set xs place (made_at c.args.limit c.args.count true true held) ∙ so_far.len;
            ahead = one.ahead;
            made = one.made;
            rest = one.rest;
            some = sym (one.some ∙ or-true _);
            capacity = so_far.capacity;
            spent = Spends-join_within _ _ (Spends-join so_far.spent c.is_next.ensures.spent) w.runs_on.ensures.spent (omega (arith, so_far.passed))
                (omega arith);
          })
      | then-is_next+else-runs_on w ↦
          let one = known true false (sym c.is_next.ensures.answer ∙ w.if-is_next.true)
          (λ _. ap (is_ahead c.args.limit) (sym w.deadline.ensures) ∙ sym w.runs_on.ensures.answer ∙ w.if-runs_on.false) in
          let same = stays c.args.limit c.args.count true false xs place held c.index.ensures refl in
          rw (w.sources-is, w.next-is, w.some-is, w.m-is) (record {
            next = omega (arith, next w.if-is_next.true);
            passed = omega (arith, so_far.passed);
            len = so_far.len;
            ahead = one.ahead;
            made = rw same at one.made;
            rest = rw same at one.rest;
            some = so_far.some ∙ sym (one.some ∙ or-false _);
            capacity = so_far.capacity;
            spent = Spends-join_within _ _ (Spends-join so_far.spent c.is_next.ensures.spent) w.runs_on.ensures.spent (omega (arith, so_far.passed))
                (omega arith);
          })
      | else-is_next w ↦
          let one = known false false (sym c.is_next.ensures.answer ∙ w.if-is_next.false) (λ e. absurd (false≢true e)) in
          let same = stays c.args.limit c.args.count false false xs place held c.index.ensures refl in
          rw (w.sources-is, w.next-is, w.some-is, w.m-is) (record {
            next = so_far.next;
            passed = omega (arith, so_far.passed);
            len = so_far.len;
            ahead = one.ahead;
            made = rw same at one.made;
            rest = rw same at one.rest;
            some = so_far.some ∙ sym (one.some ∙ or-false _);
            capacity = so_far.capacity;
            spent = Spends-join_within _ _ so_far.spent c.is_next.ensures.spent (omega (arith, so_far.passed)) (omega arith);
          })
    ]

pub returns-clause-items : goal.returns-clause-items
returns-clause-items g c =
    let so_far = c.loop-place.invariant in
    all_made (source_if_asked g.K.Key.number c.args.limit c.args.count (set_of g.K.Key.number c.args.asked.now)) c.args.sources.now.items
    c.loop-place.sources.items c.loop-place.place
    (omega (arith, so_far.len, c.loop-place-test.false, c.len-place-end.ensures, c.args.sources.now.ok.0)) so_far.len so_far.made

pub returns-clause-spent : goal.returns-clause-spent
returns-clause-spent g c =
    let so_far = c.loop-place.invariant in
    let some = some_held g.K.Key.number c.args.asked.now c.args.sources.now.items c.requires.held in
    let over : length c.args.sources.now.items ≤ c.loop-place.place =
    omega (arith, so_far.len, c.loop-place-test.false, c.len-place-end.ensures, c.args.sources.now.ok.0) in
    Spends-within _ _ so_far.spent (omega (arith, some, over)) (omega arith)

pub returns-then-next-asked : goal.returns-then-next-asked
returns-then-next-asked g c =
    let so_far = c.loop-place.invariant in
    let asked = c.args.asked.now in
    let initial = c.args.sources.now.items in
    let over : drop c.loop-place.next asked ≡ [] = drop_all c.loop-place.next asked (omega arith) in
    let none = none_ahead g.K.Key.number c.args.limit c.args.count asked (drop c.loop-place.place initial) (rw over at so_far.ahead) in
    record {
      items = all_asked (source_if_asked g.K.Key.number c.args.limit c.args.count (set_of g.K.Key.number asked)) initial c.loop-place.sources.items
          c.loop-place.place so_far.made so_far.rest none.0;
      some = so_far.some ∙ some_asked (is_asked_above g.K.Key.number c.args.limit (set_of g.K.Key.number asked)) initial c.loop-place.place none.1;
      capacity = search rules;
      spent = search rules;
    }
