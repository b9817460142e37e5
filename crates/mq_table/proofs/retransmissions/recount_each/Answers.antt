use Rattle.mq_table.proofs.Common.{Option, Some, ◌≡◌, ◌||◌, ◌+◌, ◌<◌, ◌∙◌, length, set, take, drop, refl, ap, sym, arith, rules, list_any, set-get_or}
use Rattle.mq_table.proofs.Common.{length-set, Source, source_recounted, item_has_retransmissions}
use Rattle.mq_table.proofs.{MadeLists.passed_some, MadeLists.rest_after_some, Asking.all_asked, Asking.some_asked}
use Rattle.mq_table.proofs.Places.{source_stays, sources_stay, made_of_none, any_with_set, any_without}
use Rattle.mq_table.proofs.retransmissions.recount_each.Goals as goal
use Rattle.mq_table.proofs.retransmissions.recount_each.Goals.{then-has_retransmissions, else-has_retransmissions}

pub loop-place-init : goal.loop-place-init
loop-place-init g c =
    let front = take c.args.places.first c.args.sources.now.items in
    record {
      len = refl;
      made = sym (made_of_none c.args.recount front c.requires.none_before);
      rest = refl;
      left = sym c.requires.none_before;
      capacity = refl;
    }

pub loop-place-preserved : goal.loop-place-preserved
loop-place-preserved g c =
    let rule : Source g.row.K.Denot → Option (Source g.row.K.Denot) = λ x. Some (source_recounted c.args.recount x) in
    let initial = c.args.sources.now.items in
    let xs = c.loop-place.sources.items in
    let place = c.loop-place.place in
    let held = c.index.result.now in
    let so_far = c.loop-place.invariant in
    let within : place < length initial = omega (arith, c.loop-place-test.true, c.requires.within) in
    let within_xs : place < length xs = omega (arith, so_far.len, within) in
    let y : Source g.row.K.Denot = source_recounted c.args.recount held in
    let made = passed_some rule initial xs place place held (omega arith) within so_far.len so_far.made so_far.rest c.index.ensures y refl in
    let rest = rest_after_some rule initial xs place place held (omega arith) within so_far.len so_far.made so_far.rest c.index.ensures y in
    elim c.if-has_retransmissions.branch [
      | then-has_retransmissions w ↦
          rw (w.sources-is, w.left-is, w.has_retransmissions-left.ensures, w.recounted-timer.ensures) (record {
            len = length-set xs place y ∙ so_far.len;
            made = made;
            rest = rest;
            left = ap (λ b. b || item_has_retransmissions y) so_far.left ∙ sym (any_with_set item_has_retransmissions xs place y within_xs);
            capacity = so_far.capacity;
          })
      | else-has_retransmissions w ↦
          let none = sym c.has_retransmissions.ensures ∙ w.if-has_retransmissions.false in
          let same : set xs place y ≡ xs = ap (set xs place) (source_stays c.args.recount held none ∙ c.index.ensures) ∙ set-get_or xs place held in
          rw (w.sources-is, w.left-is) (record {
            len = so_far.len;
            made = ap (take (place + 1)) (sym same) ∙ made;
            rest = ap (drop (place + 1)) (sym same) ∙ rest;
            left = so_far.left ∙ sym (any_without item_has_retransmissions xs place held within_xs c.index.ensures none);
            capacity = so_far.capacity;
          })
    ]

pub returns : goal.returns
returns g c =
    let so_far = c.loop-place.invariant in
    let initial = c.args.sources.now.items in
    let over : c.loop-place.place ≡ c.args.places.end = omega (arith, c.requires.ordered) in
    let none = rw (← over) at c.requires.none_behind in
    record {
      items = all_asked (source_recounted c.args.recount) initial c.loop-place.sources.items c.loop-place.place so_far.made so_far.rest
          (sources_stay c.args.recount (drop c.loop-place.place initial) none);
      left = so_far.left ∙ some_asked item_has_retransmissions c.loop-place.sources.items c.loop-place.place
          (ap (list_any item_has_retransmissions) so_far.rest ∙ none);
      capacity = search rules;
    }
