use Rattle.mq_held.proofs.Common.{ℕ, ◌≡◌, ◌||◌, ◌+◌, ◌<◌, ◌∙◌, cond, [], Option, Some, length, set, get_or, take, drop, refl, ap, sym, arith, list_any}
use Rattle.mq_held.proofs.Common.{cond-false, cond-true, sum_by_more, get_or-set_same, length-set, set-get_or, set-set, Spends-join_within, Spends-none}
use Rattle.mq_held.proofs.Common.{Spends-within, PoolState, Source, item_counted, item_has_retransmissions, all_asked, some_asked}
use Rattle.mq_table.proofs.MadeLists.{passed_some, rest_after_some}
use Rattle.mq_table.proofs.Places.{any_with_set, any_without, uncounted_all, uncounted_made, uncounted_stays}
use Rattle.mq_held.proofs.CountedRows.{count-before, count-none_of_any, same-behind}
use Rattle.mq_held.proofs.queries_in_place.count_in_row.Goals as goal
use Rattle.mq_held.proofs.queries_in_place.count_in_row.Goals.{then-has_retransmissions, else-has_retransmissions}

pub loop-place-init : goal.loop-place-init
loop-place-init g c =
    let n = c.args.number in
    let initial = c.args.rows.now in
    let row = get_or initial.rows n [] in
    let front = take c.args.places.first row in
    let same = sym (set-get_or initial.rows n []) in
    record {
      rows = (λ i. record initial { rows = same i });
      len = refl;
      made = sym (uncounted_made front c.requires.between.none_before);
      rest = refl;
      left = sym c.requires.between.none_before;
      moved = rw (count-none_of_any item_has_retransmissions front c.requires.between.none_before) (Spends-none c.args.moves.now);
    }

pub loop-place-preserved : goal.loop-place-preserved
loop-place-preserved g c =
    let n = c.args.number in
    let rule : Source g.row.K.Denot → Option (Source g.row.K.Denot) = λ x. Some (item_counted x) in
    let initial = c.args.rows.now in
    let row = get_or initial.rows n [] in
    let rows = c.loop-place.rows in
    let xs = get_or rows.rows n [] in
    let place = c.loop-place.place in
    let held = c.index-row-place.result in
    let so_far = c.loop-place.invariant in
    let there : n < length rows.rows = omega (arith, ap (λ (s : PoolState _). length s.rows) so_far.rows, length-set initial.rows n xs, c.requires.number) in
    let here : held ≡ get_or xs place held = c.index-row-place.is ∙ ap (λ ys. get_or ys place held) c.row.ensures.cells in
    let within : place < length row = omega (arith, c.loop-place-test.true, c.requires.between.within) in
    let within_xs : place < length xs = omega (arith, so_far.len, within) in
    let y : Source g.row.K.Denot = item_counted held in
    let made = passed_some rule row xs place place held (omega arith) within so_far.len so_far.made so_far.rest here y refl in
    let rest = rest_after_some rule row xs place place held (omega arith) within so_far.len so_far.made so_far.rest here y in
    let in_row : held ≡ get_or row place held = here ∙ same-behind xs row place held so_far.rest in
    elim c.if-has_retransmissions.branch [
      | then-has_retransmissions w ↦
          let own : get_or (set rows.rows n (set xs place y)) n [] ≡ set xs place y = get_or-set_same rows.rows n (set xs place y) [] there in
          let all : set rows.rows n (set xs place y) ≡ set initial.rows n (set xs place y) =
          ap (λ (s : PoolState _). set s.rows n (set xs place y)) so_far.rows ∙ set-set initial.rows n xs (set xs place y) in
          let rest_is = so_far.rows in
          rw (w.rows-is, w.moves-is, w.left-is, w.has_retransmissions-left.ensures, w.set.ensures.rows, w.counted-timer.ensures, own) (record {
            rows = (λ i. record { rows = all i; cell_limit = (rest_is i).cell_limit; ahead = (rest_is i).ahead });
            len = length-set xs place y ∙ so_far.len;
            made = made;
            rest = rest;
            left = ap (λ b. b || item_has_retransmissions y) so_far.left ∙ sym (any_with_set item_has_retransmissions xs place y within_xs);
            moved = let more = sum_by_more (λ (x : Source g.row.K.Denot). cond {A = ℕ} (item_has_retransmissions x) 1 0) row place held within in
                let own : cond {A = ℕ} (item_has_retransmissions (get_or row place held)) 1 0 ≡ 1 =
                ap (λ (x : Source g.row.K.Denot). cond {A = ℕ} (item_has_retransmissions x) 1 0) (sym in_row) ∙
                cond-true (item_has_retransmissions held) 1 0 (sym c.has_retransmissions.ensures ∙ w.if-has_retransmissions.true) in
                Spends-join_within _ _ so_far.moved w.set.ensures.moves (omega (arith, more, own)) (omega (arith, more, own));
          })
      | else-has_retransmissions w ↦
          let none = sym c.has_retransmissions.ensures ∙ w.if-has_retransmissions.false in
          let same : set xs place y ≡ xs = ap (set xs place) (uncounted_stays held none ∙ here) ∙ set-get_or xs place held in
          rw (w.rows-is, w.moves-is, w.left-is) (record {
            rows = so_far.rows;
            len = so_far.len;
            made = ap (take (place + 1)) (sym same) ∙ made;
            rest = ap (drop (place + 1)) (sym same) ∙ rest;
            left = so_far.left ∙ sym (any_without item_has_retransmissions xs place held within_xs here none);
            moved = let more = sum_by_more (λ (x : Source g.row.K.Denot). cond {A = ℕ} (item_has_retransmissions x) 1 0) row place held within in
                let own : cond {A = ℕ} (item_has_retransmissions (get_or row place held)) 1 0 ≡ 0 =
                ap (λ (x : Source g.row.K.Denot). cond {A = ℕ} (item_has_retransmissions x) 1 0) (sym in_row) ∙
                cond-false (item_has_retransmissions held) 1 0 none
                in Spends-within _ _ so_far.moved (omega (arith, more, own)) (omega (arith, more, own));
          })
    ]

pub returns-clause-rows : goal.returns-clause-rows
returns-clause-rows g c =
    let so_far = c.loop-place.invariant in
    let initial = c.args.rows.now in
    let n = c.args.number in
    let row = get_or initial.rows n [] in
    let over : c.loop-place.place ≡ c.args.places.end = omega (arith, c.requires.between.ordered) in
    let none = rw (← over) at c.requires.between.none_behind in
    let all = all_asked item_counted row (get_or c.loop-place.rows.rows n []) c.loop-place.place so_far.made so_far.rest
    (uncounted_all (drop c.loop-place.place row) none) in
    so_far.rows ∙ (λ i. let s : PoolState _ = record initial { rows = set initial.rows n (all i) } in s)

pub returns-clause-left : goal.returns-clause-left
returns-clause-left g c =
    let so_far = c.loop-place.invariant in
    let n = c.args.number in
    let row = get_or c.args.rows.now.rows n [] in
    let xs = get_or c.loop-place.rows.rows n [] in
    let over : c.loop-place.place ≡ c.args.places.end = omega (arith, c.requires.between.ordered) in
    let none = rw (← over) at c.requires.between.none_behind in
    let all = all_asked item_counted row xs c.loop-place.place so_far.made so_far.rest (uncounted_all (drop c.loop-place.place row) none) in
    so_far.left ∙ some_asked item_has_retransmissions xs c.loop-place.place (ap (list_any item_has_retransmissions) so_far.rest ∙ none) ∙
    ap (list_any item_has_retransmissions) all

pub returns-clause-moved : goal.returns-clause-moved
returns-clause-moved g c =
    let so_far = c.loop-place.invariant in
    let row = get_or c.args.rows.now.rows c.args.number [] in
    let over : c.loop-place.place ≡ c.args.places.end = omega (arith, c.requires.between.ordered) in
    let none = rw (← over) at c.requires.between.none_behind in
    rw (count-before item_has_retransmissions row c.loop-place.place none) so_far.moved
