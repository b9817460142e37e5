use Rattle.mq_held.proofs.Common.{◌≡◌, ◌+◌, ◌<◌, ◌≤◌, get_or, sym, ap, ◌∙◌, arith, ⊎_elim, cases_lt, ranked, Less, Greater, Spends-join_within, number_in}
use Rattle.mq_held.proofs.several_in_place.place_from.Goals as goal

pub loop-place-preserved : goal.loop-place-preserved
loop-place-preserved g c =
    let number = number_in g.K.Key.number in
    let row = c.args.row.now in
    let place = c.loop-place.place in
    let x = c.index-row-place.result in
    let name = g.K.Key.number c.args.name in
    let found = c.loop-place.invariant.there in
    let other : number (get_or row place x) ≡ name → ⊥ = λ same.
    ⊎_elim
    (λ less. let at : number (get_or row place x) < name = ranked (number (get_or row place x)) name Less (sym less ∙ c.order.ensures.answer) in
    omega (arith, at, same))
    (λ greater. let at : name < number (get_or row place x) = ranked (number (get_or row place x)) name Greater (sym greater ∙ c.order.ensures.answer)
    in omega (arith, at, same))
    c.in-Less.is in
    let behind : place + 1 ≤ found.place =
    ⊎_elim
    (λ (after : place < found.place). omega (arith, after))
    (λ (low : found.place ≤ place). let same : found.place ≡ place = omega (arith, low, found.behind) in
    absurd (other (ap (λ k. number (get_or row k x)) (sym same) ∙ found.is x)))
    (cases_lt place found.place) in
    record {
      from = omega arith;
      there = record { place = found.place; behind = behind; within = found.within; is = found.is };
      spent = Spends-join_within _ _ c.loop-place.invariant.spent c.order.ensures.spent (omega arith) (omega arith);
    }
