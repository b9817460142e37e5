use Rattle.mq_held.proofs.Common.{◌≡◌, ◌∙◌, true, [], ap, sym, get_or, set, PoolState, deadline_of, is_ahead, number_in, asked_found}
use Rattle.mq_held.proofs.queries_in_place.ask_in_row.Goals as goal

pub returns-clause-rows : goal.returns-clause-rows
returns-clause-rows g c source is =
    let number = g.K.Key.number in
    let initial = c.args.rows.now in
    let n = c.args.number in
    let row = get_or initial.rows n [] in
    let held = c.index-row-place.result in
    let here : held ≡ get_or row c.args.place held = c.index-row-place.is ∙ ap (λ xs. get_or xs c.args.place held) c.row.ensures.cells in
    let above = sym (ap (λ x. is_ahead c.args.limit (deadline_of (Rattle.std.specs.Prelude.Some x.timer))) here ∙ c.requires.above held) in
    let all = (asked_found number c.args.limit c.args.count source row c.args.place held true c.requires.ascending c.requires.place here
    (ap (number_in number) here ∙ is held) above).0 in
    c.set.ensures.rows ∙ (λ i. let s : PoolState _ = record initial { rows = set initial.rows n (all i) } in s)
