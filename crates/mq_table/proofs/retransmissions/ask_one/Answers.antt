use Rattle.mq_table.proofs.Common.{true, false, set, ◌∙◌, ap, sym, refl, get_or_read, is_ahead, number_in, arith, common_steps}
use Rattle.mq_table.proofs.{Asking.made_at, Asking.stays, AskingOne.asked_absent, AskingOne.asked_found}
use Rattle.mq_table.proofs.retransmissions.ask_one.Goals as goal

pub returns-then-is_above-clause-items : goal.returns-then-is_above-clause-items
returns-then-is_above-clause-items g c =
    let held = c.index.result.now in
    let within = rw c.as_slice.ensures.value at c.in-Ok.ensures.found_in in
    let found = rw c.as_slice.ensures.value at (c.in-Ok.ensures.found held) in
    let above = sym c.if-is_above.true ∙ c.runs_on-is_above.ensures.answer ∙ ap (is_ahead c.args.limit) c.deadline.ensures in
    let same = get_or_read c.args.sources.now.items c.in-Ok.place held within c.index.ensures c.index_mut.result.now ∙ sym c.index_mut.ensures.value in
    ap (λ x. set c.args.sources.now.items c.in-Ok.place (made_at c.args.limit c.args.count true true x)) (sym same)
    ∙ (asked_found g.K.Key.number c.args.limit c.args.count c.args.asked.now c.args.sources.now.items c.in-Ok.place held true c.requires within
    c.index.ensures (ap (number_in g.K.Key.number) c.index.ensures ∙ found) above).0

pub returns-else-is_above-clause-items : goal.returns-else-is_above-clause-items
returns-else-is_above-clause-items g c =
    let held = c.index.result.now in
    let within = rw c.as_slice.ensures.value at c.in-Ok.ensures.found_in in
    let found = rw c.as_slice.ensures.value at (c.in-Ok.ensures.found held) in
    let above = sym c.if-is_above.false ∙ c.runs_on-is_above.ensures.answer ∙ ap (is_ahead c.args.limit) c.deadline.ensures in
    sym (stays c.args.limit c.args.count true false c.args.sources.now.items c.in-Ok.place held c.index.ensures refl)
    ∙ (asked_found g.K.Key.number c.args.limit c.args.count c.args.asked.now c.args.sources.now.items c.in-Ok.place held false c.requires within
    c.index.ensures (ap (number_in g.K.Key.number) c.index.ensures ∙ found) above).0

pub returns-else-is_above-clause-some : goal.returns-else-is_above-clause-some
returns-else-is_above-clause-some g c =
    let held = c.index.result.now in
    let within = rw c.as_slice.ensures.value at c.in-Ok.ensures.found_in in
    let found = rw c.as_slice.ensures.value at (c.in-Ok.ensures.found held) in
    let above = c.runs_on-is_above.ensures.answer ∙ ap (is_ahead c.args.limit) c.deadline.ensures in
    (asked_found g.K.Key.number c.args.limit c.args.count c.args.asked.now c.args.sources.now.items c.in-Ok.place held c.runs_on-is_above.result
    c.requires within c.index.ensures (ap (number_in g.K.Key.number) c.index.ensures ∙ found) above).1

pub returns-in-Err-clause-items : goal.returns-in-Err-clause-items
returns-in-Err-clause-items g c =
    let absent = rw c.as_slice.ensures.value at c.in-Err.ensures.member in
    (asked_absent g.K.Key.number c.args.limit c.args.count c.args.asked.now c.args.sources.now.items absent).0

pub returns-in-Err-clause-some : goal.returns-in-Err-clause-some
returns-in-Err-clause-some g c =
    let absent = rw c.as_slice.ensures.value at c.in-Err.ensures.member in
    (asked_absent g.K.Key.number c.args.limit c.args.count c.args.asked.now c.args.sources.now.items absent).1

pub returns-then-is_above-clause-some : goal.returns-then-is_above-clause-some
returns-then-is_above-clause-some g c = grind (arith, common_steps)
