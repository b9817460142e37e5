use Rattle.mq_table.proofs.Common.{◌≡◌, ◌+◌, ◌-◌, ◌++◌, List, length, length-drop, take, drop, sym, ap, ◌∙◌, arith, append-nil, copy_within, Source, take_all}
use Rattle.mq_table.proofs.Common.{drop_all, drop-drop, common_steps}
use Rattle.std.proofs.lemmas.List.Edits.{drop-paste}
use Rattle.mq_table.proofs.EndedRuns.{take_parts}
use Rattle.mq_table.proofs.expiry.move_run.Goals as goal

pub returns-then-left-place-clause-rest : goal.returns-then-left-place-clause-rest
returns-then-left-place-clause-rest g c =
    let before = c.args.sources.now.items in
    let after = c.copy_within.new.self in
    let place = c.args.place in
    let left = c.args.left in
    let run = place + c.args.run - place in
    let value = c.as_mut_slice.ensures.value in
    let long : length after ≡ length before = c.copy_within.ensures.len ∙ ap length value in
    let full = c.as_mut_slice.ensures.len in
    let whole = ap (take c.args.sources.now.len) (ap (λ ys. after ++ ys) (drop_all (length after) before (omega (arith, long))) ∙ append-nil after) ∙
    take_all c.args.sources.now.len after (omega (arith, full, ap length value, long)) in
    let pasted = c.copy_within.ensures.after ∙ ap (λ xs. copy_within xs place (place + c.args.run) left) value in
    let enough = length-drop place before in
    let behind = drop-paste before left (drop place before) run (omega (arith, c.requires.within, c.requires.behind))
    (omega (arith, c.requires.within, enough)) in
    let far : place + c.args.run ≡ (left + run) + (place - left) = omega (arith, c.requires.behind) in
    let split = λ (xs : List (Source g.row.K.Denot)). ap (λ n. drop n xs) far ∙ sym (drop-drop (place - left) (left + run) xs) in
    ap (drop (place + c.args.run)) (whole ∙ pasted) ∙ split (copy_within before place (place + c.args.run) left) ∙ ap (drop (place - left)) behind ∙
    sym (split before)

pub returns-else-left-place-clause-moved : goal.returns-else-left-place-clause-moved
returns-else-left-place-clause-moved g c =
    let same = c.if-left-place.false in
    let is : c.args.left ≡ c.args.place = omega (arith, same, c.requires.behind) in
    rw is (take_parts c.args.place c.args.run c.args.sources.now.items)

pub returns-then-left-place-clause-len : goal.returns-then-left-place-clause-len
returns-then-left-place-clause-len g c = grind (arith, common_steps)

pub returns-then-left-place-clause-moved : goal.returns-then-left-place-clause-moved
returns-then-left-place-clause-moved g c = grind (arith, common_steps)
