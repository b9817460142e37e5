use Rattle.mq_sets.proofs.Common.{◌-◌, ◌≡◌, ◌∷◌, ◌++◌, ◌∙◌, ap, arith, length, take, drop, set, append-nil, drop_all, set_split}
use Rattle.mq_sets.proofs.inserting.put_first.Goals as goal

pub returns-clause-items : goal.returns-clause-items
returns-clause-items g c =
    let items = c.args.items.now in
    let item = c.args.item in
    let moved = take (length items - 1) items in
    let copied = rw c.unwrap.ensures at c.extend_from_slice.ensures.items in
    let filled : c.copy_from_slice.new.self ≡ moved = c.copy_from_slice.ensures.after ∙ c.deref.ensures.value ∙ copied
    ∙ ap (λ xs. xs ++ moved) c.requires.empty in
    let parts : set items 0 item ≡ item ∷ drop 1 items = set_split items 0 item c.requires.some in
    let count = length (item ∷ drop 1 items) - 1 in
    rw (parts, filled) (ap (λ xs. item ∷ xs) (ap (λ xs. moved ++ xs) (drop_all count (drop 1 items) (omega arith)) ∙ append-nil moved))
