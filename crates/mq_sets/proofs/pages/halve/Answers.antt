use Rattle.mq_sets.proofs.Common.{◌∙◌, ◌-◌, ap, ◌++◌, drop, take, length, take_rest}
use Rattle.mq_sets.proofs.pages.halve.Goals as goal

pub returns-clause-behind : goal.returns-clause-behind
returns-clause-behind g c =
    (rw c.unwrap.ensures at c.extend_from_slice.ensures.items)
    ∙ ap (λ xs. xs ++ take (length c.deref.result.now - 255) (drop 255 c.deref.result.now)) c.requires.empty
    ∙ take_rest c.deref.result.now 255
    ∙ ap (drop 255) c.deref.ensures.value
