use Rattle.mq_check.proofs.Common.{refl, sym, ◌∙◌, most_bytes, numbered_sought_if, room_of_filled, taken_at}
use Rattle.mq_check.proofs.Announcing.{announces, looked, of_capture}
use Rattle.mq_check.proofs.announced.announced_variables_in.Goals as goal

pub walk-read-requires : goal.walk-read-requires
walk-read-requires g c = room_of_filled most_bytes _ _ c.as_mut_slice.ensures.value c.in-Ok.ensures.items

pub returns-clause-announces : goal.returns-clause-announces
returns-clause-announces g c =
    let looks = looked g.F.Family.FAMILY (λ x. numbered_sought_if g.F.Address.Key.number x.0.sought) _ _ _ _ _ refl c.walk-read.ensures in
    announces _ _ _ _ _ c.found_in.result _ _ looks c.found_in.ensures c.concluded.ensures

pub returns-clause-memory : goal.returns-clause-memory
returns-clause-memory g c = λ is. absurd (of_capture _ _ _ (sym c.concluded.ensures ∙ is))

pub returns-clause-takes : goal.returns-clause-takes
returns-clause-takes g c = taken_at _ (λ is. of_capture _ _ _ (sym c.concluded.ensures ∙ is)) c.in-Ok.ensures.memory
