use Rattle.mq_link.proofs.Common.{sym, ◌∙◌, vacant, ScheduledGroup}
use Rattle.mq_link.proofs.KeptGroups.{is_number, spot_absent, absent_unheld, absent_sources}
use Rattle.mq_link.proofs.storage.look.Goals as goal

pub entry_of-requires : goal.entry_of-requires
entry_of-requires g c = record { number = is_number _ _ _ (rw c.in-Ok.is at c.requires.lookup) }

pub returns-in-Ok-clause-group : goal.returns-in-Ok-clause-group
returns-in-Ok-clause-group g c = c.entry_of.ensures.group _ (rw c.in-Ok.is at c.requires.lookup)

pub returns-in-Ok-clause-len : goal.returns-in-Ok-clause-len
returns-in-Ok-clause-len g c = c.entry_of.ensures.len _ (rw c.in-Ok.is at c.requires.lookup)

pub returns-in-Err-clause-group : goal.returns-in-Err-clause-group
returns-in-Err-clause-group g c =
    let absent = spot_absent _ _ _ (rw c.in-Err.is at c.requires.lookup) c.lemma_is_numbered.ensures.held in
    (λ i. let e : ScheduledGroup = record { group = vacant; schedule = c.none.ensures i } in e)
    ∙ sym (absent_unheld _ _ absent)

pub returns-in-Err-clause-len : goal.returns-in-Err-clause-len
returns-in-Err-clause-len g c =
    let absent = spot_absent _ _ _ (rw c.in-Err.is at c.requires.lookup) c.lemma_is_numbered.ensures.held in
    sym (absent_sources _ _ absent)
