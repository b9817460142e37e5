use Rattle.mq_link.proofs.Common.{◌+◌, ◌≤◌, sym, ap, ◌∙◌, subst, arith, is_ok, size_of}
use Rattle.std.specs.FinMap as map
use Rattle.mq_held.specs.Groups.{group_at, sources_in, sources_of}
use Rattle.mq_link.proofs.{GroupNumbers.number_stays, KeptGroups.is_number, KeptGroups.spot_absent, KeptGroups.absent_sources, KeptGroups.len_with_new}
use Rattle.mq_link.proofs.{KeptGroups.with_none, KeptGroups.with_other, KeptGroups.with_new, Moved.paid_none, Moved.paid_within, PaidEdits.few_digits}
use Rattle.mq_link.proofs.storage.Storage.keep.Goals as goal

pub put-requires-clause-number : goal.put-requires-clause-number
put-requires-clause-number g c = is_number _ _ _ (rw c.in-Ok.is at c.requires.lookup)

pub put-requires-clause-fits : goal.put-requires-clause-fits
put-requires-clause-fits g c address has =
    let same = c.lemma_is_numbered.ensures.same address _ _ has (rw c.in-Ok.is at c.requires.lookup) in
    subst (λ a. sources_in c.args.self.now.held.groups + size_of c.args.group.now.state ≤ c.args.self.now.held.source_room + sources_of
    (group_at c.args.self.now.held.groups a)) (sym same) c.requires.fits

pub returns-in-Ok-clause-groups : goal.returns-in-Ok-clause-groups
returns-in-Ok-clause-groups g c =
    c.put.ensures.groups _ (rw c.in-Ok.is at c.requires.lookup)
    ∙ with_other _ _ (record { group = c.args.group.now.state; schedule = c.args.schedule }) (c.requires.stays (ap is_ok c.in-Ok.is))

pub returns-in-Ok-clause-numbers : goal.returns-in-Ok-clause-numbers
returns-in-Ok-clause-numbers g c address number has = number_stays _ _ address number c.put.ensures.order has

pub returns-in-Ok-clause-moved : goal.returns-in-Ok-clause-moved
returns-in-Ok-clause-moved g c =
    let few = few_digits (map.len c.args.self.now.held.groups) (omega (arith, c.lemma_is_numbered.ensures.fits, c.requires.few)) in
    paid_within _ c.put.ensures.moved (omega (arith, few))

pub insert-requires-clause-room : goal.insert-requires-clause-room
insert-requires-clause-room g c =
    let absent = spot_absent _ _ _ (rw c.in-Err.is at c.requires.lookup) c.lemma_is_numbered.ensures.held in
    let grown = len_with_new c.args.self.now.held.groups (g.K.Key.number c.args.lookup.address) absent
    (record { group = c.args.group.now.state; schedule = c.args.schedule }) (sym c.is_vacant.ensures ∙ c.if-is_vacant.false) in
    omega (arith, grown, c.requires.room)

pub insert-requires-clause-fits : goal.insert-requires-clause-fits
insert-requires-clause-fits g c =
    let absent = spot_absent _ _ _ (rw c.in-Err.is at c.requires.lookup) c.lemma_is_numbered.ensures.held in
    let none = absent_sources c.args.self.now.held.groups (g.K.Key.number c.args.lookup.address) absent in
    omega (arith, none, c.requires.fits)

pub returns-then-is_vacant-clause-groups : goal.returns-then-is_vacant-clause-groups
returns-then-is_vacant-clause-groups g c =
    let absent = spot_absent _ _ _ (rw c.in-Err.is at c.requires.lookup) c.lemma_is_numbered.ensures.held in
    with_none _ _ absent _ (sym c.is_vacant.ensures ∙ c.if-is_vacant.true)

pub returns-else-is_vacant-clause-groups : goal.returns-else-is_vacant-clause-groups
returns-else-is_vacant-clause-groups g c =
    c.insert.ensures.groups
    ∙ with_new _ _ (record { group = c.args.group.now.state; schedule = c.args.schedule }) (sym c.is_vacant.ensures ∙ c.if-is_vacant.false)

pub returns-then-is_vacant-clause-moved : goal.returns-then-is_vacant-clause-moved
returns-then-is_vacant-clause-moved g c = paid_within _ (paid_none _ _) (omega arith)
