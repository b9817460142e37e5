use Rattle.mq_link.proofs.Common.{◌≡◌, sym, ap, ◌∙◌, arith, Spends-within, Spends-join, Spends-join_within, bitlen, bitlen-le, ScheduledGroup, sources_of}
use Rattle.mq_link.proofs.Common.{source_count, numbered_query, numbered_version, group_lowered}
use Rattle.std.specs.FinMap as map
use Rattle.mq_link.proofs.{KeptGroups.group_found, KeptGroups.is_number, KeptGroups.kept_held, Moved.paid_none, Moved.paid_within, HeardGroups.one_lowered_held}
use Rattle.mq_link.proofs.{HeardGroups.one_lowered_size, HeardGroups.lowered_at, HeardGroups.lowered_none, HeardGroups.spent_lowering}
use Rattle.mq_link.proofs.storage.Storage.lower_held.Goals as goal

pub load-schedule-requires-clause-number : goal.load-schedule-requires-clause-number
load-schedule-requires-clause-number g c = is_number _ _ _ c.in-Ok.ensures.found

pub load-schedule-requires-clause-room : goal.load-schedule-requires-clause-room
load-schedule-requires-clause-room g c address has = (c.requires.ready.served address _ (group_found _ _ (c.lemma_is_numbered.ensures.of_one _ _ has))).room_for

pub put-requires-clause-number : goal.put-requires-clause-number
put-requires-clause-number g c = is_number _ _ _ c.in-Ok.ensures.found

pub put-requires-clause-held : goal.put-requires-clause-held
put-requires-clause-held g c not_vacant =
    let version = numbered_version c.args.query.now.version in
    let has = c.in-Ok.ensures.found in
    let before : ScheduledGroup = record { group = c.load-schedule.new.into.state; schedule = c.load-schedule.result } in
    let left : ScheduledGroup = record { group = c.lower.new.group.state; schedule = c.load-schedule.result } in
    let is : left ≡ group_lowered c.args.at.now.timing c.args.at.now.moment version before =
    λ i. record { group = c.lower.ensures.state i; schedule = c.load-schedule.result } in
    let held = (c.requires.ready.served _ _ (group_found _ _ (c.lemma_is_numbered.ensures.of_one _ _ has))).held in
    one_lowered_held c.args.at.now.timing c.args.at.now.moment version left before is
    (rw (ap (λ (e : ScheduledGroup). e.group) (c.load-schedule.ensures.group _ has)) held)

pub put-requires-clause-fits : goal.put-requires-clause-fits
put-requires-clause-fits g c address has =
    let version = numbered_version c.args.query.now.version in
    let before : ScheduledGroup = record { group = c.load-schedule.new.into.state; schedule = c.load-schedule.result } in
    let left : ScheduledGroup = record { group = c.lower.new.group.state; schedule = c.load-schedule.result } in
    let is : left ≡ group_lowered c.args.at.now.timing c.args.at.now.moment version before =
    λ i. record { group = c.lower.ensures.state i; schedule = c.load-schedule.result } in
    let loaded = ap sources_of (c.load-schedule.ensures.group address has) in
    omega (arith, one_lowered_size c.args.at.now.timing c.args.at.now.moment version left before is, loaded, c.lemma_sources_fit.ensures)

pub returns-in-Ok-clause-groups : goal.returns-in-Ok-clause-groups
returns-in-Ok-clause-groups g c =
    let query = numbered_query g.K.Key.number c.args.query.now in
    let has = c.in-Ok.ensures.found in
    let left : ScheduledGroup = record { group = c.lower.new.group.state; schedule = c.load-schedule.result } in
    let is : left ≡ group_lowered c.args.at.now.timing c.args.at.now.moment query.version
    (record { group = c.load-schedule.new.into.state; schedule = c.load-schedule.result }) =
    λ i. record { group = c.lower.ensures.state i; schedule = c.load-schedule.result } in
    let before : ScheduledGroup = record { group = c.load-schedule.new.into.state; schedule = c.load-schedule.result } in
    let there = c.lemma_is_numbered.ensures.of_one _ _ has in
    let held = (c.requires.ready.served _ _ (group_found _ _ there)).held in
    let left_held = one_lowered_held c.args.at.now.timing c.args.at.now.moment query.version left before is
    (rw (ap (λ (e : ScheduledGroup). e.group) (c.load-schedule.ensures.group _ has)) held) in
    c.put.ensures.groups _ has
    ∙ ap (map.insert c.args.self.now.held.groups query.group) (kept_held left left_held)
    ∙ lowered_at c.args.at.now.timing c.args.at.now.moment query c.args.self.now.held.groups left there
    (is ∙ ap (group_lowered c.args.at.now.timing c.args.at.now.moment query.version) (c.load-schedule.ensures.group _ has))

pub returns-in-Ok-clause-spent : goal.returns-in-Ok-clause-spent
returns-in-Ok-clause-spent g c =
    let version = numbered_version c.args.query.now.version in
    let has = c.in-Ok.ensures.found in
    let groups = c.args.self.now.held.groups in
    let before : ScheduledGroup = record { group = c.load-schedule.new.into.state; schedule = c.load-schedule.result } in
    let left : ScheduledGroup = record { group = c.lower.new.group.state; schedule = c.load-schedule.result } in
    let is : left ≡ group_lowered c.args.at.now.timing c.args.at.now.moment version before =
    λ i. record { group = c.lower.ensures.state i; schedule = c.load-schedule.result } in
    let loaded = ap sources_of (c.load-schedule.ensures.group _ has) in
    let fewer = one_lowered_size c.args.at.now.timing c.args.at.now.moment version left before is in
    let small = c.requires.small (g.K.Key.number c.args.query.now.group) in
    let digits = bitlen-le 16 (map.len groups) (omega (arith, c.requires.ready.few)) in
    let own = bitlen-le 11 (sources_of before) (omega (arith, loaded, small)) in
    let asked = spent_lowering (source_count c.args.query.now.version) (bitlen (sources_of before)) own in
    Spends-join_within _ _ (Spends-join c.find.ensures.spent c.lower.ensures.spent) c.put.ensures.spent (omega arith)
    (omega (arith, digits, asked, fewer, loaded))

pub returns-in_default-clause-groups : goal.returns-in_default-clause-groups
returns-in_default-clause-groups g c =
    lowered_none c.args.at.now.timing c.args.at.now.moment (numbered_query g.K.Key.number c.args.query.now) c.args.self.now.held.groups
    (sym c.in_default.ensures.held)

pub returns-in_default-clause-spent : goal.returns-in_default-clause-spent
returns-in_default-clause-spent g c =
    let digits = bitlen-le 16 (map.len c.args.self.now.held.groups) (omega (arith, c.requires.ready.few)) in
    Spends-within _ _ c.find.ensures.spent (omega arith) (omega (arith, digits))

pub returns-in-Ok-clause-moved : goal.returns-in-Ok-clause-moved
returns-in-Ok-clause-moved g c =
    let version = numbered_version c.args.query.now.version in
    let has = c.in-Ok.ensures.found in
    let before : ScheduledGroup = record { group = c.load-schedule.new.into.state; schedule = c.load-schedule.result } in
    let left : ScheduledGroup = record { group = c.lower.new.group.state; schedule = c.load-schedule.result } in
    let is : left ≡ group_lowered c.args.at.now.timing c.args.at.now.moment version before =
    λ i. record { group = c.lower.ensures.state i; schedule = c.load-schedule.result } in
    let loaded = ap sources_of (c.load-schedule.ensures.group _ has) in
    let fewer = one_lowered_size c.args.at.now.timing c.args.at.now.moment version left before is in
    let digits = bitlen-le 16 (map.len c.args.self.now.held.groups) (omega (arith, c.requires.ready.few)) in
    paid_within _ c.put.ensures.moved (omega (arith, digits, fewer, loaded))

pub returns-in_default-clause-moved : goal.returns-in_default-clause-moved
returns-in_default-clause-moved g c = paid_within _ (paid_none _ _) (omega arith)
