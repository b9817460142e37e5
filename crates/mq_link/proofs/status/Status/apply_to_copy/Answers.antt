use Rattle.mq_link.proofs.Common.{◌≡◌, ◌≤◌, ◌+◌, ◌*◌, ◌<◌, ℕ, Bool, false, ◌||◌, cond, List, length, refl, sym, ap, ◌∙◌, subst, arith, Option, None, Some}
use Rattle.mq_link.proofs.Common.{IfSome, MatchOption, option_map, option_map_or, Spends, Spends-within, Spends-join_within, bitlen, set_of, changes_filter}
use Rattle.mq_link.proofs.Common.{hosts_of, named_in, size_of, GroupChange, ScheduledGroup, messages_due, after_change, after_round, is_querier, Sends}
use Rattle.mq_link.proofs.Common.{HeldState, HasNumber, QuerierContext, Storage, Refusal, Applied, HasOutcome, HasEffect, acts_as, statement_of, change_written}
use Rattle.mq_link.proofs.Common.{Configuration, v1_mutes_leave, per_query, least_merge, least_work, MovesWithin, moved_by_edit, Outcome, Statement, change_in}
use Rattle.mq_link.proofs.Common.{change_stated, changed_by, limit_passed, stated, unless_passed, after_sending, sent_at_once, changes, most_asked}
use Rattle.mq_link.proofs.Common.{most_changed, AreMarked, KeepsNumbers, counted_again, met_in, group_stored, IsLookup, KeepsRoom, KeepsRooms, has_counted}
use Rattle.std.specs.FinMap as map
use Rattle.mq_table.specs.declared.changes.Loaded.{Loaded}
use Rattle.mq_held.specs.Groups.{group_at, sources_in, sources_of, with_group}
use Rattle.mq_link.specs.{declared.statement.Verdict.TheVariants.Refused, Limits.IsChangeAt}
use Rattle.mq_link.proofs.{Applied.groups_left, ChangedRecords.changed_then, ChangedRecords.length-by, ChangedRecords.marked_by, ChangedRecords.met_in-by}
use Rattle.mq_link.proofs.{Faultless.few_groups, Faultless.few_in_all, Faultless.few_sources, KeptGroups.found_or_not, KeptGroups.group_found}
use Rattle.mq_link.proofs.{MetNumbers.AreNumbered, Moved.paid_within, MadeEntries.round_keeps_size, RefreshedCosts.asks_most, RefreshedCosts.none_stopped_in}
use Rattle.mq_link.proofs.{RefreshedStates.none_is_stopped, Rooms.room_on, StatedSteps.AreFew, StatedSteps.IsChanged, StatedSteps.stated_ignored}
use Rattle.mq_link.proofs.{StatedSteps.stated_judged, StatedSteps.kept_is_held, StatedSteps.kept_stays, StatedSteps.left_has_place, StatedSteps.left_has_room}
use Rattle.mq_link.proofs.{StatedSteps.made_few}
use Rattle.mq_link.proofs.status.Status.apply_to_copy.Given.{Over}
use Rattle.mq_link.proofs.status.Status.apply_to_copy.Goals as goal
use Rattle.mq_link.proofs.status.Status.apply_to_copy.Goals.{After-change, After-ask, After-refusal-arg-3-1, After-refusal, After-round}
use Rattle.mq_link.proofs.status.Status.apply_to_copy.Goals.{After-lemma_is_numbered-2, After-count_changed}

-- the test whether the group is to be asked for, if something changes
abbrev asks_of : Option Loaded → Option Bool
asks_of = option_map (λ (loaded : Loaded). loaded.asks_group)

-- the parts of the path that later parts come after: the change is written, its queries start, the limits are checked, the queries are sent
abbrev changed_of : (g : Over) → After-ask g → After-change g
changed_of g c = c.before.before.before.before.before.before.before

abbrev asked_of : (g : Over) → After-refusal g → After-ask g
asked_of g c = c.before.before.before.before.before.before.before.before.before

abbrev checked_of : (g : Over) → After-round g → After-refusal g
checked_of g c = c.before.before.before.before.before.before.before.before.before.before

abbrev sent_of : (g : Over) → After-count_changed g → After-round g
sent_of g c = c.before.before.before.before.before.before.before

-- the group as it is held, the statement with its sources, and the least comparisons for it
abbrev address_in : (g : Over) → After-change g → ℕ
address_in g c = g.F.Address.Key.number c.args.lookup.address

abbrev held_in : (g : Over) → After-change g → ScheduledGroup
held_in g c = group_at c.args.storage.now.held.groups (address_in g c)

abbrev said_in : (g : Over) → After-change g → Statement
said_in g c = statement_of c.args.said (named_in g.F.Address.Key.number c.args.work.now.named.members)

abbrev least_in : (g : Over) → After-change g → ℕ
least_in g c = least_work c.args.self.now (address_in g c) (said_in g c) c.args.storage.now.held.groups

-- the most comparisons to change the group, and to ask for it and its sources
abbrev changing_in : (g : Over) → After-change g → ℕ
changing_in g c = most_changed c.args.said (size_of (held_in g c).group) (length c.args.work.now.named.members)

abbrev asking_in : (g : Over) → After-change g → ℕ
asking_in g c = most_asked c.args.said (size_of (held_in g c).group) (length c.args.work.now.named.members)

-- the change, and the group after its queries have started
abbrev change_of : (g : Over) → After-ask g → GroupChange
change_of g c =
    let done = c.change.new.self in
    record { group = done.group.state; query = set_of g.F.Address.Key.number done.asked.items; query_group = c.in-Some.loaded.asks_group }

abbrev started_in : (g : Over) → After-ask g → ScheduledGroup
started_in g c = record { group = c.ask.new.self.group.state; schedule = c.ask.new.schedule }

mutes_so : (g : Over) (c : After-change g) → c.V1_MUTES_LEAVE.result ≡ v1_mutes_leave c.args.self.now.config.family
mutes_so g c = c.V1_MUTES_LEAVE.ensures ∙ g.met.F.Family.v1_mutes_leave ∙ ap v1_mutes_leave (sym c.lemma_is_sound.ensures.family)

-- the written group is the change of the statement, in its setting
written : (g : Over) (c : After-change g) → change_in c.args.self.now (address_in g c) (said_in g c) c.args.storage.now.held.groups
    ≡ change_written g.F.Address.Key.number c.change.new.self.group.state c.change.new.self.asked.items (asks_of c.change.result)
written g c =
    let muted = c.is_muted.ensures (named_in g.F.Address.Key.number c.args.work.now.named.members) in
    let f = sym c.in_force-at.ensures.in_force in
    let before = sym c.look-stored.ensures.group in
    (λ i. change_stated (sym (mutes_so g c) i) (sym muted i) (f i).timing (f i).moment (said_in g c) (before i).group) ∙ c.change.ensures.changes

-- the change has spent at least the work on the group
spent_changing : (g : Over) (c : After-change g) → Spends (least_in g c) (changing_in g c) c.args.storage.now.meter c.change.new.m
spent_changing g c =
    let members = c.args.work.now.named.members in
    let muted = c.is_muted.ensures (named_in g.F.Address.Key.number members) in
    let f = c.in_force-at.ensures.in_force in
    let before = c.look-stored.ensures.group in
    let least : Bool × Bool × ScheduledGroup × ℕ → ℕ = λ p. least_merge (size_of p.2.group) (acts_as p.0 p.1 (hosts_of p.2.group p.3) (said_in g c)) in
    let most : ScheduledGroup → ℕ = λ e. most_changed c.args.said (size_of e.group) (length members) in
    subst (λ (p : Bool × Bool × ScheduledGroup × ℕ). Spends (least p) (most p.2) c.args.storage.now.meter c.change.new.m)
    (λ i. (mutes_so g c i, muted i, before i, (f i).moment)) c.change.ensures.spent

-- the started queries are those of the change
started_so : (g : Over) (c : After-ask g)
    → started_in g c ≡ changed_by c.args.self.now (address_in g (changed_of g c)) c.args.storage.now.held.groups (change_of g c)
started_so g c =
    let f = c.in_force-at.ensures.in_force in
    let before = c.look-stored.ensures.group in
    c.ask.ensures.asked ∙ (λ i. after_change (f i).is_querier (f i).timing (f i).moment (change_of g c) (before i).schedule)

few_so : (g : Over) (c : After-ask g)
    → AreFew (size_of (held_in g (changed_of g c)).group) (size_of c.change.new.self.group.state) (size_of c.ask.new.self.group.state)
    (length c.args.work.now.named.members)
few_so g c =
    let at = c.args.self.now in
    let change = changed_of g c in
    let done = c.change.new.self in
    made_few g.F.Address.Key.number (v1_mutes_leave at.config.family) _ at.election.timing at.now c.args.said c.args.work.now.named.members
    (held_in g change) done.group.state done.asked.items (asks_of c.change.result) c.in-Some.loaded.asks_group
    (is_querier at.election.role) (started_in g c) (written g change) (ap asks_of c.in-Some.is) (started_so g c)

-- the group is held if it was found
is_held_so : (g : Over) (c : After-refusal-arg-3-1 g)
    → map.contains_key c.args.storage.now.held.groups (g.F.Address.Key.number c.args.lookup.address) ≡ c.is_ok.result
is_held_so g c =
    let is = c.lemma_is_numbered.ensures in
    found_or_not c.args.storage.now.held (g.F.Address.Key.number c.args.lookup.address) c.args.lookup.found c.requires.ready.lookup is.held is.of_one
    ∙ sym c.is_ok.ensures.value

-- and the limits are checked by that, its sources and its schedule
change_at : (g : Over) (c : After-refusal-arg-3-1 g) → (let stored = c.look-stored.result in
    IsChangeAt c.args.storage.now.held.groups (g.F.Address.Key.number c.args.lookup.address)
    (record { is_held = c.is_ok.result; sources = length stored.sources.now; before = stored.schedule; schedule = c.ask.new.schedule }))
change_at g c = record {
  is_held = is_held_so g c;
  sources = sym c.look-stored.ensures.len;
  schedule = ap (λ (e : ScheduledGroup). e.schedule) (sym c.look-stored.ensures.group);
}

-- the change of this group, and which limit it exceeds
abbrev DidBy : (g : Over) → After-refusal g → Option Refusal → Type 0
DidBy g c passed =
    let ask = asked_of g c in
    let it = changed_of g ask in
    IsChanged c.args.self.now (address_in g it) (said_in g it) c.args.storage.now.held.groups (held_in g it) (change_of g ask) (started_in g ask) passed

did : (g : Over) (c : After-refusal g) → DidBy g c c.refusal.result
did g c =
    let at = c.args.self.now in
    let ask = asked_of g c in
    let address = address_in g (changed_of g ask) in
    let done = c.change.new.self in
    let moment = ap (λ (f : QuerierContext). f.moment) c.in_force-at.ensures.in_force in
    let limits = c.limits-limits.ensures ∙ ap (λ (k : Configuration). k.limits) c.config.ensures in
    let after : ℕ → ScheduledGroup = λ now. after_round at.election.timing now (started_in g ask) in
    record {
      before_is = refl;
      change_is = written g (changed_of g ask) ∙ ap (change_written g.F.Address.Key.number done.group.state done.asked.items) (ap asks_of c.in-Some.is);
      asked_is = started_so g ask;
      passed_is =
          c.refusal.ensures.name at.election.timing address (change_at g c.before)
          ∙ (λ i. limit_passed (limits i) (with_group c.args.storage.now.held.groups address (after (moment i))) (after (moment i)));
    }

-- and its outcome, by the limit
judged : (g : Over) (c : After-refusal g) {passed : Option Refusal} → c.refusal.result ≡ passed → (let at = c.args.self.now in
    let groups = c.args.storage.now.held.groups in
    let change = changed_of g (asked_of g c) in
    let e = started_in g (asked_of g c) in
    let after = with_group groups (address_in g change) (after_sending at e) in
    stated at (address_in g change) (said_in g change) groups ≡ unless_passed passed groups after (sent_at_once at (address_in g change) e))
judged g c is = stated_judged _ _ _ _ _ _ _ _ (subst (DidBy g c) is (did g c))

-- the comparisons until its limits are checked
spent_checking : (g : Over) (c : After-refusal g) → (let change = changed_of g (asked_of g c) in
    Spends (least_in g change) (changing_in g change + asking_in g change + 2) c.args.storage.now.meter c.refusal.new.self.meter)
spent_checking g c =
    let ask = asked_of g c in
    let change = changed_of g ask in
    let done = c.change.new.self in
    let few = few_so g ask in
    let asks = asks_most c.args.said c.in-Some.loaded.asks_group done.asked.items (size_of done.group.state) (size_of (held_in g change).group)
    (length c.args.work.now.named.members) (rw c.in-Some.is at c.change.ensures.asks) few.changed in
    let asking = Spends-join_within (least_in g change) (changing_in g change + asking_in g change) (spent_changing g change) c.ask.ensures.spent
    (omega arith) (omega (arith, few.changed, asks)) in
    Spends-join_within (least_in g change) _ asking c.refusal.ensures.spent (omega arith) (omega arith)

-- a statement that is muted is ignored
pub returns-in_default-clause-effect : goal.returns-in_default-clause-effect
returns-in_default-clause-effect g c =
    let change = c.before in
    let done = c.change.new.self in
    let none = ap (change_written g.F.Address.Key.number done.group.state done.asked.items) (ap asks_of c.in_default.is) in
    let written_none = written g change ∙ none in
    let ignored = stated_ignored c.args.self.now (address_in g change) (said_in g change) c.args.storage.now.held.groups (held_in g change) refl written_none in
    groups_left c.change.new.m ignored c.change.ensures.kept c.change.ensures.met c.change.ensures.changed

pub returns-in_default-clause-spent : goal.returns-in_default-clause-spent
returns-in_default-clause-spent g c = Spends-within _ _ (spent_changing g c.before) (omega arith) (omega arith)

pub change-requires-clause-room : goal.change-requires-clause-room
change-requires-clause-room g c =
    let within = c.requires.ready.sound.within.group_sources (g.F.Address.Key.number c.args.lookup.address) in
    let named = c.requires.ready.named in
    let fits = c.requires.ready.within.group_sources in
    let room = c.requires.ready.room.group in
    let asked = c.requires.ready.room.asked in
    let len = c.look-stored.ensures.len in
    record { group = omega arith; asked = omega arith }

-- no source of a group of INCLUDE is stopped
pub change-requires-clause-running : goal.change-requires-clause-running
change-requires-clause-running g c include =
    let number = g.F.Address.Key.number in
    let stored : ScheduledGroup = record { group = group_stored number c.look-stored.result; schedule = c.look-stored.result.schedule } in
    none_stopped_in number c.look-stored.result.sources.now c.look-stored.ensures.ascending
    (none_is_stopped c.args.self.now (number c.args.lookup.address) c.args.storage.now.held.groups stored c.look-stored.ensures.group c.requires.ready.sound
    include)

pub ask-requires-clause-ascending : goal.ask-requires-clause-ascending
ask-requires-clause-ascending g c = rw c.in-Some.is at c.change.ensures.ascending

pub ask-requires-clause-held : goal.ask-requires-clause-held
ask-requires-clause-held g c = rw c.in-Some.is at c.change.ensures.held

pub refusal-requires-clause-groups : goal.refusal-requires-clause-groups
refusal-requires-clause-groups g c =
    omega (arith, c.requires.ready.sound.within.group_count, few_groups c.args.self.now.config c.lemma_is_sound.ensures.faultless)

pub refusal-requires-clause-sources : goal.refusal-requires-clause-sources
refusal-requires-clause-sources g c =
    omega (arith, c.requires.ready.sound.within.sources, (few_in_all c.args.self.now.config c.lemma_is_sound.ensures.faultless).0)

pub refusal-requires-clause-scheduled : goal.refusal-requires-clause-scheduled
refusal-requires-clause-scheduled g c =
    omega (arith, c.requires.ready.sound.within.scheduled, (few_in_all c.args.self.now.config c.lemma_is_sound.ensures.faultless).1)

pub refusal-requires-clause-few : goal.refusal-requires-clause-few
refusal-requires-clause-few g c =
    let few = few_so g c.before.before.before.before.before.before.before.before in
    let most = few_sources c.args.self.now.config c.lemma_is_sound.ensures.faultless in
    let within = c.requires.ready.sound.within.group_sources (g.F.Address.Key.number c.args.lookup.address) in
    omega (arith, most, within, c.requires.ready.named, few.changed, few.asked)

pub refusal-requires-clause-change : goal.refusal-requires-clause-change
refusal-requires-clause-change g c = (g.F.Address.Key.number c.args.lookup.address, change_at g c)

-- a refused statement leaves the groups
pub returns-in-Some-refusal-clause-effect : goal.returns-in-Some-refusal-clause-effect
returns-in-Some-refusal-clause-effect g c =
    let at = c.args.self.now in
    let storage = c.args.storage.now in
    let work = c.args.work.now in
    let done = c.ask.new.self in
    let sink = c.args.sink.now in
    let verdict = Refused c.in-Some-refusal.name in
    let kept = room_on c.change.ensures.kept c.ask.ensures.kept in
    let met = c.ask.ensures.met ∙ c.change.ensures.met in
    let changed = c.ask.ensures.changed ∙ c.change.ensures.changed in
    subst (λ (s : Storage _ _). HasEffect g.F.Address.Key.number g.S.Sink.takes at c.args.lookup c.args.said verdict storage s work done sink sink)
    (sym c.refusal.ensures.left) (groups_left c.refusal.new.self.meter (judged g c.before c.in-Some-refusal.is) kept met changed)

pub returns-in-Some-refusal-clause-spent : goal.returns-in-Some-refusal-clause-spent
returns-in-Some-refusal-clause-spent g c = Spends-within _ _ (spent_checking g c.before) (omega arith) (omega arith)

-- the storage, and what is left of the group after its queries are sent, as the group is kept
kept_from : (g : Over) (c : After-round g) → (let e : ScheduledGroup = record { group = c.round.new.group.state; schedule = c.round.new.self } in
    let sent = after_sending c.args.self.now (started_in g (asked_of g (checked_of g c))) in
    ◌≡◌ {A = Storage _ _ × ScheduledGroup} (has_counted c.refusal.new.self c.round.new.m, e) (has_counted c.args.storage.now c.round.new.m, sent))
kept_from g c =
    let f = c.in_force-at.ensures.in_force in
    let left = c.round.ensures.after ∙ (λ i. after_round (f i).timing (f i).moment (started_in g (asked_of g (checked_of g c)))) in
    λ i. (has_counted (c.refusal.ensures.left i) c.round.new.m, left i)

pub keep-kept-requires-clause-few : goal.keep-kept-requires-clause-few
keep-kept-requires-clause-few g c =
    let room = ap (λ (s : Storage _ _). s.held.order.room) c.refusal.ensures.left ∙ c.requires.ready.group_room in
    omega (arith, room, c.requires.ready.within.few_groups)

pub keep-kept-requires-clause-lookup : goal.keep-kept-requires-clause-lookup
keep-kept-requires-clause-lookup g c =
    subst (λ (s : Storage _ _). IsLookup g.F.Address.Key.number s.held c.args.lookup) (sym c.refusal.ensures.left) c.requires.ready.lookup

pub keep-kept-requires-clause-held : goal.keep-kept-requires-clause-held
keep-kept-requires-clause-held g c =
    let sent = c.before.before in
    let did_so = did g (checked_of g sent) in
    kept_is_held _ _ _ _ _ _ _ _ did_so c.lemma_is_sound.ensures.positive c.requires.admitted c.requires.ready.sound _ (λ i. (kept_from g sent i).1)

-- a group that was found is held
pub keep-kept-requires-clause-stays : goal.keep-kept-requires-clause-stays
keep-kept-requires-clause-stays g c found =
    let address = g.F.Address.Key.number c.args.lookup.address in
    let groups = c.args.storage.now.held.groups in
    let check = checked_of g c.before.before in
    let contained = is_held_so g check.before ∙ c.is_ok.ensures.value ∙ found in
    let held = c.requires.ready.sound.all address (group_at groups address) (group_found groups address contained) in
    kept_stays _ _ _ groups _ _ _ _ (did g check) _ (λ i. (kept_from g c.before.before i).1) held.held

pub keep-kept-requires-clause-room : goal.keep-kept-requires-clause-room
keep-kept-requires-clause-room g c =
    let address = g.F.Address.Key.number c.args.lookup.address in
    let sent = c.before.before in
    let did_so = did g (checked_of g sent) in
    let most = left_has_place _ _ _ _ _ _ _ _ did_so c.lemma_is_sound.ensures.positive c.requires.admitted c.requires.ready.sound c.in_default-refusal.is in
    subst (λ (p : Storage _ _ × ScheduledGroup). map.len (with_group p.0.held.groups address p.1) ≤ p.0.held.order.room)
    (sym (kept_from g sent)) (omega (arith, most, c.requires.ready.group_room, c.requires.ready.within.groups))

pub keep-kept-requires-clause-fits : goal.keep-kept-requires-clause-fits
keep-kept-requires-clause-fits g c =
    let address = g.F.Address.Key.number c.args.lookup.address in
    let sent = c.before.before in
    let did_so = did g (checked_of g sent) in
    let most = left_has_room _ _ _ _ _ _ _ _ did_so c.lemma_is_sound.ensures.positive c.requires.admitted c.requires.ready.sound c.in_default-refusal.is in
    let room : HeldState → ℕ = λ held. held.source_room + sources_of (group_at held.groups address) in
    subst (λ (p : Storage _ _ × ScheduledGroup). sources_in p.0.held.groups + size_of p.1.group ≤ room p.0.held)
    (sym (kept_from g sent)) (omega (arith, most, c.requires.ready.source_room, c.requires.ready.within.sources))

-- a number of a group is below how many are counted
within_so : (g : Over) (c : After-lemma_is_numbered-2 g) → IfSome c.keep-kept.result (λ n. n < length c.args.work.now.changed)
within_so g c = by_number c.keep-kept.result c.keep-kept.ensures.number
  where
    address : ℕ
    address = g.F.Address.Key.number c.args.lookup.address

    by_number : (number : Option ℕ)
        → MatchOption number (map.contains_key c.keep-kept.new.self.held.groups address ≡ false) (HasNumber c.keep-kept.new.self.held address)
        → IfSome number (λ n. n < length c.args.work.now.changed)
    by_number None absent = tt
    by_number (Some n) has =
        let below = c.lemma_is_numbered-2.ensures.within _ n has in
        let room = c.keep-kept.ensures.rooms.groups ∙ ap (λ (s : Storage _ _). s.held.order.room) c.refusal.ensures.left ∙ c.requires.ready.group_room in
        omega (arith, below, room, c.requires.ready.room.changed)

pub count_changed-requires : goal.count_changed-requires
count_changed-requires g c =
    let counts = c.ask.ensures.changed ∙ c.change.ensures.changed in
    record { number = subst (λ (xs : List ℕ). IfSome c.keep-kept.result (λ n. n < length xs)) (sym counts) (within_so g c.before) }

-- the work when the group was kept, by the storage and the group before
record IsKept {K A : Type 0} (address : ℕ) (from : Storage K A × ScheduledGroup) (left : Storage K A) : Type 0 where
  groups : left.held.groups ≡ with_group from.0.held.groups address from.1
  numbers : KeepsNumbers from.0.held left.held
  rooms : KeepsRooms from.0 left
  spent : Spends 0 (size_of from.1.group + 4 + bitlen (map.len from.0.held.groups)) from.0.meter left.meter
  moved : MovesWithin (5 * size_of from.1.group + moved_by_edit) from.0 left

kept_so : (g : Over) (c : After-count_changed g) → (let e = started_in g (asked_of g (checked_of g (sent_of g c))) in
    IsKept (g.F.Address.Key.number c.args.lookup.address) (has_counted c.args.storage.now c.round.new.m, after_sending c.args.self.now e) c.keep-kept.new.self)
kept_so g c =
    let kept = c.keep-kept.ensures in
    subst (λ (p : Storage _ _ × ScheduledGroup). IsKept (g.F.Address.Key.number c.args.lookup.address) p c.keep-kept.new.self) (kept_from g (sent_of g c))
    (record { groups = kept.groups; numbers = kept.numbers; rooms = kept.rooms; spent = kept.spent; moved = kept.moved })

-- the group is counted as changed if its filter changed
counted_so : (g : Over) (c : After-count_changed g) → (let counts = c.args.work.now.changed in
    c.count_changed.new.changed ≡ cond c.in-Some.loaded.changes_filter (option_map_or (counted_again counts) c.keep-kept.result counts) counts)
counted_so g c =
    let counts = c.ask.ensures.changed ∙ c.change.ensures.changed in
    c.count_changed.ensures ∙ (λ i. cond c.in-Some.loaded.changes_filter (option_map_or (counted_again (counts i)) c.keep-kept.result (counts i)) (counts i))

marked_so : (g : Over) (c : After-count_changed g) (before : ℕ → Bool) → AreMarked c.args.storage.now.held c.args.work.now.changed before
    → (let groups = c.args.storage.now.held.groups in
    let left = c.keep-kept.new.self.held in
    AreMarked left c.count_changed.new.changed (λ address. before address || changes groups left.groups address))
marked_so g c before marked =
    let at = c.args.self.now in
    let held = c.args.storage.now.held in
    let left = c.keep-kept.new.self.held in
    let address = g.F.Address.Key.number c.args.lookup.address in
    let loaded = c.in-Some.loaded in
    let ask = asked_of g (checked_of g (sent_of g c)) in
    let started = started_in g ask in
    let kept = kept_so g c in
    let was = c.lemma_is_numbered.ensures in
    let is = c.lemma_is_numbered-2.ensures in
    let numbered : AreNumbered held = record { held = was.held; of_one = was.of_one; same = was.same; one = was.one } in
    let numbered_next : AreNumbered left = record { held = is.held; of_one = is.of_one; same = is.same; one = is.one } in
    let filter = (rw c.in-Some.is at c.change.ensures.changes_filter)
    ∙ (λ i. changes_filter (c.look-stored.ensures.group i).group c.change.new.self.group.state) in
    let so = changed_then held.groups left.groups address (held_in g (changed_of g ask)) started (after_sending at started) (change_of g ask)
    (is_querier at.election.role) at.election.timing at.now loaded.changes_filter refl filter (started_so g ask) refl kept.groups in
    subst (λ counts. AreMarked left counts (λ other. before other || changes held.groups left.groups other)) (sym (counted_so g c))
    (marked_by held left numbered numbered_next kept.numbers address (after_sending at started) kept.groups c.args.work.now.changed before marked
    loaded.changes_filter c.keep-kept.result so c.keep-kept.ensures.number (within_so g c.before.before))

-- an applied statement is kept and counted
pub returns-clause-effect : goal.returns-clause-effect
returns-clause-effect g c =
    let at = c.args.self.now in
    let address = g.F.Address.Key.number c.args.lookup.address in
    let check = checked_of g (sent_of g c) in
    let ask = asked_of g check in
    let started = started_in g ask in
    let f = c.in_force-at.ensures.in_force in
    let per = c.PER_QUERY.ensures ∙ g.met.F.Family.per_query ∙ ap per_query (sym c.lemma_is_sound.ensures.family) in
    let kept = kept_so g c in
    let few = few_so g ask in
    let size_left = round_keeps_size at.election.timing at.now started in
    let done = record c.ask.new.self { group = c.round.new.group; changed = c.count_changed.new.changed } in
    let room = c.round.ensures.room in
    let counted = ap length c.count_changed.ensures ∙ length-by c.ask.new.self.changed c.in-Some.loaded.changes_filter c.keep-kept.result in
    let sent : KeepsRoom c.ask.new.self done = record { group = omega arith; named = refl; asked = omega arith; met = refl; changed = counted } in
    let most = met_in-by c.args.work.now.changed c.in-Some.loaded.changes_filter c.keep-kept.result (within_so g c.before.before) in
    record {
      outcome =
          subst (λ (o : Outcome). HasOutcome g.S.Sink.takes o Applied c.keep-kept.new.self.held.groups c.args.sink.now c.round.new.sink)
          (sym (judged g check c.in_default-refusal.is)) (record {
            verdict_is = refl;
            groups_are = kept.groups;
            sent =
                subst (λ queries. Sends g.S.Sink.takes c.args.sink.now queries c.round.new.sink)
                (λ i. messages_due (per i) (f i).timing (f i).moment address started) c.round.ensures.sent;
          });
      numbers = kept.numbers;
      rooms = record { groups = kept.rooms.groups; sources = kept.rooms.sources };
      room = room_on (room_on c.change.ensures.kept c.ask.ensures.kept) sent;
      met = c.ask.ensures.met ∙ c.change.ensures.met;
      changed = marked_so g c;
      one_changed = omega (arith, most, ap met_in (counted_so g c));
      moved = paid_within _ kept.moved (omega (arith, few.changed, few.asked, size_left));
    }

pub returns-clause-spent : goal.returns-clause-spent
returns-clause-spent g c =
    let check = checked_of g (sent_of g c) in
    let ask = asked_of g check in
    let change = changed_of g ask in
    let few = few_so g ask in
    let size_left = round_keeps_size c.args.self.now.election.timing c.args.self.now.now (started_in g ask) in
    let sizes = size_of (held_in g change).group + length c.args.work.now.named.members in
    let most = changing_in g change + asking_in g change + 2 * sizes + 5 in
    let least = least_in g change in
    let round = Spends-join_within least most (spent_checking g check) c.round.ensures.spent (omega arith) (omega (arith, few.changed, few.asked)) in
    Spends-join_within least _ round (kept_so g c).spent (omega arith) (omega (arith, few.changed, few.asked, size_left))
