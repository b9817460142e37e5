use Rattle.mq_link.proofs.Common.{◌*◌, ltb-true, some_stopped, is_include, is_vacant, Groups, Limits, MovesWithin, Some, ltb, IsRowWritten, unheld}
use Rattle.mq_link.proofs.Common.{timer_at, eqb-true, and_parts, size-added, true≢false, length-map, ◌≡◌, ℕ, ◌+◌, ◌-◌, ◌≤◌, ◌<◌, [], ◌∷◌, Bool, List, true}
use Rattle.mq_link.proofs.Common.{false, ◌&&◌, ◌||◌, ◌==◌, None, Option, is_some, cond, length, refl, sym, ap, ◌∙◌, subst, arith, list_map}
use Rattle.mq_link.proofs.Common.{nat_cmp_total, Spends-join_within, Spends-within, bitlen, bitlen-mono, changes_filter, named_in, membership_interval}
use Rattle.mq_link.proofs.Common.{IsQuietAt, ScheduledGroup, quiet_by, HasNumber, HeldState, has_each, most_looked, restarted_each, IsWellFormed-restarted_each}
use Rattle.mq_link.proofs.Common.{QuerierContext, statement_of, Applied, changes, moved_by_edit, Outcome, stated, restarts, Kind, few-running, common_steps}
use Rattle.mq_held.proofs.OrderedAmounts.{absent-get}
use Rattle.std.specs.Option.{OnSome}
use Rattle.mq_link.specs.declared.statement.StatementKind.TheVariants.{Record}
use Rattle.mq_held.specs.Restarted.{has_room}
use Rattle.mq_held.specs.declared.timers_in_place.SourceRoom.{SourceRoom}
use Rattle.std.specs.FinMap as map
use Rattle.std.specs.FinSet as set
use Rattle.mq_table.specs.Group.{IsWellFormed}
use Rattle.mq_held.specs.Groups.{group_at, kept_as, running_in, sources_in, sources_of, with_group}
use Rattle.mq_link.proofs.{Faultless.few_groups, KeptGroups.group_found, KeptGroups.is_number, PaidEdits.put_paid, Quiet.not_vacant}
use Rattle.mq_link.proofs.{RefreshedEach.filter-added, Moved.paid_by, Moved.paid_none, Moved.paid_within, PaidEdits.few_digits}
use Rattle.mq_link.proofs.{RefreshedCosts.restart_kind}
use Rattle.mq_link.proofs.{RefreshedCosts.set-mono, RefreshedEach.filter-restarted_each, RefreshedEach.size-restarted_each, RefreshedStates.by_option}
use Rattle.mq_link.proofs.{RefreshedStates.group_put, RefreshedStates.held_as, RefreshedStates.if_some, RefreshedStates.match_option}
use Rattle.mq_link.proofs.{RefreshedStates.no_stopped, RefreshedStates.on_some, RefreshedStates.put_by_same, RefreshedStates.put_is}
use Rattle.mq_link.proofs.{RefreshedStates.stated-set}
use Rattle.mq_link.proofs.status.Status.refresh.Given.{Over}
use Rattle.mq_link.proofs.status.Status.refresh.Goals as goal
use Rattle.mq_link.proofs.status.Status.refresh.Goals.{After-restart_each}

-- the group, its number, and what is due for it
has_so : (g : Over) (c : After-restart_each g) → HasNumber c.args.storage.now.held (g.F.Address.Key.number c.args.lookup.address) c.in-Ok.number
has_so g c = rw c.in-Ok.is at c.requires.lookup

held_so : (g : Over) (c : After-restart_each g) → map.contains_key c.args.storage.now.held.groups (g.F.Address.Key.number c.args.lookup.address) ≡ true
held_so g c = c.lemma_is_numbered.ensures.of_one (g.F.Address.Key.number c.args.lookup.address) c.in-Ok.number (has_so g c)

quiet_so : (g : Over) (c : After-restart_each g) →
    IsQuietAt c.args.self.now.now (group_at c.args.storage.now.held.groups (g.F.Address.Key.number c.args.lookup.address)).schedule
quiet_so g c =
    let moment = ap (λ (f : QuerierContext). f.moment) c.in_force-at.ensures.in_force in
    let entry = c.entry_of.ensures.group (g.F.Address.Key.number c.args.lookup.address) (has_so g c) in
    subst (λ (p : ℕ × ScheduledGroup). IsQuietAt p.0 p.1.schedule) (λ i. (moment i, entry i)) (quiet_by _ _ (sym c.is_due.ensures.due ∙ c.if-is_due.false))

-- the group before, and after its sources' timers were set
abbrev before_so : (g : Over) → After-restart_each g → ScheduledGroup
before_so g c = group_at c.args.storage.now.held.groups (g.F.Address.Key.number c.args.lookup.address)

abbrev names_so : (g : Over) → After-restart_each g → List ℕ
names_so g c = list_map g.F.Address.Key.number c.args.named.now

abbrev after_so : (g : Over) → After-restart_each g → ScheduledGroup
after_so g c = restarted_each c.after-deadline.result (names_so g c) (before_so g c)

-- the kind of the record
kind_so : (g : Over) (c : After-restart_each g) → (kind : Kind) × (c.args.said ≡ Record kind) × (restarts kind ≡ true)
kind_so g c = restart_kind c.args.said c.requires.restart

formed_so : (g : Over) (c : After-restart_each g) → IsWellFormed (before_so g c).group
formed_so g c =
    let number = g.F.Address.Key.number in
    let h = held_as c.args.self.now (number c.args.lookup.address) (kind_so g c).0
    (named_in number c.args.named.now) c.args.storage.now.held.groups (kind_so g c).2 c.requires.sound (held_so g c) (quiet_so g c) in
    h.held

formed_then : (g : Over) (c : After-restart_each g) → IsWellFormed (after_so g c).group
formed_then g c = IsWellFormed-restarted_each c.after-deadline.result (names_so g c) (before_so g c) (formed_so g c)

-- the limits allow one more source
abbrev room_so : (g : Over) → After-restart_each g → Bool
room_so g c = has_room c.source_room.result c.args.storage.now.held.groups (g.F.Address.Key.number c.args.lookup.address)

-- Either the group has each source that is named, or it lacks the only one, and there is room for it.
record IsAdded (named : List ℕ) (before : ScheduledGroup) (may_add : Bool) : Type 0 where
  source : ℕ
  one : named ≡ source ∷ []
  absent : timer_at before.group source ≡ None
  may : may_add ≡ true

added_by : (named : List ℕ) (before : ScheduledGroup) (may_add : Bool) → has_each named before ≡ false →
    (has_each named before || may_add && (length named == 1)) ≡ true → IsAdded named before may_add
added_by named before may_add lacks done =
    by_list named (and_parts may_add (length named == 1) (ap (λ b. b || may_add && (length named == 1)) (sym lacks) ∙ done)) lacks
  where
    alone : (b : Bool) → (b && true) ≡ false → b ≡ false
    alone true is = is
    alone false is = refl

    by_list : (named : List ℕ) → (may_add ≡ true) × ((length named == 1) ≡ true) → has_each named before ≡ false → IsAdded named before may_add
    by_list [] parts lacks = absurd (true≢false lacks)
    by_list (s ∷ []) parts lacks =
        record { source = s; one = refl; absent = absent-get before.group.sources s (alone (map.contains_key before.group.sources s) lacks); may = parts.0 }
    by_list (s ∷ r ∷ rest) parts lacks = let n = eqb-true (length (s ∷ r ∷ rest)) 1 parts.1 in absurd (omega (arith, n))

added_so : (g : Over) (c : After-restart_each g) → is_some c.restart_each.result ≡ true → has_each (names_so g c) (before_so g c) ≡ false →
    IsAdded (names_so g c) (before_so g c) (room_so g c)
added_so g c some lacks =
    let effect = c.restart_each.ensures.effect (g.F.Address.Key.number c.args.lookup.address) (has_so g c) in
    let count = length-map c.args.named.now g.F.Address.Key.number in
    added_by (names_so g c) (before_so g c) (room_so g c) lacks
    ((λ i. has_each (names_so g c) (before_so g c) || (room_so g c) && (count i == 1)) ∙ sym effect.done ∙ some)

limits_so : (g : Over) (c : After-restart_each g) → (room_so g c) ≡ true → (let at = c.args.self.now in
    (sources_of (before_so g c) < at.config.limits.group_sources) × (sources_in c.args.storage.now.held.groups < at.config.limits.sources))
limits_so g c may =
    let a = g.F.Address.Key.number c.args.lookup.address in
    let groups = c.args.storage.now.held.groups in
    let limits = c.args.self.now.config.limits in
    let both = sym (ap (λ r. has_room r groups a) c.source_room.ensures) ∙ may in
    let parts = and_parts (ltb (sources_of (group_at groups a)) limits.group_sources) (ltb (sources_in groups) limits.sources) both in
    (ltb-true _ _ parts.0, ltb-true _ _ parts.1)

pub restart_each-requires-clause-number : goal.restart_each-requires-clause-number
restart_each-requires-clause-number g c =
    is_number c.args.storage.now.held (g.F.Address.Key.number c.args.lookup.address) c.in-Ok.number (rw c.in-Ok.is at c.requires.lookup)

pub restart_each-requires-clause-held : goal.restart_each-requires-clause-held
restart_each-requires-clause-held g c address has =
    let a = g.F.Address.Key.number c.args.lookup.address in
    let groups = c.args.storage.now.held.groups in
    let own = rw c.in-Ok.is at c.requires.lookup in
    let same : address ≡ a = c.lemma_is_numbered.ensures.same address a c.in-Ok.number has own in
    let h = c.requires.sound.all a (group_at groups a) (group_found groups a (c.lemma_is_numbered.ensures.of_one a c.in-Ok.number own)) in
    ap (λ k. is_vacant (group_at groups k).group) same ∙ not_vacant _ h.held

pub restart_each-requires-clause-fits : goal.restart_each-requires-clause-fits
restart_each-requires-clause-fits g c =
    omega (arith, ap (λ (r : SourceRoom). r.sources) c.source_room.ensures, c.lemma_is_sound.ensures.within.sources, c.requires.source_room)

-- a source that is added is one more
grown_so : (g : Over) (c : After-restart_each g) → IsAdded (names_so g c) (before_so g c) (room_so g c) →
    sources_of (after_so g c) ≡ sources_of (before_so g c) + 1
grown_so g c added =
    (λ i. sources_of (restarted_each c.after-deadline.result (added.one i) (before_so g c)))
    ∙ size-added c.after-deadline.result added.source (before_so g c) added.absent

-- the sizes of the group and of all groups then
record AreFew (limits : Limits) (groups : Groups) (before after : ScheduledGroup) : Type 0 where
  own : sources_of after ≤ limits.group_sources
  all : sources_in groups + sources_of after ≤ limits.sources + sources_of before

few_so : (g : Over) (c : After-restart_each g) → is_some c.restart_each.result ≡ true →
    AreFew c.args.self.now.config.limits c.args.storage.now.held.groups (before_so g c) (after_so g c)
few_so g c some = by_there (has_each (names_so g c) (before_so g c)) refl
  where
    by_there : (b : Bool) → has_each (names_so g c) (before_so g c) ≡ b →
        AreFew c.args.self.now.config.limits c.args.storage.now.held.groups (before_so g c) (after_so g c)
    by_there true there =
        let size = size-restarted_each c.after-deadline.result (names_so g c) (before_so g c) there in
        let own = c.requires.sound.within.group_sources (g.F.Address.Key.number c.args.lookup.address) in
        let all = c.requires.sound.within.sources in
        record { own = omega (arith, size, own); all = omega (arith, size, all) }
    by_there false lacks =
        let added = added_so g c some lacks in
        let size = grown_so g c added in
        let room = limits_so g c added.may in
        record { own = omega (arith, size, room.0); all = omega (arith, size, room.1) }

-- the storage then
left_so : (g : Over) (c : After-restart_each g) → is_some c.restart_each.result ≡ true → (let s = c.args.storage.now.held in
    c.restart_each.new.self
    ≡ record s { groups = map.insert s.groups (g.F.Address.Key.number c.args.lookup.address) (after_so g c); ahead = c.restart_each.new.self.ahead })
left_so g c some =
    let a = g.F.Address.Key.number c.args.lookup.address in
    let s = c.args.storage.now.held in
    let effect = c.restart_each.ensures.effect a (has_so g c) in
    effect.groups
    ∙ ap (λ b. cond b (let t : HeldState = record s { groups = map.insert s.groups a (after_so g c); ahead = c.restart_each.new.self.ahead } in t) s) some

same_so : (g : Over) (c : After-restart_each g) → c.restart_each.result ≡ None → c.restart_each.new.self ≡ c.args.storage.now.held
same_so g c none =
    let a = g.F.Address.Key.number c.args.lookup.address in
    let s = c.args.storage.now.held in
    let effect = c.restart_each.ensures.effect a (has_so g c) in
    effect.groups
    ∙ ap (λ (o : Option Bool). cond (is_some o)
    (let t : HeldState = record s { groups = map.insert s.groups a (after_so g c); ahead = c.restart_each.new.self.ahead } in t) s) none

put_so : (g : Over) (c : After-restart_each g) → is_some c.restart_each.result ≡ true →
    c.restart_each.new.self.groups ≡ with_group c.args.storage.now.held.groups (g.F.Address.Key.number c.args.lookup.address) (after_so g c)
put_so g c some =
    ap (λ (s : HeldState). s.groups) (left_so g c some)
    ∙ sym (put_is c.args.storage.now.held.groups (g.F.Address.Key.number c.args.lookup.address) (after_so g c) (formed_then g c))

digits_so : (g : Over) (c : After-restart_each g) → bitlen (running_in c.args.storage.now.held.groups - 1) ≤ bitlen (map.len c.args.storage.now.held.groups)
digits_so g c =
    let groups = c.args.storage.now.held.groups in
    bitlen-mono (running_in groups - 1) (map.len groups) (omega (arith, few-running groups))

pub returns-clause-outcome : goal.returns-clause-outcome
returns-clause-outcome g c = on_some c.restart_each.result (λ some.
    let number = g.F.Address.Key.number in
    let at = c.args.self.now in
    let a = number c.args.lookup.address in
    let groups = c.args.storage.now.held.groups in
    let sources = names_so g c in
    let in_force = c.in_force-at.ensures.in_force in
    let deadline : c.after-deadline.result ≡ at.now + membership_interval at.election.timing = c.after-deadline.ensures.later ∙
    (λ i. (in_force i).moment + c.membership_interval.ensures i) ∙ (λ i. at.now + membership_interval (in_force i).timing) in
    let few = few_so g c some in
    ap (λ said. stated at a (statement_of said (named_in number c.args.named.now)) groups) (kind_so g c).1
    ∙ stated-set at a (kind_so g c).0 (named_in number c.args.named.now) groups (kind_so g c).2 c.requires.sound (held_so g c)
    (quiet_so g c) sources (set.contains-from_list nat_cmp_total sources)
    (subst (λ d. sources_of (restarted_each d sources (group_at groups a)) ≤ at.config.limits.group_sources) deadline few.own)
    (subst (λ d. sources_in groups + sources_of (restarted_each d sources (group_at groups a)) ≤ at.config.limits.sources + sources_of (group_at groups a))
    deadline few.all)
    ∙ (λ i. let o : Outcome =
    record { verdict = Applied; groups = with_group groups a (restarted_each (sym deadline i) sources (group_at groups a)); queries = [] } in o)
    ∙ (λ i. let o : Outcome = record { verdict = Applied; groups = sym (put_so g c some) i; queries = [] } in o))

pub returns-clause-left : goal.returns-clause-left
returns-clause-left g c = on_some c.restart_each.result (λ some. (after_so g c, put_so g c some))

filter_so : (g : Over) (c : After-restart_each g) → is_some c.restart_each.result ≡ true →
    cond (has_each (names_so g c) (before_so g c)) (some_stopped (names_so g c) (before_so g c)) (is_include (before_so g c).group.mode)
    ≡ changes_filter (before_so g c).group (after_so g c).group
filter_so g c some = by_there (has_each (names_so g c) (before_so g c)) refl
  where
    by_there : (b : Bool) → has_each (names_so g c) (before_so g c) ≡ b →
        cond b (some_stopped (names_so g c) (before_so g c)) (is_include (before_so g c).group.mode) ≡ changes_filter (before_so g c).group (after_so g c).group
    by_there true there =
        let number = g.F.Address.Key.number in
        sym (filter-restarted_each c.after-deadline.result (names_so g c) (before_so g c) there
        (no_stopped c.args.self.now (number c.args.lookup.address) (kind_so g c).0 (named_in number c.args.named.now) c.args.storage.now.held.groups
        (kind_so g c).2 c.requires.sound (held_so g c) (quiet_so g c)))
    by_there false lacks =
        let added = added_so g c some lacks in
        sym (filter-added c.after-deadline.result added.source (before_so g c) added.absent)
        ∙ (λ i. changes_filter (before_so g c).group (restarted_each c.after-deadline.result (sym added.one i) (before_so g c)).group)

pub returns-clause-changes : goal.returns-clause-changes
returns-clause-changes g c = if_some _ c.restart_each.result (λ changes_it is.
    let a = g.F.Address.Key.number c.args.lookup.address in
    let groups = c.args.storage.now.held.groups in
    let some = ap is_some is in
    let effect = c.restart_each.ensures.effect a (has_so g c) in
    let told = rw is at effect.told in
    told
    ∙ filter_so g c some
    ∙ (λ i. changes_filter (before_so g c).group (sym (group_put groups a (after_so g c)) i).group)
    ∙ (λ i. changes groups (sym (ap (λ (s : HeldState). s.groups) (left_so g c some)) i) a))

pub returns-clause-order : goal.returns-clause-order
returns-clause-order g c =
    by_option c.restart_each.result (λ none. ap (λ (s : HeldState). s.order) (same_so g c none))
    (λ x is. ap (λ (s : HeldState). s.order) (left_so g c (ap is_some is)))

pub returns-clause-sources : goal.returns-clause-sources
returns-clause-sources g c =
    by_option c.restart_each.result (λ none. ap (λ (s : HeldState). s.source_room) (same_so g c none))
    (λ x is. ap (λ (s : HeldState). s.source_room) (left_so g c (ap is_some is)))

pub returns-clause-none : goal.returns-clause-none
returns-clause-none g c none =
    let effect = c.restart_each.ensures.effect (g.F.Address.Key.number c.args.lookup.address) (has_so g c) in
    λ i. record { held = same_so g c none i; meter = c.restart_each.new.m; moves = effect.still none i }

pub returns-clause-done : goal.returns-clause-done
returns-clause-done g c heard =
    let effect = c.restart_each.ensures.effect (g.F.Address.Key.number c.args.lookup.address) (has_so g c) in
    effect.done ∙ ap (λ b. b || (room_so g c) && (length c.args.named.now == 1)) heard.there

pub returns-clause-spent : goal.returns-clause-spent
returns-clause-spent g c =
    let a = g.F.Address.Key.number c.args.lookup.address in
    let groups = c.args.storage.now.held.groups in
    let size = sources_of (group_at groups a) in
    let count = length c.args.named.now in
    let tried = ap (λ b. cond b (2 + most_looked size count) 0) c.requires.restart in
    let most = set-mono size count (bitlen (running_in groups - 1)) (bitlen (map.len groups)) (digits_so g c) in
    match_option c.restart_each.result
    (λ none. let spent = rw none at c.restart_each.ensures.spent a (has_so g c) in Spends-join_within _ _ c.is_due.ensures.spent spent (omega arith)
    (omega (arith, tried)))
    (λ x is. let spent = rw is at c.restart_each.ensures.spent a (has_so g c) in Spends-join_within _ _ c.is_due.ensures.spent spent (omega arith)
    (omega (arith, most)))

pub returns-clause-moves : goal.returns-clause-moves
returns-clause-moves g c heard =
    let effect = c.restart_each.ensures.effect (g.F.Address.Key.number c.args.lookup.address) (has_so g c) in
    Spends-within _ _ (effect.there heard.there).1 (omega arith) (omega (arith, digits_so g c))

-- the moves for a source that is added are paid
added_paid : (g : Over) (c : After-restart_each g) → is_some c.restart_each.result ≡ true → has_each (names_so g c) (before_so g c) ≡ false →
    MovesWithin (5 * (sources_of (before_so g c) + length c.args.named.now) + moved_by_edit) c.args.storage.now
    (record { held = c.restart_each.new.self; meter = c.restart_each.new.m; moves = c.restart_each.new.moves })
added_paid g c some lacks =
    let a = g.F.Address.Key.number c.args.lookup.address in
    let s = c.args.storage.now.held in
    let before = before_so g c in
    let after = after_so g c in
    let added = added_so g c some lacks in
    let room = limits_so g c added.may in
    let size = grown_so g c added in
    let left = left_so g c some in
    let kept : kept_as after ≡ after = ap (λ b. cond b unheld after) (not_vacant after.group (formed_then g c)) in
    let groups = ap (λ (t : HeldState). t.groups) left ∙ ap (map.insert s.groups a) (sym kept) in
    let moved = from_some c.restart_each.result some ((c.restart_each.ensures.effect a (has_so g c)).added lacks) in
    let few = c.requires.sound.within.group_count in
    let most = few_groups c.args.self.now.config c.lemma_is_sound.ensures.faultless in
    let sixteen = few_digits (map.len s.groups) (omega (arith, few, most)) in
    let all = few-running s.groups in
    let one : length c.args.named.now ≡ 1 = sym (length-map c.args.named.now g.F.Address.Key.number) ∙ ap length added.one in
    let paid = put_paid s c.restart_each.new.self a moved.0 (running_in s.groups) moved.1 (running_in s.groups - 1) after _ _
    c.lemma_is_numbered.ensures.fits
    (omega (arith, size, room.1, c.lemma_is_sound.ensures.within.sources, c.requires.source_room))
    (omega (arith, size, moved.2)) (omega arith) groups (ap (λ (t : HeldState). t.order) left) (ap (λ (t : HeldState). t.source_room) left)
    (subst (λ k. IsRowWritten s (sources_of before) k moved.0 (running_in s.groups) c.restart_each.new.self.ahead moved.1) (sym size) moved.3)
    (omega (arith, all)) (Spends-within _ _ moved.4 (omega arith) (omega arith)) in
    paid_within _ paid (omega (arith, size, sixteen, one))
  where
    from_some : {X P : Type 0} (r : Option X) → is_some r ≡ true → OnSome r P → P
    from_some None some is = absurd (true≢false (sym some))
    from_some (Some x) some is = is

pub returns-clause-moved : goal.returns-clause-moved
returns-clause-moved g c =
    let a = g.F.Address.Key.number c.args.lookup.address in
    let s = c.args.storage.now.held in
    let count = length c.args.named.now in
    let effect = c.restart_each.ensures.effect a (has_so g c) in
    let few = c.requires.sound.within.group_count in
    let most = few_groups c.args.self.now.config c.lemma_is_sound.ensures.faultless in
    let sixteen = few_digits (map.len s.groups) (omega (arith, few, most)) in
    by_option c.restart_each.result
    (λ none. rw (same_so g c none, effect.still none) (paid_within _ (paid_none _ _) (omega arith)))
    (λ x is.
    let some = ap is_some is in
    by_bool (has_each (names_so g c) (before_so g c))
    (λ there.
    let moved = effect.there there in
    let left = left_so g c some ∙ (λ i. let t : HeldState = record s { groups = map.insert s.groups a (after_so g c); ahead = moved.0 i } in t) in
    let same = put_by_same s c.restart_each.new.self a (after_so g c) left (size-restarted_each c.after-deadline.result (names_so g c) (before_so g c) there)
    (formed_then g c) (formed_so g c) in
    paid_by _ moved.1 (omega (arith, same, digits_so g c, sixteen)))
    (λ lacks. added_paid g c some lacks))
  where
    by_bool : (b : Bool) {P : Type 0} → (b ≡ true → P) → (b ≡ false → P) → P
    by_bool true there lacks = there refl
    by_bool false there lacks = lacks refl

pub entry_of-requires : goal.entry_of-requires
entry_of-requires g c = grind (arith, common_steps)

pub returns-then-is_due-clause-done : goal.returns-then-is_due-clause-done
returns-then-is_due-clause-done g c = grind (arith, common_steps)
