-- The state that records and datagrams leave unchanged.
use Rattle.mq_laws.proofs.Common.{◌≡◌, ℕ, Bool, true, false, cond, refl, List, Option, None, Some, Result, Ok, Err, ap, ◌∙◌, arith, eqb, eqb-true, nat_tests}
use Rattle.mq_laws.proofs.Common.{option_and_then, nat_cmp, eq_by_cmp, Message, WireFault, Query, RecordView, get-kept, is_vacant, GroupChange, Kind, Timing}
use Rattle.mq_laws.proofs.Common.{loses_role, heard, ScheduledGroup, SentQuery, Configuration, Refused, Verdict, is_applied, announced_by, groups_cleared}
use Rattle.mq_laws.proofs.Common.{group_lowered, query_heard, Envelope, counting_read, taken_or_dropped, Statement, RecordOf, limit_passed, Setting, leaving}
use Rattle.mq_laws.proofs.Common.{unless_passed, changed_by, after_sending, sent_at_once, changed_or_refused, change_in, Entrance, Stops, GoesOn, entrance}
use Rattle.mq_laws.proofs.Common.{is_repeated, judged_from, Groups, LinkState, Step, DropReason, Refusal, Repeated, ChangesNothing, IsOnlyCounted, DifferAt}
use Rattle.mq_laws.proofs.Common.{alone_by, groups_lowered, taken_in, stated, judged, stated_alone, with_group, Dropped}
use Rattle.mq_link.{proofs.Recorded.get-with_group, specs.Record.Outcome, specs.Record.Seen}
use Rattle.std.specs.FinMap as map
use Rattle.std.specs.FinSet as set

-- a record that isn't applied
unpassed : (name : Option Refusal) (before after : Groups) (queries : List SentQuery) → is_applied (unless_passed name before after queries).verdict ≡ false
    → ChangesNothing before (unless_passed name before after queries)
unpassed name before after queries h1 = grind arith

unchanged : (at : Setting) (group : ℕ) (groups : Groups) (change : Option GroupChange) → is_applied (changed_or_refused at group groups change).verdict ≡ false
    → ChangesNothing groups (changed_or_refused at group groups change)
unchanged at group groups None h = record { groups = refl; queries = refl }
unchanged at group groups (Some change) h =
    let left = after_sending at (changed_by at group groups change) in
    let after = with_group groups group left in
    unpassed (limit_passed at.config.limits after left) groups after (sent_at_once at group (changed_by at group groups change)) h

unapplied_stated : (at : Setting) (group : ℕ) (st : Statement) (groups : Groups) → is_applied (stated at group st groups).verdict ≡ false
    → ChangesNothing groups (stated at group st groups)
unfolding stated
unapplied_stated at group st groups h = unchanged at group groups (change_in at group st groups) h

pub unapplied_alone : (at : Setting) (group : ℕ) (st : Statement) (groups : Groups) → is_applied (stated_alone at group st groups).verdict ≡ false
    → ChangesNothing groups (stated_alone at group st groups)
unapplied_alone at group st groups =
    alone_by (λ outcome. is_applied outcome.verdict ≡ false → ChangesNothing groups outcome) at group st groups (unapplied_stated at group st groups)
    (λ h. record { groups = refl; queries = refl })

-- A record leaves the groups, or has the outcome of a statement.
pub judged_by : (P : Outcome → Type 0) (at : Setting) (seen : Seen) (r : RecordView ℕ) (groups : Groups) → ((verdict : Verdict) → P (leaving groups verdict))
    → ((kind : Kind) → P (stated at r.group (RecordOf kind (set.from_list r.sources)) groups)) → P (judged at seen r groups)
unfolding judged
judged_by P at seen r groups leaves goes = by_entrance (entrance at.config r)
  where
    by_test : (b : Bool) (kind : Kind) → P (cond b (leaving groups (Refused Repeated)) (stated at r.group (RecordOf kind (set.from_list r.sources)) groups))
    by_test true kind = leaves (Refused Repeated)
    by_test false kind = goes kind

    by_entrance : (entered : Entrance) → P (judged_from at seen r groups entered)
    by_entrance (Stops verdict) = leaves verdict
    by_entrance (GoesOn kind) = by_test (is_repeated groups seen r.group) kind

pub unapplied_judged : (at : Setting) (seen : Seen) (r : RecordView ℕ) (groups : Groups)
    → is_applied (judged at seen r groups).verdict ≡ false → ChangesNothing groups (judged at seen r groups)
unapplied_judged at seen r groups =
    judged_by (λ outcome. is_applied outcome.verdict ≡ false → ChangesNothing groups outcome) at seen r groups
    (λ verdict h. record { groups = refl; queries = refl }) (λ kind h. unapplied_stated at r.group (RecordOf kind (set.from_list r.sources)) groups h)

-- a record and the other groups
untied : (q k : ℕ) → (q ≡ k → ⊥) → eq_by_cmp nat_cmp q k ≡ false
untied q k apart = grind (arith, nat_tests)

pub others_with_group : (groups : Groups) (group : ℕ) (e : ScheduledGroup) → DifferAt group groups (with_group groups group e)
others_with_group groups group e other apart =
    get-with_group groups group e other ∙ ap (λ b. cond b (cond (is_vacant e.group) None (Some e)) (map.get groups other)) (untied other group apart)

others_unless : (group : ℕ) (name : Option Refusal) (before after : Groups) (queries : List SentQuery) → DifferAt group before after
    → DifferAt group before (unless_passed name before after queries).groups
others_unless group name before after queries h1 = grind arith

others_changed : (at : Setting) (group : ℕ) (groups : Groups) (change : Option GroupChange)
    → DifferAt group groups (changed_or_refused at group groups change).groups
others_changed at group groups None = λ other apart. refl
others_changed at group groups (Some change) =
    let left = after_sending at (changed_by at group groups change) in
    let after = with_group groups group left in
    others_unless group (limit_passed at.config.limits after left) groups after (sent_at_once at group (changed_by at group groups change))
    (others_with_group groups group left)

pub others_stated : (at : Setting) (group : ℕ) (st : Statement) (groups : Groups) → DifferAt group groups (stated at group st groups).groups
unfolding stated
others_stated at group st groups = others_changed at group groups (change_in at group st groups)

pub others_judged : (at : Setting) (seen : Seen) (r : RecordView ℕ) (groups : Groups) → DifferAt r.group groups (judged at seen r groups).groups
others_judged at seen r groups =
    judged_by (λ outcome. DifferAt r.group groups outcome.groups) at seen r groups
    (λ verdict other apart. refl) (λ kind. others_stated at r.group (RecordOf kind (set.from_list r.sources)) groups)

-- a query and the other groups
others_lowered : (timing : Timing) (now : ℕ) (query : Query ℕ) (groups : Groups) → DifferAt query.group groups (groups_lowered timing now query groups)
unfolding groups_lowered
others_lowered timing now query groups other apart =
    get-kept (λ group e. Some (cond (eqb group query.group) (group_lowered timing now query.version e) e)) groups other
    ∙ by_test (eqb other query.group) refl (map.get groups other)
  where
    by_test : (b : Bool) → eqb other query.group ≡ b → (before : Option ScheduledGroup) →
        option_and_then (λ e. Some (cond (eqb other query.group) (group_lowered timing now query.version e) e)) before ≡ before
    by_test true is before = absurd (apart (eqb-true other query.group is))
    by_test false is None = refl
    by_test false is (Some e) = ap (λ b. Some (cond b (group_lowered timing now query.version e) e)) is

heard_by_loss : (config : Configuration) (now source : ℕ) (query : Query ℕ) (state : LinkState) (loses : Bool)
    → loses_role config.own source state.election.role ≡ loses
    → DifferAt query.group (cond loses (groups_cleared state.groups) state.groups) (query_heard config now source query state).groups
heard_by_loss config now source query state loses is other apart =
    others_lowered (heard config.timing config.own now source (announced_by query.version) state.election).timing now query
    (cond (loses_role config.own source state.election.role) (groups_cleared state.groups) state.groups) other apart
    ∙ ap (λ b. map.get (cond b (groups_cleared state.groups) state.groups) other) is

pub others_heard : (config : Configuration) (now source : ℕ) (query : Query ℕ) (state : LinkState) → loses_role config.own source state.election.role ≡ false
    → DifferAt query.group state.groups (query_heard config now source query state).groups
others_heard config now source query state = heard_by_loss config now source query state false

pub others_after_loss : (config : Configuration) (now source : ℕ) (query : Query ℕ) (state : LinkState)
    → loses_role config.own source state.election.role ≡ true
    → DifferAt query.group (groups_cleared state.groups) (query_heard config now source query state).groups
others_after_loss config now source query state = heard_by_loss config now source query state true

-- a datagram that is dropped
not_dropped : (config : Configuration) (envelope : Envelope) (message : Message ℕ) (step : Step) (reason : DropReason)
    → (taken_in config envelope message step).answer ≡ Dropped reason → ⊥
unfolding taken_in
not_dropped config envelope message step reason h1 = grind arith

pub dropped_decided : (config : Configuration) (envelope : Envelope) (tick : Step) (read : Result (Message ℕ) WireFault) (by : Option DropReason)
    (reason : DropReason)
    → (taken_or_dropped config envelope tick read by).answer ≡ Dropped reason → IsOnlyCounted tick (taken_or_dropped config envelope tick read by)
dropped_decided config envelope tick read (Some other) reason h = record { state = refl; queries = refl }
dropped_decided config envelope tick (Err fault) None reason h = record { state = refl; queries = refl }
dropped_decided config envelope tick (Ok message) None reason h = absurd (not_dropped config envelope message (counting_read (Ok message) tick) reason h)
