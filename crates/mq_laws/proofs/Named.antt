-- Exactly where each name of a refusal is given.
use Rattle.mq_laws.proofs.Common.{◌≡◌, ◌↔◌, ℕ, ◌≤◌, Bool, true, false, cond, ◌||◌, refl, List, [], ◌∷◌, Option, None, Some, sym, ap, ◌∙◌, arith, ltb, not}
use Rattle.mq_laws.proofs.Common.{length, nat_tests, RecordView, GroupChange, Kind, ScheduledGroup, SentQuery, Configuration, is_allowed, Denied, Ignored}
use Rattle.mq_laws.proofs.Common.{Refused, Statement, RecordOf, limit_passed, Setting, leaving, unless_passed, sent_at_once, changed_by, changed_or_refused}
use Rattle.mq_laws.proofs.Common.{change_in, Entrance, Stops, GoesOn, entrance, is_repeated, judged_from, entrance_as, kind_named, Groups, sources_of}
use Rattle.mq_laws.proofs.Common.{sources_in, schedules_in, Refusal, Long, Repeated, TooManyGroups, GroupSources, Sources, Scheduled, Memory, IsGivenWhere}
use Rattle.mq_laws.proofs.Common.{would_be, would_leave, stated, judged}
use Rattle.mq_link.specs.{Family.is_admitted, Record.Seen, Tests.first_named, declared.configuration.Limits.Limits}
use Rattle.std.specs.FinMap as map
use Rattle.std.specs.FinSet as set

-- the name that is given where these tests hold
abbrev given : (a b c d : Bool) → Option Refusal
given a b c d = first_named ((TooManyGroups, a) ∷ (GroupSources, b) ∷ (Sources, c) ∷ (Scheduled, d) ∷ [])

-- each name is given exactly where its test is the first to hold, and no other name is
pub record AreGiven (a b c d : Bool) : Type 0 where
  pub groups : IsGivenWhere (given a b c d) TooManyGroups false a
  pub group_sources : IsGivenWhere (given a b c d) GroupSources a b
  pub sources : IsGivenWhere (given a b c d) Sources (a || b) c
  pub scheduled : IsGivenWhere (given a b c d) Scheduled (a || b || c) d
  pub none : a ≡ false → b ≡ false → c ≡ false → d ≡ false → given a b c d ≡ None
  pub others : (name : Refusal) → given a b c d ≡ Some name → (name ≡ Long → ⊥) × (name ≡ Repeated → ⊥) × (name ≡ Memory → ⊥)

are_given : (a b c d : Bool) → AreGiven a b c d
are_given a b c d = grind arith

pub limits_given : (limits : Limits) (groups : Groups) (changed : ScheduledGroup)
    → AreGiven (ltb limits.groups (map.len groups)) (ltb limits.group_sources (sources_of changed)) (ltb limits.sources (sources_in groups))
    (ltb limits.scheduled (schedules_in groups))
limits_given limits groups changed = are_given _ _ _ _

at_most : (most n : ℕ) → n ≤ most → ltb most n ≡ false
at_most most n h = grind (arith, nat_tests)

-- limits that are large enough refuse nothing
pub none_passed : (limits : Limits) (groups : Groups) (changed : ScheduledGroup) → map.len groups ≤ limits.groups → sources_of changed ≤ limits.group_sources
    → sources_in groups ≤ limits.sources → schedules_in groups ≤ limits.scheduled → limit_passed limits groups changed ≡ None
none_passed limits groups changed h k l m =
    (limits_given limits groups changed).none (at_most limits.groups (map.len groups) h) (at_most limits.group_sources (sources_of changed) k)
    (at_most limits.sources (sources_in groups) l) (at_most limits.scheduled (schedules_in groups) m)

-- the verdict names the limit
named_so : (passed : Option Refusal) (name : Refusal) (before after : Groups) (queries : List SentQuery)
    → ((unless_passed passed before after queries).verdict ≡ Refused name) ↔ (passed ≡ Some name)
named_so passed name before after queries = grind arith

pub verdict_names : (at : Setting) (group : ℕ) (st : Statement) (groups : Groups) (change : GroupChange) (name : Refusal)
    → change_in at group st groups ≡ Some change → ((stated at group st groups).verdict ≡ Refused name) ↔
    (limit_passed at.config.limits (would_leave at group groups change) (would_be at group groups change) ≡ Some name)
unfolding stated
verdict_names at group st groups change name is =
    let same = ap (λ c. (changed_or_refused at group groups c).verdict) is in
    let h = named_so (limit_passed at.config.limits (would_leave at group groups change) (would_be at group groups change)) name groups
    (would_leave at group groups change) (sent_at_once at group (changed_by at group groups change)) in
    (λ v. h.0 (sym same ∙ v), λ v. same ∙ h.1 v)

-- a statement is refused for a limit alone
changed_names : (at : Setting) (group : ℕ) (groups : Groups) (change : Option GroupChange) (name : Refusal)
    → (changed_or_refused at group groups change).verdict ≡ Refused name → (name ≡ Long → ⊥) × (name ≡ Repeated → ⊥) × (name ≡ Memory → ⊥)
changed_names at group groups None name h = cc
changed_names at group groups (Some change) name h =
    let after = would_leave at group groups change in
    let e = would_be at group groups change in
    let passed = (named_so (limit_passed at.config.limits after e) name groups after (sent_at_once at group (changed_by at group groups change))).0 h in
    (limits_given at.config.limits after e).others name passed

pub stated_names : (at : Setting) (group : ℕ) (st : Statement) (groups : Groups) (name : Refusal) → (stated at group st groups).verdict ≡ Refused name
    → (name ≡ Long → ⊥) × (name ≡ Repeated → ⊥) × (name ≡ Memory → ⊥)
unfolding stated
stated_names at group st groups name h = changed_names at group groups (change_in at group st groups) name h

-- an admitted record is refused as repeated exactly if four records met its group before
repeated_given : (at : Setting) (seen : Seen) (r : RecordView ℕ) (groups : Groups) (kind : Kind) → entrance at.config r ≡ GoesOn kind
    → ((judged at seen r groups).verdict ≡ Refused Repeated) ↔ (is_repeated groups seen r.group ≡ true)
unfolding judged
repeated_given at seen r groups kind is =
    let same = ap (λ e. (judged_from at seen r groups e).verdict) is in
    let h = by_test (is_repeated groups seen r.group) in
    (λ v. h.0 (sym same ∙ v), λ v. same ∙ h.1 v)
  where
    by_test : (b : Bool) →
        ((cond b (leaving groups (Refused Repeated)) (stated at r.group (RecordOf kind (set.from_list r.sources)) groups)).verdict ≡ Refused Repeated)
        ↔ (b ≡ true)
    by_test true = (λ _. refl, λ _. refl)
    by_test false = (λ h. absurd ((stated_names at r.group (RecordOf kind (set.from_list r.sources)) groups Repeated h).1 refl), λ h. cc)

-- a record that stops early is refused for its length alone
long_given : (at : Setting) (seen : Seen) (r : RecordView ℕ) (groups : Groups)
    → ((judged at seen r groups).verdict ≡ Refused Long) ↔ (entrance at.config r ≡ Stops (Refused Long))
unfolding judged
long_given at seen r groups = by_entrance (entrance at.config r)
  where
    by_test : (b : Bool) (kind : Kind) →
        (cond b (leaving groups (Refused Repeated)) (stated at r.group (RecordOf kind (set.from_list r.sources)) groups)).verdict ≡ Refused Long → ⊥
    by_test true kind h = cc
    by_test false kind h = (stated_names at r.group (RecordOf kind (set.from_list r.sources)) groups Long h).0 refl

    by_entrance : (entered : Entrance) → ((judged_from at seen r groups entered).verdict ≡ Refused Long) ↔ (entered ≡ Stops (Refused Long))
    by_entrance (Stops verdict) = (λ h. ap Stops h, λ h. cc)
    by_entrance (GoesOn kind) = (λ h. absurd (by_test (is_repeated groups seen r.group) kind h), λ h. cc)

-- the entrance of a record
enters : (config : Configuration) (r : RecordView ℕ) (kind : Kind) → kind_named r.kind ≡ Some kind → is_admitted config.family r.group ≡ true
    → is_allowed config r.group ≡ true
    → entrance config r ≡ cond (ltb config.limits.group_sources (length r.sources)) (Stops (Refused Long)) (GoesOn kind)
enters config r kind named admitted allowed =
    ap (entrance_as config r) named ∙ ap (λ b. cond (not b) (Stops Ignored) (if_allowed (is_allowed config r.group))) admitted ∙ ap if_allowed allowed
  where
    if_allowed : Bool → Entrance
    if_allowed b = cond (not b) (Stops Denied) (cond (ltb config.limits.group_sources (length r.sources)) (Stops (Refused Long)) (GoesOn kind))

stops_if : (b : Bool) (kind : Kind) → (cond b (Stops (Refused Long)) (GoesOn kind) ≡ Stops (Refused Long)) ↔ (b ≡ true)
stops_if b kind = grind arith

pub too_long : (at : Setting) (seen : Seen) (r : RecordView ℕ) (groups : Groups) (kind : Kind) → kind_named r.kind ≡ Some kind
    → is_admitted at.config.family r.group ≡ true → is_allowed at.config r.group ≡ true
    → ((judged at seen r groups).verdict ≡ Refused Long) ↔ (ltb at.config.limits.group_sources (length r.sources) ≡ true)
too_long at seen r groups kind named admitted allowed =
    let e = enters at.config r kind named admitted allowed in
    let given = long_given at seen r groups in
    let stops = stops_if (ltb at.config.limits.group_sources (length r.sources)) kind in
    (λ v. stops.0 (sym e ∙ given.0 v), λ long. given.1 (e ∙ stops.1 long))

pub repeats : (at : Setting) (seen : Seen) (r : RecordView ℕ) (groups : Groups) (kind : Kind) → kind_named r.kind ≡ Some kind
    → is_admitted at.config.family r.group ≡ true → is_allowed at.config r.group ≡ true → ltb at.config.limits.group_sources (length r.sources) ≡ false
    → ((judged at seen r groups).verdict ≡ Refused Repeated) ↔ (is_repeated groups seen r.group ≡ true)
repeats at seen r groups kind named admitted allowed short =
    repeated_given at seen r groups kind (enters at.config r kind named admitted allowed ∙ ap (λ b. cond b (Stops (Refused Long)) (GoesOn kind)) short)

ignored_if : (at : Setting) (seen : Seen) (r : RecordView ℕ) (groups : Groups) → entrance at.config r ≡ Stops Ignored
    → (judged at seen r groups).verdict ≡ Ignored
unfolding judged
ignored_if at seen r groups is = ap (λ e. (judged_from at seen r groups e).verdict) is

pub unknown_ignored : (at : Setting) (seen : Seen) (r : RecordView ℕ) (groups : Groups) → kind_named r.kind ≡ None → (judged at seen r groups).verdict ≡ Ignored
unknown_ignored at seen r groups none = ignored_if at seen r groups (ap (entrance_as at.config r) none)

pub unadmitted_ignored : (at : Setting) (seen : Seen) (r : RecordView ℕ) (groups : Groups) → is_admitted at.config.family r.group ≡ false
    → (judged at seen r groups).verdict ≡ Ignored
unadmitted_ignored at seen r groups apart = ignored_if at seen r groups (by_kind (kind_named r.kind))
  where
    by_kind : (kind : Option Kind) → entrance_as at.config r kind ≡ Stops Ignored
    by_kind None = refl
    by_kind (Some kind) =
        ap (λ b. cond (not b) (Stops Ignored) (cond (not (is_allowed at.config r.group)) (Stops Denied)
        (cond (ltb at.config.limits.group_sources (length r.sources)) (Stops (Refused Long)) (GoesOn kind)))) apart

-- a record for a group for which hosts may not ask
pub denied_so : (at : Setting) (seen : Seen) (r : RecordView ℕ) (groups : Groups) (kind : Kind) → kind_named r.kind ≡ Some kind
    → is_admitted at.config.family r.group ≡ true → is_allowed at.config r.group ≡ false → (judged at seen r groups).verdict ≡ Denied
unfolding judged
denied_so at seen r groups kind named admitted denied =
    ap (λ e. (judged_from at seen r groups e).verdict) (ap (entrance_as at.config r) named
    ∙ ap (λ b. cond (not b) (Stops Ignored) (if_allowed (is_allowed at.config r.group))) admitted ∙ ap if_allowed denied)
  where
    if_allowed : Bool → Entrance
    if_allowed b = cond (not b) (Stops Denied) (cond (ltb at.config.limits.group_sources (length r.sources)) (Stops (Refused Long)) (GoesOn kind))

-- the refusal for memory never occurs
pub never_memory : (at : Setting) (seen : Seen) (r : RecordView ℕ) (groups : Groups) → (judged at seen r groups).verdict ≡ Refused Memory → ⊥
unfolding judged
never_memory at seen r groups = by_kind (kind_named r.kind)
  where
    goes_on : (b : Bool) (kind : Kind) →
        (cond b (leaving groups (Refused Repeated)) (stated at r.group (RecordOf kind (set.from_list r.sources)) groups)).verdict ≡ Refused Memory → ⊥
    goes_on true kind h = cc
    goes_on false kind h = (stated_names at r.group (RecordOf kind (set.from_list r.sources)) groups Memory h).2 refl

    by_tests : (admitted allowed long : Bool) (kind : Kind) →
        (judged_from at seen r groups (cond (not admitted) (Stops Ignored) (cond (not allowed) (Stops Denied)
        (cond long (Stops (Refused Long)) (GoesOn kind))))).verdict ≡ Refused Memory → ⊥
    by_tests true true false kind h = goes_on (is_repeated groups seen r.group) kind h
    by_tests _ _ _ kind h = cc

    by_kind : (kind : Option Kind) → (judged_from at seen r groups (entrance_as at.config r kind)).verdict ≡ Refused Memory → ⊥
    by_kind None h = cc
    by_kind (Some kind) h = by_tests (is_admitted at.config.family r.group) (is_allowed at.config r.group)
        (ltb at.config.limits.group_sources (length r.sources)) kind h
