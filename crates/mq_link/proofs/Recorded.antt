-- Records, older Reports, Leave and Done leave groups that a link may hold.
use Rattle.mq_link.proofs.Common.{◌≡◌, ℕ, ◌+◌, ◌≤◌, ◌<◌, Bool, true, false, cond, not, ◌&&◌, ◌||◌, inl, inr, refl, List, [], ◌∷◌, length, Option, None, Some}
use Rattle.mq_link.proofs.Common.{IfSome, sym, ap, ◌∙◌, subst, arith, eqb, ltb, tied, true≢false, ltb-false, eqb-true, list_map, list_any, option_map}
use Rattle.mq_link.proofs.Common.{unwrap_or, nat_cmp, eq_by_cmp, nat_cmp_total, OlderVersion, V1, V2, RecordView, Kind, IsIn, IsEx, ToIn, ToEx, Allow, Block}
use Rattle.mq_link.proofs.Common.{Hosts, Timing, FilterMode, Include, Exclude, SourceTimer, Set, GroupState, is_include, vacant, is_vacant, running, stopped}
use Rattle.mq_link.proofs.Common.{IsAnyGroup, size_of, membership_interval, NamedSources, GroupChange, table_row, change_of, hosts_of, translated}
use Rattle.mq_link.proofs.Common.{translated_change, older_host, older_report, lowered_to, IsAnyGroup-change_of, IsWellFormed-older_report, has_retransmissions}
use Rattle.mq_link.proofs.Common.{retransmissions_counted, ScheduleState, ScheduledGroup, no_schedule, settled, IsScheduleOf, acted, after_change, is_due}
use Rattle.mq_link.proofs.Common.{after_round}
use Rattle.mq_link.proofs.Common.{is_querier, fits_after_record, fits_acted, fits_after_round, held_acted, held_after_round, AreSound, Limits, Refusal}
use Rattle.mq_link.proofs.Common.{TooManyGroups, GroupSources, Sources, Scheduled, Repeated, Long, is_admitted, v1_mutes_leave, Configuration, is_allowed}
use Rattle.mq_link.proofs.Common.{Denied, Ignored}
use Rattle.mq_link.proofs.Common.{Refused, IsHeldAs, IsSilent, AreWithin, Statement, RecordOf, OlderJoin, OlderLeave, is_exclude_kind, is_muted, asking_nothing}
use Rattle.mq_link.proofs.Common.{change_stated, limit_passed, Setting, leaving, unless_passed, changed_by, after_sending, sent_at_once, changed_or_refused}
use Rattle.mq_link.proofs.Common.{change_in, stated, Seen, Entrance, Stops, GoesOn, entrance, entrance_as, kind_named, is_repeated, seen_after, judged_from}
use Rattle.mq_link.proofs.Common.{judged, all_judged, first_named}
use Rattle.std.specs.FinMap as map
use Rattle.std.specs.FinSet as set
use Rattle.mq_link.specs.State.{Groups, unheld, group_at, with_group, sources_of, sources_in, schedules_in, IsSourceSpecific, is_source_specific}
use Rattle.mq_link.proofs.{Entries.len-kept, Bounds.no_sources, Bounds.round_size, Known.entries-known, HeldAs.All, HeldAs.vacant_is, HeldAs.lowered_include}
use Rattle.mq_link.proofs.{HeldAs.settled_silent, HeldAs.silent_round}

-- the group that a record meets: a held group in a proper state, or none
pub record IsReady (config : Configuration) (group : ℕ) (e : ScheduledGroup) : Type 0 where
  pub any : IsAnyGroup e.group
  pub fits : IsScheduleOf e.group e.schedule
  pub specific : is_source_specific config group ≡ true → IsSourceSpecific e.group

no_keys : map.keys (map.empty {X = SourceTimer} {R = nat_cmp}) ≡ []
no_keys = ap (list_map (λ e. e.0)) (entries-known [])

unheld_fits : IsScheduleOf vacant no_schedule
unheld_fits = record { exclude_only = λ _. refl; group_sendings = tt; sources_retransmissions = sym (ap (list_any (has_retransmissions vacant)) no_keys) }

pub ready : (config : Configuration) (groups : Groups) (group : ℕ) → All (IsHeldAs config) groups → IsReady config group (group_at groups group)
ready config groups group all = by_group (map.get groups group) refl
  where
    by_group : (e : Option ScheduledGroup) → map.get groups group ≡ e → IsReady config group (unwrap_or e unheld)
    by_group None is = record { any = inl refl; fits = unheld_fits; specific = λ _. record { include = refl; no_v1 = refl; no_v2 = refl } }
    by_group (Some e) is = let h = all group e is in record { any = inr h.held; fits = h.fits; specific = h.source_specific }

-- a change that leaves the same
pub record IsSound (config : Configuration) (group : ℕ) (schedule : ScheduleState) (change : GroupChange) : Type 0 where
  pub any : IsAnyGroup change.group
  pub fits : IsScheduleOf change.group (settled change.group schedule)
  pub specific : is_source_specific config group ≡ true → IsSourceSpecific change.group

include_line : (gmi : ℕ) (mode : FilterMode) (kind : Kind) (X Y A : Set) → is_include mode ≡ true → is_exclude_kind kind ≡ false →
    is_include (table_row gmi mode kind X Y A).mode ≡ true
include_line gmi (Exclude d) kind X Y A h k = cc
include_line gmi Include IsEx X Y A h k = cc
include_line gmi Include ToEx X Y A h k = cc
include_line gmi Include _ X Y A h k = refl

changed_soundly : (config : Configuration) (group : ℕ) (timing : Timing) (now : ℕ) (e : ScheduledGroup) (kind : Kind) (named : NamedSources) →
    IsReady config group e → (is_source_specific config group ≡ true → is_exclude_kind kind ≡ false) →
    IsSound config group e.schedule (change_of timing now e.group kind named)
changed_soundly config group timing now e kind named h unmuted = record {
  any = IsAnyGroup-change_of timing now e.group kind named h.any;
  fits = fits_after_record timing now e.group e.schedule kind named h.fits;
  specific = λ kept_so.
      let s = h.specific kept_so in
      record {
        include = include_line (now + membership_interval timing) e.group.mode kind (running e.group) (stopped e.group)
            (set.contains named) s.include (unmuted kept_so);
        no_v1 = s.no_v1;
        no_v2 = s.no_v2;
      };
}

-- translation keeps the kind, and gives nothing of what is muted
unmuted_kind : (a : Bool) (kind : Kind) → (a && is_exclude_kind kind) ≡ false → a ≡ true → is_exclude_kind kind ≡ false
unmuted_kind true kind h e = h
unmuted_kind false kind h e = cc

translated_soundly : (config : Configuration) (group : ℕ) (mutes muted : Bool) (timing : Timing) (now : ℕ) (e : ScheduledGroup) (kind : Kind)
    (named : NamedSources) → IsReady config group e → (muted ≡ false → is_source_specific config group ≡ true → is_exclude_kind kind ≡ false) →
    IfSome (translated_change mutes muted timing now e.group kind named) (IsSound config group e.schedule)
translated_soundly config group mutes muted timing now e kind named h unmuted = by_kind muted (hosts_of e.group now) kind unmuted
  where
    change : Kind × NamedSources → GroupChange
    change r = change_of timing now e.group r.0 r.1

    so : (kind : Kind) (names : NamedSources) → (false ≡ false → is_source_specific config group ≡ true → is_exclude_kind kind ≡ false) →
        IsSound config group e.schedule (change (kind, names))
    so kind names u = changed_soundly config group timing now e kind names h (u refl)

    by_test : (b : Bool) (kind : Kind) → (false ≡ false → is_source_specific config group ≡ true → is_exclude_kind kind ≡ false) →
        IfSome (option_map change (cond b None (Some (kind, named)))) (IsSound config group e.schedule)
    by_test true kind u = tt
    by_test false kind u = so kind named u

    emptied : (b : Bool) → (false ≡ false → is_source_specific config group ≡ true → is_exclude_kind ToEx ≡ false) →
        IfSome (option_map change (cond b (Some (ToEx, set.empty)) (Some (ToEx, named)))) (IsSound config group e.schedule)
    emptied true u = so ToEx set.empty u
    emptied false u = so ToEx named u

    by_kind : (muted : Bool) (hosts : Hosts) (kind : Kind) → (muted ≡ false → is_source_specific config group ≡ true → is_exclude_kind kind ≡ false) →
        IfSome (option_map change (translated mutes muted hosts kind named)) (IsSound config group e.schedule)
    by_kind true hosts kind u = tt
    by_kind false hosts Block u = by_test (hosts.v1 || hosts.v2) Block u
    by_kind false hosts ToEx u = emptied (hosts.v1 || hosts.v2) u
    by_kind false hosts ToIn u = by_test (mutes && hosts.v1) ToIn u
    by_kind false hosts IsIn u = so IsIn named u
    by_kind false hosts IsEx u = so IsEx named u
    by_kind false hosts Allow u = so Allow named u

older_fits : (version : OlderVersion) (timing : Timing) (now : ℕ) (g : GroupState) (schedule : ScheduleState) → IsScheduleOf g (settled g schedule) →
    IsScheduleOf (older_host version timing now g) (settled (older_host version timing now g) schedule)
older_fits V1 timing now g schedule h = record {
  exclude_only = h.exclude_only;
  group_sendings = h.group_sendings;
  sources_retransmissions = h.sources_retransmissions;
}
older_fits V2 timing now g schedule h = record {
  exclude_only = h.exclude_only;
  group_sendings = h.group_sendings;
  sources_retransmissions = h.sources_retransmissions;
}

joined_soundly : (config : Configuration) (group : ℕ) (version : OlderVersion) (timing : Timing) (now : ℕ) (e : ScheduledGroup) (muted : Bool) →
    is_source_specific config group ≡ muted → IsReady config group e →
    IfSome (cond muted None (Some (asking_nothing (older_report version timing now e.group)))) (IsSound config group e.schedule)
joined_soundly config group version timing now e true is h = tt
joined_soundly config group version timing now e false is h = record {
  any = inr (IsWellFormed-older_report version timing now e.group);
  fits = older_fits version timing now (change_of timing now e.group IsEx set.empty).group e.schedule
      (fits_after_record timing now e.group e.schedule IsEx set.empty h.fits);
  specific = λ kept_so. absurd (true≢false (sym kept_so ∙ is));
}

unmuted_leave : (a : Bool) → a ≡ false → a ≡ true → is_exclude_kind ToIn ≡ false
unmuted_leave a h e = refl

pub stated_soundly : (config : Configuration) (group : ℕ) (mutes : Bool) (timing : Timing) (now : ℕ) (st : Statement) (e : ScheduledGroup) →
    IsReady config group e → IfSome (change_stated mutes (is_muted config group st) timing now st e.group) (IsSound config group e.schedule)
stated_soundly config group mutes timing now (RecordOf kind named) e h =
    translated_soundly config group mutes (is_source_specific config group && is_exclude_kind kind) timing now e kind named h
    (unmuted_kind (is_source_specific config group) kind)
stated_soundly config group mutes timing now (OlderJoin version) e h = joined_soundly config group version timing now e (is_source_specific config group) refl h
stated_soundly config group mutes timing now OlderLeave e h =
    translated_soundly config group mutes (is_source_specific config group) timing now e ToIn set.empty h (unmuted_leave (is_source_specific config group))

-- asking keeps a group's mode, and adds no source
acted_include : (q : Bool) (timing : Timing) (now : ℕ) (asks : Bool) (query : Set) (e : ScheduledGroup) →
    is_include (acted q timing now asks query e).group.mode ≡ is_include e.group.mode
acted_include false timing now asks query e = refl
acted_include true timing now true query e = lowered_include (lowered_to timing now) e.group.mode
acted_include true timing now false query e = refl

acted_v1 : (q : Bool) (timing : Timing) (now : ℕ) (asks : Bool) (query : Set) (e : ScheduledGroup) →
    ((acted q timing now asks query e).group.v1 ≡ e.group.v1) × ((acted q timing now asks query e).group.v2 ≡ e.group.v2)
acted_v1 false timing now asks query e = (refl, refl)
acted_v1 true timing now true query e = (refl, refl)
acted_v1 true timing now false query e = (refl, refl)

pub acted_size : (q : Bool) (timing : Timing) (now : ℕ) (asks : Bool) (query : Set) (e : ScheduledGroup) →
    size_of (acted q timing now asks query e).group ≤ size_of e.group
acted_size false timing now asks query e = omega arith
acted_size true timing now true query e = len-kept _ e.group.sources
acted_size true timing now false query e = len-kept _ e.group.sources

round_include : (g : GroupState) (due : Bool) → is_include (cond due (retransmissions_counted g) g).mode ≡ is_include g.mode
round_include g true = refl
round_include g false = refl

round_v1 : (g : GroupState) (due : Bool) → ((cond due (retransmissions_counted g) g).v1 ≡ g.v1) × ((cond due (retransmissions_counted g) g).v2 ≡ g.v2)
round_v1 g true = (refl, refl)
round_v1 g false = (refl, refl)

left_true : (a b : Bool) → (a && b) ≡ true → a ≡ true
left_true true b h = refl
left_true false b h = cc

right_true : (a b : Bool) → (a && b) ≡ true → b ≡ true
right_true true b h = h
right_true false b h = cc

vacant_from : (g : GroupState) → is_include g.mode ≡ true → size_of g ≤ 0 → is_vacant g ≡ true
vacant_from g include none = let empty : size_of g ≡ 0 = omega arith in λ i. include i && eqb (empty i) 0

still_vacant : (q : Bool) (timing : Timing) (now : ℕ) (asks : Bool) (query : Set) (e : ScheduledGroup) → is_vacant e.group ≡ true →
    is_vacant (after_round timing now (acted q timing now asks query e)).group ≡ true
still_vacant q timing now asks query e h =
    let a = acted q timing now asks query e in
    let include = left_true (is_include e.group.mode) (eqb (size_of e.group) 0) h in
    let empty : size_of e.group ≡ 0 = eqb-true (size_of e.group) 0 (right_true (is_include e.group.mode) (eqb (size_of e.group) 0) h) in
    let asked = acted_size q timing now asks query e in
    let sent = round_size a.group (is_due now a.schedule.sources_due) in
    vacant_from (cond (is_due now a.schedule.sources_due) (retransmissions_counted a.group) a.group)
    (round_include a.group (is_due now a.schedule.sources_due) ∙ acted_include q timing now asks query e ∙ include) (omega arith)

-- a group after a change and its queries
pub sound_after : (config : Configuration) (group : ℕ) (q : Bool) (timing : Timing) (now : ℕ) (change : GroupChange) (schedule : ScheduleState) →
    0 < timing.robustness → is_admitted config.family group ≡ true → IsSound config group schedule change →
    (let left = after_round timing now (after_change q timing now change schedule) in is_vacant left.group ≡ false → IsHeldAs config group left)
sound_after config group q timing now change schedule positive admitted h not_vacant = record {
  admitted = admitted;
  held = elim h.any [
    | inl is ↦ absurd (true≢false (sym (still_vacant q timing now change.query_group change.query e (ap is_vacant is ∙ vacant_is)) ∙ not_vacant))
    | inr held ↦ held_after_round timing now asked (held_acted q timing now change.query_group change.query e held)
  ];
  fits = fits_after_round timing now asked (fits_acted q timing now change.query_group change.query e positive h.fits);
  source_specific = λ kept_so.
      let s = h.specific kept_so in
      let v = acted_v1 q timing now change.query_group change.query e in
      let w = round_v1 asked.group (is_due now asked.schedule.sources_due) in
      record {
        include = round_include asked.group (is_due now asked.schedule.sources_due) ∙ acted_include q timing now change.query_group change.query e ∙ s.include;
        no_v1 = w.0 ∙ v.0 ∙ s.no_v1;
        no_v2 = w.1 ∙ v.1 ∙ s.no_v2;
      };
}
  where
    e : ScheduledGroup
    e = record { group = change.group; schedule = settled change.group schedule }

    asked : ScheduledGroup
    asked = acted q timing now change.query_group change.query e

silent_after : (group : ℕ) (q : Bool) (timing : Timing) (now : ℕ) (change : GroupChange) (schedule : ScheduleState) → q ≡ false →
    schedule ≡ no_schedule → IsSilent (after_round timing now (after_change q timing now change schedule))
silent_after group true timing now change schedule is none = cc
silent_after group false timing now change schedule is none =
    silent_round timing now group (record { group = change.group; schedule = settled change.group schedule })
    (record { schedule = settled_silent change.group schedule none })

-- Groups with one of them replaced.
pub get-with_group : (groups : Groups) (group : ℕ) (e : ScheduledGroup) (other : ℕ) → map.get (with_group groups group e) other
    ≡ cond (eq_by_cmp nat_cmp other group) (cond (is_vacant e.group) None (Some e)) (map.get groups other)
get-with_group groups group e other = by_test (is_vacant e.group)
  where
    by_test : (b : Bool) → map.get (cond b (map.remove groups group) (map.insert groups group e)) other ≡ cond (eq_by_cmp nat_cmp other group)
        (cond b None (Some e)) (map.get groups other)
    by_test true = map.get-remove nat_cmp_total groups group other
    by_test false = map.get-insert nat_cmp_total groups group e other

pub all-with_group : (P : ℕ → ScheduledGroup → Type 0) (groups : Groups) (group : ℕ) (e : ScheduledGroup) → (is_vacant e.group ≡ false → P group e) →
    All P groups → All P (with_group groups group e)
all-with_group P groups group e here all other found is = by_place (eq_by_cmp nat_cmp other group) refl (sym (get-with_group groups group e other) ∙ is)
  where
    replaced : (b : Bool) → is_vacant e.group ≡ b → other ≡ group → cond b None (Some e) ≡ Some found → P other found
    replaced true v same now_is = cc
    replaced false v same now_is = let found_is : e ≡ found = cc in subst (P other) found_is (subst (λ k. P k e) (sym same) (here v))

    by_place : (b : Bool) → eq_by_cmp nat_cmp other group ≡ b → cond b (cond (is_vacant e.group) None (Some e)) (map.get groups other) ≡ Some found →
        P other found
    by_place true t now_is = replaced (is_vacant e.group) refl (tied other group t) now_is
    by_place false t now_is = all other found now_is

-- the four tests of the limits, if none holds
passes_none : (a b c d : Bool) (w x y z : Refusal) → first_named ((w, a) ∷ (x, b) ∷ (y, c) ∷ (z, d) ∷ []) ≡ None → (a ≡ false) × (b ≡ false) ×
    (c ≡ false) × (d ≡ false)
passes_none false false false false w x y z h = (refl, refl, refl, refl)
passes_none _ _ _ _ w x y z h = cc

within-with_group : (limits : Limits) (groups : Groups) (group : ℕ) (e : ScheduledGroup) → limit_passed limits (with_group groups group e) e ≡ None →
    AreWithin limits groups → AreWithin limits (with_group groups group e)
within-with_group limits groups group e none within = record {
  group_count = ltb-false limits.groups (map.len after) tests.0;
  group_sources = λ other. subst (λ x. sources_of (unwrap_or x unheld) ≤ limits.group_sources) (sym (get-with_group groups group e other))
      (by_place other (eq_by_cmp nat_cmp other group) (is_vacant e.group));
  sources = ltb-false limits.sources (sources_in after) tests.2;
  scheduled = ltb-false limits.scheduled (schedules_in after) tests.3;
}
  where
    after : Groups
    after = with_group groups group e

    tests : (ltb limits.groups (map.len after) ≡ false) × (ltb limits.group_sources (sources_of e) ≡ false) ×
        (ltb limits.sources (sources_in after) ≡ false) × (ltb limits.scheduled (schedules_in after) ≡ false)
    tests = passes_none (ltb limits.groups (map.len after)) (ltb limits.group_sources (sources_of e)) (ltb limits.sources (sources_in after))
        (ltb limits.scheduled (schedules_in after)) TooManyGroups GroupSources Sources Scheduled none

    by_place : (other : ℕ) (here vacant_now : Bool) →
        sources_of (unwrap_or (cond here (cond vacant_now None (Some e)) (map.get groups other)) unheld) ≤ limits.group_sources
    by_place other true true = let n = no_sources in omega arith
    by_place other true false = ltb-false limits.group_sources (sources_of e) tests.1
    by_place other false b = within.group_sources other

pub changed_leaves : (at : Setting) (group : ℕ) (groups : Groups) (change : Option GroupChange) → 0 < at.election.timing.robustness →
    is_admitted at.config.family group ≡ true → AreSound at groups → IfSome change (IsSound at.config group (group_at groups group).schedule) →
    AreSound at (changed_or_refused at group groups change).groups
changed_leaves at group groups None positive admitted h sound = h
changed_leaves at group groups (Some change) positive admitted h sound = by_limit (limit_passed at.config.limits after left) refl
  where
    left : ScheduledGroup
    left = after_sending at (changed_by at group groups change)

    after : Groups
    after = with_group groups group left

    silent_group : is_querier at.election.role ≡ false → (group_at groups group).schedule ≡ no_schedule
    silent_group q = by_group (map.get groups group) refl
      where
        by_group : (e : Option ScheduledGroup) → map.get groups group ≡ e → (unwrap_or e unheld).schedule ≡ no_schedule
        by_group None is = refl
        by_group (Some e) is = (h.silent q group e is).schedule

    by_limit : (name : Option Refusal) → limit_passed at.config.limits after left ≡ name →
        AreSound at (unless_passed name groups after (sent_at_once at group (changed_by at group groups change))).groups
    by_limit (Some name) is = h
    by_limit None is = record {
      all = all-with_group (IsHeldAs at.config) groups group left
          (sound_after at.config group (is_querier at.election.role) at.election.timing at.now change (group_at groups group).schedule positive
          admitted sound) h.all;
      within = within-with_group at.config.limits groups group left is h.within;
      silent = λ q. all-with_group (λ _. IsSilent) groups group left
          (λ _. silent_after group (is_querier at.election.role) at.election.timing at.now change (group_at groups group).schedule q (silent_group q))
          (h.silent q);
    }

pub stated_leaves : (at : Setting) (group : ℕ) (st : Statement) (groups : Groups) → 0 < at.election.timing.robustness →
    is_admitted at.config.family group ≡ true → AreSound at groups → AreSound at (stated at group st groups).groups
unfolding stated
stated_leaves at group st groups positive admitted h = changed_leaves at group groups (change_in at group st groups) positive admitted h
    (stated_soundly at.config group (v1_mutes_leave at.config.family) at.election.timing at.now st (group_at groups group) (ready at.config groups group h.all))

-- a record that goes on is for a group that is admitted
entered : (config : Configuration) (r : RecordView ℕ) (kind : Option Kind) (so : Kind) → entrance_as config r kind ≡ GoesOn so →
    is_admitted config.family r.group ≡ true
entered config r None so is = cc
entered config r (Some kind) so is = by_test (is_admitted config.family r.group) is
  where
    by_test : (b : Bool) →
        cond (not b) (Stops Ignored) (cond (not (is_allowed config r.group)) (Stops Denied)
        (cond (ltb config.limits.group_sources (length r.sources)) (Stops (Refused Long)) (GoesOn kind))) ≡ GoesOn so → b ≡ true
    by_test true is = refl
    by_test false is = cc

pub judged_leaves : (at : Setting) (seen : Seen) (r : RecordView ℕ) (groups : Groups) → 0 < at.election.timing.robustness → AreSound at groups →
    AreSound at (judged at seen r groups).groups
unfolding judged
judged_leaves at seen r groups positive h = by_entrance (entrance at.config r) refl
  where
    by_test : (b : Bool) (kind : Kind) → is_admitted at.config.family r.group ≡ true →
        AreSound at (cond b (leaving groups (Refused Repeated)) (stated at r.group (RecordOf kind (set.from_list r.sources)) groups)).groups
    by_test true kind admitted = h
    by_test false kind admitted = stated_leaves at r.group (RecordOf kind (set.from_list r.sources)) groups positive admitted h

    by_entrance : (entered_as : Entrance) → entrance at.config r ≡ entered_as → AreSound at (judged_from at seen r groups entered_as).groups
    by_entrance (Stops verdict) is = h
    by_entrance (GoesOn kind) is = by_test (is_repeated groups seen r.group) kind (entered at.config r (kind_named r.kind) kind is)

pub all_judged_leave : (at : Setting) (seen : Seen) (rs : List (RecordView ℕ)) (groups : Groups) → 0 < at.election.timing.robustness →
    AreSound at groups → AreSound at (all_judged at seen rs groups).groups
all_judged_leave at seen [] groups positive h = h
all_judged_leave at seen (r ∷ rs) groups positive h = all_judged_leave at (seen_after at.config r groups seen) rs
    (judged at seen r groups).groups positive (judged_leaves at seen r groups positive h)
