-- A query that is heard changes no filter: timers are lowered, so those that run do still, and what is dropped with the role
-- is what was to go.
use Rattle.mq_laws.proofs.Common.{◌≡◌, ℕ, Bool, true, false, cond, Option, None, Some, refl, ap, ◌∙◌, eqb, arith, option_and_then, option_map, unwrap_or, Query}
use Rattle.mq_laws.proofs.Common.{same_filter, named_alike, timer_at-sources_lowered, get-kept, names, filter_of, GroupState, is_include, timer_at, lowered_to}
use Rattle.mq_laws.proofs.Common.{mode_lowered, source_lowered, sources_lowered, lowered_by_query, source_cleared, retransmissions_cleared, Set, FilterMode}
use Rattle.mq_laws.proofs.Common.{SourceTimer, Timing, loses_role, ScheduledGroup, cleared, Configuration, suppresses, asked_by, election_after, query_heard}
use Rattle.mq_laws.proofs.Common.{heard_by, Groups, LinkState, unheld, group_at, groups_cleared, groups_lowered}
use Rattle.mq_table.specs.Lowering.{group_lowered}
use Rattle.std.specs.FinMap as map

-- a source is named as before
lowered_named : (limit : ℕ) (asks : Bool) (mode : FilterMode) (t : Option SourceTimer)
    → names mode (cond asks (option_map (source_lowered limit) t) t) ≡ names mode t
lowered_named limit asks mode t = grind arith

cleared_named : (mode : FilterMode) (t : Option SourceTimer) → names mode (option_and_then (λ timer. Some (source_cleared timer)) t) ≡ names mode t
cleared_named mode t = grind arith

mode_stays : (limit : ℕ) (mode : FilterMode) → is_include (mode_lowered limit mode) ≡ is_include mode
mode_stays limit mode = grind arith

-- a group
lowered_filter : (timing : Timing) (now : ℕ) (s : Bool) (asked : Option Set) (g : GroupState) → filter_of (lowered_by_query timing now s asked g) ≡ filter_of g
lowered_filter timing now true asked g = refl
lowered_filter timing now false None g =
    let stays = mode_stays (lowered_to timing now) g.mode in
    same_filter (group_lowered timing now g) g stays (λ s. named_alike (mode_lowered (lowered_to timing now) g.mode) g.mode stays (timer_at g s))
lowered_filter timing now false (Some asked) g =
    same_filter (sources_lowered timing now asked g) g refl (λ s.
    ap (names g.mode) (timer_at-sources_lowered timing now asked g s) ∙ lowered_named (lowered_to timing now) (asked s) g.mode (timer_at g s))

cleared_filter : (e : ScheduledGroup) → filter_of (cleared e).group ≡ filter_of e.group
cleared_filter e =
    same_filter (retransmissions_cleared e.group) e.group refl (λ s.
    ap (names e.group.mode) (get-kept (λ s timer. Some (source_cleared timer)) e.group.sources s) ∙ cleared_named e.group.mode (timer_at e.group s))

-- all groups
cleared_at : (groups : Groups) (group : ℕ) → filter_of (group_at (groups_cleared groups) group).group ≡ filter_of (group_at groups group).group
unfolding groups_cleared
cleared_at groups group = ap (λ e. filter_of (unwrap_or e unheld).group) (get-kept (λ _ e. Some (cleared e)) groups group) ∙ by_group (map.get groups group)
  where
    by_group : (e : Option ScheduledGroup) → filter_of (unwrap_or (option_and_then (λ e. Some (cleared e)) e) unheld).group
        ≡ filter_of (unwrap_or e unheld).group
    by_group None = refl
    by_group (Some e) = cleared_filter e

lowered_at : (timing : Timing) (now : ℕ) (query : Query ℕ) (groups : Groups) (group : ℕ)
    → filter_of (group_at (groups_lowered timing now query groups) group).group ≡ filter_of (group_at groups group).group
unfolding groups_lowered
lowered_at timing now query groups group =
    ap (λ e. filter_of (unwrap_or e unheld).group)
    (get-kept (λ group e. Some (cond (eqb group query.group) (heard_by timing now query.version e) e)) groups group)
    ∙ by_group (eqb group query.group) (map.get groups group)
  where
    by_group : (b : Bool) (e : Option ScheduledGroup) →
        filter_of (unwrap_or (option_and_then (λ e. Some (cond b (heard_by timing now query.version e) e)) e) unheld).group
        ≡ filter_of (unwrap_or e unheld).group
    by_group b None = refl
    by_group true (Some e) = lowered_filter timing now (suppresses query.version) (asked_by query.version) e.group
    by_group false (Some e) = refl

pub heard_keeps_filters : (config : Configuration) (now source : ℕ) (query : Query ℕ) (state : LinkState) (group : ℕ)
    → filter_of (group_at (query_heard config now source query state).groups group).group ≡ filter_of (group_at state.groups group).group
heard_keeps_filters config now source query state group =
    lowered_at (election_after config now source query.version state.election).timing now query (left (loses_role config.own source state.election.role)) group
    ∙ by_loss (loses_role config.own source state.election.role)
  where
    left : Bool → Groups
    left loses = cond loses (groups_cleared state.groups) state.groups

    by_loss : (loses : Bool) → filter_of (group_at (left loses) group).group ≡ filter_of (group_at state.groups group).group
    by_loss true = cleared_at state.groups group
    by_loss false = refl
