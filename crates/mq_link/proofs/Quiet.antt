-- A tick before the next moment does nothing, and after a tick the next moment is later.
use Rattle.mq_link.proofs.Common.{◌≡◌, ℕ, ◌<◌, Bool, true, false, cond, ◌&&◌, refl, List, [], ◌∷◌, ◌++◌, Option, None, Some, IfSome, sym, ap, ◌∙◌, subst, arith}
use Rattle.mq_link.proofs.Common.{eqb, list_map, true≢false, lt-ltb, flat_map, Family, Timing, FilterMode, Include, Exclude, SourceTimer, Stopped, Running}
use Rattle.mq_link.proofs.Common.{kept, GroupState, is_include, is_running, is_stopped, vacant, is_vacant, timer_at, deadline_of, group_deadline, IsHeld, ahead}
use Rattle.mq_link.proofs.Common.{mode_expired, at_zero, source_expired, held_or_vacant, expired, AllAhead, get-kept, same_sources, get_of_empty, some_source}
use Rattle.mq_link.proofs.Common.{has_retransmissions, QuerySchedule, ScheduleState, ScheduledGroup, settled, IsScheduleOf, GeneralQuery, group_due}
use Rattle.mq_link.proofs.Common.{messages_due}
use Rattle.mq_link.proofs.Common.{after_round, Role, Querier, Other, ElectionState, deadline_ended, returned, general_is_due, after_general, ticked}
use Rattle.mq_link.proofs.Common.{general_messages, next_moment, IsQuietAt, quiet_is_silent, same_round, per_query, Configuration, Groups, LinkState}
use Rattle.mq_link.proofs.Common.{IsWellFormed, group_expired, if_held, groups_expired, queries_due, groups_after_round, tick_at, those_of, moments_of}
use Rattle.mq_link.proofs.Common.{moments_in, least, next_of, waited}
use Rattle.std.specs.Option.{option_and_then, option_to_list, is_some}
use Rattle.std.specs.FinMap as map
use Rattle.mq_link.proofs.{Known.same_answers, Silent.Each, Silent.each-entry, Silent.from-each, Silent.not_reached, HeldAs.All}

-- a list of moments above another
abbrev pub AllAbove : ℕ → List ℕ → Type 0
AllAbove m [] = Unit {0}
AllAbove m (x ∷ xs) = (m < x) × AllAbove m xs

pub above_least : (m n : ℕ) (ms : List ℕ) → m < least n ms → (m < n) × AllAbove m ms
above_least m n [] h = (h, tt)
above_least m n (x ∷ xs) h = let rest : m < least n xs = omega arith in let r = above_least m n xs rest in (r.0, (omega arith, r.1))

pub least_above : (m n : ℕ) (ms : List ℕ) → m < n → AllAbove m ms → m < least n ms
least_above m n [] h all = h
least_above m n (x ∷ xs) h all = let rest = least_above m n xs h all.1 in let here = all.0 in omega arith

above_parts : (m : ℕ) (xs ys : List ℕ) → AllAbove m (xs ++ ys) → AllAbove m xs × AllAbove m ys
above_parts m [] ys h = (tt, h)
above_parts m (x ∷ xs) ys h = let r = above_parts m xs ys h.1 in ((h.0, r.0), r.1)

above_both : (m : ℕ) (xs ys : List ℕ) → AllAbove m xs → AllAbove m ys → AllAbove m (xs ++ ys)
above_both m [] ys h k = k
above_both m (x ∷ xs) ys h k = (h.0, above_both m xs ys h.1 k)

above_option : (m : ℕ) (x : Option ℕ) → AllAbove m (option_to_list x) → IfSome x (λ d. m < d)
above_option m None h = tt
above_option m (Some d) h = h.0

option_above : (m : ℕ) (x : Option ℕ) → IfSome x (λ d. m < d) → AllAbove m (option_to_list x)
option_above m None h = tt
option_above m (Some d) h = (h, tt)

-- this fact for the values of entries
pub above_values : {X : Type 0} (m : ℕ) (f : X → List ℕ) (es : List (ℕ × X)) → AllAbove m (flat_map f (list_map (λ (e : ℕ × X). e.1) es)) →
    Each (λ _ x. AllAbove m (f x)) es
above_values m f [] h = tt
above_values m f (e ∷ es) h = let r = above_parts m (f e.1) _ h in (r.0, above_values m f es r.1)

pub values_above : {X : Type 0} (m : ℕ) (f : X → List ℕ) (es : List (ℕ × X)) → Each (λ _ x. AllAbove m (f x)) es →
    AllAbove m (flat_map f (list_map (λ (e : ℕ × X). e.1) es))
values_above m f [] h = tt
values_above m f (e ∷ es) h = above_both m (f e.1) _ h.0 (values_above m f es h.1)

-- nothing of a group happens up to a moment
pub record IsBeyond (m : ℕ) (e : ScheduledGroup) : Type 0 where
  pub timers : AllAhead m e.group
  pub schedule : IsQuietAt m e.schedule

abbrev timer_moments : SourceTimer → List ℕ
timer_moments timer = option_to_list (deadline_of (Some timer))

query_above : (m : ℕ) (q : Option QuerySchedule) → AllAbove m (option_to_list (group_due q)) → IfSome q (λ q. m < q.due)
query_above m None h = tt
query_above m (Some q) h = h.0

above_query : (m : ℕ) (q : Option QuerySchedule) → IfSome q (λ q. m < q.due) → AllAbove m (option_to_list (group_due q))
above_query m None h = tt
above_query m (Some q) h = (h, tt)

at_source : (m : ℕ) (g : GroupState) → Each (λ _ t. AllAbove m (timer_moments t)) (map.entries g.sources) → (s : ℕ) (t : Option SourceTimer) →
    timer_at g s ≡ t → IfSome (deadline_of t) (λ d. m < d)
at_source m g each s None is = tt
at_source m g each s (Some t) is = above_option m (deadline_of (Some t))
    (from-each (λ _ t. AllAbove m (timer_moments t)) (map.entries g.sources) each s t (sym (map.get-entries g.sources s) ∙ is))

pub beyond : (m : ℕ) (e : ScheduledGroup) → AllAbove m (moments_of e) → IsBeyond m e
beyond m e h =
    let g = e.group in
    let all = above_parts m (those_of (group_deadline g.mode ∷ g.v1 ∷ g.v2 ∷ group_due e.schedule.group_query ∷ e.schedule.sources_due ∷ [])) _ h in
    let a = above_parts m (option_to_list (group_deadline g.mode)) _ all.0 in
    let b = above_parts m (option_to_list g.v1) _ a.1 in
    let c = above_parts m (option_to_list g.v2) _ b.1 in
    let d = above_parts m (option_to_list (group_due e.schedule.group_query)) _ c.1 in
    let f = above_parts m (option_to_list e.schedule.sources_due) _ d.1 in
    record {
      timers = record {
        group = above_option m (group_deadline g.mode) a.0;
        sources = λ s. at_source m g (above_values m timer_moments (map.entries g.sources) all.1) s (timer_at g s) refl;
        v1 = above_option m g.v1 b.0;
        v2 = above_option m g.v2 c.0;
      };
      schedule = record { group = query_above m e.schedule.group_query d.0; sources = above_option m e.schedule.sources_due f.0 };
    }

pub above_beyond : (m : ℕ) (e : ScheduledGroup) → IsBeyond m e → AllAbove m (moments_of e)
above_beyond m e h =
    let g = e.group in
    above_both m (those_of (group_deadline g.mode ∷ g.v1 ∷ g.v2 ∷ group_due e.schedule.group_query ∷ e.schedule.sources_due ∷ [])) _
    (above_both m (option_to_list (group_deadline g.mode)) _ (option_above m (group_deadline g.mode) h.timers.group)
    (above_both m (option_to_list g.v1) _ (option_above m g.v1 h.timers.v1)
    (above_both m (option_to_list g.v2) _ (option_above m g.v2 h.timers.v2)
    (above_both m (option_to_list (group_due e.schedule.group_query)) _ (above_query m e.schedule.group_query h.schedule.group)
    (above_both m (option_to_list e.schedule.sources_due) [] (option_above m e.schedule.sources_due h.schedule.sources) tt)))))
    (values_above m timer_moments (map.entries g.sources)
    (each-entry (λ _ t. AllAbove m (timer_moments t)) g.sources
    (λ s t is. option_above m (deadline_of (Some t)) (subst (λ x. IfSome (deadline_of x) (λ d. m < d)) is (h.timers.sources s)))))

-- Up to that moment nothing changes.
same_mode : (m : ℕ) (mode : FilterMode) → IfSome (group_deadline mode) (λ d. m < d) → mode_expired m mode ≡ mode
same_mode m Include h = refl
same_mode m (Exclude d) h = ap (λ b. cond b (Exclude d) Include) (lt-ltb m d h)

same_ahead : (m : ℕ) (x : Option ℕ) → IfSome x (λ d. m < d) → option_and_then (ahead m) x ≡ x
same_ahead m None h = refl
same_ahead m (Some d) h = ap (λ b. cond b (Some d) None) (lt-ltb m d h)

same_timer : (m : ℕ) (mode : FilterMode) (t : Option SourceTimer) → (mode ≡ Include → is_stopped t ≡ false) → IfSome (deadline_of t) (λ d. m < d) →
    option_and_then (source_expired mode m) t ≡ t
same_timer m mode None stays h = refl
same_timer m Include (Some Stopped) stays h = let s = stays refl in cc
same_timer m (Exclude d) (Some Stopped) stays h = refl
same_timer m mode (Some (Running d n)) stays h = ap (λ b. cond b (Some (Running d n)) (at_zero mode)) (lt-ltb m d h)

pub not_vacant : (g : GroupState) → IsHeld g → is_vacant g ≡ false
not_vacant g h = by_mode g.mode refl
  where
    by_len : (b : Bool) → eqb (map.len g.sources) 0 ≡ b → g.mode ≡ Include → b ≡ false
    by_len false is mode = refl
    by_len true is mode = let some = h.has_source mode in absurd (true≢false (sym some.1 ∙ ap is_running (get_of_empty g.sources is some.0)))

    by_mode : (mode : FilterMode) → g.mode ≡ mode → (is_include mode && eqb (map.len g.sources) 0) ≡ false
    by_mode Include is = by_len (eqb (map.len g.sources) 0) refl is
    by_mode (Exclude d) is = refl

same_expired : (m : ℕ) (g : GroupState) → IsHeld g → AllAhead m g → expired m g ≡ g
same_expired m g held h = ap held_or_vacant same ∙ ap (λ b. cond b vacant g) (not_vacant g held)
  where
    mode_is : mode_expired m g.mode ≡ g.mode
    mode_is = same_mode m g.mode h.group

    sources_are : kept (λ s. source_expired (mode_expired m g.mode) m) g.sources ≡ g.sources
    sources_are = same_sources _ _ (λ s.
        get-kept (λ s. source_expired (mode_expired m g.mode) m) g.sources s
        ∙ ap (λ mode. option_and_then (source_expired mode m) (timer_at g s)) mode_is
        ∙ same_timer m g.mode (timer_at g s) (λ is. held.none_stopped is s) (h.sources s))

    same : ◌≡◌ {A = GroupState}
        (record {
          mode = mode_expired m g.mode;
          sources = kept (λ s. source_expired (mode_expired m g.mode) m) g.sources;
          v1 =
              option_and_then (ahead m) g.v1;
          v2 = option_and_then (ahead m) g.v2;
        }) g
    same = λ i. record { mode = mode_is i; sources = sources_are i; v1 = same_ahead m g.v1 h.v1 i; v2 = same_ahead m g.v2 h.v2 i }

pub same_settled : (g : GroupState) (schedule : ScheduleState) → IsScheduleOf g schedule → settled g schedule ≡ schedule
same_settled g schedule h =
    λ i. record {
      group_query = by_mode g.mode refl i;
      sources_due = by_due schedule.sources_due (some_source (has_retransmissions g) g) h.sources_retransmissions i;
    }
  where
    by_mode : (mode : FilterMode) → g.mode ≡ mode → cond (is_include mode) None schedule.group_query ≡ schedule.group_query
    by_mode Include is = sym (h.exclude_only is)
    by_mode (Exclude d) is = refl

    by_due : (due : Option ℕ) (some : Bool) → is_some due ≡ some → cond some due None ≡ due
    by_due None some is = by_some some
      where
        by_some : (b : Bool) → ◌≡◌ {A = Option ℕ} (cond b None None) None
        by_some true = refl
        by_some false = refl
    by_due (Some d) some is = ap (λ b. cond b (Some d) None) (sym is)

pub same_group : (m : ℕ) (e : ScheduledGroup) → IsHeld e.group → IsScheduleOf e.group e.schedule → IsBeyond m e → if_held (group_expired m e) ≡ Some e
same_group m e held fits h =
    ap (λ g. if_held (record { group = g; schedule = settled g e.schedule })) (same_expired m e.group held h.timers)
    ∙ ap (λ s. if_held (record { group = e.group; schedule = s })) (same_settled e.group e.schedule fits)
    ∙ ap (λ b. cond b None (Some e)) (not_vacant e.group held)

-- a map whose values stay
same_kept : (f : ℕ → ScheduledGroup → Option ScheduledGroup) (groups : Groups) → All (λ k e. f k e ≡ Some e) groups → kept f groups ≡ groups
same_kept f groups all = same_answers _ _ (λ q. get-kept f groups q ∙ by_value q (map.get groups q) refl)
  where
    by_value : (q : ℕ) (x : Option ScheduledGroup) → map.get groups q ≡ x → option_and_then (f q) x ≡ x
    by_value q None is = refl
    by_value q (Some e) is = all q e is

same_groups_expired : (m : ℕ) (groups : Groups) → All (λ _ e. if_held (group_expired m e) ≡ Some e) groups → groups_expired m groups ≡ groups
unfolding groups_expired
same_groups_expired m groups all = same_kept (λ _ e. if_held (group_expired m e)) groups all

same_groups_after_round : (timing : Timing) (m : ℕ) (groups : Groups) → All (λ _ e. after_round timing m e ≡ e) groups →
    groups_after_round timing m groups ≡ groups
unfolding groups_after_round
same_groups_after_round timing m groups all = same_kept (λ _ e. Some (after_round timing m e)) groups (λ q e is. ap Some (all q e is))

none_due : (n : ℕ) (timing : Timing) (m : ℕ) (es : List (ℕ × ScheduledGroup)) → Each (λ _ e. IsQuietAt m e.schedule) es →
    flat_map (λ (e : ℕ × ScheduledGroup). messages_due n timing m e.0 e.1) es ≡ []
none_due n timing m [] h = refl
none_due n timing m (e ∷ es) h = λ i. quiet_is_silent n timing m e.0 e.1 h.0 i ++ none_due n timing m es h.1 i

quiet_due : (family : Family) (timing : Timing) (m : ℕ) (groups : Groups) → All (λ _ e. IsQuietAt m e.schedule) groups → queries_due family timing m groups ≡ []
unfolding queries_due
quiet_due family timing m groups all = none_due (per_query family) timing m (map.entries groups) (each-entry (λ _ e. IsQuietAt m e.schedule) groups all)

not_ended : (m : ℕ) (role : Role) → m < next_moment role → deadline_ended m role ≡ false
not_ended m (Querier due startup) h = refl
not_ended m (Other address deadline) h = not_reached m deadline h

no_general : (m : ℕ) (role : Role) → m < next_moment role → general_is_due m role ≡ false
no_general m (Querier due startup) h = not_reached m due h
no_general m (Other address deadline) h = refl

same_returned : (configured : Timing) (m : ℕ) (e : ElectionState) → m < next_moment e.role → returned configured m e ≡ e
same_returned configured m e h = ap (λ b. cond b (record { role = Querier m 0; timing = configured }) e) (not_ended m e.role h)

same_ticked : (configured : Timing) (m : ℕ) (e : ElectionState) → m < next_moment e.role → ticked configured m e ≡ e
same_ticked configured m e h =
    ap (λ r. cond (general_is_due m r.role) (record { role = after_general r.timing m r.role; timing = r.timing }) r) (same_returned configured m e h)
    ∙ ap (λ b. cond b (record { role = after_general e.timing m e.role; timing = e.timing }) e) (no_general m e.role h)

none_general : (configured : Timing) (m : ℕ) (e : ElectionState) → m < next_moment e.role → general_messages configured m e ≡ []
none_general configured m e h = ap (λ r. cond (general_is_due m r.role) (GeneralQuery ∷ []) []) (same_returned configured m e h) ∙
    ap (λ b. cond b (GeneralQuery ∷ []) []) (no_general m e.role h)

pub quiet_tick : (config : Configuration) (m : ℕ) (state : LinkState) → IsWellFormed config state → m < next_of state → tick_at config m state ≡ waited m state
quiet_tick config m state h before = λ i. record {
  state = record {
    groups =
        (ap (groups_after_round (ticked config.timing m state.election).timing m) expired_are ∙
        same_groups_after_round (ticked config.timing m state.election).timing m state.groups rounds) i;
    election = election_is i;
    last = m;
    counters = state.counters;
  };
  queries = (none_general config.timing m state.election parts.0 i) ++
      (ap (queries_due config.family (ticked config.timing m state.election).timing m) expired_are ∙
      quiet_due config.family (ticked config.timing m state.election).timing m state.groups quiet) i;
  timing = (election_is i).timing;
}
  where
    parts : (m < next_moment state.election.role) × AllAbove m (moments_in state.groups)
    parts = above_least m (next_moment state.election.role) (moments_in state.groups) before

    all_beyond : All (λ _. IsBeyond m) state.groups
    all_beyond q e is = beyond m e
        (from-each (λ _ e. AllAbove m (moments_of e)) (map.entries state.groups) (above_values m moments_of (map.entries state.groups) parts.1) q e
        (sym (map.get-entries state.groups q) ∙ is))

    election_is : ticked config.timing m state.election ≡ state.election
    election_is = same_ticked config.timing m state.election parts.0

    expired_are : groups_expired m state.groups ≡ state.groups
    expired_are = same_groups_expired m state.groups (λ q e is. let g = h.groups q e is in same_group m e g.held g.fits (all_beyond q e is))

    rounds : All (λ _ e. after_round (ticked config.timing m state.election).timing m e ≡ e) state.groups
    rounds q e is = same_round (ticked config.timing m state.election).timing m e (all_beyond q e is).schedule

    quiet : All (λ _ e. IsQuietAt m e.schedule) state.groups
    quiet q e is = (all_beyond q e is).schedule
