-- A group with several sources heard of again.
use Rattle.mq_link.proofs.Common.{◌≡◌, ℕ, ◌+◌, Bool, true, false, cond, not, ltb, List, [], ◌∷◌, Option, None, Some, is_some, refl, sym, ap, ◌∙◌, beq, list_any}
use Rattle.mq_link.proofs.Common.{nat_cmp, eq_by_cmp, nat_cmp_total, and_parts, true≢false, Any-from_list_any, list_any_at, FilterMode, Include, Exclude}
use Rattle.mq_link.proofs.Common.{SourceTimer, Stopped, Running, names, changes_filter, GroupState, is_stopped, retransmissions_of, timer_at}
use Rattle.mq_link.proofs.Common.{has_retransmissions, size_of}
use Rattle.mq_link.proofs.Common.{changes-same, changes-at, ScheduledGroup, sources_of, has_each, restarted, restarted_each, some_stopped, each_passes}
use Rattle.mq_link.proofs.Common.{has_each-restarted, some_passes, timer-restarted, timer-restarted_each, timer-there, tied, ties}
use Rattle.std.specs.FinMap as map
use Rattle.mq_link.proofs.RefreshedGroups.{with_timers}

-- all but the timers stays
pub group-restarted_each : (deadline : ℕ) (xs : List ℕ) (e : ScheduledGroup) → (restarted_each deadline xs e).group
    ≡ with_timers e.group (restarted_each deadline xs e).group.sources
group-restarted_each deadline [] e = refl
group-restarted_each deadline (x ∷ xs) e = group-restarted_each deadline xs (restarted deadline x e)

pub schedule-restarted_each : (deadline : ℕ) (xs : List ℕ) (e : ScheduledGroup) → (restarted_each deadline xs e).schedule ≡ e.schedule
schedule-restarted_each deadline [] e = refl
schedule-restarted_each deadline (x ∷ xs) e = schedule-restarted_each deadline xs (restarted deadline x e)

-- so does the size of a group
restarted-size : (deadline source : ℕ) (timer : SourceTimer) (e : ScheduledGroup) → timer_at e.group source ≡ Some timer →
    sources_of (restarted deadline source e) ≡ sources_of e
restarted-size deadline source timer e there =
    map.len-insert nat_cmp_total e.group.sources source (Running deadline (retransmissions_of (timer_at e.group source))) ∙
    ap (λ (t : Option SourceTimer). cond (is_some t) (size_of e.group) (size_of e.group + 1)) there

pub size-restarted_each : (deadline : ℕ) (xs : List ℕ) (e : ScheduledGroup) → has_each xs e ≡ true → sources_of (restarted_each deadline xs e) ≡ sources_of e
size-restarted_each deadline [] e all = refl
size-restarted_each deadline (x ∷ xs) e all =
    let parts = and_parts (map.contains_key e.group.sources x) (has_each xs e) all in
    let found = timer-there (timer_at e.group x) parts.0 in
    size-restarted_each deadline xs (restarted deadline x e) (has_each-restarted deadline x xs e parts.1) ∙ restarted-size deadline x found.0 e found.1

-- the retransmissions to go stay with a timer that is set anew
restarted-retransmissions : (deadline source : ℕ) (e : ScheduledGroup) (s : ℕ) → has_retransmissions (restarted deadline source e).group s
    ≡ has_retransmissions e.group s
restarted-retransmissions deadline source e s =
    ap (λ t. ltb 0 (retransmissions_of t)) (timer-restarted deadline source e s) ∙ by_test (eq_by_cmp nat_cmp s source) refl
  where
    by_test : (b : Bool) → eq_by_cmp nat_cmp s source ≡ b →
        ltb 0 (retransmissions_of (cond b (Some (Running deadline (retransmissions_of (timer_at e.group source)))) (timer_at e.group s)))
        ≡ ltb 0 (retransmissions_of (timer_at e.group s))
    by_test true same = ap (λ q. ltb 0 (retransmissions_of (timer_at e.group q))) (sym (tied s source same))
    by_test false differs = refl

pub retransmissions-restarted_each : (deadline : ℕ) (xs : List ℕ) (e : ScheduledGroup) (s : ℕ) → has_retransmissions (restarted_each deadline xs e).group s
    ≡ has_retransmissions e.group s
retransmissions-restarted_each deadline [] e s = refl
retransmissions-restarted_each deadline (x ∷ xs) e s = retransmissions-restarted_each deadline xs (restarted deadline x e) s ∙
    restarted-retransmissions deadline x e s

-- Another filter is forwarded then exactly where one of the sources was stopped.
module _ (deadline : ℕ) (xs : List ℕ) (e : ScheduledGroup) (all : has_each xs e ≡ true)
    (none_stopped : e.group.mode ≡ Include → (s : ℕ) → is_stopped (timer_at e.group s) ≡ false) where
  abbrev after : GroupState
  after = (restarted_each deadline xs e).group

  abbrev next : ℕ → SourceTimer
  next s = Running deadline (retransmissions_of (timer_at e.group s))

  at : (s : ℕ) (b : Bool) → list_any (eq_by_cmp nat_cmp s) xs ≡ b → timer_at after s ≡ cond b (Some (next s)) (timer_at e.group s)
  at s b is = timer-restarted_each deadline xs e s ∙ ap (λ b. cond b (Some (next s)) (timer_at e.group s)) is

  mode_is : after.mode ≡ e.group.mode
  mode_is = ap (λ (g : GroupState). g.mode) (group-restarted_each deadline xs e)

  running_named : (mode : FilterMode) (t : Option SourceTimer) (s : ℕ) → is_some t ≡ true → is_stopped t ≡ false → names mode t ≡ names mode (Some (next s))
  running_named mode None s there runs = absurd (true≢false (sym there))
  running_named mode (Some Stopped) s there runs = absurd (true≢false runs)
  running_named Include (Some (Running d n)) s there runs = refl
  running_named (Exclude m) (Some (Running d n)) s there runs = refl

  not_true : (b : Bool) → (b ≡ true → ⊥) → b ≡ false
  not_true true none = absurd (none refl)
  not_true false none = refl

  kept_each : some_stopped xs e ≡ false → (s : ℕ) → names e.group.mode (timer_at e.group s) ≡ names after.mode (timer_at after s)
  kept_each none s = by_test (list_any (eq_by_cmp nat_cmp s) xs) refl
    where
      by_test : (b : Bool) → list_any (eq_by_cmp nat_cmp s) xs ≡ b → names e.group.mode (timer_at e.group s) ≡ names after.mode (timer_at after s)
      by_test true inside =
          running_named e.group.mode (timer_at e.group s) s
          (each_passes (map.contains_key e.group.sources) xs s all inside)
          (not_true (is_stopped (timer_at e.group s)) (λ is. true≢false (sym (some_passes (λ q. is_stopped (timer_at e.group q)) xs s inside is) ∙ none)))
          ∙ (λ i. names (sym mode_is i) (sym (at s true inside) i))
      by_test false outside = λ i. names (sym mode_is i) (sym (at s false outside) i)

  turned : (mode : FilterMode) (t : Option SourceTimer) (s : ℕ) → e.group.mode ≡ mode → timer_at e.group s ≡ t → is_stopped t ≡ true →
      not (beq (names mode t) (names mode (Some (next s)))) ≡ true
  turned mode None s is here stopped = absurd (true≢false (sym stopped))
  turned mode (Some (Running d n)) s is here stopped = absurd (true≢false (sym stopped))
  turned Include (Some Stopped) s is here stopped = absurd (true≢false (sym (ap is_stopped here) ∙ none_stopped is s))
  turned (Exclude m) (Some Stopped) s is here stopped = refl

  pub filter-restarted_each : changes_filter e.group after ≡ some_stopped xs e
  filter-restarted_each = by_test (some_stopped xs e) refl
    where
      by_test : (b : Bool) → some_stopped xs e ≡ b → changes_filter e.group after ≡ b
      by_test false none = changes-same e.group after (ap Rattle.mq_table.specs.Group.is_include (sym mode_is)) (kept_each none)
      by_test true some =
          let found = Any-from_list_any (λ s. is_stopped (timer_at e.group s)) xs some in
          let s = found.1 in
          let inside = list_any_at (eq_by_cmp nat_cmp s) xs found.0 s found.2 (ties s (Rattle.std.specs.Prelude.slice_index_or xs found.0 s) (sym found.3)) in
          changes-at e.group after s
          ((λ i. not (beq (names e.group.mode (timer_at e.group s)) (names (mode_is i) (at s true inside i)))) ∙
          turned e.group.mode (timer_at e.group s) s refl refl found.4)

-- where the group lacks the source, INCLUDE names it then, and EXCLUDE doesn't
pub filter-added : (deadline source : ℕ) (e : ScheduledGroup) → timer_at e.group source ≡ None →
    changes_filter e.group (restarted deadline source e).group ≡ Rattle.mq_table.specs.Group.is_include e.group.mode
filter-added deadline source e absent =
    by_mode e.group.mode refl
  where
    next : SourceTimer
    next = Running deadline (retransmissions_of (timer_at e.group source))

    then : GroupState
    then = (restarted deadline source e).group

    stays : (mode : FilterMode) (b : Bool) (s : ℕ) → eq_by_cmp nat_cmp s source ≡ b → Rattle.mq_table.specs.Group.is_include mode ≡ false →
        names mode (timer_at e.group s) ≡ names mode (cond b (Some next) (timer_at e.group s))
    stays Include b s is other = absurd (true≢false other)
    stays (Exclude d) true s is other = ap is_stopped (ap (timer_at e.group) (tied s source is) ∙ absent)
    stays (Exclude d) false s is other = refl

    by_mode : (mode : FilterMode) → e.group.mode ≡ mode → changes_filter e.group then ≡ Rattle.mq_table.specs.Group.is_include e.group.mode
    by_mode Include is =
        let here : timer_at then source ≡ Some next =
        timer-restarted deadline source e source ∙ ap (λ b. cond b (Some next) (timer_at e.group source)) (ties source source refl) in
        changes-at e.group then source (λ i. not (beq (names (is i) (absent i)) (names (is i) (here i))))
        ∙ sym (ap Rattle.mq_table.specs.Group.is_include is)
    by_mode (Exclude d) is =
        let other : Rattle.mq_table.specs.Group.is_include e.group.mode ≡ false = ap Rattle.mq_table.specs.Group.is_include is in
        changes-same e.group then refl
        (λ s. stays e.group.mode (eq_by_cmp nat_cmp s source) s refl other ∙ ap (names e.group.mode) (sym (timer-restarted deadline source e s)))
        ∙ sym other
