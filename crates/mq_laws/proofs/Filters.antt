-- Forwarding, which doesn't depend on how often ticks come, since it doesn't read the retransmissions left.
use Rattle.mq_laws.proofs.Common.{◌≡◌, ℕ, ◌≤◌, Bool, true, false, cond, ◌&&◌, refl, List, [], ◌∷◌, length, suc, Option, None, Some, sym, ap, ◌∙◌, eqb, arith}
use Rattle.mq_laws.proofs.Common.{FinMap, option_and_then, unwrap_or, nat_cmp, get-kept, ahead, mode_expired, source_expired, held_or_vacant, expired}
use Rattle.mq_laws.proofs.Common.{GroupState, is_include, vacant, is_vacant, timer_at, wants, forwards_in, source_cleared, source_counted}
use Rattle.mq_laws.proofs.Common.{retransmissions_counted}
use Rattle.mq_laws.proofs.Common.{FilterMode, SourceTimer, Timing, ticked, ScheduledGroup, is_due, after_round, Configuration, Groups, LinkState, unheld}
use Rattle.mq_laws.proofs.Common.{group_at, forwards, group_expired, if_held, tick_at, expired-expired}
use Rattle.mq_table.{proofs.Groups.same_sources, specs.Maps.kept, specs.declared.timers.FilterMode.TheVariants.Include}
use Rattle.mq_link.{proofs.Entries.entries-kept, proofs.Entries.filtered, proofs.HeldAs.vacant_is, specs.Tick.groups_expired, specs.Tick.groups_after_round}
use Rattle.std.specs.FinMap as map

-- a group without its retransmissions
abbrev clear : ℕ → SourceTimer → Option SourceTimer
clear s timer = Some (source_cleared timer)

abbrev bare : GroupState → GroupState
bare g = record { mode = g.mode; sources = kept clear g.sources; v1 = g.v1; v2 = g.v2 }

wanted : (mode : FilterMode) (t : Option SourceTimer) → wants mode (option_and_then (clear 0) t) ≡ wants mode t
wanted mode t = grind arith

bare_forwards : (g : GroupState) (s : ℕ) → forwards_in (bare g) s ≡ forwards_in g s
bare_forwards g s = ap (wants g.mode) (get-kept clear g.sources s) ∙ wanted g.mode (timer_at g s)

-- a round changes retransmissions alone
cleared_counted : (t : Option SourceTimer) → option_and_then (clear 0) (option_and_then (λ timer. Some (source_counted timer)) t) ≡ option_and_then (clear 0) t
cleared_counted t = grind arith

bare_counted : (g : GroupState) (due : Bool) → bare (cond due (retransmissions_counted g) g) ≡ bare g
bare_counted g true = λ i. record {
  mode = g.mode;
  sources = same_sources (kept clear (kept (λ s timer. Some (source_counted timer)) g.sources)) (kept clear g.sources) (λ s.
      get-kept clear (kept (λ s timer. Some (source_counted timer)) g.sources) s
      ∙ ap (option_and_then (clear 0)) (get-kept (λ s timer. Some (source_counted timer)) g.sources s) ∙ cleared_counted (timer_at g s)
      ∙ sym (get-kept clear g.sources s)) i;
  v1 = g.v1;
  v2 = g.v2;
}
bare_counted g false = refl

-- the end of timers doesn't look at retransmissions
length-clear : (es : List (ℕ × SourceTimer)) → length (filtered clear es) ≡ length es
length-clear [] = refl
length-clear (e ∷ es) = ap (λ n. suc n) (length-clear es)

len-clear : (m : FinMap nat_cmp SourceTimer) → map.len (kept clear m) ≡ map.len m
len-clear m = map.len-entries (kept clear m) ∙ ap length (entries-kept clear m) ∙ length-clear (map.entries m) ∙ sym (map.len-entries m)

bare_vacant : (g : GroupState) → is_vacant (bare g) ≡ is_vacant g
bare_vacant g = ap (λ n. is_include g.mode && eqb n 0) (len-clear g.sources)

nothing_left : (f : ℕ → SourceTimer → Option SourceTimer) → kept f map.empty ≡ map.empty
nothing_left f = same_sources (kept f map.empty) map.empty (λ s. get-kept f map.empty s ∙ ap (option_and_then (f s)) (map.get-empty nat_cmp s) ∙
    sym (map.get-empty nat_cmp s))

bare_of_vacant : bare vacant ≡ vacant
bare_of_vacant = ap (λ m. record { mode = Include; sources = m; v1 = None; v2 = None }) (nothing_left clear)

expired_vacant : (now : ℕ) → expired now vacant ≡ vacant
expired_vacant now =
    ap (λ m. held_or_vacant (record { mode = Include; sources = m; v1 = None; v2 = None })) (nothing_left (λ s. source_expired Include now))
    ∙ ap (λ b. cond b vacant vacant) vacant_is

cleared_expired : (mode : FilterMode) (now : ℕ) (t : Option SourceTimer)
    → option_and_then (source_expired mode now) (option_and_then (clear 0) t) ≡ option_and_then (clear 0) (option_and_then (source_expired mode now) t)
cleared_expired mode now t = grind arith

left_at : ℕ → GroupState → GroupState
left_at now g = record {
  mode = mode_expired now g.mode;
  sources = kept (λ s. source_expired (mode_expired now g.mode) now) g.sources;
  v1 = option_and_then (ahead now) g.v1;
  v2 = option_and_then (ahead now) g.v2;
}

bare_left : (now : ℕ) (g : GroupState) → left_at now (bare g) ≡ bare (left_at now g)
unfolding left_at
bare_left now g = λ i. record {
  mode = mode_expired now g.mode;
  sources = same_sources (kept (λ s. source_expired (mode_expired now g.mode) now) (kept clear g.sources))
      (kept clear (kept (λ s. source_expired (mode_expired now g.mode) now) g.sources)) (λ s.
      get-kept (λ s. source_expired (mode_expired now g.mode) now) (kept clear g.sources) s
      ∙ ap (option_and_then (source_expired (mode_expired now g.mode) now)) (get-kept clear g.sources s)
      ∙ cleared_expired (mode_expired now g.mode) now (timer_at g s)
      ∙ sym (get-kept clear (kept (λ s. source_expired (mode_expired now g.mode) now) g.sources) s ∙
      ap (option_and_then (clear 0)) (get-kept (λ s. source_expired (mode_expired now g.mode) now) g.sources s))) i;
  v1 = option_and_then (ahead now) g.v1;
  v2 = option_and_then (ahead now) g.v2;
}

bare_if : (b : Bool) (g : GroupState) → cond b vacant (bare g) ≡ bare (cond b vacant g)
bare_if true g = sym bare_of_vacant
bare_if false g = refl

bare_expired : (now : ℕ) (g : GroupState) → expired now (bare g) ≡ bare (expired now g)
unfolding left_at
bare_expired now g =
    ap held_or_vacant (bare_left now g) ∙ ap (λ b. cond b vacant (bare (left_at now g))) (bare_vacant (left_at now g))
    ∙ bare_if (is_vacant (left_at now g)) (left_at now g)

-- a group that is vacant after the end of timers is the vacant one
is_the_vacant : (g : GroupState) → is_vacant (held_or_vacant g) ≡ true → held_or_vacant g ≡ vacant
is_the_vacant g h1 = grind arith

-- this fact for groups
bare_at : Groups → ℕ → GroupState
bare_at groups group = bare (group_at groups group).group

round_at : (timing : Timing) (now : ℕ) (groups : Groups) (group : ℕ) → bare_at (groups_after_round timing now groups) group ≡ bare_at groups group
unfolding bare_at groups_after_round
round_at timing now groups group =
    ap (λ e. bare (unwrap_or e unheld).group) (get-kept (λ _ e. Some (after_round timing now e)) groups group) ∙ by_group (map.get groups group)
  where
    by_group : (e : Option ScheduledGroup) → bare (unwrap_or (option_and_then (λ e. Some (after_round timing now e)) e) unheld).group
        ≡ bare (unwrap_or e unheld).group
    by_group None = refl
    by_group (Some e) = bare_counted e.group (is_due now e.schedule.sources_due)

expired_at : (now : ℕ) (groups : Groups) (group : ℕ) → bare_at (groups_expired now groups) group ≡ expired now (bare_at groups group)
unfolding bare_at groups_expired left_at
expired_at now groups group =
    ap (λ e. bare (unwrap_or e unheld).group) (get-kept (λ _ e. if_held (group_expired now e)) groups group) ∙ by_group (map.get groups group)
  where
    by_test : (e : ScheduledGroup) (b : Bool) → is_vacant (expired now e.group) ≡ b →
        bare (unwrap_or (cond b None (Some (group_expired now e))) unheld).group ≡ expired now (bare e.group)
    by_test e true is = ap bare (sym (is_the_vacant (left_at now e.group) is)) ∙ sym (bare_expired now e.group)
    by_test e false is = sym (bare_expired now e.group)

    by_group : (e : Option ScheduledGroup) → bare (unwrap_or (option_and_then (λ e. if_held (group_expired now e)) e) unheld).group
        ≡ expired now (bare (unwrap_or e unheld).group)
    by_group None = bare_of_vacant ∙ sym (ap (expired now) bare_of_vacant ∙ expired_vacant now)
    by_group (Some e) = by_test e (is_vacant (expired now e.group)) refl

-- and of a tick
ticked_at : (config : Configuration) (moment : ℕ) (state : LinkState) (group : ℕ)
    → bare_at (tick_at config moment state).state.groups group ≡ expired moment (bare_at state.groups group)
ticked_at config moment state group =
    round_at (ticked config.timing moment state.election).timing moment (groups_expired moment state.groups) group ∙ expired_at moment state.groups group

pub same_filters : (config : Configuration) (a b : ℕ) (state : LinkState) (group source : ℕ) → a ≤ b
    → forwards (tick_at config b (tick_at config a state).state).state group source ≡ forwards (tick_at config b state).state group source
unfolding bare_at
same_filters config a b state group source before =
    sym (bare_forwards (group_at (tick_at config b (tick_at config a state).state).state.groups group).group source) ∙ ap (λ g. forwards_in g source) (
    ticked_at config b (tick_at config a state).state group ∙ ap (expired b) (ticked_at config a state group)
    ∙ expired-expired (bare_at state.groups group) a b before ∙ sym (ticked_at config b state group))
    ∙ bare_forwards (group_at (tick_at config b state).state.groups group).group source
