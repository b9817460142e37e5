-- A group after the end of timers, rounds, the loss of the role and lowering. It has at most the sources and schedules that
-- it had, so limits are kept.
use Rattle.mq_link.proofs.Common.{◌≡◌, ℕ, ◌+◌, ◌-◌, ◌≤◌, Bool, true, false, cond, Option, None, Some, IfSome, sym, subst, arith, ltb, leb, nat_cmp, Timing}
use Rattle.mq_link.proofs.Common.{SourceTimer, Set, kept, GroupState, vacant, is_vacant, is_include, size_of, mode_expired, source_expired, ahead, expired}
use Rattle.mq_link.proofs.Common.{lowered_by_query, lowered_to, source_lowered, get-kept, some_source, has_retransmissions, source_cleared, source_counted}
use Rattle.mq_link.proofs.Common.{retransmissions_counted, QuerySchedule, ScheduleState, ScheduledGroup, settled, cleared, is_due, sources_due_next}
use Rattle.mq_link.proofs.Common.{group_counted}
use Rattle.mq_link.proofs.Common.{after_round, Limits, group_expired, if_held}
use Rattle.std.specs.Option.{option_and_then, unwrap_or, is_some}
use Rattle.std.specs.FinMap as map
use Rattle.mq_link.specs.State.{Groups, unheld, sources_of, one_if, schedules_of, AreWithin, sources_in}
use Rattle.mq_link.proofs.Entries.{total-kept, len-kept}

-- no more sources and no more schedules
pub record NoMore (e after : ScheduledGroup) : Type 0 where
  pub sources : sources_of after ≤ sources_of e
  pub schedules : schedules_of after ≤ schedules_of e

pub no_sources : size_of vacant ≡ 0
no_sources = map.len-empty nat_cmp SourceTimer

pub expired_size : (now : ℕ) (g : GroupState) → size_of (expired now g) ≤ size_of g
expired_size now g = by_test (is_vacant left) (len-kept (λ s. source_expired (mode_expired now g.mode) now) g.sources)
  where
    left : GroupState
    left = record {
      mode = mode_expired now g.mode;
      sources = kept (λ s. source_expired (mode_expired now g.mode) now) g.sources;
      v1 = option_and_then (ahead now) g.v1;
      v2 = option_and_then (ahead now) g.v2;
    }

    by_test : (b : Bool) → size_of left ≤ size_of g → size_of (cond b vacant left) ≤ size_of g
    by_test true h = let n = no_sources in omega arith
    by_test false h = h

one_if-cond : {X : Type 0} (b : Bool) (x : Option X) → one_if (is_some (cond b x None)) ≤ one_if (is_some x)
one_if-cond true x = omega arith
one_if-cond false None = omega arith
one_if-cond false (Some x) = omega arith

one_if-unless : {X : Type 0} (b : Bool) (x : Option X) → one_if (is_some (cond b None x)) ≤ one_if (is_some x)
one_if-unless true None = omega arith
one_if-unless _ _ = omega arith

settled_schedules : (g g' : GroupState) (schedule : ScheduleState) → schedules_of (record { group = g; schedule = settled g schedule }) ≤ schedules_of
    (record { group = g'; schedule = schedule })
settled_schedules g g' schedule =
    let a = one_if-unless (is_include g.mode) schedule.group_query in
    let b = one_if-cond (some_source (has_retransmissions g) g) schedule.sources_due in
    omega arith

pub expired_no_more : (now : ℕ) (e : ScheduledGroup) → IfSome (if_held (group_expired now e)) (NoMore e)
expired_no_more now e = by_test (is_vacant (expired now e.group))
    (record { sources = expired_size now e.group; schedules = settled_schedules (expired now e.group) e.group e.schedule })
  where
    by_test : (b : Bool) → NoMore e (group_expired now e) → IfSome (cond b None (Some (group_expired now e))) (NoMore e)
    by_test true h = tt
    by_test false h = h

counted_at_most : (timing : Timing) (now : ℕ) (q : Option QuerySchedule) → one_if (is_some (group_counted timing now q)) ≤ one_if (is_some q)
counted_at_most timing now None = omega arith
counted_at_most timing now (Some q) = by_due (leb q.due now) (ltb 1 q.sendings)
  where
    by_due : (due more : Bool) →
        one_if (is_some (cond due (cond more (Some (record { sendings = q.sendings - 1; due = now + timing.last_member_interval })) None) (Some q))) ≤ 1
    by_due true true = omega arith
    by_due _ _ = omega arith

pub round_size : (g : GroupState) (due : Bool) → size_of (cond due (retransmissions_counted g) g) ≤ size_of g
round_size g true = len-kept (λ s timer. Some (source_counted timer)) g.sources
round_size g false = omega arith

round_due : (timing : Timing) (now : ℕ) (g : GroupState) (d : Option ℕ) →
    one_if (is_some (cond (is_due now d) (sources_due_next timing now g) d)) ≤ one_if (is_some d)
round_due timing now g None = omega arith
round_due timing now g (Some d) = by_due (leb d now) (some_source (has_retransmissions g) g)
  where
    by_due : (due some : Bool) → one_if (is_some (cond due (cond some (Some (now + timing.last_member_interval)) None) (Some d))) ≤ 1
    by_due true true = omega arith
    by_due _ _ = omega arith

pub round_no_more : (timing : Timing) (now : ℕ) (e : ScheduledGroup) → NoMore e (after_round timing now e)
round_no_more timing now e = record {
  sources = round_size e.group (is_due now e.schedule.sources_due);
  schedules =
      let a = counted_at_most timing now e.schedule.group_query in
      let b = round_due timing now (cond (is_due now e.schedule.sources_due) (retransmissions_counted e.group) e.group) e.schedule.sources_due in
      omega arith;
}

pub cleared_no_more : (e : ScheduledGroup) → NoMore e (cleared e)
cleared_no_more e = record { sources = len-kept (λ s timer. Some (source_cleared timer)) e.group.sources; schedules = omega arith }

lowered_size : (timing : Timing) (now : ℕ) (s : Bool) (asked : Option Set) (g : GroupState) → size_of (lowered_by_query timing now s asked g) ≤ size_of g
lowered_size timing now true asked g = omega arith
lowered_size timing now false None g = omega arith
lowered_size timing now false (Some asked) g = len-kept (λ s timer. Some (cond (asked s) (source_lowered (lowered_to timing now) timer) timer)) g.sources

pub lowered_no_more : (timing : Timing) (now : ℕ) (s : Bool) (asked : Option Set) (e : ScheduledGroup) →
    NoMore e (record { group = lowered_by_query timing now s asked e.group; schedule = e.schedule })
lowered_no_more timing now s asked e = record { sources = lowered_size timing now s asked e.group; schedules = omega arith }

pub same_no_more : (e : ScheduledGroup) → NoMore e e
same_no_more e = record { sources = omega arith; schedules = omega arith }

pub sources_kept : (f : ℕ → ScheduledGroup → Option ScheduledGroup) (groups : Groups) → ((k : ℕ) (e : ScheduledGroup) → IfSome (f k e) (NoMore e)) →
    sources_in (kept f groups) ≤ sources_in groups
sources_kept f groups no_more = total-kept sources_of f groups (λ k e. of_one (f k e) e (no_more k e))
  where
    of_one : (after : Option ScheduledGroup) (e : ScheduledGroup) → IfSome after (NoMore e) → IfSome after (λ a. sources_of a ≤ sources_of e)
    of_one None e h = tt
    of_one (Some a) e h = h.sources

-- If each group has at most what it had, limits that held still hold.
pub within-kept : (limits : Limits) (f : ℕ → ScheduledGroup → Option ScheduledGroup) (groups : Groups) →
    ((k : ℕ) (e : ScheduledGroup) → IfSome (f k e) (NoMore e)) → AreWithin limits groups → AreWithin limits (kept f groups)
within-kept limits f groups no_more within = record {
  group_count = let a = len-kept f groups in let b = within.group_count in omega arith;
  group_sources = λ group. subst (λ x. sources_of (unwrap_or x unheld) ≤ limits.group_sources) (sym (get-kept f groups group))
      (by_group group (map.get groups group) (within.group_sources group));
  sources = let a = sources_kept f groups no_more in let b = within.sources in omega arith;
  scheduled = let a = total-kept schedules_of f groups (λ k e. schedules_at (f k e) e (no_more k e)) in let b = within.scheduled in omega arith;
}
  where
    schedules_at : (after : Option ScheduledGroup) (e : ScheduledGroup) → IfSome after (NoMore e) → IfSome after (λ a. schedules_of a ≤ schedules_of e)
    schedules_at None e h = tt
    schedules_at (Some a) e h = h.schedules

    by_result : (after : Option ScheduledGroup) (e : ScheduledGroup) → IfSome after (NoMore e) → sources_of e ≤ limits.group_sources →
        sources_of (unwrap_or after unheld) ≤ limits.group_sources
    by_result None e h most = let n = no_sources in omega arith
    by_result (Some a) e h most = let n = h.sources in omega arith

    by_group : (group : ℕ) (e : Option ScheduledGroup) → sources_of (unwrap_or e unheld) ≤ limits.group_sources →
        sources_of (unwrap_or (option_and_then (f group) e) unheld) ≤ limits.group_sources
    by_group group None most = most
    by_group group (Some e) most = by_result (f group e) e (no_more group e) most
