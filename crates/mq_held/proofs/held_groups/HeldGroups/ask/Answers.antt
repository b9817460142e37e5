use Rattle.mq_held.proofs.Common.{count_by, count_by-le-length, list_map, ◌≡◌, cond, ℕ, ◌+◌, ◌-◌, ◌≤◌, Bool, true, false, [], ◌∷◌, Option, length, get_or}
use Rattle.mq_held.proofs.Common.{set, None, Some, not, refl, is_some, min, unwrap_or, sym, ap, ◌∙◌, subst, arith, true≢false, length-set, Spends-join}
use Rattle.mq_held.proofs.Common.{Spends-join_within, Spends-within, IsAscending, set_of, PoolState, bitlen, source_if_asked, deadline_of, is_ahead, timer_at}
use Rattle.mq_held.proofs.Common.{get_or_default, no_head}
use Rattle.mq_held.proofs.Common.{Source, lowered_to, item_has_retransmissions, above, last_member_count, number_in, timers_in, get-absent, DeadlinesState}
use Rattle.mq_held.proofs.Common.{ScheduledGroup, waiting_messages, Sends, ScheduledHead, group_at, one_if, HasNumber, IsStored, common_steps}
use Rattle.mq_held.proofs.{AskedInPlace.IsAsked, AskedInPlace.IsCounted, AskedInPlace.IsUnasked, AskedInPlace.asked-above, AskedInPlace.formed_counted}
use Rattle.mq_held.proofs.{AskedInPlace.head_is, AskedInPlace.least-asked, AskedInPlace.none_sent, AskedInPlace.quiet_in, AskedInPlace.row-asked}
use Rattle.mq_held.proofs.{AskedInPlace.rows_counted, AskedInPlace.seen_counted, AskedInPlace.sends_after, AskedInPlace.size-asked, AskedInPlace.size-counted}
use Rattle.mq_held.proofs.{AskedInPlace.state_unasked, AskedInPlace.unasked-absent, AskedInPlace.unasked-below, AskedInPlace.up_asked, AskedInPlace.up_counted}
use Rattle.mq_held.proofs.{AskedMoments.earliest-alone, Located.first-held}
use Rattle.mq_held.proofs.{CountedRows.one-at_most, Inside.has as has-there, Inside.same-address, Located.Located, Located.Placed, Located.located}
use Rattle.mq_held.proofs.{Located.placed, Located.row-read, Located.row_of, Located.rows-len, Located.stored-written, RestartedTimers.timer-held}
use Rattle.mq_held.proofs.{StoredEdits.schedules_fit}
use Rattle.mq_held.proofs.held_groups.HeldGroups.ask.Given.{Over}
use Rattle.mq_held.proofs.held_groups.HeldGroups.ask.Goals as goal
use Rattle.mq_held.proofs.held_groups.HeldGroups.ask.Goals.{After-ask_in_row, After-index-row-place, After-row-row-3, After-self}

-- the group of the number, and the place of its source
at_so : (g : Over) (c : After-self g) → Located g.K.Key.number c.self.inside c.args.self.now c.args.number
at_so g c = located g.K.Key.number c.self.inside c.self.invariant c.self.view_is c.requires.number

placed_so : (g : Over) (c : After-index-row-place g)
    → Placed g.K.Key.number (row_of c.self.inside c.args.number) (g.K.Key.number c.args.source) c.in-Ok.place c.index-row-place.result
placed_so g c = placed g.K.Key.number c.row-row.ensures.cells c.in-Ok.ensures.found_in c.in-Ok.ensures.found c.index-row-place.is

-- so the group has the source
timer_is : (g : Over) (c : After-index-row-place g) {address : ℕ} → HasNumber c.args.self.now address c.args.number
    → timer_at (group_at c.args.self.now.groups address).group (g.K.Key.number c.args.source) ≡ Some c.index-row-place.result.timer
timer_is g c has =
    let l = located g.K.Key.number c.self.inside c.self.invariant c.self.view_is c.requires.number in
    ap (λ (e : ScheduledGroup). timer_at e.group (g.K.Key.number c.args.source)) (l.group has) ∙ timer-held l (placed_so g c)

-- the test for a timer above the limit
above_by : {K : Type 0} {b : Bool} {limit lowered : ℕ} {told : Option ℕ} {x y : Source K} → b ≡ is_ahead limit told → limit ≡ lowered
    → told ≡ deadline_of (Some y.timer) → x ≡ y → b ≡ is_ahead lowered (deadline_of (Some x.timer))
above_by {lowered = lowered} b limit told same =
    b ∙ (λ i. is_ahead (limit i) (told i)) ∙ ap (λ (x : Source _). is_ahead lowered (deadline_of (Some x.timer))) (sym same)

-- it isn't
below : (g : Over) (c : goal.Then-not-runs_on g)
    → false ≡ is_ahead (lowered_to c.args.timing.now c.args.now) (deadline_of (Some c.index-row-place.result.timer))
below g c =
    let limit = c.after-limit.ensures.later ∙ ap (λ k. c.args.now + k) c.last_member_time.ensures in
    above_by (sym c.if-not-runs_on.true ∙ c.runs_on.ensures.answer) limit c.deadline.ensures c.index-row-place.is

below_so : (g : Over) (c : goal.Then-not-runs_on g)
    → IsUnasked g.K.Key.number c.self.inside c.args.self.now c.args.number c.args.timing.now c.args.now c.args.source
below_so g c =
    let l = located g.K.Key.number c.self.inside c.self.invariant c.self.view_is c.requires.number in
    let f = placed g.K.Key.number c.row-row.ensures.cells c.in-Ok.ensures.found_in c.in-Ok.ensures.found c.index-row-place.is in
    unasked-below l c.args.timing.now c.args.now c.args.source f (below g c)

-- or it is, and the source is asked for
asked_so : (g : Over) (c : After-ask_in_row g)
    → IsAsked g.K.Key.number c.self.inside c.args.self.now c.args.number c.args.timing.now c.args.now c.args.source c.ask_in_row.new.rows
asked_so g c =
    let number = g.K.Key.number in
    let timing = c.args.timing.now in
    let limit = c.after-limit.ensures.later ∙ ap (λ k. c.args.now + k) c.last_member_time.ensures in
    let l = located number c.self.inside c.self.invariant c.self.view_is c.requires.number in
    let f = placed number c.row-row.ensures.cells c.in-Ok.ensures.found_in c.in-Ok.ensures.found c.index-row-place.is in
    let s0 = c.self.inside.sources in
    let asked = set_of number (c.args.source ∷ []) in
    let row = row_of c.self.inside c.args.number in
    record {
      at = l;
      quiet = quiet_in l timing c.args.now c.args.source c.requires.quiet;
      above =
          asked-above l timing c.args.now c.args.source f
          (above_by (sym c.if-not-runs_on.false ∙ c.runs_on.ensures.answer) limit c.deadline.ensures c.index-row-place.is);
      other = l.other f.some;
      rows =
          c.ask_in_row.ensures.rows c.args.source
          (λ d. subst (λ xs. number (get_or xs c.in-Ok.place d).address ≡ number c.args.source) c.row-row.ensures.cells (c.in-Ok.ensures.found d))
          ∙ (λ i. record s0 { rows = set s0.rows c.args.number (list_map (source_if_asked number (limit i) (c.last_member_count-count.ensures i) asked) row) });
    }

-- and what was sent is counted
counted_so : (g : Over) (c : After-row-row-3 g)
    → IsAsked g.K.Key.number c.self.inside c.args.self.now c.args.number c.args.timing.now c.args.now c.args.source c.ask_in_row.new.rows
    → IsCounted g.K.Key.number c.self.inside c.args.self.now c.args.number c.args.timing.now c.args.now c.args.source c.ask_in_row.new.rows
    c.count_in_row-left.new.rows c.row-row-3.result.now c.index.result.now (record { head = c.index.result.now.head; schedule = c.count_sources.new.self })
counted_so g c a =
    let rows = rows_counted a c.count_in_row-left.ensures.rows in
    let row_is = row-read a.at _ rows c.row-row-3.ensures.cells in
    record {
      asked = a;
      here = c.index.ensures;
      head = head_is a c.index.ensures c.count_in_row-left.ensures.left c.count_sources.ensures;
      row_is = row_is;
      rows = rows ∙ (λ i. record c.self.inside.sources { rows = set c.self.inside.sources.rows c.args.number (sym row_is i) });
    }

-- or the row hasn't the source
absent_so : (g : Over) (c : goal.In_default g)
    → IsUnasked g.K.Key.number c.self.inside c.args.self.now c.args.number c.args.timing.now c.args.now c.args.source
absent_so g c =
    let l = located g.K.Key.number c.self.inside c.self.invariant c.self.view_is c.requires.number in
    unasked-absent l c.args.timing.now c.args.now c.args.source (rw c.row-row.ensures.cells at c.in_default.ensures.member)

absent : (g : Over) (c : goal.In_default g) {address : ℕ} → HasNumber c.args.self.now address c.args.number
    → timer_at (group_at c.args.self.now.groups address).group (g.K.Key.number c.args.source) ≡ None
absent g c has =
    let source = g.K.Key.number c.args.source in
    ap (λ (e : ScheduledGroup). timer_at e.group source) ((absent_so g c).at.group has)
    ∙ get-absent g.K.Key.number (row_of c.self.inside c.args.number) source (rw c.row-row.ensures.cells at c.in_default.ensures.member)

pub row-row-requires : goal.row-row-requires
row-row-requires g c = record { number = (at_so g (goal.at.row-row-requires g c).After-self).in_rows }

pub find-requires : goal.find-requires
find-requires g c =
    let l = at_so g (goal.at.find-requires g c).After-self in
    record { ascending = subst (IsAscending (number_in g.K.Key.number)) (sym c.row-row.ensures.cells) l.up }

pub returns-in_default-clause-there : goal.returns-in_default-clause-there
returns-in_default-clause-there g c address has = ap is_some (sym (absent g c has))

pub returns-in_default-clause-groups : goal.returns-in_default-clause-groups
returns-in_default-clause-groups g c address has = state_unasked (absent_so g c) has (c.requires.quiet address has)

pub returns-in_default-clause-sent : goal.returns-in_default-clause-sent
returns-in_default-clause-sent g c address has =
    none_sent (absent_so g c) has (c.requires.quiet address has) g.S.Sink.takes c.args.sink.now c.args.per_query

pub returns-in_default-clause-spent : goal.returns-in_default-clause-spent
returns-in_default-clause-spent g c address has =
    let size = ap length c.row-row.ensures.cells ∙ sym ((absent_so g c).at.size has) in
    Spends-within _ _ c.find.ensures.spent (omega (arith, size)) (omega (arith, ap bitlen size))

pub returns-then-not-runs_on-clause-there : goal.returns-then-not-runs_on-clause-there
returns-then-not-runs_on-clause-there g c address has =
    ap is_some (sym (timer_is g (goal.at.returns-then-not-runs_on-clause-there g c).After-index-row-place has))

pub returns-then-not-runs_on-clause-groups : goal.returns-then-not-runs_on-clause-groups
returns-then-not-runs_on-clause-groups g c address has = state_unasked (below_so g c) has (c.requires.quiet address has)

pub returns-then-not-runs_on-clause-sent : goal.returns-then-not-runs_on-clause-sent
returns-then-not-runs_on-clause-sent g c address has =
    none_sent (below_so g c) has (c.requires.quiet address has) g.S.Sink.takes c.args.sink.now c.args.per_query

pub returns-then-not-runs_on-clause-spent : goal.returns-then-not-runs_on-clause-spent
returns-then-not-runs_on-clause-spent g c address has =
    let size = ap length c.row-row.ensures.cells ∙ sym ((below_so g c).at.size has) in
    Spends-join_within _ _ c.find.ensures.spent c.runs_on.ensures.spent (omega (arith, size)) (omega (arith, ap bitlen size))

pub ask_in_row-requires-clause-ascending : goal.ask_in_row-requires-clause-ascending
ask_in_row-requires-clause-ascending g c = (at_so g (goal.at.ask_in_row-requires-clause-ascending g c).After-self).up

pub row-row-requires-2 : goal.row-row-requires-2
row-row-requires-2 g c =
    let a = asked_so g (goal.at.row-row-requires-2 g c).After-ask_in_row in
    record { number = omega (arith, rows-len a.at _ a.rows, a.at.in_rows) }

pub send_waiting-places-requires-clause-ascending : goal.send_waiting-places-requires-clause-ascending
send_waiting-places-requires-clause-ascending g c =
    let a = asked_so g (goal.at.send_waiting-places-requires-clause-ascending g c).After-ask_in_row in
    subst (IsAscending (number_in g.K.Key.number)) (sym (row-asked a c.row-row-2.ensures.cells)) (up_asked a)

pub count_in_row-left-requires-clause-number : goal.count_in_row-left-requires-clause-number
count_in_row-left-requires-clause-number g c =
    let a = asked_so g (goal.at.count_in_row-left-requires-clause-number g c).After-ask_in_row in
    omega (arith, rows-len a.at _ a.rows, a.at.in_rows)

pub overflow_sub-self : goal.overflow_sub-self
overflow_sub-self g c =
    let l = at_so g (goal.at.overflow_sub-self g c).After-self in
    omega (arith, c.count_schedules-before.ensures, l.part, l.own c.index.result.now c.index.ensures)

-- a group has two schedules at most
two_at_most : (a b : Bool) → one_if a + one_if b ≤ 2
two_at_most true true = omega arith
two_at_most false true = omega arith
two_at_most _ _ = omega arith

pub overflow_add-self : goal.overflow_add-self
overflow_add-self g c =
    let few = schedules_fit g.K.Key.number c.self.invariant.0 in
    let two = two_at_most (is_some c.count_sources.new.self.group_query) (is_some c.count_sources.new.self.sources_due) in
    omega (arith, few, two, c.count_schedules.ensures, c.self.invariant.5, c.self.invariant.6)

pub row-row-requires-3 : goal.row-row-requires-3
row-row-requires-3 g c =
    let a = asked_so g (goal.at.row-row-requires-3 g c).After-ask_in_row in
    record { number = omega (arith, rows-len a.at _ (rows_counted a c.count_in_row-left.ensures.rows), a.at.in_rows) }

pub moment-earliest-requires : goal.moment-earliest-requires
moment-earliest-requires g c =
    let l = at_so g (goal.at.moment-earliest-requires g c).After-self in
    record { there = l.moment (omega (arith, c.in-Ok.ensures.found_in, ap length c.row-row.ensures.cells)) }

pub earliest_then-due-requires-clause-ascending : goal.earliest_then-due-requires-clause-ascending
earliest_then-due-requires-clause-ascending g c =
    let at = goal.at.earliest_then-due-requires-clause-ascending g c in
    up_counted (counted_so g at.After-row-row-3 (asked_so g at.After-ask_in_row))

pub earliest_then-due-requires-clause-held : goal.earliest_then-due-requires-clause-held
earliest_then-due-requires-clause-held g c =
    let at = goal.at.earliest_then-due-requires-clause-held g c in
    formed_counted (counted_so g at.After-row-row-3 (asked_so g at.After-ask_in_row))

pub earliest_then-due-requires-clause-later : goal.earliest_then-due-requires-clause-later
earliest_then-due-requires-clause-later g c none_waited =
    let at = goal.at.earliest_then-due-requires-clause-later g c in
    let r = counted_so g at.After-row-row-3 (asked_so g at.After-ask_in_row) in
    let limit = c.after-limit.ensures.later ∙ ap (λ k. c.args.now + k) c.last_member_time.ensures in
    let above = above_by (sym c.if-not-runs_on.false ∙ c.runs_on.ensures.answer) limit c.deadline.ensures c.index-row-place.is in
    let was = first-held r.asked.at c.index.ensures c.moment-earliest.ensures in
    let none : is_some c.index.result.now.schedule.sources_due ≡ false =
    ap is_some (sym c.sources_due.ensures) ∙ c.is_none-none_waited.ensures ∙ ap not none_waited in
    let next : c.unwrap_or-first.result ≡ unwrap_or c.count_sources.new.self.sources_due (lowered_to c.args.timing.now c.args.now) =
    c.unwrap_or-first.ensures ∙ (λ i. unwrap_or (c.sources_due-2.ensures i) (limit i)) in
    earliest-alone r (placed_so g at.After-index-row-place) above c.is_in_range.ensures.robustness.at_least none was
    ∙ ap (λ d. Some (min c.moment-earliest.result d)) (sym next)

pub change-requires : goal.change-requires
change-requires g c =
    let l = at_so g (goal.at.change-requires g c).After-self in
    record { there = l.moment (omega (arith, c.in-Ok.ensures.found_in, ap length c.row-row.ensures.cells)) }

pub invariant_of-self : goal.invariant_of-self
invariant_of-self g c =
    let at = goal.at.invariant_of-self g c in
    let r = counted_so g at.After-row-row-3 (asked_so g at.After-ask_in_row) in
    let s = c.self.inside in
    let h : ScheduledHead = record { head = c.index.result.now.head; schedule = c.count_sources.new.self } in
    let stored = stored-written r.asked.at h _ (up_counted r) refl (formed_counted r)
    (c.earliest_then-due.ensures.earliest ∙ ap Some (sym c.unwrap_or-due.ensures)) in
    let before = sym (c.count_schedules-before.ensures ∙ r.asked.at.own c.index.result.now c.index.ensures) in (
      subst (λ (p : (PoolState (Source _) × DeadlinesState) × ℕ).
          IsStored g.K.Key.number s.order.items (set s.heads.items c.args.number h) p.0.0.rows p.0.1.moments p.1)
          (λ i. ((sym r.rows i, sym c.change.ensures.moments i), s.scheduled - before i + sym c.count_schedules.ensures i)) stored,
      c.self.invariant.1 ∙ ap (λ (s : PoolState (Source _)). s.cell_limit) (sym r.rows),
      rows-len r.asked.at _ r.rows ∙ c.self.invariant.2,
      length-set s.heads.items c.args.number _ ∙ c.self.invariant.3,
      ap (λ (s : DeadlinesState). s.room) c.change.ensures.moments ∙ c.self.invariant.4,
      c.self.invariant.5,
      c.self.invariant.6,
    )

pub returns-clause-there : goal.returns-clause-there
returns-clause-there g c address has = ap is_some (sym (timer_is g (goal.at.returns-clause-there g c).After-index-row-place has))

pub returns-clause-groups : goal.returns-clause-groups
returns-clause-groups g c address has =
    let at = goal.at.returns-clause-groups g c in
    seen_counted (counted_so g at.After-row-row-3 (asked_so g at.After-ask_in_row)) has

pub returns-clause-sent : goal.returns-clause-sent
returns-clause-sent g c address has =
    let a = asked_so g (goal.at.returns-clause-sent g c).After-ask_in_row in
    let row_is = row-asked a c.row-row-2.ensures.cells in
    let there = has-there g.K.Key.number c.self.invariant.0 c.self.view_is c.key-address.ensures in
    let at = same-address g.K.Key.number c.self.invariant.0 c.self.view_is there has in
    let sink = c.send_waiting-places.new.sink in
    sends_after a c.index.ensures g.S.Sink.takes c.args.sink.now sink c.args.per_query address
    (λ e is.
    let sent = c.send_waiting-places.ensures.sent e (ap (timers_in g.K.Key.number) row_is ∙ is) in
    subst (λ k. Sends g.S.Sink.takes c.args.sink.now (waiting_messages c.args.per_query c.args.timing.now c.args.now k e) sink) at sent) has

pub returns-clause-spent : goal.returns-clause-spent
returns-clause-spent g c address has =
    let at = goal.at.returns-clause-spent g c in
    let a = asked_so g at.After-ask_in_row in
    let had = sym (a.at.size has) in
    let size = ap length c.row-row.ensures.cells ∙ had in
    let asked = size-asked a c.row-row-2.ensures.cells ∙ had in
    let then = size-counted (counted_so g at.After-row-row-3 a) ∙ had in
    let looked = Spends-join c.find.ensures.spent c.runs_on.ensures.spent in
    let told = Spends-join (Spends-join looked c.send_waiting-places.ensures.spent) c.earliest_then-due.ensures.spent in
    Spends-join_within _ _ told c.change.ensures.spent (omega (arith, size)) (omega (arith, asked, then, ap bitlen size, a.at.others))

pub returns-in_default-clause-spent_alone : goal.returns-in_default-clause-spent_alone
returns-in_default-clause-spent_alone g c address has alone =
    let size = ap length c.row-row.ensures.cells ∙ sym ((absent_so g c).at.size has) in
    Spends-within _ _ c.find.ensures.spent (omega arith) (omega (arith, ap bitlen size))

pub returns-then-not-runs_on-clause-spent_alone : goal.returns-then-not-runs_on-clause-spent_alone
returns-then-not-runs_on-clause-spent_alone g c address has alone =
    let size = ap length c.row-row.ensures.cells ∙ sym ((below_so g c).at.size has) in
    Spends-join_within _ _ c.find.ensures.spent c.runs_on.ensures.spent (omega arith) (omega (arith, ap bitlen size))

is_true : (b : Bool) → not b ≡ false → b ≡ true
is_true true is = refl
is_true false is = absurd (true≢false is)

pub returns-clause-spent_alone : goal.returns-clause-spent_alone
returns-clause-spent_alone g c address has alone =
    let a = asked_so g (goal.at.returns-clause-spent_alone g c).After-ask_in_row in
    let head : c.index.result.now ≡ get_or c.self.inside.heads.items c.args.number no_head = c.index.ensures ∙
    get_or_default c.self.inside.heads.items c.args.number c.index.result.now no_head a.at.in_heads in
    let due : c.index.result.now.schedule.sources_due ≡ (group_at c.args.self.now.groups address).schedule.sources_due =
    ap (λ (h : ScheduledHead). h.schedule.sources_due) head ∙ ap (λ (e : ScheduledGroup). e.schedule.sources_due) (sym (a.at.group has)) in
    let none = is_true c.is_none-none_waited.result (sym c.is_none-none_waited.ensures ∙ ap is_some (c.sources_due.ensures ∙ due) ∙ alone) in
    let had = sym (a.at.size has) in
    let size = ap length c.row-row.ensures.cells ∙ had in
    let asked = size-asked a c.row-row-2.ensures.cells ∙ had in
    let looked = Spends-join c.find.ensures.spent c.runs_on.ensures.spent in
    let told = Spends-join (Spends-join looked c.send_waiting-places.ensures.spent) (c.earliest_then-due.ensures.spent_later none) in
    Spends-join_within _ _ told c.change.ensures.spent (omega arith) (omega (arith, asked, ap bitlen size, a.at.others))

-- the source that is asked for and the group's moment are moved
at_most : (b : Bool) (n : ℕ) → cond b n 0 ≤ n
at_most true n = omega arith
at_most false n = omega arith

none_least : (b : Bool) (n : ℕ) → b ≡ false → cond b n 0 ≤ 0
none_least true n is = absurd (true≢false is)
none_least false n is = omega arith

pub returns-in_default-clause-moved : goal.returns-in_default-clause-moved
returns-in_default-clause-moved g c address has =
    let is = ap (λ t. is_ahead (lowered_to c.args.timing.now c.args.now) (deadline_of t)) (absent g c has) in
    record { at_least = omega (arith, none_least _ (2 + min 1 (last_member_count c.args.timing.now)) is); at_most = omega arith }

pub returns-then-not-runs_on-clause-moved : goal.returns-then-not-runs_on-clause-moved
returns-then-not-runs_on-clause-moved g c address has =
    let timer = timer_is g (goal.at.returns-then-not-runs_on-clause-moved g c).After-index-row-place has in
    let is = ap (λ t. is_ahead (lowered_to c.args.timing.now c.args.now) (deadline_of t)) timer ∙ sym (below g c) in
    record { at_least = omega (arith, none_least _ (2 + min 1 (last_member_count c.args.timing.now)) is); at_most = omega arith }

pub returns-clause-moved : goal.returns-clause-moved
returns-clause-moved g c address has =
    let a = asked_so g (goal.at.returns-clause-moved g c).After-ask_in_row in
    let count = last_member_count c.args.timing.now in
    let size = size-asked a refl ∙ sym (a.at.size has) in
    let counted = Spends-join c.ask_in_row.ensures.moved c.count_in_row-left.ensures.moved in
    let asks = above c.args.timing.now c.args.now (group_at c.args.self.now.groups address).group (g.K.Key.number c.args.source) in
    let sent = ap (count_by item_has_retransmissions) (row-asked a refl) in
    let few = count_by-le-length item_has_retransmissions (get_or c.ask_in_row.new.rows.rows c.args.number []) in
    let least = at_most asks (2 + min 1 count) in
    Spends-join_within _ _ counted c.change.ensures.moves (omega (arith, least, least-asked a, sent, one-at_most count)) (omega (arith, few, size, a.at.others))

pub index-requires : goal.index-requires
index-requires g c = grind (arith, common_steps)

pub ask_in_row-requires-clause-number : goal.ask_in_row-requires-clause-number
ask_in_row-requires-clause-number g c = grind (arith, common_steps)
