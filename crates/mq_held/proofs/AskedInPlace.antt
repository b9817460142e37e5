-- A group, by its row, with one source asked for.
use Rattle.mq_held.proofs.Common.{◌≡◌, ℕ, ◌+◌, ◌≤◌, Bool, true, false, cond, ◌&&◌, refl, List, [], ◌∷◌, ◌++◌, Option, None, Some, length, ltb, get_or, set, sym}
use Rattle.mq_held.proofs.Common.{ap, ◌∙◌, subst, arith, list_map, count_by, list_any, le-leb, length-map, set-set, IsAscending, set_of, PoolState}
use Rattle.mq_held.proofs.Common.{IsAscending-map, Source, is_asked_above, source_if_asked, GroupState, IsWellFormed, deadline_of, group_deadline, is_ahead}
use Rattle.mq_held.proofs.Common.{is_vacant, retransmissions_of, lowered_to, item_counted, item_has_retransmissions, above, has_retransmissions}
use Rattle.mq_held.proofs.Common.{retransmissions_counted, some_source}
use Rattle.mq_held.proofs.Common.{source_asked, source_counted, number_in, state_of, timers_in, last_member_count, stays, asked_absent, asked_found}
use Rattle.mq_held.proofs.Common.{ScheduleState, ScheduledGroup, GroupQuery, SentQuery, after_round, is_due, messages_due, waiting_messages, Sends, Inside}
use Rattle.mq_held.proofs.Common.{ScheduledHead, HasNumber, HeldState, group_at, group_of, groups_by, no_head}
use Rattle.std.specs.FinMap as map
use Rattle.mq_table.specs.{declared.timing.Timing.Timing, Sets.◌∩◌}
use Rattle.mq_table.proofs.Rows.{any_in_row, timers_in-replaced}
use Rattle.mq_sched.specs.Rounds.{IsQuietAt}
use Rattle.mq_sched.proofs.{Rounds.group_not_due, Rounds.quiet_is_silent, Rounds.same_count, Rounds.same_round, StayHeld.held_acted, StayHeld.held_after_round}
use Rattle.mq_held.specs.Asked.{one_asked}
use Rattle.mq_held.proofs.{CountedRows.asked-has, CountedRows.count-made, Inside.address-of, Inside.ahead_is, Inside.contained, Inside.group_found}
use Rattle.mq_held.proofs.{Inside.state-set, Located.Located, Located.Placed, Located.group_in, Located.row-read, Located.row_of, RestartedTimers.insert-same}

module _ {K : Type 0} (number : K → ℕ) (timing : Timing) (now : ℕ) (source : K) where
  abbrev pub asked_set : ℕ → Bool
  asked_set = set_of number (source ∷ [])

  abbrev pub made : Source K → Source K
  made = source_if_asked number (lowered_to timing now) (last_member_count timing) asked_set

  abbrev pub test : Source K → Bool
  test = is_asked_above number (lowered_to timing now) asked_set

  -- the row, once the source is asked for, and once what was sent is counted
  abbrev pub row_asked : List (Source K) → List (Source K)
  row_asked row = list_map made row

  abbrev pub row_counted : List (Source K) → List (Source K)
  row_counted row = list_map item_counted (row_asked row)

  module _ (h : ScheduledHead) (row : List (Source K)) (up : IsAscending (number_in number) row) where
    timers_asked : timers_in number (row_asked row) ≡ (one_asked timing now (number source) (group_of number h row)).group.sources
    timers_asked =
        let asked = source_asked (lowered_to timing now) (last_member_count timing) in
        timers_in-replaced number (λ s timer. cond (asked_set s) (asked timer) timer) made (λ x. refl) row

    some_above : some_source (asked_set ∩ above timing now (group_of number h row).group) (group_of number h row).group ≡ list_any test row
    some_above = any_in_row number (λ s timer. asked_set s && is_ahead (lowered_to timing now) (deadline_of timer)) row up

    -- the group, before anything is sent
    abbrev pub asked_as : Option ℕ → ScheduledGroup
    asked_as due = record {
      group = state_of h.head (timers_in number (row_asked row));
      schedule = record { group_query = h.schedule.group_query; sources_due = due };
    }

    asked_by : (b : Bool) → list_any test row ≡ b → one_asked timing now (number source) (group_of number h row)
        ≡ asked_as (cond b (Some now) h.schedule.sources_due)
    asked_by b is = λ i. record {
      group = state_of h.head (sym timers_asked i);
      schedule = record { group_query = h.schedule.group_query; sources_due = cond ((some_above ∙ is) i) (Some now) h.schedule.sources_due };
    }

    -- a group whose timer isn't above the limit stays, and sends nothing
    pub stays_unasked : row_asked row ≡ row → list_any test row ≡ false → one_asked timing now (number source) (group_of number h row) ≡ group_of number h row
    stays_unasked same none =
        asked_by false none
        ∙ (λ i. let e : ScheduledGroup = record { group = state_of h.head (timers_in number (same i)); schedule = h.schedule } in e)

    due_now : is_due now (Some now) ≡ true
    due_now = le-leb now now (omega arith)

    -- else it sends what waits, and that is counted
    abbrev pub next_due : Option ℕ
    next_due = cond (list_any item_has_retransmissions (row_counted row)) (Some (now + timing.last_member_interval)) None

    abbrev pub head_then : ScheduledHead
    head_then = record { head = h.head; schedule = record { group_query = h.schedule.group_query; sources_due = next_due } }

    abbrev group_asked : GroupState
    group_asked = state_of h.head (timers_in number (row_asked row))

    abbrev group_counted : GroupState
    group_counted = state_of h.head (timers_in number (row_counted row))

    counted : retransmissions_counted group_asked ≡ group_counted
    counted = ap (state_of h.head) (sym (timers_in-replaced number (λ s. source_counted) item_counted (λ x. refl) (row_asked row)))

    some_left : some_source (has_retransmissions group_counted) group_counted ≡ list_any item_has_retransmissions (row_counted row)
    some_left =
        let up_then = IsAscending-map (number_in number) item_counted (row_asked row) (IsAscending-map (number_in number) made row up) in
        any_in_row number (λ s timer. ltb 0 (retransmissions_of timer)) (row_counted row) up_then

    module _ (some : list_any test row ≡ true) (quiet : IsQuietAt now h.schedule) where
      pub asked_then : one_asked timing now (number source) (group_of number h row) ≡ asked_as (Some now)
      asked_then = asked_by true some

      pub group_counted_is : group_of number head_then (row_counted row) ≡ after_round timing now (one_asked timing now (number source) (group_of number h row))
      group_counted_is = sym (ap (after_round timing now) asked_then ∙ round)
        where
          left_if : Bool → GroupState
          left_if b = cond b (retransmissions_counted group_asked) group_asked

          next_of : GroupState → Option ℕ
          next_of g = cond (some_source (has_retransmissions g) g) (Some (now + timing.last_member_interval)) None

          left : left_if (is_due now (Some now)) ≡ group_counted
          left = ap left_if due_now ∙ counted

          then_due : cond (is_due now (Some now)) (next_of (left_if (is_due now (Some now)))) (Some now) ≡ next_due
          then_due =
              ap (λ b. cond b (next_of (left_if (is_due now (Some now)))) (Some now)) due_now
              ∙ ap next_of left
              ∙ ap (λ b. cond b (Some (now + timing.last_member_interval)) None) some_left

          round : after_round timing now (asked_as (Some now)) ≡ group_of number head_then (row_counted row)
          round = λ i. record {
            group = left i;
            schedule = record { group_query = same_count timing now h.schedule.group_query quiet.group i; sources_due = then_due i };
          }

      -- the waiting messages are those that are due
      pub sent_is : {S : Type 0} (takes : S → SentQuery → S → Type 0) (old new : S) (n address : ℕ)
          → Sends takes old (waiting_messages n timing now address group_asked) new
          → Sends takes old (messages_due n timing now address (one_asked timing now (number source) (group_of number h row))) new
      sent_is takes old new n address sent =
          let query = GroupQuery address (is_ahead (lowered_to timing now) (group_deadline h.head.mode)) in
          let waits = waiting_messages n timing now address group_asked in
          subst (λ (e : ScheduledGroup). Sends takes old (messages_due n timing now address e) new) (sym asked_then)
          (subst (λ b. Sends takes old (cond b (query ∷ []) [] ++ cond (is_due now (Some now)) waits []) new)
          (sym (group_not_due now h.schedule.group_query quiet.group))
          (subst (λ b. Sends takes old (cond b waits []) new) (sym due_now) sent))

-- a group that is held stays one
pub IsWellFormed-one_asked : (timing : Timing) (now source : ℕ) (e : ScheduledGroup) → IsWellFormed e.group
    → IsWellFormed (after_round timing now (one_asked timing now source e)).group
IsWellFormed-one_asked timing now source e held =
    held_after_round timing now (one_asked timing now source e) (held_acted true timing now false (set_of (λ s. s) (source ∷ [])) e held)

-- A source of the group of a number isn't asked for: no timer of it is above the limit.
pub record IsUnasked {K A : Type 0} (number : K → ℕ) (s : Inside K A) (state : HeldState) (n : ℕ) (timing : Timing) (now : ℕ) (source : K) : Type 0 where
  pub at : Located number s state n
  pub same : row_asked number timing now source (row_of s n) ≡ row_of s n
  pub none : list_any (test number timing now source) (row_of s n) ≡ false

module _ {K A : Type 0} {number : K → ℕ} {s : Inside K A} {state : HeldState} {n : ℕ} (l : Located number s state n)
    (timing : Timing) (now : ℕ) (source : K) where
  pub quiet_in : ((a : ℕ) → HasNumber state a n → IsQuietAt now (group_at state.groups a).schedule) → IsQuietAt now (group_in number s n).schedule
  quiet_in quiet =
      let found = address-of number l.inside.0 l.was n l.is in
      subst (λ (e : ScheduledGroup). IsQuietAt now e.schedule) (l.group found.1) (quiet found.0 found.1)

  -- the group hasn't the source, or it has, and the timer is above the limit or isn't
  pub unasked-absent : set_of (number_in number) (row_of s n) (number source) ≡ false → IsUnasked number s state n timing now source
  unasked-absent absent =
      let stays = asked_absent number (lowered_to timing now) (last_member_count timing) source (row_of s n) absent in
      record { at = l; same = sym stays.0; none = sym stays.1 }

  module _ {place : ℕ} {x : Source K} (f : Placed number (row_of s n) (number source) place x) where
    pub asked-above : true ≡ is_ahead (lowered_to timing now) (deadline_of (Some x.timer)) → list_any (test number timing now source) (row_of s n) ≡ true
    asked-above above =
        sym (asked_found number (lowered_to timing now) (last_member_count timing) source (row_of s n) place x true l.up f.within f.here f.is above).1

    pub unasked-below : false ≡ is_ahead (lowered_to timing now) (deadline_of (Some x.timer)) → IsUnasked number s state n timing now source
    unasked-below below =
        let found = asked_found number (lowered_to timing now) (last_member_count timing) source (row_of s n) place x false l.up f.within f.here f.is below in
        let same = sym found.0 ∙ stays (lowered_to timing now) (last_member_count timing) true false (row_of s n) place x f.here refl in
        record { at = l; same = same; none = sym found.1 }

-- Then the group stays, and nothing is sent.
module _ {K A : Type 0} {number : K → ℕ} {s : Inside K A} {state : HeldState} {n : ℕ} {timing : Timing} {now : ℕ} {source : K}
    (u : IsUnasked number s state n timing now source) {a : ℕ} (has : HasNumber state a n) (quiet : IsQuietAt now (group_at state.groups a).schedule) where
  stays_so : one_asked timing now (number source) (group_at state.groups a) ≡ group_at state.groups a
  stays_so =
      subst (λ (e : ScheduledGroup). one_asked timing now (number source) e ≡ e) (sym (u.at.group has))
      (stays_unasked number timing now source (get_or s.heads.items n no_head) (row_of s n) u.at.up u.same u.none)

  pub state_unasked : state
      ≡ record state { groups = map.insert state.groups a (after_round timing now (one_asked timing now (number source) (group_at state.groups a))) }
  state_unasked =
      let e = group_at state.groups a in
      let put = insert-same state.groups a e (group_found state.groups a (contained number u.at.inside.0 u.at.was has)) in
      let groups = sym put ∙ ap (map.insert state.groups a) (sym (ap (after_round timing now) stays_so ∙ same_round timing now e quiet)) in
      λ i. record state { groups = groups i }

  pub none_sent : {S : Type 0} (takes : S → SentQuery → S → Type 0) (sink : S) (per_query : ℕ)
      → Sends takes sink (messages_due per_query timing now a (one_asked timing now (number source) (group_at state.groups a))) sink
  none_sent takes sink per_query =
      let silent = quiet_is_silent per_query timing now a (group_at state.groups a) quiet in
      subst (λ queries. Sends takes sink queries sink) (sym (ap (messages_due per_query timing now a) stays_so ∙ silent)) refl

-- A source of the group of a number is asked for. `t` are the rows then.
pub record IsAsked {K A : Type 0} (number : K → ℕ) (s : Inside K A) (state : HeldState) (n : ℕ) (timing : Timing) (now : ℕ) (source : K)
    (t : PoolState (Source K)) : Type 0 where
  pub at : Located number s state n
  pub quiet : IsQuietAt now (group_in number s n).schedule
  pub above : list_any (test number timing now source) (row_of s n) ≡ true
  pub other : is_vacant (group_in number s n).group ≡ false
  pub rows : t ≡ record s.sources { rows = set s.sources.rows n (row_asked number timing now source (row_of s n)) }

module _ {K A : Type 0} {number : K → ℕ} {s : Inside K A} {state : HeldState} {n : ℕ} {timing : Timing} {now : ℕ} {source : K} {t : PoolState (Source K)}
    (a : IsAsked number s state n timing now source t) where
  -- the row that is read then
  pub row-asked : {cells : List (Source K)} → cells ≡ get_or t.rows n [] → cells ≡ row_asked number timing now source (row_of s n)
  row-asked cells = row-read a.at _ a.rows cells

  pub size-asked : {cells : List (Source K)} → cells ≡ get_or t.rows n [] → length cells ≡ length (row_of s n)
  size-asked cells = ap length (row-asked cells) ∙ length-map (row_of s n) _

  pub up_asked : IsAscending (number_in number) (row_asked number timing now source (row_of s n))
  up_asked = IsAscending-map (number_in number) (made number timing now source) (row_of s n) a.at.up

  -- its sources with retransmissions: one, where there are any
  pub least-asked : cond (ltb 0 (last_member_count timing)) 1 0 ≤ count_by item_has_retransmissions (row_asked number timing now source (row_of s n))
  least-asked =
      let has = asked-has number (lowered_to timing now) (last_member_count timing) (asked_set number timing now source) in
      count-made (test number timing now source) item_has_retransmissions (made number timing now source) (ltb 0 (last_member_count timing)) has
      (row_of s n) a.above

  -- the rows, once its retransmissions are counted
  pub rows_counted : {u : PoolState (Source K)} → u ≡ record t { rows = set t.rows n (list_map item_counted (get_or t.rows n [])) }
      → u ≡ record s.sources { rows = set s.sources.rows n (row_counted number timing now source (row_of s n)) }
  rows_counted second =
      let asked = row_asked number timing now source (row_of s n) in
      second
      ∙ (λ i. record { rows = set (a.rows i).rows n (list_map item_counted (row-asked refl i)); cell_limit = (a.rows i).cell_limit; ahead = (a.rows i).ahead })
      ∙ (λ i. record s.sources { rows = set-set s.sources.rows n asked (list_map item_counted asked) i })

  module _ {h : ScheduledHead} (here : h ≡ get_or s.heads.items n h) where
    quiet_head : IsQuietAt now h.schedule
    quiet_head = subst (λ (x : ScheduledHead). IsQuietAt now x.schedule) (a.at.head h here) a.quiet

    abbrev head_counted : ScheduledHead
    head_counted = head_then number timing now source h (row_of s n) a.at.up

    pub head_is : {left : Bool} {next : ScheduleState} → left ≡ list_any item_has_retransmissions (list_map item_counted (get_or t.rows n []))
        → next ≡ record h.schedule { sources_due = cond left (Some (now + timing.last_member_interval)) None }
        → ◌≡◌ {A = ScheduledHead} (record { head = h.head; schedule = next }) head_counted
    head_is left next =
        let some = left ∙ ap (λ xs. list_any item_has_retransmissions (list_map item_counted xs)) (row-asked refl) in
        let is = next ∙ (λ i. let s : ScheduleState = record h.schedule { sources_due = cond (some i) (Some (now + timing.last_member_interval)) None } in s) in
        λ i. record { head = h.head; schedule = is i }

    group_after : group_of number head_counted (row_counted number timing now source (row_of s n))
        ≡ after_round timing now (one_asked timing now (number source) (group_in number s n))
    group_after =
        group_counted_is number timing now source h (row_of s n) a.at.up a.above quiet_head
        ∙ ap (λ x. after_round timing now (one_asked timing now (number source) (group_of number x (row_of s n)))) (sym (a.at.head h here))

    -- the messages that wait for the row are those that are due
    pub sends_after : {S : Type 0} (takes : S → SentQuery → S → Type 0) (old new : S) (per_query address : ℕ)
        → ((g : GroupState) → timers_in number (row_asked number timing now source (row_of s n)) ≡ g.sources
        → Sends takes old (waiting_messages per_query timing now address g) new) → HasNumber state address n
        → Sends takes old (messages_due per_query timing now address (one_asked timing now (number source) (group_at state.groups address))) new
    sends_after takes old new per_query address sent has =
        let group_is = ap (λ (x : ScheduledHead). group_of number x (row_of s n)) (sym (a.at.head h here)) ∙ sym (a.at.group has) in
        let waits = sent (state_of h.head (timers_in number (row_asked number timing now source (row_of s n)))) refl in
        subst (λ (e : ScheduledGroup). Sends takes old (messages_due per_query timing now address (one_asked timing now (number source) e)) new) group_is
        (sent_is number timing now source h (row_of s n) a.at.up a.above quiet_head takes old new per_query address waits)

-- Its retransmissions are counted, too. `h` was its head, and `next` is; `u` are the rows then, and `row` is its own.
pub record IsCounted {K A : Type 0} (number : K → ℕ) (s : Inside K A) (state : HeldState) (n : ℕ) (timing : Timing) (now : ℕ) (source : K)
    (t u : PoolState (Source K)) (row : List (Source K)) (h next : ScheduledHead) : Type 0 where
  pub asked : IsAsked number s state n timing now source t
  pub here : h ≡ get_or s.heads.items n h
  pub head : next ≡ head_counted asked here
  pub row_is : row ≡ row_counted number timing now source (row_of s n)
  pub rows : u ≡ record s.sources { rows = set s.sources.rows n row }

module _ {K A : Type 0} {number : K → ℕ} {s : Inside K A} {state : HeldState} {n : ℕ} {timing : Timing} {now : ℕ} {source : K} {t u : PoolState (Source K)}
    {row : List (Source K)} {h next : ScheduledHead} (r : IsCounted number s state n timing now source t u row h next) where
  pub size-counted : length row ≡ length (row_of s n)
  size-counted = ap length r.row_is ∙ length-map (row_asked number timing now source (row_of s n)) _ ∙ length-map (row_of s n) _

  pub up_counted : IsAscending (number_in number) row
  up_counted =
      let up = IsAscending-map (number_in number) item_counted (row_asked number timing now source (row_of s n)) (up_asked r.asked) in
      subst (IsAscending (number_in number)) (sym r.row_is) up

  group_then : group_of number next row ≡ after_round timing now (one_asked timing now (number source) (group_in number s n))
  group_then = (λ i. group_of number (r.head i) (r.row_is i)) ∙ group_after r.asked r.here

  pub formed_counted : IsWellFormed (group_of number next row).group
  formed_counted =
      let held = r.asked.at.inside.0.others_are_held n r.asked.at.held r.asked.other in
      subst (λ (e : ScheduledGroup). IsWellFormed e.group) (sym group_then) (IsWellFormed-one_asked timing now (number source) (group_in number s n) held)

  pub seen_counted : {address : ℕ} → HasNumber state address n
      → ◌≡◌ {A = HeldState}
      (record { groups = groups_by number s.order.items (set s.heads.items n next) u.rows; order = s.order; source_room = s.source_room; ahead = u.ahead })
      (record state {
        groups = map.insert state.groups address (after_round timing now (one_asked timing now (number source) (group_at state.groups address)));
      })
  seen_counted {address} has =
      let l = r.asked.at in
      let is = group_then ∙ ap (λ e. after_round timing now (one_asked timing now (number source) e)) (sym (l.group has)) in
      let ahead = ahead_is number l.inside.0 l.was in
      (λ i. record {
        groups = groups_by number s.order.items (set s.heads.items n next) (r.rows i).rows;
        order = s.order;
        source_room = s.source_room;
        ahead = (r.rows i).ahead;
      })
      ∙ state-set number l.inside.0 l.was next row _ s.sources.ahead state.ahead has l.in_heads is ahead
