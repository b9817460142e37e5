-- The most queries of a tick, and the most sources that they name.
use Rattle.mq_c.proofs.Common.{◌≡◌, ℕ, zero, suc, ◌+◌, ◌*◌, ◌<◌, ◌≤◌, Bool, true, false, cond, not, ◌&&◌, refl, List, [], ◌∷◌, ◌++◌, length, take, drop, sum_by}
use Rattle.mq_c.proofs.Common.{Option, None, Some, is_some, sym, ap, ◌∙◌, arith, leb, length-append, length-drop, mul-le-mul_right, list_map, flat_map}
use Rattle.mq_c.proofs.Common.{leb-false, drop_all, take-append-drop, length-map, sum_by-cons, SourceTimer, Timing, Set, ◌∩◌, group_deadline, above, Family}
use Rattle.mq_c.proofs.Common.{Igmp, Mld, ScheduledGroup, SentQuery, GeneralQuery, GroupQuery, SourcesQuery, messages_due, Configuration, per_query, named_in}
use Rattle.mq_c.proofs.Common.{Groups, LinkState, sources_of, sources_in, one_if}
use Rattle.std.proofs.{Common.filter, lemmas.Bool.leb-true, lemmas.List.Sums.sum_by-append}
use Rattle.mq_table.specs.{Sets.◌∖◌, Group.is_ahead, Lowering.lowered_to, Retransmissions.has_retransmissions}
use Rattle.mq_sched.specs.declared.queries.QuerySchedule.{QuerySchedule}
use Rattle.mq_sched.specs.{Election.ElectionState, Election.returned, Election.general_is_due, Election.general_messages, Portions.portions_within}
use Rattle.mq_sched.specs.Sending.{is_due, group_due, sources_where, sources_queries, group_messages, source_messages}
use Rattle.mq_link.{specs.State.AreWithin, specs.State.schedules_of, specs.State.schedules_in, proofs.Bounds.expired_no_more, proofs.Bounds.within-kept}
use Rattle.mq_link.specs.Tick.{group_expired, if_held, groups_expired, queries_due, tick_at}
use Rattle.std.specs.FinMap as map

-- At most the queries that these runs have for these sources, if each query of a run but its last has n of them.
pub record AreFew (n runs sources : ℕ) (queries : List SentQuery) : Type 0 where
  pub count : length queries * n ≤ runs * n + sources
  pub named : sum_by named_in queries ≤ sources

pub few_append : (n a b x y : ℕ) (xs ys : List SentQuery) → AreFew n a x xs → AreFew n b y ys → AreFew n (a + b) (x + y) (xs ++ ys)
few_append n a b x y xs ys h k = record {
  count = let all = length-append xs ys in let c = h.count in let d = k.count in rw all (omega (arith, c, d));
  named = let all = sum_by-append named_in xs ys in let c = h.named in let d = k.named in omega (arith, all, c, d);
}

pub few_none : (n a x : ℕ) → AreFew n a x []
few_none n a x = record { count = omega arith; named = omega arith }

pub few_weaker : (n a b x y : ℕ) (queries : List SentQuery) → a ≤ b → x ≤ y → AreFew n a x queries → AreFew n b y queries
few_weaker n a b x y queries runs sources h = record {
  count = let c = h.count in let times = mul-le-mul_right n runs in omega (arith, c, times, sources);
  named = let c = h.named in omega (arith, c, sources);
}

-- the portions of a list
no_portions : (most n : ℕ) (xs : List ℕ) → xs ≡ [] → portions_within most n xs ≡ []
no_portions most n xs none = ap (portions_within most n) none

portions_count : (most n : ℕ) (xs : List ℕ) → 0 < n → length (portions_within most n xs) * n ≤ n + length xs
portions_count most n [] positive = omega arith
portions_count zero n (x ∷ xs) positive = omega arith
portions_count (suc most) n (x ∷ xs) positive = by_rest (leb (length (x ∷ xs)) n) refl (portions_count most n (drop n (x ∷ xs)) positive)
  where
    rest : List (List ℕ)
    rest = portions_within most n (drop n (x ∷ xs))

    by_rest : (b : Bool) → leb (length (x ∷ xs)) n ≡ b → length rest * n ≤ n + length (drop n (x ∷ xs)) → suc (length rest) * n ≤ n + length (x ∷ xs)
    by_rest true e further =
        let none : length rest ≡ 0 = ap length (no_portions most n (drop n (x ∷ xs)) (drop_all n (x ∷ xs) (leb-true (length (x ∷ xs)) n e))) in
        rw none (omega arith)
    by_rest false e further =
        omega (arith, further, length-drop n (x ∷ xs), leb-false (length (x ∷ xs)) n e)

portions_named : (most n group : ℕ) (s : Bool) (xs : List ℕ) → sum_by named_in (list_map (SourcesQuery group s) (portions_within most n xs)) ≤ length xs
portions_named most n group s [] = omega arith
portions_named zero n group s (x ∷ xs) = omega arith
portions_named (suc most) n group s (x ∷ xs) =
    let rest = portions_named most n group s (drop n (x ∷ xs)) in
    let here = sum_by-cons named_in (SourcesQuery group s (take n (x ∷ xs))) (list_map (SourcesQuery group s) (portions_within most n (drop n (x ∷ xs)))) in
    let both = ap length (take-append-drop n (x ∷ xs)) in
    let parts = length-append (take n (x ∷ xs)) (drop n (x ∷ xs)) in
    omega (arith, rest, here, both, parts)

run_few : (n group : ℕ) (s : Bool) (xs : List ℕ) → 0 < n → AreFew n 1 (length xs) (sources_queries n group s xs)
run_few n group s xs positive = record {
  count = let same = length-map (portions_within (length xs) n xs) (SourcesQuery group s) in let few = portions_count (length xs) n xs positive in
      rw same (omega (arith, few));
  named = portions_named (length xs) n group s xs;
}

-- no source goes with both flags
two_filters : (has over : Set) (xs : List ℕ) → length (filter (has ∩ over) xs) + length (filter (has ∖ over) xs) ≤ length xs
two_filters has over [] = omega arith
two_filters has over (x ∷ xs) = by_tests (has x) (over x) (two_filters has over xs)
  where
    a : List ℕ
    a = filter (has ∩ over) xs

    b : List ℕ
    b = filter (has ∖ over) xs

    by_tests : (h o : Bool) → length a + length b ≤ length xs → length (cond (h && o) (x ∷ a) a) + length (cond (h && not o) (x ∷ b) b) ≤ suc (length xs)
    by_tests true true rest = omega (arith, rest)
    by_tests true false rest = omega (arith, rest)
    by_tests false o rest = omega (arith, rest)

pub one_at_most : (b : Bool) → one_if b ≤ 1
one_at_most true = omega arith
one_at_most false = omega arith

-- the queries of a group
module _ (n : ℕ) (positive : 0 < n) (timing : Timing) (now group : ℕ) (e : ScheduledGroup) where
  asked_few : (q : Option QuerySchedule) (s : Bool) → AreFew n (one_if (is_some q)) 0 (cond (is_due now (group_due q)) (GroupQuery group s ∷ []) [])
  asked_few None s = few_none n 0 0
  asked_few (Some q) s = by_due (leb q.due now)
    where
      by_due : (b : Bool) → AreFew n 1 0 (cond b (GroupQuery group s ∷ []) [])
      by_due true = record { count = omega arith; named = omega arith }
      by_due false = few_none n 1 0

  over : List ℕ
  over = sources_where (has_retransmissions e.group ∩ above timing now e.group) e.group

  under : List ℕ
  under = sources_where (has_retransmissions e.group ∖ above timing now e.group) e.group

  both_few : AreFew n 2 (sources_of e) (sources_queries n group true over ++ sources_queries n group false under)
  unfolding over under
  both_few =
      let keys = map.keys e.group.sources in
      let size : length over + length under ≤ sources_of e =
      (let filters = two_filters (has_retransmissions e.group) (above timing now e.group) keys in
      let all : length keys ≡ sources_of e = length-map (map.entries e.group.sources) (λ (x : ℕ × SourceTimer). x.0) ∙ sym (map.len-entries e.group.sources) in
      omega (arith, filters, all)) in
      few_weaker n 2 2 (length over + length under) (sources_of e) (sources_queries n group true over ++ sources_queries n group false under) (omega arith) size
      (few_append n 1 1 (length over) (length under) (sources_queries n group true over) (sources_queries n group false under)
      (run_few n group true over positive) (run_few n group false under positive))

  sources_few : (due : Option ℕ) → AreFew n (2 * one_if (is_some due)) (sources_of e)
      (cond (is_due now due) (sources_queries n group true over ++ sources_queries n group false under) [])
  sources_few None = few_none n 0 (sources_of e)
  sources_few (Some due) = by_due (leb due now)
    where
      by_due : (b : Bool) → AreFew n 2 (sources_of e) (cond b (sources_queries n group true over ++ sources_queries n group false under) [])
      by_due true = both_few
      by_due false = few_none n 2 (sources_of e)

  -- one for its group, and two runs for its sources
  both_asked : AreFew n (one_if (is_some e.schedule.group_query) + 2 * one_if (is_some e.schedule.sources_due)) (sources_of e)
      (messages_due n timing now group e)
  unfolding over under
  both_asked =
      let asked = one_if (is_some e.schedule.group_query) in
      let named = 2 * one_if (is_some e.schedule.sources_due) in
      few_weaker n (asked + named) (asked + named) (0 + sources_of e) (sources_of e) (messages_due n timing now group e) (omega arith) (omega arith)
      (few_append n asked named 0 (sources_of e) (group_messages timing now group e) (source_messages n timing now group e)
      (asked_few e.schedule.group_query (is_ahead (lowered_to timing now) (group_deadline e.group.mode)))
      (sources_few e.schedule.sources_due))

  runs : ℕ
  runs = one_if (is_some e.schedule.group_query) + 2 * one_if (is_some e.schedule.sources_due)

  group_few : AreFew n (2 * schedules_of e) (sources_of e) (messages_due n timing now group e)
  unfolding runs
  group_few = few_weaker n runs (2 * schedules_of e) (sources_of e) (sources_of e) (messages_due n timing now group e) (omega arith) (omega arith) both_asked

  pub three_at_most : AreFew n 3 (sources_of e) (messages_due n timing now group e)
  unfolding runs
  three_at_most =
      let asked = one_at_most (is_some e.schedule.group_query) in
      let named = one_at_most (is_some e.schedule.sources_due) in
      few_weaker n runs 3 (sources_of e) (sources_of e) (messages_due n timing now group e) (omega (arith, asked, named)) (omega arith) both_asked

-- and all groups
all_few : (n : ℕ) → 0 < n → (timing : Timing) (now : ℕ) (es : List (ℕ × ScheduledGroup))
    → (let held = list_map (λ (e : ℕ × ScheduledGroup). e.1) es in
    AreFew n (2 * sum_by schedules_of held) (sum_by sources_of held) (flat_map (λ (e : ℕ × ScheduledGroup). messages_due n timing now e.0 e.1) es))
all_few n positive timing now [] = few_none n 0 0
all_few n positive timing now (e ∷ es) =
    let held = list_map (λ (e : ℕ × ScheduledGroup). e.1) es in
    let here = messages_due n timing now e.0 e.1 in
    let rest = flat_map (λ (e : ℕ × ScheduledGroup). messages_due n timing now e.0 e.1) es in
    let schedules = sum_by-cons schedules_of e.1 held in
    let sources = sum_by-cons sources_of e.1 held in
    few_weaker n (2 * schedules_of e.1 + 2 * sum_by schedules_of held) (2 * sum_by schedules_of (e.1 ∷ held))
    (sources_of e.1 + sum_by sources_of held) (sum_by sources_of (e.1 ∷ held))
    (here ++ rest) (omega (arith, schedules)) (omega (arith, sources))
    (few_append n (2 * schedules_of e.1) (2 * sum_by schedules_of held) (sources_of e.1) (sum_by sources_of held) here rest
    (group_few n positive timing now e.0 e.1) (all_few n positive timing now es))

pub some_held : (family : Family) → 0 < per_query family
some_held Igmp = omega arith
some_held Mld = omega arith

due_few : (family : Family) (timing : Timing) (now : ℕ) (groups : Groups) → AreFew (per_query family) (2 * schedules_in groups) (sources_in groups)
    (queries_due family timing now groups)
unfolding queries_due
due_few family timing now groups = all_few (per_query family) (some_held family) timing now (map.entries groups)

general_few : (n : ℕ) (configured : Timing) (now : ℕ) (e : ElectionState) → AreFew n 1 0 (general_messages configured now e)
general_few n configured now e = by_due (general_is_due now (returned configured now e).role)
  where
    by_due : (b : Bool) → AreFew n 1 0 (cond b (GeneralQuery ∷ []) [])
    by_due true = record { count = omega arith; named = omega arith }
    by_due false = few_none n 1 0

expired_within : (config : Configuration) (now : ℕ) (groups : Groups) → AreWithin config.limits groups → AreWithin config.limits (groups_expired now groups)
unfolding groups_expired
expired_within config now groups within = within-kept config.limits (λ _ e. if_held (group_expired now e)) groups (λ _ e. expired_no_more now e) within

-- a tick: a general query, two for each schedule, and a full one more for each so many sources
pub tick_few : (config : Configuration) (moment : ℕ) (state : LinkState) → AreWithin config.limits state.groups
    → AreFew (per_query config.family) (1 + 2 * config.limits.scheduled) config.limits.sources (tick_at config moment state).queries
tick_few config moment state within =
    let n = per_query config.family in
    let timing = (tick_at config moment state).timing in
    let groups = groups_expired moment state.groups in
    let left = expired_within config moment state.groups within in
    let scheduled = left.scheduled in
    let sources = left.sources in
    few_weaker n (1 + 2 * schedules_in groups) (1 + 2 * config.limits.scheduled) (0 + sources_in groups) config.limits.sources
    (tick_at config moment state).queries
    (omega (arith, scheduled)) (omega (arith, sources))
    (few_append n 1 (2 * schedules_in groups) 0 (sources_in groups) (general_messages config.timing moment state.election)
    (queries_due config.family timing moment groups)
    (general_few n config.timing moment state.election) (due_few config.family timing moment groups))
