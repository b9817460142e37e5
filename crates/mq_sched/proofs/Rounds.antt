-- The sources that a round asks for, counts down and leaves.
use Rattle.mq_sched.proofs.Common.{◌≡◌, ℕ, ◌+◌, ◌-◌, ◌<◌, Bool, true, false, cond, not, ◌&&◌, ◌||◌, List, [], ◌∷◌, ◌++◌, filter, Option, None, Some, IfSome}
use Rattle.mq_sched.proofs.Common.{refl, sym, ap, ◌∙◌, arith, eqb, ltb, false≢true, true≢false, and_parts, eqb-true, ltb-true, ltb-false, leb-false, lt-leb}
use Rattle.mq_sched.proofs.Common.{list_map, list_any, concat, option_map, is_some, nat_cmp, unsigned_ties, FinMap, Timing, Set, SourceTimer, GroupState}
use Rattle.mq_sched.proofs.Common.{timer_at, deadline_of, retransmissions_of, get-kept, or_none, has_retransmissions, source_counted, retransmissions_counted}
use Rattle.mq_sched.proofs.Common.{QuerySchedule}
use Rattle.mq_sched.proofs.Common.{query_sendings, ScheduleState, ScheduledGroup, IsScheduleOf, SentQuery, GeneralQuery, GroupQuery, SourcesQuery, is_due}
use Rattle.mq_sched.proofs.Common.{group_due, sources_where, sources_queries, group_messages, source_messages, messages_due, group_counted, after_round}
use Rattle.mq_sched.proofs.Common.{portions_of, asked_in, asks_group, is_due_at, IsQuietAt}
use Rattle.mq_sched.proofs.InPortions.{together}
use Rattle.std.specs.FinMap as map

or-false : (b : Bool) → (b || false) ≡ b
or-false true = refl
or-false false = refl

or_assoc : (a b c : Bool) → ((a || b) || c) ≡ (a || (b || c))
or_assoc true b c = refl
or_assoc false b c = refl

asked_in-append : (xs ys : List SentQuery) (s : ℕ) → asked_in (xs ++ ys) s ≡ (asked_in xs s || asked_in ys s)
asked_in-append [] ys s = refl
asked_in-append (GeneralQuery ∷ xs) ys s = asked_in-append xs ys s
asked_in-append (GroupQuery g f ∷ xs) ys s = asked_in-append xs ys s
asked_in-append (SourcesQuery g f ss ∷ xs) ys s = ap (λ b. list_any (λ x. eqb s x) ss || b) (asked_in-append xs ys s) ∙
    sym (or_assoc (list_any (λ x. eqb s x) ss) (asked_in xs s) (asked_in ys s))

among-append : (xs ys : List ℕ) (s : ℕ) → list_any (λ x. eqb s x) (xs ++ ys) ≡ (list_any (λ x. eqb s x) xs || list_any (λ x. eqb s x) ys)
among-append [] ys s = refl
among-append (x ∷ xs) ys s = ap (λ b. eqb s x || b) (among-append xs ys s) ∙ sym (or_assoc (eqb s x) (list_any (λ x. eqb s x) xs) (list_any (λ x. eqb s x) ys))

asked_in-portions : (group : ℕ) (suppress : Bool) (portions : List (List ℕ)) (s : ℕ) → asked_in (list_map (SourcesQuery group suppress) portions) s
    ≡ list_any (λ x. eqb s x) (concat portions)
asked_in-portions group suppress [] s = refl
asked_in-portions group suppress (portion ∷ portions) s = ap (λ b. list_any (λ x. eqb s x) portion || b) (asked_in-portions group suppress portions s) ∙
    sym (among-append portion (concat portions) s)

asked_in-sources_queries : (n group : ℕ) (suppress : Bool) (xs : List ℕ) (s : ℕ) → 0 < n → asked_in (sources_queries n group suppress xs) s
    ≡ list_any (λ x. eqb s x) xs
asked_in-sources_queries n group suppress xs s positive = asked_in-portions group suppress (portions_of n xs) s ∙
    ap (list_any (λ x. eqb s x)) (together n xs positive)

-- a number is among those that pass a test where it passes and is among all
among-filter : (p : Set) (ks : List ℕ) (s : ℕ) → list_any (λ x. eqb s x) (filter p ks) ≡ (p s && list_any (λ x. eqb s x) ks)
among-filter p [] s = and-false (p s)
  where
    and-false : (b : Bool) → false ≡ (b && false)
    and-false true = refl
    and-false false = refl
among-filter p (k ∷ ks) s = front (p k) ∙ one_more (eqb s k) _ (p k) (p s) _ (λ e. ap p (sym (eqb-true s k e))) (among-filter p ks s)
  where
    front : (b : Bool) → list_any (λ x. eqb s x) (cond b (k ∷ filter p ks) (filter p ks)) ≡ cond b (eqb s k || list_any (λ x. eqb s x) (filter p ks))
        (list_any (λ x. eqb s x) (filter p ks))
    front true = refl
    front false = refl

    one_more : (t u at_k at_s rest : Bool) → (t ≡ true → at_k ≡ at_s) → u ≡ (at_s && rest) → cond at_k (t || u) u ≡ (at_s && (t || rest))
    one_more t u at_k at_s rest same is = grind arith

-- among the keys of a map is what it has
pub among-keys : {X : Type 0} (m : FinMap nat_cmp X) (s : ℕ) → list_any (λ x. eqb s x) (map.keys m) ≡ is_some (map.get m s)
among-keys m s = (λ i. list_any (λ x. unsigned_ties s x i) (map.keys m)) ∙ sym (map.contains_key-keys m s)

-- the sources of both queries of a round together are those that have a retransmission to go
both_queries : (t : Option SourceTimer) (some up : Bool) → (is_some t ≡ false → some ≡ false) →
    (((some && up) && is_some t) || ((some && not up) && is_some t)) ≡ some
both_queries t some up held = grind (arith, true≢false)

no_retransmissions : (t : Option SourceTimer) → is_some t ≡ false → ltb 0 (retransmissions_of t) ≡ false
no_retransmissions None e = refl
no_retransmissions (Some t) e = absurd (true≢false e)

asked_in-sources_where : (n group : ℕ) (suppress : Bool) (test : Set) (g : GroupState) (s : ℕ) → 0 < n →
    asked_in (sources_queries n group suppress (sources_where test g)) s ≡ (test s && is_some (timer_at g s))
asked_in-sources_where n group suppress test g s positive = grind (arith, asked_in-sources_queries, among-filter, among-keys)

asked_in-source_messages : (n : ℕ) (timing : Timing) (now group : ℕ) (e : ScheduledGroup) (s : ℕ) → 0 < n →
    asked_in (source_messages n timing now group e) s ≡ (is_due now e.schedule.sources_due && has_retransmissions e.group s)
asked_in-source_messages n timing now group e s positive = grind (arith, asked_in-append, asked_in-sources_where, both_queries, no_retransmissions)

asked_in-group_messages : (timing : Timing) (now group : ℕ) (e : ScheduledGroup) (s : ℕ) → asked_in (group_messages timing now group e) s ≡ false
asked_in-group_messages timing now group e s = grind arith

-- a round asks for the sources that have a retransmission to go, where they are due
pub asked_in-messages_due : (n : ℕ) (timing : Timing) (now group : ℕ) (e : ScheduledGroup) (s : ℕ) → 0 < n →
    asked_in (messages_due n timing now group e) s ≡ (is_due now e.schedule.sources_due && has_retransmissions e.group s)
asked_in-messages_due n timing now group e s positive = grind (arith, asked_in-append, asked_in-group_messages, asked_in-source_messages)

asks_group-append : (xs ys : List SentQuery) → asks_group (xs ++ ys) ≡ (asks_group xs || asks_group ys)
asks_group-append [] ys = refl
asks_group-append (GeneralQuery ∷ xs) ys = asks_group-append xs ys
asks_group-append (GroupQuery g f ∷ xs) ys = refl
asks_group-append (SourcesQuery g f ss ∷ xs) ys = asks_group-append xs ys

no_group_query : (group : ℕ) (suppress : Bool) (portions : List (List ℕ)) → asks_group (list_map (SourcesQuery group suppress) portions) ≡ false
no_group_query group suppress [] = refl
no_group_query group suppress (portion ∷ portions) = no_group_query group suppress portions

-- a round asks the group where its query is due
pub asks_group-messages_due : (n : ℕ) (timing : Timing) (now group : ℕ) (e : ScheduledGroup) → asks_group (messages_due n timing now group e)
    ≡ is_due now (group_due e.schedule.group_query)
asks_group-messages_due n timing now group e = grind (arith, asks_group-append, or-false, no_group_query)

abbrev group_after : Bool → GroupState → GroupState
group_after due g = cond due (retransmissions_counted g) g

-- the new timer of a source after a round
pub timer_at-after_round : (timing : Timing) (now : ℕ) (e : ScheduledGroup) (s : ℕ) → timer_at (after_round timing now e).group s
    ≡ cond (is_due now e.schedule.sources_due) (option_map source_counted (timer_at e.group s)) (timer_at e.group s)
timer_at-after_round timing now e s = grind (arith, get-kept)

one_fewer : (t : Option SourceTimer) → ltb 0 (retransmissions_of t) ≡ true → retransmissions_of (option_map source_counted t) + 1 ≡ retransmissions_of t
one_fewer t e = grind (arith, false≢true, ltb-true)

none_fewer : (t : Option SourceTimer) → ltb 0 (retransmissions_of t) ≡ false → option_map source_counted t ≡ t
none_fewer t e = grind (arith, ltb-false)

same_deadline : (b : Bool) (t : Option SourceTimer) → deadline_of (cond b (option_map source_counted t) t) ≡ deadline_of t
same_deadline b t = grind arith

-- a source that a round asks for has one retransmission fewer
pub counted_down : (n : ℕ) (timing : Timing) (now group : ℕ) (e : ScheduledGroup) (s : ℕ) → 0 < n → asked_in (messages_due n timing now group e) s
    ≡ true → retransmissions_of (timer_at (after_round timing now e).group s) + 1 ≡ retransmissions_of (timer_at e.group s)
counted_down n timing now group e s positive asked =
    let parts = and_parts _ _ (sym (asked_in-messages_due n timing now group e s positive) ∙ asked) in
    ap (λ t. retransmissions_of t + 1)
    (timer_at-after_round timing now e s ∙ ap (λ b. cond b (option_map source_counted (timer_at e.group s)) (timer_at e.group s)) parts.0)
    ∙ one_fewer (timer_at e.group s) parts.1

-- and any other is unchanged
pub others_stay : (n : ℕ) (timing : Timing) (now group : ℕ) (e : ScheduledGroup) (s : ℕ) → 0 < n → asked_in (messages_due n timing now group e) s
    ≡ false → timer_at (after_round timing now e).group s ≡ timer_at e.group s
others_stay n timing now group e s positive unasked =
    timer_at-after_round timing now e s ∙ by_due (is_due now e.schedule.sources_due) (sym (asked_in-messages_due n timing now group e s positive) ∙ unasked)
  where
    by_due : (b : Bool) → (b && has_retransmissions e.group s) ≡ false → cond b (option_map source_counted (timer_at e.group s)) (timer_at e.group s)
        ≡ timer_at e.group s
    by_due true is = none_fewer (timer_at e.group s) is
    by_due false is = refl

pub deadlines_stay : (timing : Timing) (now : ℕ) (e : ScheduledGroup) (s : ℕ) → deadline_of (timer_at (after_round timing now e).group s)
    ≡ deadline_of (timer_at e.group s)
deadlines_stay timing now e s = ap deadline_of (timer_at-after_round timing now e s) ∙ same_deadline (is_due now e.schedule.sources_due) (timer_at e.group s)

group_one_fewer : (timing : Timing) (now : ℕ) (q : Option QuerySchedule) → IfSome q (λ q. 0 < q.sendings) → is_due now (group_due q) ≡ true →
    query_sendings (group_counted timing now q) + 1 ≡ query_sendings q
group_one_fewer timing now q some due = grind (arith, false≢true, ltb-true, ltb-false)

pub group_counted_down : (n : ℕ) (timing : Timing) (now group : ℕ) (e : ScheduledGroup) → IsScheduleOf e.group e.schedule →
    asks_group (messages_due n timing now group e) ≡ true → query_sendings (after_round timing now e).schedule.group_query + 1
    ≡ query_sendings e.schedule.group_query
group_counted_down n timing now group e fits asked = group_one_fewer timing now e.schedule.group_query fits.group_sendings
    (sym (asks_group-messages_due n timing now group e) ∙ asked)

pub group_stays : (n : ℕ) (timing : Timing) (now group : ℕ) (e : ScheduledGroup) → asks_group (messages_due n timing now group e) ≡ false →
    (after_round timing now e).schedule.group_query ≡ e.schedule.group_query
group_stays n timing now group e unasked = grind (arith, asks_group-messages_due)

-- nothing is due after a round
pub quiet_after_round : (timing : Timing) (now : ℕ) (e : ScheduledGroup) → 0 < timing.last_member_interval → IsQuietAt now (after_round timing now e).schedule
quiet_after_round timing now e positive = grind (arith, leb-false)

-- a quiet schedule isn't due
pub group_not_due : (now : ℕ) (q : Option QuerySchedule) → IfSome q (λ q. now < q.due) → is_due now (group_due q) ≡ false
group_not_due now None h = refl
group_not_due now (Some q) h = lt-leb q.due now h

not_due : (now : ℕ) (due : Option ℕ) → IfSome due (λ due. now < due) → is_due now due ≡ false
not_due now None h = refl
not_due now (Some due) h = lt-leb due now h

-- so it sends nothing
pub quiet_is_silent : (n : ℕ) (timing : Timing) (now group : ℕ) (e : ScheduledGroup) → IsQuietAt now e.schedule → messages_due n timing now group e ≡ []
quiet_is_silent n timing now group e quiet = grind (arith, group_not_due, not_due)

-- and stays as it is
pub same_count : (timing : Timing) (now : ℕ) (q : Option QuerySchedule) → IfSome q (λ q. now < q.due) → group_counted timing now q ≡ q
same_count timing now None h = refl
same_count timing now (Some q) h =
    ap (λ b. cond b (cond (ltb 1 q.sendings) (Some (record { sendings = q.sendings - 1; due = now + timing.last_member_interval })) None) (Some q))
    (lt-leb q.due now h)

pub same_round : (timing : Timing) (now : ℕ) (e : ScheduledGroup) → IsQuietAt now e.schedule → after_round timing now e ≡ e
same_round timing now e h = grind (arith, not_due, same_count)

-- where nothing is due
pub quiet_by : (now : ℕ) (schedule : ScheduleState) → is_due_at now schedule ≡ false → IsQuietAt now schedule
quiet_by now schedule none = grind (arith, or_none, leb-false)
