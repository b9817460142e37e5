-- Groups whose sources all have one timer, after a record, a round and the end of timers.
use Rattle.mq_examples.proofs.Common.{◌≡◌, ℕ, ◌+◌, ◌-◌, Bool, true, false, cond, not, ◌&&◌, refl, List, [], ◌∷◌, ◌++◌, length, Option, None, Some, ap, ◌∙◌, ltb}
use Rattle.mq_examples.proofs.Common.{leb, eqb, suc, arith, filter, nat_cmp, list_any, find, nat_tests, Allow, Block, Include, SourceTimer, Running}
use Rattle.mq_examples.proofs.Common.{default_timing, Set, lowered_to, is_running, is_ahead, deadline_of, retransmissions_of, source_asked, source_counted}
use Rattle.mq_examples.proofs.Common.{no_schedule, sources_queries, each_as, Entries, kept_in, source_expired}
use Rattle.mq_examples.proofs.KnownGroups.{Known, nothing_known, timer_in, ascending, any_retransmission, settled_in, is_empty, expired_in, named_in, rule_of}
use Rattle.mq_examples.proofs.{KnownGroups.change_in, KnownSendings.asked_in, KnownSendings.changed_in, KnownSendings.sent_in, KnownSendings.round_in}
use Rattle.mq_examples.proofs.Alike.{Ascend, Each, the_first, timer-each, count-each, kept-each, kept-none, ruled_anew, ruled_again, any-first, any-none}
use Rattle.mq_examples.proofs.Alike.{filter-all, filter-none}

-- INCLUDE of these sources, all with this timer, which are due at a moment or not at all
abbrev pub all_as : SourceTimer → Option ℕ → List ℕ → Known
all_as timer due ss = record {
  mode = Include;
  sources = each_as timer ss;
  v1 = None;
  v2 = None;
  schedule = record { group_query = None; sources_due = due };
}

-- the test for a retransmission left
pub any_retransmission-each : (deadline retransmissions s : ℕ) (ss : List ℕ) → Ascend (s ∷ ss) →
    (let es = each_as (Running deadline retransmissions) (s ∷ ss) in any_retransmission (ascending es) (timer_in es) ≡ ltb 0 retransmissions)
any_retransmission-each deadline retransmissions s ss ascend = by_test (ltb 0 retransmissions) refl
  where
    has : ℕ → Bool
    has q = ltb 0 (retransmissions_of (find nat_cmp q (each_as (Running deadline retransmissions) (s ∷ ss))))

    each : (b : Bool) → ltb 0 retransmissions ≡ b → Each (λ q. has q ≡ b) (s ∷ ss)
    each b is q named = ap (λ timer. ltb 0 (retransmissions_of timer)) (timer-each (Running deadline retransmissions) (s ∷ ss) q named) ∙ is

    by_test : (b : Bool) → ltb 0 retransmissions ≡ b → list_any has (ascending (each_as (Running deadline retransmissions) (s ∷ ss))) ≡ b
    by_test true is = any-first has (Running deadline retransmissions) s ss ascend (the_first s ss (each true is))
    by_test false is = any-none has (Running deadline retransmissions) (s ∷ ss) ascend (each false is)

pub some_left : (n : ℕ) → eqb (suc n) 0 ≡ false
some_left n = grind (arith, nat_tests)

-- The end of timers that run on leaves the group, and it drops a moment for which there is nothing to send.
pub stays : (now deadline retransmissions : ℕ) (due : Option ℕ) (s : ℕ) (ss : List ℕ) → Ascend (s ∷ ss) → ltb now deadline ≡ true →
    expired_in now (all_as (Running deadline retransmissions) due (s ∷ ss))
    ≡ Some (all_as (Running deadline retransmissions) (cond (ltb 0 retransmissions) due None) (s ∷ ss))
stays now deadline retransmissions due s ss ascend ahead =
    ap left (kept-each (λ q. source_expired Include now) (Running deadline retransmissions) (Running deadline retransmissions)
    (s ∷ ss) ascend (λ q named. ap (λ b. cond b (Some (Running deadline retransmissions)) None) ahead))
    ∙ (λ i. cond (eqb (count-each (Running deadline retransmissions) (s ∷ ss) ascend i) 0) None
    (Some (all_as (Running deadline retransmissions) (cond (any_retransmission-each deadline retransmissions s ss ascend i) due None) (s ∷ ss))))
    ∙ ap (λ b. cond b None (Some (all_as (Running deadline retransmissions) (cond (ltb 0 retransmissions) due None) (s ∷ ss)))) (some_left (length ss))
  where
    left : Entries SourceTimer → Option Known
    left es =
        let k : Known = record {
          mode = Include;
          sources = es;
          v1 = None;
          v2 = None;
          schedule =
              settled_in Include es (record { group_query = None; sources_due = due });
        } in
        cond (is_empty k) None (Some k)

-- Where they have run out, the group goes.
pub goes : (now deadline retransmissions : ℕ) (due : Option ℕ) (ss : List ℕ) → Ascend ss → ltb now deadline ≡ false →
    expired_in now (all_as (Running deadline retransmissions) due ss) ≡ None
goes now deadline retransmissions due ss ascend over =
    ap left (kept-none (λ q. source_expired Include now) (Running deadline retransmissions) ss ascend
    (λ q named. ap (λ b. cond b (Some (Running deadline retransmissions)) None) over))
  where
    left : Entries SourceTimer → Option Known
    left es =
        let k : Known = record {
          mode = Include;
          sources = es;
          v1 = None;
          v2 = None;
          schedule =
              settled_in Include es (record { group_query = None; sources_due = due });
        } in
        cond (is_empty k) None (Some k)

-- A round that is due sends them all with S clear, where they don't run for longer than the last member query time, and
-- counts each down.
pub sends : (per_query now group deadline retransmissions due : ℕ) (ss : List ℕ) → Ascend ss → leb due now ≡ true → ltb 0 retransmissions ≡ true →
    ltb (lowered_to default_timing now) deadline ≡ false →
    sent_in per_query default_timing now group (all_as (Running deadline retransmissions) (Some due) ss) ≡ sources_queries per_query group false ss
sends per_query now group deadline retransmissions due ss ascend is_due to_go low =
    ap (λ b. cond b (sources_queries per_query group true suppressing ++ sources_queries per_query group false clear) []) is_due
    ∙ (λ i. sources_queries per_query group true (none i) ++ sources_queries per_query group false (all i))
  where
    timer : ℕ → Option SourceTimer
    timer q = find nat_cmp q (each_as (Running deadline retransmissions) ss)

    is_above : ℕ → Bool
    is_above q = is_ahead (lowered_to default_timing now) (deadline_of (timer q))

    suppressing : List ℕ
    suppressing = filter (λ q. ltb 0 (retransmissions_of (timer q)) && is_above q) (ascending (each_as (Running deadline retransmissions) ss))

    clear : List ℕ
    clear = filter (λ q. ltb 0 (retransmissions_of (timer q)) && not (is_above q)) (ascending (each_as (Running deadline retransmissions) ss))

    none : suppressing ≡ []
    none = filter-none _ (Running deadline retransmissions) ss ascend
        (λ q named. (λ i. ltb 0 (retransmissions_of (timer-each (Running deadline retransmissions) ss q named i)) && is_ahead (lowered_to default_timing now)
        (deadline_of (timer-each (Running deadline retransmissions) ss q named i))) ∙ (λ i. to_go i && low i))

    all : clear ≡ ss
    all = filter-all _ (Running deadline retransmissions) ss ascend
        (λ q named. (λ i. ltb 0 (retransmissions_of (timer-each (Running deadline retransmissions) ss q named i)) && not
        (is_ahead (lowered_to default_timing now) (deadline_of (timer-each (Running deadline retransmissions) ss q named i)))) ∙ (λ i. to_go i && not (low i)))

pub counts : (now deadline retransmissions due s : ℕ) (ss : List ℕ) → Ascend (s ∷ ss) → leb due now ≡ true →
    round_in default_timing now (all_as (Running deadline retransmissions) (Some due) (s ∷ ss)) ≡ all_as (Running deadline (retransmissions - 1))
    (cond (ltb 0 (retransmissions - 1)) (Some (now + 1000)) None) (s ∷ ss)
counts now deadline retransmissions due s ss ascend is_due =
    ap (λ b. cond b (left (kept_in (λ q timer. Some (source_counted timer)) (each_as (Running deadline retransmissions) (s ∷ ss))))
    (all_as (Running deadline retransmissions) (Some due) (s ∷ ss))) is_due
    ∙ ap left (kept-each (λ q timer. Some (source_counted timer)) (Running deadline retransmissions) (Running deadline (retransmissions - 1))
    (s ∷ ss) ascend (λ q named. refl))
    ∙ ap (λ b. all_as (Running deadline (retransmissions - 1)) (cond b (Some (now + 1000)) None) (s ∷ ss))
    (any_retransmission-each deadline (retransmissions - 1) s ss ascend)
  where
    left : Entries SourceTimer → Known
    left es = record {
      mode = Include;
      sources = es;
      v1 = None;
      v2 = None;
      schedule = record { group_query = None; sources_due = cond (any_retransmission (ascending es) (timer_in es)) (Some (now + 1000)) None };
    }

-- the group that a change has left, once a querier has asked
asked_after : ℕ → (query : Set) → Entries SourceTimer → Known
asked_after now query es =
    asked_in default_timing now query (record { mode = Include; sources = es; v1 = None; v2 = None; schedule = settled_in Include es no_schedule })

-- Where a record blocks them all, each is lowered and asked for.
pub blocked : (now deadline s : ℕ) (ss : List ℕ) → Ascend (s ∷ ss) → ltb (lowered_to default_timing now) deadline ≡ true →
    changed_in true default_timing now (change_in default_timing now (all_as (Running deadline 0) None (s ∷ ss)) Block (s ∷ ss)) no_schedule
    ≡ all_as (Running (lowered_to default_timing now) 2) (Some now) (s ∷ ss)
unfolding asked_after
blocked now deadline s ss ascend above =
    ap (asked_after now query) (ruled_again rule (Running deadline 0) (Running deadline 0)
    (s ∷ ss) ascend (λ q named. ap (λ (t : Option SourceTimer). rule_of default_timing now Include Block (λ _. t) (named_in (s ∷ ss)) q)
    (timer-each (Running deadline 0) (s ∷ ss) q named))) ∙ (λ i. record {
      mode = Include;
      sources = kept-each (λ q timer. Some (cond (query q) (source_asked (lowered_to default_timing now) 2 timer) timer)) (Running deadline 0)
          (Running (lowered_to default_timing now) 2) (s ∷ ss) ascend each_asked i;
      v1 = None;
      v2 = None;
      schedule = record {
        group_query = None;
        sources_due =
            cond (any-first (λ q. query q && is_ahead (lowered_to default_timing now) (deadline_of (timer q)))
            (Running deadline 0) s ss ascend (the_first s ss each_above) i) (Some now) (cond (any_retransmission-each deadline 0 s ss ascend i) None None);
      };
    })
  where
    timer : ℕ → Option SourceTimer
    timer q = find nat_cmp q (each_as (Running deadline 0) (s ∷ ss))

    rule : ℕ → Option SourceTimer
    rule = rule_of default_timing now Include Block timer (named_in (s ∷ ss))

    query : Set
    query q = is_running (timer q) && named_in (s ∷ ss) q

    is_asked : Each (λ q. query q ≡ true) (s ∷ ss)
    is_asked q named = λ i. is_running (timer-each (Running deadline 0) (s ∷ ss) q named i) && named i

    each_asked : Each (λ q. ◌≡◌ {A = Option SourceTimer}
        (Some (cond (query q) (source_asked (lowered_to default_timing now) 2 (Running deadline 0)) (Running deadline 0)))
        (Some (Running (lowered_to default_timing now) 2))) (s ∷ ss)
    each_asked q named =
        λ i. Some (cond (is_asked q named i) (cond (above i) (Running (lowered_to default_timing now) 2) (Running deadline 0)) (Running deadline 0))

    each_above : Each (λ q. (query q && is_ahead (lowered_to default_timing now) (deadline_of (timer q))) ≡ true) (s ∷ ss)
    each_above q named =
        (λ i. is_asked q named i && is_ahead (lowered_to default_timing now) (deadline_of (timer-each (Running deadline 0) (s ∷ ss) q named i))) ∙ above

-- Where a record allows them all, and none was there, each runs for a group membership interval.
pub allowed : (now s : ℕ) (ss : List ℕ) → Ascend (s ∷ ss) →
    changed_in true default_timing now (change_in default_timing now nothing_known Allow (s ∷ ss)) no_schedule ≡ all_as (Running (now + 260000) 0) None (s ∷ ss)
unfolding asked_after
allowed now s ss ascend =
    ap (asked_after now (λ _. false)) (ruled_anew rule (Running (now + 260000) 0)
    (s ∷ ss) ascend (λ q named. ap (λ (b : Bool). rule_of default_timing now Include Allow (timer_in []) (λ _. b) q) named)) ∙ (λ i. record {
      mode = Include;
      sources = kept-each (λ q timer. Some timer) (Running (now + 260000) 0) (Running (now + 260000) 0) (s ∷ ss) ascend (λ q named. refl) i;
      v1 = None;
      v2 = None;
      schedule = record {
        group_query = None;
        sources_due =
            cond (any-none (λ q. false) (Running (now + 260000) 0) (s ∷ ss) ascend (λ q named. refl) i) (Some now)
            (cond (any_retransmission-each (now + 260000) 0 s ss ascend i) None None);
      };
    })
  where
    rule : ℕ → Option SourceTimer
    rule = rule_of default_timing now Include Allow (timer_in []) (named_in (s ∷ ss))
