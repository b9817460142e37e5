-- Maps in which each value is replaced and none is left out.
use Rattle.mq_link.proofs.Common.{◌≡◌, ℕ, ◌-◌, ◌+◌, Bool, true, false, cond, is_some, List, [], ◌∷◌, length, refl, sym, ap, ◌∙◌, Option, None, Some, ltb, eqb}
use Rattle.mq_link.proofs.Common.{◌&&◌, arith, nat_tests, list_map, option_and_then, list_any, nat_cmp, FinMap, Source, kept, SourceTimer, Stopped, Running}
use Rattle.mq_link.proofs.Common.{GroupState, is_vacant, is_include, retransmissions_of, some_source, has_retransmissions, source_counted}
use Rattle.mq_link.proofs.Common.{retransmissions_counted, number_in}
use Rattle.mq_link.proofs.Common.{timers_in, size_of, get-kept, Timing, ScheduledGroup, is_due, sources_due_next, after_round, IsAscending}
use Rattle.std.specs.FinMap as map
use Rattle.mq_table.proofs.Rows.{any_in_row}
use Rattle.mq_link.proofs.Entries.{filtered, entries-kept}

module _ {X : Type 0} (f : ℕ → X → X) where
  keys-filtered : (es : List (ℕ × X)) → list_map (λ (e : ℕ × X). e.0) (filtered (λ k x. Some (f k x)) es) ≡ list_map (λ (e : ℕ × X). e.0) es
  keys-filtered [] = refl
  keys-filtered (e ∷ es) = ap (λ ks. e.0 ∷ ks) (keys-filtered es)

  length-filtered : (es : List (ℕ × X)) → length (filtered (λ k x. Some (f k x)) es) ≡ length es
  length-filtered [] = refl
  length-filtered (e ∷ es) = let rest = length-filtered es in omega arith

  pub keys-made : (m : FinMap nat_cmp X) → map.keys (kept (λ k x. Some (f k x)) m) ≡ map.keys m
  keys-made m = ap (list_map (λ (e : ℕ × X). e.0)) (entries-kept (λ k x. Some (f k x)) m) ∙ keys-filtered (map.entries m)

  pub len-made : (m : FinMap nat_cmp X) → map.len (kept (λ k x. Some (f k x)) m) ≡ map.len m
  len-made m =
      map.len-entries (kept (λ k x. Some (f k x)) m)
      ∙ ap length (entries-kept (λ k x. Some (f k x)) m)
      ∙ length-filtered (map.entries m)
      ∙ sym (map.len-entries m)

-- a source with a retransmission after a count had one more before it
more_than_one : (timer : Option SourceTimer) → ltb 0 (retransmissions_of (option_and_then (λ t. Some (source_counted t)) timer))
    ≡ ltb 1 (retransmissions_of timer)
more_than_one None = refl
more_than_one (Some Stopped) = refl
more_than_one (Some (Running d n)) = fewer n
  where
    fewer : (n : ℕ) → ltb 0 (n - 1) ≡ ltb 1 n
    fewer n = grind (arith, nat_tests)

-- the sources of a group have retransmissions to go after a count where one has another beside the next
pub some_after_count : {K : Type 0} (number : K → ℕ) (g : GroupState) (row : List (Source K)) → IsAscending (number_in number) row →
    timers_in number row ≡ g.sources → some_source (has_retransmissions (retransmissions_counted g)) (retransmissions_counted g)
    ≡ list_any (λ (x : Source K). ltb 1 (retransmissions_of (Some x.timer))) row
some_after_count number g row up is =
    ap (list_any (has_retransmissions (retransmissions_counted g))) (keys-made (λ s timer. source_counted timer) g.sources)
    ∙ (λ i. list_any (λ s. test s i) (map.keys g.sources))
    ∙ ap (λ (m : FinMap nat_cmp SourceTimer). list_any (λ s. ltb 1 (retransmissions_of (map.get m s))) (map.keys m)) (sym is)
    ∙ any_in_row number (λ s timer. ltb 1 (retransmissions_of timer)) row up
  where
    test : (s : ℕ) → has_retransmissions (retransmissions_counted g) s ≡ ltb 1 (retransmissions_of (map.get g.sources s))
    test s = ap (λ timer. ltb 0 (retransmissions_of timer)) (get-kept (λ s timer. Some (source_counted timer)) g.sources s) ∙
        more_than_one (map.get g.sources s)

-- the test whether sources that are due in a round are due again after it
pub due_again : (timing : Timing) (now : ℕ) (g : GroupState) (due : Option ℕ) (some : Bool) → is_due now due ≡ true →
    some_source (has_retransmissions (retransmissions_counted g)) (retransmissions_counted g) ≡ some →
    some ≡ is_some (cond (is_due now due) (sources_due_next timing now (cond (is_due now due) (retransmissions_counted g) g)) due)
due_again timing now g due some is same =
    sym same
    ∙ by_some (some_source (has_retransmissions (retransmissions_counted g)) (retransmissions_counted g))
    ∙ ap (λ b. is_some (cond b (sources_due_next timing now (cond b (retransmissions_counted g) g)) due)) (sym is)
  where
    by_some : (b : Bool) → b ≡ is_some (cond b (Some (now + timing.last_member_interval)) None)
    by_some true = refl
    by_some false = refl

-- a round leaves a group as many sources as it has, and its mode
pub round_keeps_size : (timing : Timing) (now : ℕ) (e : ScheduledGroup) → size_of (after_round timing now e).group ≡ size_of e.group
round_keeps_size timing now e = by_due (is_due now e.schedule.sources_due)
  where
    by_due : (b : Bool) → size_of (cond b (retransmissions_counted e.group) e.group) ≡ size_of e.group
    by_due true = len-made (λ s timer. source_counted timer) e.group.sources
    by_due false = refl

pub round_keeps_vacant : (timing : Timing) (now : ℕ) (e : ScheduledGroup) → is_vacant (after_round timing now e).group ≡ is_vacant e.group
round_keeps_vacant timing now e = by_due (is_due now e.schedule.sources_due)
  where
    by_due : (b : Bool) → is_vacant (cond b (retransmissions_counted e.group) e.group) ≡ is_vacant e.group
    by_due true = ap (λ n. is_include e.group.mode && eqb n 0) (len-made (λ s timer. source_counted timer) e.group.sources)
    by_due false = refl
