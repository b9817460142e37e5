-- The sources of a query ascend.
use Rattle.mq_laws.proofs.Common.{ℕ, zero, suc, ◌+◌, ◌<◌, Bool, true, false, cond, ◌&&◌, List, [], ◌∷◌, ◌++◌, length, drop, arith, add-one, ◌≡◌, take}
use Rattle.mq_laws.proofs.Common.{length-drop, nat_tests, length-take, get_or-take, get_or-drop, FinMap, is_sorted, nat_cmp, is_lt, list_map, GroupState}
use Rattle.mq_laws.proofs.Common.{group_deadline, is_ahead, lowered_to, has_retransmissions, above, Set, ◌∩◌, ◌∖◌, Timing, ScheduledGroup, SentQuery}
use Rattle.mq_laws.proofs.Common.{GroupQuery}
use Rattle.mq_laws.proofs.Common.{SourcesQuery, is_due, group_due, sources_where, sources_queries, source_messages, group_messages, messages_due, AscendIn}
use Rattle.std.{proofs.lemmas.List.Kept.IsStrictlyIncreasing-filter, specs.List.Sorted.IsStrictlyIncreasing}
use lib.Dec.{T}
use Rattle.mq_sched.specs.Portions.{portions_within}
use Rattle.std.specs.FinMap as map

-- a part of an ascending list ascends
pub increasing-take : (n : ℕ) (xs : List ℕ) → IsStrictlyIncreasing xs → IsStrictlyIncreasing (take n xs)
increasing-take n xs up k within =
    let in_run : k + 1 < n = omega (arith, within, length-take n xs) in
    let in_list : k + 1 < length xs = omega (arith, within, length-take n xs) in
    let first : k < n = omega arith in
    rw (get_or-take n xs k 0 first, get_or-take n xs (k + 1) 0 in_run) (up k in_list)

pub increasing-drop : (n : ℕ) (xs : List ℕ) → IsStrictlyIncreasing xs → IsStrictlyIncreasing (drop n xs)
increasing-drop n xs up k within =
    let in_list : n + k + 1 < length xs = omega (arith, within, length-drop n xs) in
    let next : n + (k + 1) ≡ n + k + 1 = omega arith in
    rw (get_or-drop n xs k 0, get_or-drop n xs (k + 1) 0, next) (up (n + k) in_list)

first_part : (a b : Bool) → T (a && b) → T a
first_part a b h1 = grind arith

second_part : (a b : Bool) → T (a && b) → T b
second_part a b h1 = grind arith

below : (x y : ℕ) → T (is_lt (nat_cmp x y)) → x < y
below x y h = grind (arith, nat_tests)

increasing : {X : Type 0} (es : List (ℕ × X)) → T (is_sorted nat_cmp es) → IsStrictlyIncreasing (list_map (λ e. e.0) es)
increasing (e ∷ f ∷ es) h zero lt = below e.0 f.0 (first_part _ _ (first_part _ _ h))
increasing (e ∷ f ∷ es) h (suc k) lt =
    let shorter : k + 1 < length (list_map (λ e. e.0) (f ∷ es)) = omega arith in rw add-one (rw add-one at (increasing (f ∷ es) (second_part _ _ h) k shorter))
increasing _ h k lt = absurd (omega arith)

pub keys_ascend : {X : Type 0} (m : FinMap nat_cmp X) → IsStrictlyIncreasing (map.keys m)
keys_ascend m = increasing (map.entries m) (map.entries_sorted m)

ascend_append : (xs ys : List SentQuery) → AscendIn xs → AscendIn ys → AscendIn (xs ++ ys)
ascend_append [] ys a b = b
ascend_append (SourcesQuery g f ss ∷ xs) ys a b = (a.0, a.1, ascend_append xs ys a.2 b)
ascend_append (_ ∷ xs) ys a b = ascend_append xs ys a b

ascend_portions : (most n group : ℕ) (suppress : Bool) (xs : List ℕ) → 0 < n → IsStrictlyIncreasing xs
    → AscendIn (list_map (SourcesQuery group suppress) (portions_within most n xs))
ascend_portions most n group suppress [] positive up = tt
ascend_portions zero n group suppress (x ∷ xs) positive up = tt
ascend_portions (suc most) n group suppress (x ∷ xs) positive up = (
  omega (arith, length-take n (x ∷ xs)),
  increasing-take n (x ∷ xs) up,
  ascend_portions most n group suppress (drop n (x ∷ xs)) positive (increasing-drop n (x ∷ xs) up),
)

-- a round has queries or it has none
ascend_if : (b : Bool) (queries : List SentQuery) → AscendIn queries → AscendIn (cond b queries [])
ascend_if b queries h1 = grind arith

ascend_where : (n group : ℕ) (suppress : Bool) (test : Set) (g : GroupState) → 0 < n → AscendIn (sources_queries n group suppress (sources_where test g))
ascend_where n group suppress test g positive = ascend_portions (length (sources_where test g)) n group suppress (sources_where test g) positive
    (IsStrictlyIncreasing-filter test (map.keys g.sources) (keys_ascend g.sources))

pub messages_ascend : (n : ℕ) (timing : Timing) (now group : ℕ) (e : ScheduledGroup) → 0 < n → AscendIn (messages_due n timing now group e)
messages_ascend n timing now group e positive =
    let g = e.group in
    ascend_append (group_messages timing now group e) (source_messages n timing now group e)
    (ascend_if (is_due now (group_due e.schedule.group_query)) (GroupQuery group (is_ahead (lowered_to timing now) (group_deadline g.mode)) ∷ []) tt)
    (ascend_if (is_due now e.schedule.sources_due) _
    (ascend_append (sources_queries n group true (sources_where (has_retransmissions g ∩ above timing now g) g))
    (sources_queries n group false (sources_where (has_retransmissions g ∖ above timing now g) g))
    (ascend_where n group true (has_retransmissions g ∩ above timing now g) g positive)
    (ascend_where n group false (has_retransmissions g ∖ above timing now g) g positive)))
