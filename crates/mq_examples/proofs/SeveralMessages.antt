-- A sending in several messages, for any sources: what the worked examples of it are made of.
use Rattle.mq_examples.proofs.Common.{◌≡◌, ◌<◌, ℕ, zero, suc, ◌+◌, true, false, refl, List, [], ◌∷◌, length, None, Some, Ok, ap, ◌∙◌, arith, replicate}
use Rattle.mq_examples.proofs.Common.{list_map, is_sorted, below_all, count_by, nat_cmp, is_lt, T, Family, ReportMessage, Include, SourceTimer, Running}
use Rattle.mq_examples.proofs.Common.{default_timing, until, SentQuery, GeneralQuery, sources_queries, Limits, Taken, per_query, Envelope, Configuration, Step}
use Rattle.mq_examples.proofs.Common.{ListedLink, listed, listed_due, early, after, querier, saying, sources_from, each_as, having_sent, HandsAll, TicksSending}
use Rattle.mq_examples.proofs.Common.{Reports, outgoing}
use Rattle.mq_count.specs.Streams.{counted_on}
use Rattle.mq_held.proofs.Sorted.{both}
use Rattle.mq_examples.proofs.{KnownLinks.KnownStep, KnownLinks.as_step, KnownLinks.tick-known, KnownReceipts.as_receipt, KnownReceipts.receipt-known}
use Rattle.mq_examples.proofs.{Alike.Ascend, AlikeGroups.all_as, AlikeGroups.stays, AlikeGroups.goes, AlikeGroups.sends, AlikeGroups.counts}
use Rattle.mq_examples.proofs.AlikeLinks.{one, plain, Suits, all_allowed, all_blocked, reported, tick-one, tick-gone}

-- sources in a row ascend
is_below : (x y : ℕ) → x < y → T (is_lt (nat_cmp x y))
is_below x y h1 = grind arith

below_from : (timer : SourceTimer) (x first count : ℕ) → x < first → T (below_all nat_cmp x (each_as timer (sources_from first count)))
below_from timer x first zero below = tt
below_from timer x first (suc count) below = both (is_lt (nat_cmp x first)) (below_all nat_cmp x (each_as timer (sources_from (first + 1) count)))
    (is_below x first below) (below_from timer x (first + 1) count (omega arith))

pub ascend_from : (first count : ℕ) → Ascend (sources_from first count)
unfolding Ascend
ascend_from first zero timer = tt
ascend_from first (suc count) timer = both (below_all nat_cmp first (each_as timer (sources_from (first + 1) count)))
    (is_sorted nat_cmp (each_as timer (sources_from (first + 1) count))) (below_from timer first (first + 1) count (omega arith))
    (ascend_from (first + 1) count timer)

-- how long these messages are, and how many have been sent with them
abbrev pub lengths_in : Configuration → List SentQuery → List ℕ
lengths_in config queries = list_map (λ message. length message.bytes) (list_map (outgoing config default_timing) queries)

abbrev pub sent_with : (before : ℕ) → List SentQuery → ℕ
sent_with before queries = counted_on before (count_by (λ b. b) (replicate (length queries) true))

-- a step that is known
hands : (config : Configuration) (step : Step) (s : KnownStep) (queries : List SentQuery) (lengths : List ℕ) (sent : ℕ) (after : ListedLink) →
    step ≡ as_step s → s.queries ≡ queries → s.timing ≡ default_timing → s.link.groups ≡ after.groups → s.link.election ≡ after.election →
    s.link.last ≡ after.last → lengths_in config queries ≡ lengths → sent_with s.link.counters.sent queries ≡ sent →
    HandsAll config step queries lengths sent after
hands config step s queries lengths sent after is qs timing groups election last long count = grind arith

-- The router begins with a general query. Then they are all allowed at 1000, blocked at 2000, asked for then and at 3000,
-- and gone at 4000.
pub at_0 : (family : Family) (limits : Limits) (own : ℕ) (lengths : List ℕ) → lengths_in (plain family limits own) (GeneralQuery ∷ []) ≡ lengths →
    TicksSending (plain family limits own) 0 (after 0 (querier 0 2) []) (GeneralQuery ∷ []) lengths 1 (early 0 [])
at_0 family limits own lengths long = hands (plain family limits own) _ _ (GeneralQuery ∷ []) lengths 1 (early 0 [])
    (tick-known (plain family limits own) 0 (after 0 (querier 0 2) [])) refl refl refl refl refl long refl

pub at_1000 : (family : Family) (limits : Limits) (own : ℕ) (envelope : Envelope) (group s : ℕ) (ss : List ℕ) →
    Suits family limits own envelope group (s ∷ ss) → Reports (plain family limits own) envelope (saying group 5 (s ∷ ss) ∷ []) 1000
    (having_sent 1 (early 0 [])) (Taken 1 0 0) [] [] 1 (early 1000 ((group, listed Include (each_as (until 261000) (s ∷ ss))) ∷ []))
at_1000 family limits own envelope group s ss suits =
    let is = receipt-known (plain family limits own) envelope (Ok (ReportMessage (saying group 5 (s ∷ ss) ∷ []))) 1000 (having_sent 1 (early 0 [])) ∙
    ap as_receipt (reported family limits own envelope 1000 _ (having_sent 1 (early 0 [])) (saying group 5 (s ∷ ss)) [] _ []
    (suits.taken (saying group 5 (s ∷ ss))) refl (all_allowed family limits own envelope 1000 group s ss suits)) in
    record {
      answer_is = ap (λ r. r.answer) is;
      hands = hands (plain family limits own) _ _ [] [] 1 (early 1000 ((group, listed Include (each_as (until 261000) (s ∷ ss))) ∷ []))
          (ap (λ r. r.step) is) refl refl refl refl refl refl refl;
    }

pub at_2000 : (family : Family) (limits : Limits) (own : ℕ) (envelope : Envelope) (group s : ℕ) (ss : List ℕ) (queries : List SentQuery)
    (lengths : List ℕ) (sent : ℕ) → Suits family limits own envelope group (s ∷ ss) → sources_queries (per_query family) group false (s ∷ ss)
    ≡ queries → lengths_in (plain family limits own) queries ≡ lengths → sent_with 1 queries ≡ sent →
    Reports (plain family limits own) envelope (saying group 6 (s ∷ ss) ∷ []) 2000
    (having_sent 1 (early 1000 ((group, listed Include (each_as (until 261000) (s ∷ ss))) ∷ []))) (Taken 1 0 0) queries lengths sent
    (early 2000 ((group, listed_due Include (each_as (Running 4000 1) (s ∷ ss)) None (Some 3000)) ∷ []))
at_2000 family limits own envelope group s ss queries lengths sent suits qs long count =
    let before = having_sent 1 (early 1000 ((group, listed Include (each_as (until 261000) (s ∷ ss))) ∷ [])) in
    let quiet = tick-one family limits own 2000 before group (all_as (Running 261000 0) None (s ∷ ss)) (all_as (Running 261000 0) None (s ∷ ss))
    (all_as (Running 261000 0) None (s ∷ ss)) [] refl (stays 2000 261000 0 None s ss suits.ascend refl) refl refl in
    let is = receipt-known (plain family limits own) envelope (Ok (ReportMessage (saying group 6 (s ∷ ss) ∷ []))) 2000 before ∙
    ap as_receipt (reported family limits own envelope 2000 _ before (saying group 6 (s ∷ ss))
    (one group (all_as (Running 261000 0) None (s ∷ ss))) _ _ (suits.taken (saying group 6 (s ∷ ss))) quiet
    (all_blocked family limits own envelope 2000 261000 group s ss suits refl)) in
    record {
      answer_is = ap (λ r. r.answer) is;
      hands = hands (plain family limits own) _ _ queries lengths sent
          (early 2000 ((group, listed_due Include (each_as (Running 4000 1) (s ∷ ss)) None (Some 3000)) ∷ []))
          (ap (λ r. r.step) is) qs refl refl refl refl long count;
    }

pub at_3000 : (family : Family) (limits : Limits) (own group s : ℕ) (ss : List ℕ) (queries : List SentQuery) (lengths : List ℕ) (before sent : ℕ) →
    Ascend (s ∷ ss) → sources_queries (per_query family) group false (s ∷ ss) ≡ queries → lengths_in (plain family limits own) queries ≡ lengths →
    sent_with before queries ≡ sent → TicksSending (plain family limits own) 3000
    (having_sent before (early 2000 ((group, listed_due Include (each_as (Running 4000 1) (s ∷ ss)) None (Some 3000)) ∷ []))) queries lengths sent
    (early 3000 ((group, listed Include (each_as (until 4000) (s ∷ ss))) ∷ []))
at_3000 family limits own group s ss queries lengths before sent ascend qs long count =
    let l = having_sent before (early 2000 ((group, listed_due Include (each_as (Running 4000 1) (s ∷ ss)) None (Some 3000)) ∷ [])) in
    let is = tick-known (plain family limits own) 3000 l ∙
    ap as_step (tick-one family limits own 3000 l group (all_as (Running 4000 1) (Some 3000) (s ∷ ss)) (all_as (Running 4000 1) (Some 3000) (s ∷ ss))
    (all_as (Running 4000 0) None (s ∷ ss)) (sources_queries (per_query family) group false (s ∷ ss)) refl
    (stays 3000 4000 1 (Some 3000) s ss ascend refl) (counts 3000 4000 1 3000 s ss ascend refl)
    (sends (per_query family) 3000 group 4000 1 3000 (s ∷ ss) ascend refl refl refl)) in
    hands (plain family limits own) _ _ queries lengths sent (early 3000 ((group, listed Include (each_as (until 4000) (s ∷ ss))) ∷ [])) is qs refl
    refl refl refl long count

pub at_4000 : (family : Family) (limits : Limits) (own group s : ℕ) (ss : List ℕ) (sent : ℕ) → Ascend (s ∷ ss) → sent_with sent [] ≡ sent →
    TicksSending (plain family limits own) 4000 (having_sent sent (early 3000 ((group, listed Include (each_as (until 4000) (s ∷ ss))) ∷ []))) [] []
    sent (early 4000 [])
at_4000 family limits own group s ss sent ascend count =
    let l = having_sent sent (early 3000 ((group, listed Include (each_as (until 4000) (s ∷ ss))) ∷ [])) in
    let is = tick-known (plain family limits own) 4000 l ∙
    ap as_step (tick-gone family limits own 4000 l group (all_as (Running 4000 0) None (s ∷ ss)) refl (goes 4000 4000 0 None (s ∷ ss) ascend refl)) in
    hands (plain family limits own) _ _ [] [] sent (early 4000 []) is refl refl refl refl refl refl count
