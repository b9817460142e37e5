-- Sources that are collected for messages, and what a sink gets of them.
use Rattle.mq_sched.proofs.Common.{◌≡◌, ℕ, ◌+◌, ◌-◌, ◌<◌, Bool, true, false, not, ◌&&◌, cond, ltb, List, [], ◌∷◌, ◌++◌, filter, length, take, drop, get_or}
use Rattle.mq_sched.proofs.Common.{Some, refl, arith, sym, ap, ◌∙◌, subst, list_map, slice_range, list_any, append_assoc, append-nil, drop-drop}
use Rattle.mq_sched.proofs.Common.{take-append-drop, map-append, length-map, length_push, drop_more, filter-append, Timing, ◌∩◌, ◌∖◌, GroupState, is_ahead}
use Rattle.mq_sched.proofs.Common.{deadline_of, retransmissions_of, lowered_to, has_retransmissions, above, or_none, filter_in_row, SentQuery, SourcesQuery}
use Rattle.mq_sched.proofs.Common.{sources_where}
use Rattle.mq_sched.proofs.Common.{sources_queries, waiting_messages, Sends, SendsOn, goes_with, going_with}
use Rattle.mq_sets.specs.Ascending.{IsAscending}
use Rattle.mq_table.specs.{declared.sources.Source.Source, RetransmissionPlaces.item_has_retransmissions, RetransmissionPlaces.PassesBetween, Stored.number_in}
use Rattle.mq_table.specs.Stored.{timers_in}
use Rattle.mq_sched.proofs.InPortions.{first_portion}
use Rattle.std.specs.FinMap as map

-- some queries, and then others
pub Sends-append : {S : Type 0} (takes : S → SentQuery → S → Type 0) (old between new : S) (queries more : List SentQuery) →
    Sends takes old queries between → Sends takes between more new → Sends takes old (queries ++ more) new
Sends-append takes old between new [] more first second = subst (λ s. Sends takes s more new) (sym first) second
Sends-append takes old between new (query ∷ queries) more first second = (first.0, first.1, Sends-append takes first.0 between new queries more first.2 second)

module _ {K : Type 0} (number : K → ℕ) (n group : ℕ) (suppress : Bool) where
  -- a message that becomes full is the first that goes
  full_message : (items : List K) (source : K) (rest : List ℕ) → 0 < n → length items + 1 ≡ n →
      sources_queries n group suppress (list_map number items ++ (number source ∷ rest))
      ≡ SourcesQuery group suppress (list_map number (items ++ source ∷ [])) ∷ sources_queries n group suppress rest
  full_message items source rest positive full =
      let portion : List ℕ = list_map number (items ++ source ∷ []) in
      let put : list_map number items ++ (number source ∷ rest) ≡ portion ++
      rest = sym (append_assoc (list_map number items) (number source ∷ []) rest) ∙ ap (λ xs. xs ++ rest) (sym (map-append number items (source ∷ []))) in
      let long : length portion ≡ n = length-map (items ++ source ∷ []) number ∙ length_push items source ∙ full in
      ap (λ xs. sources_queries n group suppress xs) put ∙ ap (list_map (SourcesQuery group suppress)) (first_portion n portion rest positive long)

  -- it goes, and the others are still to be sent
  pub full_is_sent : {S : Type 0} (takes : S → SentQuery → S → Type 0) (old new : S) (items pushed left : List K) (source : K) (rest : List ℕ) →
      0 < n → pushed ≡ items ++ source ∷ [] → length pushed ≡ n → left ≡ []
      → Sends takes old (SourcesQuery group suppress (list_map number pushed) ∷ []) new
      → SendsOn takes old (sources_queries n group suppress (list_map number items ++ (number source ∷ rest))) new
      (sources_queries n group suppress (list_map number left ++ rest))
  full_is_sent {S = S} takes old new items pushed left source rest positive is_pushed full empty sent end later =
      let length_is : length items + 1 ≡ n = sym (length_push items source) ∙ ap length (sym is_pushed) ∙ full in
      let first : Sends takes old (SourcesQuery group suppress (list_map number (items ++ source ∷ [])) ∷ []) new =
      subst (λ xs. Sends takes old (SourcesQuery group suppress (list_map number xs) ∷ []) new) is_pushed sent in
      let second : Sends takes new (sources_queries n group suppress rest) end =
      subst (λ xs. Sends takes new (sources_queries n group suppress (list_map number xs ++ rest)) end) empty later in
      subst (λ queries. Sends takes old queries end) (sym (full_message items source rest positive length_is))
      (Sends-append takes old new end (SourcesQuery group suppress (list_map number (items ++ source ∷ [])) ∷ [])
      (sources_queries n group suppress rest) first second)

  -- a message that isn't full waits
  pub waits : {S : Type 0} (takes : S → SentQuery → S → Type 0) (sink : S) (items pushed : List K) (source : K) (rest : List ℕ) → pushed ≡ items ++ source ∷ []
      → SendsOn takes sink (sources_queries n group suppress (list_map number items ++ (number source ∷ rest))) sink
      (sources_queries n group suppress (list_map number pushed ++ rest))
  waits takes sink items pushed source rest is_pushed end later =
      subst (λ xs. Sends takes sink (sources_queries n group suppress xs) end)
      (ap (λ xs. list_map number xs ++ rest) is_pushed ∙ ap (λ xs. xs ++ rest) (map-append number items (source ∷ [])) ∙
      append_assoc (list_map number items) (number source ∷ []) rest) later

-- the sources that go, one on
module _ {K : Type 0} (number : K → ℕ) (limit : ℕ) (suppress : Bool) (row : List (Source K)) (place : ℕ) (held : Source K) (within : place < length row)
    (is_held : held ≡ get_or row place held) where
  front : going_with number limit suppress (drop place row) ≡ going_with number limit suppress (held ∷ drop (place + 1) row)
  front = ap (going_with number limit suppress) (drop_more row place held within ∙ ap (λ x. x ∷ drop (place + 1) row) (sym is_held))

  pub going_more : goes_with limit suppress held ≡ true → going_with number limit suppress (drop place row)
      ≡ number held.address ∷ going_with number limit suppress (drop (place + 1) row)
  going_more goes = front ∙
      ap (λ b. list_map (number_in number)
      (cond b (held ∷ filter (goes_with limit suppress) (drop (place + 1) row)) (filter (goes_with limit suppress) (drop (place + 1) row)))) goes

  pub going_same : goes_with limit suppress held ≡ false → going_with number limit suppress (drop place row)
      ≡ going_with number limit suppress (drop (place + 1) row)
  going_same stays = front ∙
      ap (λ b. list_map (number_in number)
      (cond b (held ∷ filter (goes_with limit suppress) (drop (place + 1) row)) (filter (goes_with limit suppress) (drop (place + 1) row)))) stays

-- where no source has a retransmission to go, none goes
none_goes : {K : Type 0} (limit : ℕ) (suppress : Bool) (xs : List (Source K)) → list_any item_has_retransmissions xs ≡ false →
    filter (goes_with limit suppress) xs ≡ []
none_goes limit suppress [] none = refl
none_goes limit suppress (x ∷ xs) none =
    let parts = or_none (item_has_retransmissions x) (list_any item_has_retransmissions xs) none in
    rw (stays suppress parts.0) (none_goes limit suppress xs parts.1)
  where
    stays : (b : Bool) → item_has_retransmissions x ≡ false → goes_with limit b x ≡ false
    stays true is = ap (λ t. t && is_ahead limit (deadline_of (Some x.timer))) is
    stays false is = ap (λ t. t && not (is_ahead limit (deadline_of (Some x.timer)))) is

-- so those of a part go, if no other source has a retransmission left
pub going_between : {K : Type 0} (number : K → ℕ) (limit : ℕ) (suppress : Bool) (row : List (Source K)) (first end : ℕ) →
    PassesBetween item_has_retransmissions first end row → going_with number limit suppress (slice_range row first end) ≡ going_with number limit suppress row
going_between {K = K} number limit suppress row first end between =
    let goes : Source K → Bool = goes_with limit suppress in
    let part : List (Source K) = slice_range row first end in
    let behind : drop (end - first) (drop first row) ≡ drop end row = drop-drop (end - first) first row ∙
    ap (λ n. drop n row) (omega (arith, between.ordered)) in
    let split : take first row ++ (part ++ drop end row) ≡ row = ap (λ ys. take first row ++ (part ++ ys)) (sym behind) ∙
    ap (λ ys. take first row ++ ys) (take-append-drop (end - first) (drop first row)) ∙ take-append-drop first row in
    let apart : filter goes (take first row ++ (part ++ drop end row)) ≡ filter goes part =
    filter-append goes (take first row) (part ++ drop end row)
    ∙ ap (λ ys. ys ++ filter goes (part ++ drop end row)) (none_goes limit suppress (take first row) between.none_before)
    ∙ filter-append goes part (drop end row)
    ∙ ap (λ ys. filter goes part ++ ys) (none_goes limit suppress (drop end row) between.none_behind)
    ∙ append-nil (filter goes part) in
    ap (list_map (number_in number)) (sym apart ∙ ap (filter goes) split)

-- The sources of a group that go with either flag are those of its list that do.
module _ {K : Type 0} (number : K → ℕ) (timing : Timing) (now : ℕ) (g : GroupState) (row : List (Source K)) (up : IsAscending (number_in number) row)
    (is : timers_in number row ≡ g.sources) where
  set_of_row : going_with number (lowered_to timing now) true row ≡ sources_where (has_retransmissions g ∩ above timing now g) g
  set_of_row =
      sym (filter_in_row number (λ s timer. ltb 0 (retransmissions_of timer) && is_ahead (lowered_to timing now) (deadline_of timer)) row up)
      ∙ ap (λ m. filter (λ s. ltb 0 (retransmissions_of (map.get m s)) && is_ahead (lowered_to timing now) (deadline_of (map.get m s))) (map.keys m)) is

  clear_of_row : going_with number (lowered_to timing now) false row ≡ sources_where (has_retransmissions g ∖ above timing now g) g
  clear_of_row =
      sym (filter_in_row number (λ s timer. ltb 0 (retransmissions_of timer) && not (is_ahead (lowered_to timing now) (deadline_of timer))) row up)
      ∙ ap (λ m. filter (λ s. ltb 0 (retransmissions_of (map.get m s)) && not (is_ahead (lowered_to timing now) (deadline_of (map.get m s)))) (map.keys m)) is

-- so what was sent for both is what waits
pub waiting_are_sent : {S K : Type 0} (takes : S → SentQuery → S → Type 0) (old between new : S) (number : K → ℕ) (n : ℕ) (timing : Timing)
    (now group : ℕ) (g : GroupState) (limit : ℕ) (row : List (Source K))
    → limit ≡ lowered_to timing now → IsAscending (number_in number) row → timers_in number row ≡ g.sources
    → Sends takes old (sources_queries n group true (going_with number limit true row)) between →
    Sends takes between (sources_queries n group false (going_with number limit false row)) new
    → Sends takes old (waiting_messages n timing now group g) new
waiting_are_sent takes old between new number n timing now group g limit row is_limit up is first second =
    let set_first : going_with number limit true row ≡ sources_where (has_retransmissions g ∩ above timing now g) g =
    ap (λ l. going_with number l true row) is_limit ∙ set_of_row number timing now g row up is in
    let then_clear : going_with number limit false row ≡ sources_where (has_retransmissions g ∖ above timing now g) g =
    ap (λ l. going_with number l false row) is_limit ∙ clear_of_row number timing now g row up is in
    Sends-append takes old between new _ _
    (subst (λ xs. Sends takes old (sources_queries n group true xs) between) set_first first)
    (subst (λ xs. Sends takes between (sources_queries n group false xs) new) then_clear second)
