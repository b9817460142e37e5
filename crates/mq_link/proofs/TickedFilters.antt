-- The groups that a tick changes: those that are due and have another filter once they are served.
use Rattle.std.proofs.Common.{◌≡◌, ◌==◌, ℕ, ◌+◌, ◌<◌, ◌≤◌, Bool, true, false, cond, ◌&&◌, List, [], ◌∷◌, ◌++◌, length, take, filter, get_or, Option}
use Rattle.mq_link.proofs.Common.{None, Some, refl, sym, ap, ◌∙◌, subst, arith, append-nil, and-true, list_map, then_some, option_map, option_and_then}
use Rattle.mq_link.proofs.Common.{unwrap_or, nat_cmp_total, eqb-true, and_right, map-append, take_all, take_more, get_or-map, length-map, length-take}
use Rattle.mq_link.proofs.Common.{filter-append, AllPairs-filter, IsAscending, set_of, Timing, is_vacant, filter_of, changes_filter, get-kept, ScheduledGroup}
use Rattle.mq_link.proofs.Common.{unheld, group_at, if_running, kept_as, without_vacant, addresses_due, ties, AreThose, changes, AreServed, Groups}
use Rattle.std.specs.FinMap as map
use Rattle.std.proofs.lemmas.Map.Views.{any-filter_same}
use Rattle.mq_link.proofs.{DueGroups.are_due, DueGroups.due_entries, HeldAs.vacant_is, KeptFilters.alike_after, KeptFilters.kept_filter, KeptFilters.unchanged}
use Rattle.mq_link.proofs.{ReplacedGroups.IsReplacedTo, ReplacedGroups.among, ReplacedGroups.entry_at, ReplacedGroups.next_group, ReplacedGroups.next_held}
use Rattle.mq_link.proofs.{TickedNumbers.replaced_at, TickedNumbers.served_as}

group_put : (groups : Groups) (address : ℕ) (e : ScheduledGroup) → group_at (map.insert groups address e) address ≡ e
group_put groups address e =
    ap (λ (found : Option ScheduledGroup). unwrap_or found unheld)
    (map.get-insert nat_cmp_total groups address e address ∙ ap (λ b. cond b (Some e) (map.get groups address)) (ties address address refl))

-- a group that is put back is changed where what is put back has another filter
pub put_changes : (groups after : Groups) (address : ℕ) (e : ScheduledGroup) → after ≡ map.insert groups address (kept_as e)
    → changes groups after address ≡ changes_filter (group_at groups address).group e.group
put_changes groups after address e is =
    ap (λ (m : Groups). changes groups m address) is
    ∙ alike_after (group_at groups address).group (group_at (map.insert groups address (kept_as e)) address).group e.group
    (ap (λ (x : ScheduledGroup). filter_of x.group) (group_put groups address (kept_as e)) ∙ kept_filter e)

-- its address is answered then
pub named_where : {K : Type 0} (number : K → ℕ) (key : K) (address : ℕ) (answer test : Bool) → number key ≡ address → answer ≡ test →
    option_map number (then_some answer key) ≡ cond test (Some address) None
named_where number key address true test is same = ap Some is ∙ ap (λ b. cond b (Some address) None) same
named_where number key address false test is same = ap (λ b. cond b (Some address) None) same

-- the test whether a due group changes as it is served
abbrev pub turned : Timing → (now : ℕ) → Groups → (address : ℕ) → Bool
turned timing now groups address = let e = group_at groups address in changes_filter e.group (served_as timing now e).group

-- the keys of those so far, with one more where there is an answer
abbrev pub with_answer : {K : Type 0} → List K → Option K → List K
with_answer named None = named
with_answer named (Some key) = named ++ key ∷ []

-- no more pass a test than there are
few_pass : (test : ℕ → Bool) (ks : List ℕ) → length (filter test ks) ≤ length ks
few_pass test [] = omega arith
few_pass test (k ∷ ks) = by_test (test k) (few_pass test ks)
  where
    by_test : (b : Bool) → length (filter test ks) ≤ length ks → length (cond b (k ∷ filter test ks) (filter test ks)) ≤ length (k ∷ ks)
    by_test true few = omega (arith, few)
    by_test false few = omega (arith, few)

-- a group once the vacant ones are removed
group_left : (groups : Groups) (address : ℕ) → group_at (without_vacant groups) address ≡ kept_as (group_at groups address)
group_left groups address = ap (λ (found : Option ScheduledGroup). unwrap_or found unheld) (get-kept if_running groups address) ∙
    by_found (map.get groups address)
  where
    by_test : (e : ScheduledGroup) (b : Bool) → unwrap_or (cond b None (Some e)) unheld ≡ cond b unheld e
    by_test e true = refl
    by_test e false = refl

    by_found : (found : Option ScheduledGroup) → unwrap_or (option_and_then (if_running address) found) unheld ≡ kept_as (unwrap_or found unheld)
    by_found None = sym (ap (λ b. cond b unheld unheld) vacant_is)
    by_found (Some e) = by_test e (is_vacant e.group)

module _ (timing : Timing) (now : ℕ) (groups : Groups) where
  -- those of the first i that do
  abbrev pub turned_to : (i : ℕ) → List ℕ
  turned_to i = filter (turned timing now groups) (take i (addresses_due now groups))

  module _ (i : ℕ) (within : i < length (due_entries now groups)) where
    abbrev next : ℕ × ScheduledGroup
    next = entry_at (due_entries now groups) i

    pub turned_more : turned_to (i + 1) ≡ turned_to i ++ filter (turned timing now groups) (next.0 ∷ [])
    turned_more =
        let addresses = addresses_due now groups in
        let size = length-map (due_entries now groups) (λ (e : ℕ × ScheduledGroup). e.0) in
        ap (filter (turned timing now groups)) (take_more addresses i 0 (omega (arith, size, within)))
        ∙ filter-append (turned timing now groups) (take i addresses) (get_or addresses i 0 ∷ [])
        ∙ ap (λ n. turned_to i ++ filter (turned timing now groups) (n ∷ []))
        (get_or-map (λ (e : ℕ × ScheduledGroup). e.0) (due_entries now groups) i (0, unheld) 0 within)

    module _ (current after : Groups) (done : IsReplacedTo (served_as timing now) groups (due_entries now groups) (are_due now groups) i current)
        (put : after ≡ map.insert current next.0 (served_as timing now (group_at current next.0))) where
      -- the next changes what is left of those before it where it changes what they all were
      next_changes : changes current after next.0 ≡ turned timing now groups next.0
      next_changes =
          let es = due_entries now groups in
          let same = next_group (served_as timing now) groups es (are_due now groups) i current done within ∙
          sym (next_held (served_as timing now) groups es (are_due now groups) i current done within) in
          ap (λ (m : Groups). changes current m next.0) put
          ∙ ap (λ (e : ScheduledGroup). changes_filter (group_at current next.0).group e.group)
          (group_put current next.0 (served_as timing now (group_at current next.0)))
          ∙ ap (λ (e : ScheduledGroup). changes_filter e.group (served_as timing now e).group) same

      -- then its address is one more
      pub one_turned : {K : Type 0} (number : K → ℕ) (answer : Option K) (named more : List K) →
          option_map number answer ≡ cond (changes current after next.0) (Some next.0) None
          → list_map number named ≡ turned_to i → more ≡ with_answer named answer → list_map number more ≡ turned_to (i + 1)
      one_turned {K = K} number answer named more is so_far more_is =
          ap (list_map number) more_is
          ∙ by_answer answer (is ∙ ap (λ b. cond b (Some next.0) None) next_changes)
          ∙ sym turned_more
        where
          by_test : (b : Bool) (key : ℕ) → Some key ≡ cond b (Some next.0) None → key ∷ [] ≡ cond b (next.0 ∷ []) []
          by_test true key is = ap (λ (x : Option ℕ). unwrap_or x 0 ∷ []) is
          by_test false key is = cc

          by_none : (b : Bool) → ◌≡◌ {A = Option ℕ} None (cond b (Some next.0) None) → [] ≡ cond b (next.0 ∷ []) []
          by_none true is = cc
          by_none false is = refl

          by_answer : (answer : Option K) → option_map number answer ≡ cond (turned timing now groups next.0) (Some next.0) None
              → list_map number (with_answer named answer) ≡ turned_to i ++ filter (turned timing now groups) (next.0 ∷ [])
          by_answer None is = so_far ∙ sym (append-nil (turned_to i)) ∙ ap (λ (ks : List ℕ). turned_to i ++ ks) (by_none (turned timing now groups next.0) is)
          by_answer (Some key) is =
              map-append number named (key ∷ [])
              ∙ ap (λ (ks : List ℕ). ks ++ number key ∷ []) so_far
              ∙ ap (λ (ks : List ℕ). turned_to i ++ ks) (by_test (turned timing now groups next.0) (number key) is)

  -- they are no more than were served
  pub few_turned : (i : ℕ) → i ≤ length (due_entries now groups) → length (turned_to i) ≤ i
  few_turned i within =
      let size = length-map (due_entries now groups) (λ (e : ℕ × ScheduledGroup). e.0) in
      let some = length-take i (addresses_due now groups) in
      let fewer = few_pass (turned timing now groups) (take i (addresses_due now groups)) in
      omega (arith, within, size, some, fewer)

  -- once all are served, and those that are vacant taken out, they are all that the tick has changed
  module _ (room : ℕ) (are : AreServed room groups) (current : Groups) (i : ℕ)
      (done : IsReplacedTo (served_as timing now) groups (due_entries now groups) (are_due now groups) i current)
      (all : length (due_entries now groups) ≤ i) where
    changes_left : (address : ℕ) → changes groups (without_vacant current) address
        ≡ (turned timing now groups address && among (addresses_due now groups) address)
    changes_left address =
        let before = group_at groups address in
        alike_after before.group (group_at (without_vacant current) address).group (group_at current address).group
        (ap (λ (e : ScheduledGroup). filter_of e.group) (group_left current address) ∙ kept_filter (group_at current address))
        ∙ ap (λ (found : Option ScheduledGroup). changes_filter before.group (unwrap_or found unheld).group)
        (replaced_at timing now room groups are current i done all address)
        ∙ by_test (among (addresses_due now groups) address)
      where
        by_test : (b : Bool) →
            changes_filter (group_at groups address).group
            (unwrap_or (cond b (Some (served_as timing now (group_at groups address))) (map.get groups address)) unheld).group
            ≡ (turned timing now groups address && b)
        by_test true = sym (and-true (turned timing now groups address))
        by_test false = unchanged (group_at groups address).group ∙ sym (and_right (turned timing now groups address) false refl)

    pub those_turned : (after : Groups) (listed : List ℕ) → after ≡ without_vacant current → listed ≡ turned_to i → AreThose (changes groups after) listed
    those_turned after listed after_is listed_is =
        let addresses = addresses_due now groups in
        let size = length-map (due_entries now groups) (λ (e : ℕ × ScheduledGroup). e.0) in
        let is : listed ≡ filter (turned timing now groups) addresses = listed_is ∙
        ap (filter (turned timing now groups)) (take_all i addresses (omega (arith, size, all))) in
        record {
          ascending = subst (IsAscending (λ a. a)) (sym is)
              (AllPairs-filter (λ x y. x < y) (turned timing now groups) addresses (are_due now groups).ascending);
          each = λ address.
              ap (λ ks. set_of (λ a. a) ks address) is
              ∙ any-filter_same (λ k. k == address) (turned timing now groups) (turned timing now groups address)
              (λ k same. ap (turned timing now groups) (eqb-true k address same)) addresses
              ∙ sym (changes_left address)
              ∙ ap (λ (m : Groups). changes groups m address) (sym after_is);
        }

-- keys ascend where their numbers do
pub ascending_keys : {K : Type 0} (number : K → ℕ) (keys : List K) → IsAscending (λ a. a) (list_map number keys) → IsAscending number keys
ascending_keys number keys up i j d before within =
    let size = length-map keys number in
    let first = get_or-map number keys i d (number d) (omega (arith, before, within)) in
    let last = get_or-map number keys j d (number d) within in
    let rises = up i j (number d) before (omega (arith, within, size)) in
    omega (arith, first, last, rises)
