-- The groups of a link while the due ones are served one after the other, by the listed numbers.
use Rattle.mq_link.proofs.Common.{◌≡◌, cond, ℕ, ◌+◌, ◌*◌, ◌<◌, ◌≤◌, Bool, true, false, refl, List, [], ◌∷◌, ◌++◌, length, take, drop, get_or, Option, None}
use Rattle.mq_link.proofs.Common.{Some, is_some, sym, ap, ◌∙◌, subst, arith, append-nil, list_map, All, sum_by, flat_map, option_map, option_and_then}
use Rattle.mq_link.proofs.Common.{unwrap_or, true≢false, false≢true, take_more, take_all, length-map, Spends, Spends-none, Spends-join_within, key_in, times}
use Rattle.mq_link.proofs.Common.{Timing, is_vacant, get-kept, same_sources, ScheduledGroup, SentQuery, messages_due, after_round, Sends, Sends-append}
use Rattle.mq_link.proofs.Common.{HeldState, HasNumber, IsNumber, is_vacant_at, addresses_due, has_due, Groups, AreServed, group_expired, groups_expired}
use Rattle.mq_link.proofs.Common.{groups_after_round}
use Rattle.std.specs.FinMap as map
use Rattle.std.proofs.lemmas.List.Concat.{flat_map-append}
use Rattle.mq_held.specs.Groups.{unheld, group_at, if_running, kept_as, sources_of, sources_in, without_vacant}
use Rattle.mq_link.proofs.{DueGroups.among_due, DueGroups.are_due, DueGroups.due_entries, DueGroups.not_due_passed, GroupNumbers.number_found}
use Rattle.mq_link.proofs.{GroupNumbers.is_number_stayed, GroupNumbers.stands_at, HeldAs.vacant_is, MadeEntries.round_keeps_vacant, Quiet.not_vacant}
use Rattle.mq_link.proofs.{ReplacedGroups.IsReplacedTo, ReplacedGroups.addresses_of, ReplacedGroups.among, ReplacedGroups.entry_at}
use Rattle.mq_link.proofs.{ReplacedGroups.entry_sources, ReplacedGroups.next_group, ReplacedGroups.number_at, ReplacedGroups.one_replaced}
use Rattle.mq_link.proofs.{ReplacedGroups.one_weighed, TickedEntries.ticked_group, TickedEntries.queries_at, TickedEntries.groups_ticked}

-- the entry put back for a served group
abbrev pub served_as : Timing → (now : ℕ) → ScheduledGroup → ScheduledGroup
served_as timing now e = kept_as (after_round timing now (group_expired now e))

-- The first i due groups are served: the groups left, the queries sent, and the comparisons, by the
-- sources that these groups had.
pub record AreTickedTo {S : Type 0} (takes : S → SentQuery → S → Type 0) (n : ℕ) (timing : Timing) (now : ℕ) (groups : Groups) (from_sink : S)
    (from_count : ℕ) (i : ℕ) (current : Groups) (sink : S) (count weight : ℕ) : Type 0 where
  pub done : IsReplacedTo (served_as timing now) groups (due_entries now groups) (are_due now groups) i current
  pub sent : Sends takes from_sink (flat_map (queries_at n timing now) (take i (due_entries now groups))) sink
  pub weight_is : weight + sum_by entry_sources (drop i (due_entries now groups)) ≤ sources_in groups
  pub weightless : i ≡ 0 → weight ≡ 0
  pub spent : Spends 0 (4 * weight + 26 * i) from_count count

module _ (n : ℕ) (timing : Timing) (now : ℕ) (groups : Groups) where
  -- before the first nothing is done
  pub none_ticked : {S : Type 0} (takes : S → SentQuery → S → Type 0) (sink : S) (count : ℕ) →
      AreTickedTo takes n timing now groups sink count 0 groups sink count 0
  none_ticked takes sink count = record {
    done = record { at = λ q. refl; len_is = refl };
    sent = refl;
    weight_is = let fewer = (are_due now groups).sources in omega arith;
    weightless = λ first. refl;
    spent = Spends-none count;
  }

  module _ {S : Type 0} (takes : S → SentQuery → S → Type 0) (from_sink : S) (from_count i : ℕ) (current : Groups) (sink : S) (count weight : ℕ)
      (so_far : AreTickedTo takes n timing now groups from_sink from_count i current sink count weight) (within : i < length (due_entries now groups)) where
    abbrev pub next : ℕ × ScheduledGroup
    next = entry_at (due_entries now groups) i

    -- the next is served too
    pub one_ticked : (after : Groups) (new_sink : S) (new_count digits : ℕ)
        → after ≡ map.insert current next.0 (served_as timing now (group_at current next.0))
        → Sends takes sink (messages_due n timing now next.0 (group_expired now (group_at current next.0))) new_sink
        → Spends 0 (4 * sources_of (group_at current next.0) + 10 + digits) count new_count → digits ≤ 16
        → AreTickedTo takes n timing now groups from_sink from_count (i + 1) after new_sink new_count (weight + sources_of next.1)
    one_ticked after new_sink new_count digits after_is sends counted few =
        let es = due_entries now groups in
        let same = next_group (served_as timing now) groups es (are_due now groups) i current so_far.done within in
        let size = ap sources_of same in
        let more : flat_map (queries_at n timing now) (take (i + 1) es) ≡ flat_map (queries_at n timing now) (take i es) ++ queries_at n timing now next =
        ap (flat_map (queries_at n timing now)) (take_more es i (0, unheld) within)
        ∙ flat_map-append (queries_at n timing now) (take i es) (next ∷ [])
        ∙ ap (λ (qs : List SentQuery). flat_map (queries_at n timing now) (take i es) ++ qs) (append-nil (queries_at n timing now next))
        in
        let sent = Sends-append takes from_sink sink new_sink (flat_map (queries_at n timing now) (take i es))
        (queries_at n timing now next) so_far.sent
        (subst (λ (e : ScheduledGroup). Sends takes sink (messages_due n timing now next.0 (group_expired now e)) new_sink) same sends) in
        record {
          done = one_replaced (served_as timing now) groups es (are_due now groups) i current so_far.done within after after_is;
          sent = subst (λ (qs : List SentQuery). Sends takes from_sink qs new_sink) (sym more) sent;
          weight_is = one_weighed (served_as timing now) groups es (are_due now groups) i current so_far.done within weight so_far.weight_is;
          weightless = λ first. absurd (omega arith);
          spent = Spends-join_within 0 (4 * (weight + sources_of next.1) + 26 * (i + 1)) so_far.spent counted (omega arith) (omega (arith, size, few));
        }

-- once all are served, and those that are vacant taken out, the groups are what a tick leaves
module _ (timing : Timing) (now room : ℕ) (groups : Groups) (are : AreServed room groups) (current : Groups) (i : ℕ)
    (done : IsReplacedTo (served_as timing now) groups (due_entries now groups) (are_due now groups) i current)
    (all : length (due_entries now groups) ≤ i) where
  pub replaced_at : (q : ℕ) → map.get current q ≡ cond (among (addresses_due now groups) q) (Some (served_as timing now (group_at groups q))) (map.get groups q)
  replaced_at q = done.at q ∙ ap (λ (ks : List ℕ). cond (among ks q) (Some (served_as timing now (group_at groups q))) (map.get groups q))
      (take_all i (addresses_of (due_entries now groups))
      (let l = length-map (due_entries now groups) (λ (e : ℕ × ScheduledGroup). e.0) in omega (arith, l, all)))

  running_left : (q : ℕ) (e : ScheduledGroup) → if_running q (served_as timing now e) ≡ ticked_group timing now q e
  running_left q e = by_vacant (is_vacant (after_round timing now (group_expired now e)).group) refl
    where
      left : ScheduledGroup
      left = after_round timing now (group_expired now e)

      by_vacant : (b : Bool) → is_vacant (after_round timing now (group_expired now e)).group ≡ b
          → if_running q (cond b unheld (after_round timing now (group_expired now e))) ≡ option_map (after_round timing now)
          (cond (is_vacant (group_expired now e).group) None (Some (group_expired now e)))
      by_vacant true is =
          ap (λ b. cond b None (Some unheld)) vacant_is
          ∙ ap (λ b. option_map (after_round timing now) (cond b None (Some (group_expired now e))))
          (sym is ∙ round_keeps_vacant timing now (group_expired now e))
      by_vacant false is =
          ap (λ b. cond b None (Some (after_round timing now (group_expired now e)))) is
          ∙ ap (λ b. option_map (after_round timing now) (cond b None (Some (group_expired now e))))
          (sym is ∙ round_keeps_vacant timing now (group_expired now e))

  one_left : (q : ℕ) (found : Option ScheduledGroup) → map.get groups q ≡ found
      → option_and_then (if_running q)
      (cond (is_some (option_and_then (λ e. cond (has_due now e) (Some e) None) found)) (Some (served_as timing now (unwrap_or found unheld))) found)
      ≡ option_and_then (ticked_group timing now q) found
  one_left q None is = refl
  one_left q (Some e) is = by_due (has_due now e) refl
    where
      by_due : (b : Bool) → has_due now e ≡ b →
          option_and_then (if_running q) (cond (is_some (cond b (Some e) None)) (Some (served_as timing now e)) (Some e)) ≡ ticked_group timing now q e
      by_due true due = running_left q e
      by_due false due =
          ap (λ b. cond b None (Some e)) (not_vacant e.group (are q e is).held)
          ∙ sym (not_due_passed now groups room 0 timing are q e is due).stays

  pub ticked_left : without_vacant current ≡ groups_after_round timing now (groups_expired now groups)
  ticked_left =
      same_sources _ _ (λ q.
      get-kept if_running current q
      ∙ ap (option_and_then (if_running q))
      (replaced_at q ∙ ap (λ b. cond b (Some (served_as timing now (group_at groups q))) (map.get groups q)) (among_due now groups q))
      ∙ one_left q (map.get groups q) refl
      ∙ sym (get-kept (ticked_group timing now) groups q))
      ∙ sym (groups_ticked timing now groups)

  -- a group that is vacant then is one of those that were served
  pub vacant_served : (q : ℕ) → map.contains_key groups q ≡ true → is_vacant (group_at current q).group ≡ true → among (addresses_due now groups) q ≡ true
  vacant_served q held vacant = by_test (among (addresses_due now groups) q) refl
    where
      by_found : (found : Option ScheduledGroup) → map.get groups q ≡ found → is_some found ≡ true → is_vacant (unwrap_or found unheld).group ≡ true → ⊥
      by_found None is some here = false≢true some
      by_found (Some e) is some here = true≢false (sym here ∙ not_vacant e.group (are q e is).held)

      by_test : (b : Bool) → among (addresses_due now groups) q ≡ b → b ≡ true
      by_test true is = refl
      by_test false is =
          let same : map.get current q ≡ map.get groups q = replaced_at q ∙
          ap (λ b. cond b (Some (served_as timing now (group_at groups q))) (map.get groups q)) is in
          absurd (by_found (map.get groups q) refl held (ap (λ (e : Option ScheduledGroup). is_vacant (unwrap_or e unheld).group) (sym same) ∙ vacant))

  -- so it is one of the listed numbers
  pub vacant_named : (old now_held : HeldState) (numbers : List ℕ) → old.groups ≡ groups → now_held.groups ≡ current → now_held.order ≡ old.order
      → All (IsNumber old) numbers → list_map (key_in old.order.items) numbers ≡ addresses_due now groups
      → ((a n : ℕ) → HasNumber old a n → map.contains_key old.groups a ≡ true) → ((a m n : ℕ) → HasNumber old a m → HasNumber old a n → m ≡ n)
      → (n : ℕ) → IsNumber now_held n → is_vacant_at now_held n ≡ true → 1 ≤ times n numbers
  vacant_named old now_held numbers groups_are current_is order_is named same of_one one n is vacant =
      let q = key_in old.order.items n in
      let has = number_found old n (is_number_stayed old now_held n order_is is) in
      let held = ap (λ (m : Groups). map.contains_key m q) (sym groups_are) ∙ of_one q n has in
      let rests : is_vacant (group_at current q).group ≡ true = (λ i. is_vacant (group_at (sym current_is i) (key_in (sym order_is i).items n)).group)
      ∙ vacant in
      let found = number_at (key_in old.order.items) numbers (due_entries now groups) same q (vacant_served q held rests) in
      let k = get_or numbers found.0 0 in
      let other = subst (λ a. HasNumber old a k) found.2 (number_found old k (named found.0 0 found.1)) in
      stands_at numbers found.0 n found.1 (one q k n other has)
