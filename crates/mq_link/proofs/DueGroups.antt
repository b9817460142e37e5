-- The entries of the groups that have a moment at or before a given one, and facts about the others.
use Rattle.mq_link.proofs.Common.{◌≡◌, ◌==◌, cond, ℕ, zero, suc, ◌+◌, ◌<◌, ◌≤◌, Bool, true, false, ◌||◌, not, refl, List, [], ◌∷◌, ◌++◌, length, Option, None}
use Rattle.mq_link.proofs.Common.{Some, IfSome, is_some, sym, ap, ◌∙◌, subst, arith, leb, list_map, option_and_then, nat_cmp, eq_by_cmp, FinMap, true≢false}
use Rattle.mq_link.proofs.Common.{eq-eqb, ne_eqb, nat_tests, sum_by-cons, IsAscending, Timing, is_vacant, with_entry, kept, get-kept, ScheduledGroup, SentQuery}
use Rattle.mq_link.proofs.Common.{running_in, sources_of, has_due, addresses_due, due_in, tied, ties, Groups, AreServed}
use Rattle.std.specs.List.{list_any, sum_by, count_by, filter, flat_map}
use Rattle.std.specs.FinMap as map
use Rattle.mq_held.specs.Moments.{moments_of}
use Rattle.mq_link.proofs.{Quiet.AllAbove, Quiet.not_vacant, PassedEntries.GroupEntries, PassedEntries.IsPassed, Entries.filtered, Entries.entries-kept}
use Rattle.mq_link.proofs.{Entries.total-kept, Entries.len-kept, ReplacedGroups.AreEntries, ReplacedGroups.all_entries, ReplacedGroups.addresses_of}
use Rattle.mq_link.proofs.{ReplacedGroups.among, ReplacedGroups.entry_at, ReplacedGroups.entry_sources, ReplacedGroups.sources_of_entries}
use Rattle.mq_link.proofs.{TickedEntries.ticked_group, TickedEntries.queries_at, TickedEntries.beyond_passed}

-- no moment at or before one is all of them above it
none_due : (now : ℕ) (ms : List ℕ) → list_any (λ t. leb t now) ms ≡ false → AllAbove now ms
none_due now [] is = tt
none_due now (t ∷ ms) is = by_test (leb t now) refl (none_due now ms) is
  where
    by_test : (b : Bool) → leb t now ≡ b → (list_any (λ t. leb t now) ms ≡ false → AllAbove now ms) → (b || list_any (λ t. leb t now) ms) ≡ false →
        (now < t) × AllAbove now ms
    by_test true is later rest = absurd (true≢false rest)
    by_test false is later rest = (grind (arith, nat_tests), later rest)

-- an address is among the keys of a map where it has a value there
pub among_keys : {X : Type 0} (m : FinMap nat_cmp X) (q : ℕ) → among (map.keys m) q ≡ map.contains_key m q
among_keys m q = each (map.keys m) ∙ sym (map.contains_key-keys m q)
  where
    one : (k : ℕ) → (k == q) ≡ eq_by_cmp nat_cmp q k
    one k = by_test (eq_by_cmp nat_cmp q k) refl
      where
        by_test : (b : Bool) → eq_by_cmp nat_cmp q k ≡ b → (k == q) ≡ b
        by_test true same = eq-eqb k q (sym (tied q k same))
        by_test false other = ne_eqb k q (λ same. true≢false (sym (ties q k (sym same)) ∙ other))

    each : (ks : List ℕ) → list_any (λ k. k == q) ks ≡ list_any (eq_by_cmp nat_cmp q) ks
    each [] = refl
    each (k ∷ ks) = λ i. one k i || each ks i

module _ (now : ℕ) where
  if_due : ℕ → ScheduledGroup → Option ScheduledGroup
  if_due address e = cond (has_due now e) (Some e) None

  module _ (groups : Groups) where
    due_groups : Groups
    due_groups = kept if_due groups

    -- those that have
    abbrev pub due_entries : GroupEntries
    due_entries = filter (λ (e : ℕ × ScheduledGroup). has_due now e.1) (map.entries groups)

    filtered_due : (es : GroupEntries) → filter (λ (e : ℕ × ScheduledGroup). has_due now e.1) es ≡ filtered if_due es
    unfolding if_due
    filtered_due [] = refl
    filtered_due (e ∷ es) = by_test (has_due now e.1) (filtered_due es)
      where
        by_test : (b : Bool) → filter (λ (e : ℕ × ScheduledGroup). has_due now e.1) es ≡ filtered if_due es →
            cond b (e ∷ filter (λ (e : ℕ × ScheduledGroup). has_due now e.1) es) (filter (λ (e : ℕ × ScheduledGroup). has_due now e.1) es)
            ≡ with_entry e.0 (cond b (Some e.1) None) (filtered if_due es)
        by_test true rest = ap (λ (zs : GroupEntries). e ∷ zs) rest
        by_test false rest = rest

    entries_of_due : map.entries due_groups ≡ due_entries
    unfolding due_groups
    entries_of_due = entries-kept if_due groups ∙ sym (filtered_due (map.entries groups))

    -- a group is one of them where it is held and due
    found_due : (q : ℕ) → map.get due_groups q ≡ option_and_then (if_due q) (map.get groups q)
    unfolding due_groups
    found_due q = get-kept if_due groups q

    pub among_due : (q : ℕ) → among (addresses_due now groups) q ≡ is_some (option_and_then (λ e. cond (has_due now e) (Some e) None) (map.get groups q))
    unfolding if_due
    among_due q =
        ap (λ (es : GroupEntries). among (addresses_of es) q) (sym entries_of_due)
        ∙ among_keys due_groups q
        ∙ ap is_some (found_due q)

    no_more : (k : ℕ) (e : ScheduledGroup) → IfSome (if_due k e) (λ x. sources_of x ≤ sources_of e)
    unfolding if_due
    no_more k e = by_test (has_due now e)
      where
        by_test : (b : Bool) → IfSome (cond b (Some e) None) (λ x. sources_of x ≤ sources_of e)
        by_test true = omega arith
        by_test false = tt

    is_kept : (q : ℕ) (e : ScheduledGroup) (found : Option ScheduledGroup) → option_and_then (if_due q) found ≡ Some e → found ≡ Some e
    unfolding if_due
    is_kept q e None is = cc
    is_kept q e (Some x) is = by_test (has_due now x) is
      where
        by_test : (b : Bool) → cond b (Some x) None ≡ Some e → Some x ≡ Some e
        by_test true is = is
        by_test false is = cc

    pub are_due : AreEntries groups due_entries
    unfolding due_groups
    are_due =
        let all = all_entries due_groups in
        let few = len-kept if_due groups in
        let fewer = total-kept sources_of if_due groups no_more in
        let same = ap (sum_by entry_sources) entries_of_due in
        let total = sources_of_entries (map.entries due_groups) in
        let size = map.len-entries due_groups in
        let as_long = ap length entries_of_due in
        record {
          ascending = subst (λ (es : GroupEntries). IsAscending (λ k. k) (addresses_of es)) entries_of_due all.ascending;
          held = λ i within.
              subst (λ (es : GroupEntries). map.get groups (entry_at es i).0 ≡ Some (entry_at es i).1) entries_of_due
              (is_kept (entry_at (map.entries due_groups) i).0 (entry_at (map.entries due_groups) i).1
              (map.get groups (entry_at (map.entries due_groups) i).0)
              (sym (found_due (entry_at (map.entries due_groups) i).0) ∙ all.held i (omega (arith, within, as_long))));
          sources = omega (arith, fewer, same, total);
          few = omega (arith, few, size, as_long);
        }

    -- none where no group has
    pub none_have : ((address : ℕ) (e : ScheduledGroup) → map.get groups address ≡ Some e → has_due now e ≡ false) → due_in now groups ≡ 0
    none_have quiet = by_index (map.entries groups)
        (λ i within. let is = (all_entries groups).held i within in quiet (entry_at (map.entries groups) i).0 (entry_at (map.entries groups) i).1 is)
      where
        by_index : (es : GroupEntries) → ((i : ℕ) → i < length es → has_due now (entry_at es i).1 ≡ false) →
            count_by (has_due now) (list_map (λ (e : ℕ × ScheduledGroup). e.1) es) ≡ 0
        by_index [] each = refl
        by_index (e ∷ es) each =
            let rest = by_index es (λ i within. each (suc i) (omega (arith, within))) in
            let first = each zero (omega arith) in
            sum_by-cons (λ e. cond (has_due now e) 1 0) e.1 (list_map (λ (e : ℕ × ScheduledGroup). e.1) es) ∙ (λ i. cond (first i) 1 0 + rest i)

    module _ (room n : ℕ) (timing : Timing) (are : AreServed room groups) where
      -- nothing is done for the others
      pub not_due_passed : (q : ℕ) (e : ScheduledGroup) → map.get groups q ≡ Some e → has_due now e ≡ false →
          IsPassed (ticked_group timing now) (queries_at n timing now) (q, e)
      not_due_passed q e found not_due =
          let is = are q e found in
          beyond_passed n timing now q e is.held is.fits (none_due now (moments_of e) not_due)

      -- so what is sent for those that have is all that is sent
      pub sent_of_due : flat_map (queries_at n timing now) due_entries ≡ flat_map (queries_at n timing now) (map.entries groups)
      sent_of_due = by_index (map.entries groups) (λ i within. (all_entries groups).held i within)
        where
          by_index : (es : GroupEntries) → ((i : ℕ) → i < length es → map.get groups (entry_at es i).0 ≡ Some (entry_at es i).1)
              → flat_map (queries_at n timing now) (filter (λ (e : ℕ × ScheduledGroup). has_due now e.1) es) ≡ flat_map (queries_at n timing now) es
          by_index [] each = refl
          by_index (e ∷ es) each = by_test (has_due now e.1) refl (by_index es (λ i within. each (suc i) (omega (arith, within))))
            where
              by_test : (b : Bool) → has_due now e.1 ≡ b
                  → flat_map (queries_at n timing now) (filter (λ (e : ℕ × ScheduledGroup). has_due now e.1) es) ≡ flat_map (queries_at n timing now) es
                  → flat_map (queries_at n timing now)
                  (cond b (e ∷ filter (λ (e : ℕ × ScheduledGroup). has_due now e.1) es) (filter (λ (e : ℕ × ScheduledGroup). has_due now e.1) es))
                  ≡ queries_at n timing now e ++ flat_map (queries_at n timing now) es
              by_test true is rest = ap (λ (qs : List SentQuery). queries_at n timing now e ++ qs) rest
              by_test false is rest =
                  let passed = not_due_passed e.0 e.1 (each zero (omega arith)) is in
                  rest ∙ ap (λ (qs : List SentQuery). qs ++ flat_map (queries_at n timing now) es) (sym passed.silent)

-- each group that is held has a moment
pub all_running : (room : ℕ) (groups : Groups) → AreServed room groups → running_in groups ≡ map.len groups
all_running room groups are =
    by_index (map.entries groups)
    (λ i within. not_vacant (entry_at (map.entries groups) i).1.group
    ((are (entry_at (map.entries groups) i).0 (entry_at (map.entries groups) i).1 ((all_entries groups).held i within)).held))
    ∙ sym (map.len-entries groups)
  where
    by_index : (es : GroupEntries) → ((i : ℕ) → i < length es → is_vacant (entry_at es i).1.group ≡ false) →
        count_by (λ (e : ScheduledGroup). not (is_vacant e.group)) (list_map (λ (e : ℕ × ScheduledGroup). e.1) es) ≡ length es
    by_index [] each = refl
    by_index (e ∷ es) each =
        let rest = by_index es (λ i within. each (suc i) (omega (arith, within))) in
        let first : ◌≡◌ {A = ℕ} (cond (not (is_vacant e.1.group)) 1 0) 1 = ap (λ b. cond (not b) 1 0) (each zero (omega arith)) in
        let total = sum_by-cons (λ (e : ScheduledGroup). cond (not (is_vacant e.group)) 1 0) e.1 (list_map (λ (e : ℕ × ScheduledGroup). e.1) es) in
        omega (arith, rest, first, total)
