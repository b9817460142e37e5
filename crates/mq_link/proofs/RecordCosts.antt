-- The bound of a record's comparisons: with those left for later records, at most those left before it and those that it
-- brings.
use Rattle.mq_link.proofs.Common.{◌≡◌, ℕ, ◌+◌, ◌-◌, ◌*◌, ◌≤◌, max, Bool, true, false, cond, ◌&&◌, refl, List, [], ◌∷◌, length, Option, None, Some, IfSome, sym}
use Rattle.mq_link.proofs.Common.{◌∙◌, subst, arith, leb, add_assoc, add-zero, zero-add, le-max_right, mul-le-mul_right, leb-false, sum_by-cons, sum_by, Spends}
use Rattle.mq_link.proofs.Common.{Spends-none, Spends-join, Spends-within, bitlen, bitlen-le, RecordView, Kind, size_of, GroupChange, hosts_of, ScheduledGroup}
use Rattle.mq_link.proofs.Common.{is_querier, own_sources, Refusal, Repeated, search_cost, work_cost, cost_by, record_cost, own_cost, Refused, v1_mutes_leave}
use Rattle.mq_link.proofs.Common.{least_judged, least_all, Setting, RecordOf, leaving, unless_passed, changed_by, after_sending, sent_at_once}
use Rattle.mq_link.proofs.Common.{changed_or_refused, change_in, is_muted, limit_passed, stated, Seen, met, Entrance, Stops, GoesOn, entrance, seen_by}
use Rattle.mq_link.proofs.Common.{seen_after, judged_from, judged}
use Rattle.std.specs.FinMap as map
use Rattle.std.specs.FinSet as set
use Rattle.mq_link.specs.State.{Groups, group_at, with_group, sources_of, sources_in}
use Rattle.mq_link.proofs.{ChangedSizes.translated_few, KeptGroups.absent_sources, MadeEntries.round_keeps_size, Potential.left_for, Potential.potential}
use Rattle.mq_link.proofs.{Potential.potential-empty, Potential.potential-le, Potential.potential-falls, Potential.changed_left, StatedSteps.asked_few}
use Rattle.mq_link.proofs.{TakenRecords.again, TakenRecords.met_once, TakenRecords.met_more}

-- a group gets no more sources than a record names
module _ (at : Setting) (seen : Seen) (group : ℕ) (kind : Kind) (xs : List ℕ) (groups : Groups) where
  abbrev may_be_left : ℕ
  may_be_left = potential seen groups + left_for (met seen group) (length xs)

  by_change : (change : Option GroupChange) → IfSome change (λ c. size_of c.group ≤ sources_of (group_at groups group) + length xs) →
      potential seen (changed_or_refused at group groups change).groups ≤ may_be_left
  by_change None few = omega arith
  by_change (Some change) few = by_limit (limit_passed at.config.limits (with_group groups group (after_sending at e)) (after_sending at e))
    where
      e : ScheduledGroup
      e = changed_by at group groups change

      size : sources_of (after_sending at e) ≤ sources_of (group_at groups group) + length xs
      size =
          let asked = asked_few (is_querier at.election.role) at.election.timing at.now change (group_at groups group).schedule e refl in
          let sent = round_keeps_size at.election.timing at.now e in
          omega (arith, asked, sent)

      by_limit : (passed : Option Refusal) →
          potential seen (unless_passed passed groups (with_group groups group (after_sending at e)) (sent_at_once at group e)).groups ≤ may_be_left
      by_limit (Some name) = omega arith
      by_limit None = changed_left seen groups group (length xs) (after_sending at e) size

  pub stated_left : potential seen (stated at group (RecordOf kind (set.from_list xs)) groups).groups ≤ may_be_left
  unfolding stated
  stated_left =
      let e = group_at groups group in
      by_change (change_in at group (RecordOf kind (set.from_list xs)) groups)
      (translated_few (v1_mutes_leave at.config.family) (is_muted at.config group (RecordOf kind (set.from_list xs))) at.election.timing at.now
      e.group kind xs (hosts_of e.group at.now))

few_digits : (n : ℕ) → n ≤ 65535 → bitlen n ≤ 16
few_digits n few = bitlen-le 16 n (omega (arith, few))

pub four_times : (m n : ℕ) → left_for m n ≤ 24 * n
four_times m n = let few : 4 - m ≤ 4 = omega arith in let most = mul-le-mul_right (6 * n) few in omega (arith, most)

pub record_pays : (at : Setting) (seen : Seen) (r : RecordView ℕ) (groups : Groups) → map.len groups ≤ 65535
    → record_cost at.config seen r groups + potential (seen_after at.config r groups seen) (judged at seen r groups).groups ≤ potential seen groups + own_cost r
unfolding judged
record_pays at seen r groups few_groups = by_entrance (entrance at.config r)
  where
    search : search_cost groups ≤ 34
    search = omega (arith, few_digits (map.len groups) few_groups)

    by_tests : (kind : Kind) (held four : Bool) → map.contains_key groups r.group ≡ held → leb 4 (met seen r.group) ≡ four →
        cond (held && four) (search_cost groups) (work_cost groups r + search_cost groups)
        + potential (cond held (again seen r.group) seen)
        (cond (held && four) (leaving groups (Refused Repeated)) (stated at r.group (RecordOf kind (set.from_list r.sources)) groups)).groups
        ≤ potential seen groups + own_cost r
    by_tests kind true true held four =
        let same = potential-le seen (again seen r.group) groups (λ k. (met_more seen r.group k).0) in
        omega (arith, search, same)
    by_tests kind true false held four =
        let falls = potential-falls seen (again seen r.group) groups (λ k. (met_more seen r.group k).0) r.group (met_once seen r.group)
        (leb-false 4 (met seen r.group) four) held in
        let left = stated_left at (again seen r.group) r.group kind r.sources groups in
        let own = four_times (met (again seen r.group) r.group) (length r.sources) in
        omega (arith, search, falls, left, own)
    by_tests kind false four absent _ =
        let small = absent_sources groups r.group absent in
        let left = stated_left at seen r.group kind r.sources groups in
        let own = four_times (met seen r.group) (length r.sources) in
        omega (arith, search, small, left, own)

    by_entrance : (entered : Entrance) → cost_by entered seen r groups + potential (seen_by entered r.group groups seen)
        (judged_from at seen r groups entered).groups ≤ potential seen groups + own_cost r
    by_entrance (Stops verdict) = omega arith
    by_entrance (GoesOn kind) = by_tests kind (map.contains_key groups r.group) (leb 4 (met seen r.group)) refl refl

-- The records so far have spent, at least and at most, so much that enough is left for the rest.
pub record IsPaidSoFar (at : Setting) (all : List (RecordView ℕ)) (held : Groups) (from : ℕ) (left : List (RecordView ℕ)) (seen : Seen)
    (groups : Groups) (m : ℕ) : Type 0 where
  pub least : ℕ
  pub most : ℕ
  pub counted : Spends least most from m
  pub fewest : least_all at map.empty all held ≡ least + least_all at seen left groups
  pub enough : most + potential seen groups + sum_by own_cost left ≤ 24 * sources_in held + sum_by own_cost all

pub none_paid : (at : Setting) (all : List (RecordView ℕ)) (groups : Groups) (m : ℕ) → IsPaidSoFar at all groups m all map.empty groups m
none_paid at all groups m = record { least = 0; most = 0; counted = Spends-none m; fewest = sym (zero-add _); enough = omega (arith, potential-empty groups) }

pub one_paid : (at : Setting) (all : List (RecordView ℕ)) (held : Groups) (from : ℕ) (before rest : List (RecordView ℕ)) (r : RecordView ℕ)
    (seen : Seen) (groups : Groups) (m next : ℕ)
    → map.len groups ≤ 65535
    → IsPaidSoFar at all held from before seen groups m
    → before ≡ r ∷ rest
    → Spends (least_judged at seen r groups) (record_cost at.config seen r groups) m next
    → IsPaidSoFar at all held from rest (seen_after at.config r groups seen) (judged at seen r groups).groups next
one_paid at all held from before rest r seen groups m next few_groups so_far first spent =
    let h = subst (λ left. IsPaidSoFar at all held from left seen groups m) first so_far in
    let enough = h.enough in
    record {
      least = h.least + least_judged at seen r groups;
      most = h.most + record_cost at.config seen r groups;
      counted = Spends-join h.counted spent;
      fewest = h.fewest ∙ sym (add_assoc h.least (least_judged at seen r groups) _);
      enough = omega (arith, enough, record_pays at seen r groups few_groups, sum_by-cons own_cost r rest);
    }

pub all_paid : (at : Setting) (all : List (RecordView ℕ)) (held : Groups) (from : ℕ) (left : List (RecordView ℕ)) (seen : Seen) (groups : Groups)
    (m : ℕ) → IsPaidSoFar at all held from left seen groups m → left ≡ [] →
    Spends (least_all at map.empty all held) (24 * sources_in held + sum_by own_cost all) from m
all_paid at all held from left seen groups m so_far none =
    let h = subst (λ left. IsPaidSoFar at all held from left seen groups m) none so_far in
    let enough = h.enough in
    let whole : least_all at map.empty all held ≡ h.least = h.fewest ∙ add-zero h.least in
    Spends-within _ _ h.counted (omega (arith, whole)) (omega (arith, enough))

-- The records of a Report bring at most 64 comparisons for each of their bytes, and one statement takes at most as many.
pub report_within : (rs : List (RecordView ℕ)) → sum_by own_cost rs + 7 * length rs ≤ 64 * sum_by (λ r. 8 + 4 * length r.sources) rs
report_within [] = omega arith
report_within (r ∷ rs) =
    let rest = report_within rs in
    omega (arith, rest, sum_by-cons own_cost r rs, sum_by-cons (λ (r : RecordView ℕ). 8 + 4 * length r.sources) r rs)

pub statement_within : (groups : Groups) (group listed least from m : ℕ) → map.len groups ≤ 65535
    → Spends least (6 * sources_of (group_at groups group) + 26 + 2 * bitlen (map.len groups) + listed) from m
    → Spends least (24 * sources_in groups + max (20 * map.len groups) listed + 64 * 8) from m
statement_within groups group listed least from m few spent =
    let most = le-max_right (20 * map.len groups) listed in
    Spends-within least _ spent (omega arith) (omega (arith, few_digits (map.len groups) few, own_sources groups group, most))
