-- The amounts of all groups, once one of them has changed, is held, or is no longer held.
use Rattle.mq_held.proofs.Common.{◌≡◌, ℕ, ◌+◌, ◌-◌, ◌<◌, ◌≤◌, Bool, true, false, cond, not, ◌==◌, ◌&&◌, if◌then◌else◌, refl, List, [], ◌∷◌, Option, None, Some}
use Rattle.mq_held.proofs.Common.{is_some, sym, ap, ◌∙◌, subst, arith, ⊎_elim, list_map, T, sum_by, unwrap_or, nat_cmp, eq_by_cmp, is_eq, is_lt, nat_cmp_total}
use Rattle.mq_held.proofs.Common.{Ordering, Less, Equal, Greater, cases_lt, eqb-true, true≢false, sum_by-cons, find, is_sorted, below_all, by_order, put}
use Rattle.mq_held.proofs.Common.{FilterMode, Include, Exclude, SourceTimer, is_vacant, is_include, ScheduledGroup, Groups, unheld, group_at, with_group}
use Rattle.mq_held.proofs.Common.{sources_of, sources_in, one_if, schedules_of, schedules_in}
use Rattle.std.specs.FinMap as map
use Rattle.mq_held.proofs.Sorted.{all-below, below-all, find_below, first, is_below, second, tied, ties}

-- A sum over all groups, of any number that a group has at its address, and none where it isn't held.
module _ (w : ℕ × ScheduledGroup → ℕ) (a : ℕ) (none : w (a, unheld) ≡ 0) where
  sum-put : (e : ScheduledGroup) (es : List (ℕ × ScheduledGroup)) → T (is_sorted nat_cmp es) →
      sum_by w (put nat_cmp a e es) + w (a, unwrap_or (find nat_cmp a es) unheld) ≡ sum_by w es + w (a, e)
  sum-put e [] up = omega (arith, none, sum_by-cons w (a, e) [])
  sum-put e (x ∷ es) up = by_order_of (nat_cmp a x.0) refl (sum-put e es (second (below_all nat_cmp x.0 es) (is_sorted nat_cmp es) up))
    where
      by_order_of : (o : Ordering) → nat_cmp a x.0 ≡ o → sum_by w (put nat_cmp a e es) + w (a, unwrap_or (find nat_cmp a es) unheld) ≡ sum_by w es + w (a, e)
          → sum_by w (by_order o ((a, e) ∷ x ∷ es) ((x.0, e) ∷ es) (x ∷ put nat_cmp a e es)) + w
          (a, unwrap_or (cond (is_eq o) (Some x.1) (find nat_cmp a es)) unheld) ≡ sum_by w (x ∷ es) + w (a, e)
      by_order_of Less is rest =
          let low : a < x.0 = is_below a x.0 (subst (λ o. T (is_lt o)) (sym is) tt) in
          let above = below-all x.0 es (first (below_all nat_cmp x.0 es) (is_sorted nat_cmp es) up) in
          let absent = find_below a es (all-below a es (λ k d within. omega (arith, low, above k d within))) in
          omega (arith, none, ap (λ o. w (a, unwrap_or o unheld)) absent, sum_by-cons w (a, e) (x ∷ es))
      by_order_of Equal is rest =
          let same = tied a x.0 (ap is_eq is) in
          omega (arith, ap (λ k. w (k, e)) same, ap (λ k. w (k, x.1)) same, sum_by-cons w (x.0, e) es, sum_by-cons w x es)
      by_order_of Greater is rest = omega (arith, rest, sum_by-cons w x es, sum_by-cons w x (put nat_cmp a e es))

  total-put : (groups : Groups) (e : ScheduledGroup) → sum_by w (map.entries (map.insert groups a e)) + w (a, group_at groups a)
      ≡ sum_by w (map.entries groups) + w (a, e)
  total-put groups e =
      (λ i. sum_by w (map.entries-insert nat_cmp_total groups a e i) + w (a, unwrap_or (map.get-entries groups a i) unheld))
      ∙ sum-put e (map.entries groups) (map.entries_sorted groups)

module _ (w : ℕ × ScheduledGroup → ℕ) (groups : Groups) (a : ℕ) where
  module _ (none : w (a, unheld) ≡ 0) where
    pub total-with : (e : ScheduledGroup) → sum_by w (map.entries (map.insert groups a e)) + w (a, group_at groups a) ≡ sum_by w (map.entries groups) + w (a, e)
    total-with e = total-put w a none groups e

    pub total-without : sum_by w (map.entries (map.remove groups a)) + w (a, group_at groups a) ≡ sum_by w (map.entries groups)
    total-without = by_value (map.get groups a) refl
      where
        left : Groups
        left = map.remove groups a

        -- the entry is put back unchanged
        back : (e : ScheduledGroup) → map.get groups a ≡ Some e → (q : ℕ) (b : Bool) → eq_by_cmp nat_cmp q a ≡ b →
            cond b (Some e) (cond b None (map.get groups q)) ≡ map.get groups q
        back e is q true same = sym (ap (map.get groups) (tied q a same) ∙ is)
        back e is q false other = refl

        kept : map.get groups a ≡ None → (q : ℕ) (b : Bool) → eq_by_cmp nat_cmp q a ≡ b → cond b None (map.get groups q) ≡ map.get groups q
        kept absent q true same = sym (ap (map.get groups) (tied q a same) ∙ absent)
        kept absent q false other = refl

        by_value : (o : Option ScheduledGroup) → map.get groups a ≡ o → sum_by w (map.entries left) + w (a, unwrap_or o unheld) ≡ sum_by w (map.entries groups)
        by_value None absent =
            let same = map.same_map nat_cmp_total map.nat_cmp-IsAntisymmetric left groups (λ q. map.get-remove nat_cmp_total groups a q ∙
            kept absent q (eq_by_cmp nat_cmp q a) refl) in
            omega (arith, none, ap (λ (m : Groups). sum_by w (map.entries m)) same)
        by_value (Some e) is =
            let same = map.same_map nat_cmp_total map.nat_cmp-IsAntisymmetric (map.insert left a e) groups
            (λ q. map.get-insert nat_cmp_total left a e q ∙ ap (cond (eq_by_cmp nat_cmp q a) (Some e)) (map.get-remove nat_cmp_total groups a q) ∙
            back e is q (eq_by_cmp nat_cmp q a) refl) in
            let gone = map.get-remove nat_cmp_total groups a a ∙ ap (λ b. cond b None (map.get groups a)) (ties a a refl) in
            omega (arith, none, total-put w a none left e, ap (λ (m : Groups). sum_by w (map.entries m)) same, ap (λ o. w (a, unwrap_or o unheld)) gone)

    -- a group as said, held or not, where a vacant one has none of it either
    pub total-with_group : (e : ScheduledGroup) → (is_vacant e.group ≡ true → w (a, e) ≡ 0) →
        sum_by w (map.entries (with_group groups a e)) + w (a, group_at groups a) ≡ sum_by w (map.entries groups) + w (a, e)
    total-with_group e vacant = by_test (is_vacant e.group) refl
      where
        by_test : (b : Bool) → is_vacant e.group ≡ b → sum_by w (map.entries (if b then map.remove groups a else map.insert groups a e)) + w
            (a, group_at groups a) ≡ sum_by w (map.entries groups) + w (a, e)
        by_test true is = let total = total-without in omega (arith, total, vacant is)
        by_test false is = total-with e

-- a sum over the groups is one over their entries
abbrev pub of_group : (ScheduledGroup → ℕ) → ℕ × ScheduledGroup → ℕ
of_group w e = w e.1

pub total-entries : (w : ScheduledGroup → ℕ) (groups : Groups) → sum_by w (map.values groups) ≡ sum_by (of_group w) (map.entries groups)
total-entries w groups = of_list (map.entries groups)
  where
    of_list : (es : List (ℕ × ScheduledGroup)) → sum_by w (list_map (λ (e : ℕ × ScheduledGroup). e.1) es) ≡ sum_by (of_group w) es
    of_list [] = refl
    of_list (e ∷ es) =
        sum_by-cons w e.1 (list_map (λ (e : ℕ × ScheduledGroup). e.1) es)
        ∙ ap (λ n. w e.1 + n) (of_list es)
        ∙ sym (sum_by-cons (of_group w) e es)

pub no_sources : sources_of unheld ≡ 0
no_sources = map.len-empty nat_cmp SourceTimer

-- a vacant group has no sources
pub vacant_sources : (e : ScheduledGroup) → is_vacant e.group ≡ true → sources_of e ≡ 0
vacant_sources e is = by_mode e.group.mode is
  where
    by_mode : (mode : FilterMode) → (is_include mode && (map.len e.group.sources == 0)) ≡ true → sources_of e ≡ 0
    by_mode Include is = eqb-true (map.len e.group.sources) 0 is
    by_mode (Exclude d) is = absurd (true≢false (sym is))

-- the sources and schedules of all groups, with this group
pub sources-with_group : (groups : Groups) (a : ℕ) (e : ScheduledGroup) → sources_in (with_group groups a e) + sources_of (group_at groups a)
    ≡ sources_in groups + sources_of e
sources-with_group groups a e =
    let total = total-with_group (of_group sources_of) groups a no_sources e (vacant_sources e) in
    omega (arith, total, total-entries sources_of groups, total-entries sources_of (with_group groups a e))

pub schedules-with_group : (groups : Groups) (a : ℕ) (e : ScheduledGroup) → schedules_in (with_group groups a e) + schedules_of (group_at groups a)
    ≡ schedules_in groups + (if is_vacant e.group then 0 else schedules_of e)
schedules-with_group groups a e = by_test (is_vacant e.group)
  where
    by_test : (b : Bool) → schedules_in (if b then map.remove groups a else map.insert groups a e) + schedules_of (group_at groups a)
        ≡ schedules_in groups + (if b then 0 else schedules_of e)
    by_test true =
        let total = total-without (of_group schedules_of) groups a refl in
        omega (arith, total, total-entries schedules_of groups, total-entries schedules_of (map.remove groups a))
    by_test false =
        let total = total-with (of_group schedules_of) groups a refl e in
        omega (arith, total, total-entries schedules_of groups, total-entries schedules_of (map.insert groups a e))

-- a group has no more sources than all have together
pub own_sources : (groups : Groups) (a : ℕ) → sources_of (group_at groups a) ≤ sources_in groups
own_sources groups a =
    let total = total-without (of_group sources_of) groups a no_sources in
    omega (arith, total, total-entries sources_of groups)

pub len-with_group : (groups : Groups) (a : ℕ) (e : ScheduledGroup) → map.len (with_group groups a e) + one_if (map.contains_key groups a)
    ≡ map.len groups + one_if (not (is_vacant e.group))
len-with_group groups a e = by_test (is_vacant e.group)
  where
    added : (b : Bool) (n : ℕ) → cond b n (n + 1) + one_if b ≡ n + 1
    added true n = omega arith
    added false n = omega arith

    -- at least one is held
    taken : (b : Bool) (n : ℕ) → one_if b ≤ n → cond b (n - 1) n + one_if b ≡ n + 0
    taken true n some = omega arith
    taken false n some = omega arith

    some_held : (b : Bool) → map.contains_key groups a ≡ b → one_if b ≤ map.len groups
    some_held true held =
        ⊎_elim
        (λ (some : 0 < map.len groups). omega (arith, some))
        (λ (none : map.len groups ≤ 0). absurd
        (true≢false (sym held ∙ ap (λ (m : Groups). map.contains_key m a) (map.empty_of_len groups (omega (arith, none))) ∙
        ap is_some (map.get-empty nat_cmp a))))
        (cases_lt 0 (map.len groups))
    some_held false absent = omega arith

    by_test : (b : Bool) → map.len (if b then map.remove groups a else map.insert groups a e) + one_if (map.contains_key groups a)
        ≡ map.len groups + one_if (not b)
    by_test true = ap (λ n. n + one_if (map.contains_key groups a)) (map.len-remove nat_cmp_total groups a) ∙
        taken (map.contains_key groups a) (map.len groups) (some_held (map.contains_key groups a) refl)
    by_test false = ap (λ n. n + one_if (map.contains_key groups a)) (map.len-insert nat_cmp_total groups a e) ∙
        added (map.contains_key groups a) (map.len groups)
