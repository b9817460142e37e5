-- The number of times that a datagram's records may still meet the held groups.
use Rattle.mq_c.proofs.Common.{◌≡◌, ℕ, ◌+◌, ◌-◌, ◌*◌, ◌<◌, ◌≤◌, Bool, true, false, not, List, [], ◌∷◌, length, Some, sym, ap, ◌∙◌, subst, arith}
use Rattle.mq_c.proofs.Common.{mul-le-mul_right, sum_by-cons, sum_by, ScheduledGroup, Groups, unheld, group_at, with_group, one_if, Seen, met}
use Rattle.std.proofs.lemmas.List.Sums.{sum_by-le-sum_by}
use Rattle.mq_table.specs.Group.{is_vacant}
use Rattle.mq_held.proofs.Amounts.{total-with_group, len-with_group}
use Rattle.mq_link.proofs.{HeldAs.vacant_is, Potential.sum-falls}
use Rattle.mq_c.proofs.QueryCounts.{one_at_most}
use Rattle.std.specs.FinMap as map

-- one for a group that is held
abbrev pub stands : ScheduledGroup → ℕ
stands e = one_if (not (is_vacant e.group))

abbrev pub left_to_meet : Seen → ℕ × ScheduledGroup → ℕ
left_to_meet seen e = (4 - met seen e.0) * stands e.1

abbrev pub meetings : Seen → Groups → ℕ
meetings seen groups = sum_by (left_to_meet seen) (map.entries groups)

-- before any record, four for each
pub meetings-most : (seen : Seen) (groups : Groups) → meetings seen groups ≤ 4 * map.len groups
meetings-most seen groups = let all = map.len-entries groups in let most = of_list (map.entries groups) in omega (arith, all, most)
  where
    one : (e : ℕ × ScheduledGroup) → left_to_meet seen e ≤ 4
    one e =
        let few : 4 - met seen e.0 ≤ 4 = omega arith in
        let most = mul-le-mul_right (stands e.1) few in
        omega (arith, most, one_at_most (not (is_vacant e.1.group)))

    of_list : (es : List (ℕ × ScheduledGroup)) → sum_by (left_to_meet seen) es ≤ 4 * length es
    of_list [] = omega arith
    of_list (e ∷ es) = let rest = of_list es in omega (arith, rest, one e, sum_by-cons (left_to_meet seen) e es)

module _ (seen after : Seen) (groups : Groups) (met_more : (k : ℕ) → met seen k ≤ met after k) where
  no_more : (e : ℕ × ScheduledGroup) → left_to_meet after e ≤ left_to_meet seen e
  no_more e =
      let more = met_more e.0 in
      let fewer : 4 - met after e.0 ≤ 4 - met seen e.0 = omega arith in
      mul-le-mul_right (stands e.1) fewer

  pub meetings-le : meetings after groups ≤ meetings seen groups
  meetings-le = sum_by-le-sum_by (left_to_meet after) (left_to_meet seen) (map.entries groups) no_more

  -- one meeting fewer
  pub meetings-fall : (a : ℕ) (e : ScheduledGroup) → met after a ≡ met seen a + 1 → met seen a < 4 → map.get groups a ≡ Some e →
      is_vacant e.group ≡ false → meetings after groups + 1 ≤ meetings seen groups
  meetings-fall a e once few found held =
      sum-falls (left_to_meet seen) (left_to_meet after) no_more a 1 (map.entries groups) e (sym (map.get-entries groups a) ∙ found)
      (subst (λ v. (4 - met after a) * one_if (not v) + 1 ≤ (4 - met seen a) * one_if (not v)) (sym held) (omega (arith, once, few)))

-- with a group as said
module _ (seen : Seen) (groups : Groups) (a : ℕ) (e : ScheduledGroup) where
  with_total : meetings seen (with_group groups a e) + left_to_meet seen (a, group_at groups a) ≡ meetings seen groups + left_to_meet seen (a, e)
  with_total = total-with_group (left_to_meet seen) groups a (nothing (4 - met seen a) (is_vacant unheld.group) vacant_is) e
      (λ vacant. nothing (4 - met seen a) (is_vacant e.group) vacant)
    where
      nothing : (d : ℕ) (v : Bool) → v ≡ true → d * one_if (not v) ≡ 0
      nothing d true is = omega arith
      nothing d false is = cc

  -- a group that was held and is
  pub meetings-changed : map.contains_key groups a ≡ true → is_vacant (group_at groups a).group ≡ false → is_vacant e.group ≡ false
      → (meetings seen (with_group groups a e) ≡ meetings seen groups) × (map.len (with_group groups a e) ≡ map.len groups)
  meetings-changed held was is =
      let total = with_total in
      let same = ap (λ v. (4 - met seen a) * one_if (not v)) (was ∙ sym is) in
      let len = len-with_group groups a e in
      let before = ap one_if held in
      let after = ap (λ v. one_if (not v)) is in
      (omega (arith, total, same), omega (arith, len, before, after))

  -- a group that wasn't held
  pub meetings-made : map.contains_key groups a ≡ false →
      meetings seen (with_group groups a e) + 4 * map.len groups ≤ meetings seen groups + 4 * map.len (with_group groups a e)
  meetings-made absent =
      let total = with_total in
      let few : 4 - met seen a ≤ 4 = omega arith in
      let most = mul-le-mul_right (stands e) few in
      let len = len-with_group groups a e in
      let before = ap one_if absent in
      omega (arith, total, most, len, before)
