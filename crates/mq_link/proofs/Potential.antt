-- The comparisons that a datagram's records may still make on the sources of the held groups. Each of the first four that
-- meet a group has six for each of its sources. A record takes away those that it makes, without those that it brings.
use Rattle.mq_link.proofs.Common.{◌≡◌, ℕ, zero, suc, ◌+◌, ◌-◌, ◌*◌, ◌<◌, ◌≤◌, Bool, true, false, cond, refl, List, [], ◌∷◌, Option, None, Some, is_some, sym}
use Rattle.mq_link.proofs.Common.{ap, ◌∙◌, subst, arith, mul-le-mul_left, mul-le-mul_right, true≢false, sum_by-cons, sum_by-le-sum_by, list_map, sum_by}
use Rattle.mq_link.proofs.Common.{unwrap_or, nat_cmp, eq_by_cmp, find, ScheduledGroup, tied, no_sources, vacant_sources, total-with_group, Seen, met}
use Rattle.std.specs.FinMap as map
use Rattle.mq_held.specs.Groups.{Groups, unheld, group_at, with_group, sources_of, sources_in}

-- the comparisons left for a group with these sources, once these records have met it
abbrev pub left_for : (meetings sources : ℕ) → ℕ
left_for meetings sources = (4 - meetings) * (6 * sources)

abbrev pub left_of : Seen → ℕ × ScheduledGroup → ℕ
left_of seen e = left_for (met seen e.0) (sources_of e.1)

abbrev pub potential : Seen → Groups → ℕ
potential seen groups = sum_by (left_of seen) (map.entries groups)

-- The comparisons left fall by those of the met group.
module _ (before after : ℕ × ScheduledGroup → ℕ) (no_more : (e : ℕ × ScheduledGroup) → after e ≤ before e) (a falls : ℕ) where
  pub sum-falls : (es : List (ℕ × ScheduledGroup)) (e : ScheduledGroup) → find nat_cmp a es ≡ Some e → after (a, e) + falls ≤ before (a, e) →
      sum_by after es + falls ≤ sum_by before es
  sum-falls [] e found here = absurd (cc)
  sum-falls (x ∷ es) e found here = by_test (eq_by_cmp nat_cmp a x.0) refl found (λ is. sum-falls es e is here)
    where
      by_test : (b : Bool) → eq_by_cmp nat_cmp a x.0 ≡ b → cond b (Some x.1) (find nat_cmp a es) ≡ Some e →
          (find nat_cmp a es ≡ Some e → sum_by after es + falls ≤ sum_by before es) → sum_by after (x ∷ es) + falls ≤ sum_by before (x ∷ es)
      by_test true same is behind =
          let key : a ≡ x.0 = tied a x.0 same in
          let value : x.1 ≡ e = cc in
          let at : x ≡ (a, e) = λ i. (sym key i, value i) in
          let first : after x + falls ≤ before x = subst (λ (y : ℕ × ScheduledGroup). after y + falls ≤ before y) (sym at) here in
          omega (arith, first, sum_by-le-sum_by after before es no_more, sum_by-cons after x es, sum_by-cons before x es)
      by_test false other is behind =
          omega (arith, behind is, no_more x, sum_by-cons after x es, sum_by-cons before x es)

-- one meeting of the first four
one_less : (meetings sources : ℕ) → meetings < 4 → left_for (meetings + 1) sources + 6 * sources ≤ left_for meetings sources
one_less zero sources few = omega arith
one_less (suc zero) sources few = omega arith
one_less (suc (suc zero)) sources few = omega arith
one_less (suc (suc (suc zero))) sources few = omega arith
one_less (suc (suc (suc (suc n)))) sources few = absurd (omega arith)

no_more_left : (before after : Seen) → ((k : ℕ) → met before k ≤ met after k) → (e : ℕ × ScheduledGroup) → left_of after e ≤ left_of before e
no_more_left before after met_more e =
    let more = met_more e.0 in
    let fewer : 4 - met after e.0 ≤ 4 - met before e.0 = omega arith in
    mul-le-mul_right (6 * sources_of e.1) fewer

module _ (seen after : Seen) (groups : Groups) (met_more : (k : ℕ) → met seen k ≤ met after k) where
  pub potential-le : potential after groups ≤ potential seen groups
  potential-le = sum_by-le-sum_by (left_of after) (left_of seen) (map.entries groups) (no_more_left seen after met_more)

  pub potential-falls : (a : ℕ) → met after a ≡ met seen a + 1 → met seen a < 4 → map.contains_key groups a ≡ true →
      potential after groups + 6 * sources_of (group_at groups a) ≤ potential seen groups
  potential-falls a once few held = by_group (map.get groups a) refl held
    where
      by_group : (found : Option ScheduledGroup) → map.get groups a ≡ found → is_some found ≡ true →
          potential after groups + 6 * sources_of (unwrap_or found unheld) ≤ potential seen groups
      by_group None is some = absurd (true≢false (sym some))
      by_group (Some e) is some =
          sum-falls (left_of seen) (left_of after) (no_more_left seen after met_more) a (6 * sources_of e)
          (map.entries groups) e (sym (map.get-entries groups a) ∙ is)
          (subst (λ m. left_for m (sources_of e) + 6 * sources_of e ≤ left_for (met seen a) (sources_of e)) (sym once)
          (one_less (met seen a) (sources_of e) few))

-- before any record, all four may meet each group
none_met : (k : ℕ) → met map.empty k ≡ 0
none_met k = ap (λ x. unwrap_or x 0) (map.get-empty {X = ℕ} nat_cmp k)

pub potential-empty : (groups : Groups) → potential map.empty groups ≤ 24 * sources_in groups
potential-empty groups = of_list (map.entries groups)
  where
    one : (e : ℕ × ScheduledGroup) → left_of map.empty e ≤ 24 * sources_of e.1
    one e = subst (λ m. left_for m (sources_of e.1) ≤ 24 * sources_of e.1) (sym (none_met e.0)) (omega arith)

    of_list : (es : List (ℕ × ScheduledGroup)) → sum_by (left_of map.empty) es ≤ 24 * sum_by sources_of (list_map (λ (e : ℕ × ScheduledGroup). e.1) es)
    of_list [] = omega arith
    of_list (e ∷ es) =
        let rest = of_list es in
        omega (arith, rest, one e, sum_by-cons (left_of map.empty) e es, sum_by-cons sources_of e.1 (list_map (λ (e : ℕ × ScheduledGroup). e.1) es))

-- A group that is changed has more left for the sources that it gets.
more_left : (d a b n : ℕ) → a ≤ b + n → d * (6 * a) ≤ d * (6 * b) + d * (6 * n)
more_left d a b n few =
    let six : 6 * a ≤ 6 * b + 6 * n = omega arith in
    let all = mul-le-mul_left d six in
    omega (arith, all)

none_left : (d n : ℕ) → n ≡ 0 → d * (6 * n) ≡ 0
none_left d n none = ap (λ n. d * (6 * n)) none ∙ omega arith

pub changed_left : (seen : Seen) (groups : Groups) (a n : ℕ) (e : ScheduledGroup) → sources_of e ≤ sources_of (group_at groups a) + n →
    potential seen (with_group groups a e) ≤ potential seen groups + left_for (met seen a) n
changed_left seen groups a n e few =
    let total = total-with_group (left_of seen) groups a (none_left (4 - met seen a) (sources_of unheld) no_sources) e
    (λ vacant. none_left (4 - met seen a) (sources_of e) (vacant_sources e vacant)) in
    let more = more_left (4 - met seen a) (sources_of e) (sources_of (group_at groups a)) n few in
    omega (arith, total, more)
