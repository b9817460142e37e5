-- The number of groups that records add.
use Rattle.mq_link.proofs.Common.{ℕ, ◌+◌, ◌≤◌, Bool, true, false, cond, not, List, [], ◌∷◌, length, Option, None, Some, arith, RecordView, is_vacant}
use Rattle.mq_link.proofs.Common.{GroupChange, Kind, ScheduledGroup, one_if, len-with_group, Refusal, Repeated, Refused, Setting, Statement, RecordOf, Seen}
use Rattle.mq_link.proofs.Common.{Entrance, Stops, GoesOn, after_sending, all_judged, change_in, changed_by, changed_or_refused, entrance, is_repeated, judged}
use Rattle.mq_link.proofs.Common.{judged_from, leaving, limit_passed, seen_after, sent_at_once, stated, unless_passed, Groups, with_group}
use Rattle.std.specs.FinMap as map
use Rattle.std.specs.FinSet as set

pub one_at_most : (b : Bool) → one_if b ≤ 1
one_at_most true = omega arith
one_at_most false = omega arith

module _ (at : Setting) where
  with_one : (groups : Groups) (group : ℕ) (e : ScheduledGroup) → map.len (with_group groups group e) ≤ map.len groups + 1
  with_one groups group e = let n = len-with_group groups group e in let few = one_at_most (not (is_vacant e.group)) in omega (arith, n, few)

  -- a statement leaves one more at most
  pub stated_grows : (group : ℕ) (st : Statement) (groups : Groups) → map.len (stated at group st groups).groups ≤ map.len groups + 1
  unfolding stated
  stated_grows group st groups = by_change (change_in at group st groups)
    where
      by_change : (change : Option GroupChange) → map.len (changed_or_refused at group groups change).groups ≤ map.len groups + 1
      by_change None = omega arith
      by_change (Some change) = by_limit (limit_passed at.config.limits after (after_sending at e))
        where
          e : ScheduledGroup
          e = changed_by at group groups change

          after : Groups
          after = with_group groups group (after_sending at e)

          by_limit : (passed : Option Refusal) → map.len (unless_passed passed groups after (sent_at_once at group e)).groups ≤ map.len groups + 1
          by_limit (Some name) = omega arith
          by_limit None = with_one groups group (after_sending at e)

  judged_grows : (seen : Seen) (r : RecordView ℕ) (groups : Groups) → map.len (judged at seen r groups).groups ≤ map.len groups + 1
  unfolding judged
  judged_grows seen r groups = by_entrance (entrance at.config r)
    where
      by_test : (b : Bool) (kind : Kind) →
          map.len (cond b (leaving groups (Refused Repeated)) (stated at r.group (RecordOf kind (set.from_list r.sources)) groups)).groups ≤ map.len groups + 1
      by_test true kind = omega arith
      by_test false kind = stated_grows r.group (RecordOf kind (set.from_list r.sources)) groups

      by_entrance : (entered_as : Entrance) → map.len (judged_from at seen r groups entered_as).groups ≤ map.len groups + 1
      by_entrance (Stops verdict) = omega arith
      by_entrance (GoesOn kind) = by_test (is_repeated groups seen r.group) kind

  -- and so does each record
  pub all_judged_grow : (seen : Seen) (rs : List (RecordView ℕ)) (groups : Groups) → map.len (all_judged at seen rs groups).groups ≤ map.len groups + length rs
  all_judged_grow seen [] groups = omega arith
  all_judged_grow seen (r ∷ rs) groups =
      let rest = all_judged_grow (seen_after at.config r groups seen) rs (judged at seen r groups).groups in
      let first = judged_grows seen r groups in
      omega (arith, rest, first)
