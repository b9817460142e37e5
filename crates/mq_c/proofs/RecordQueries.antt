-- The most queries of a datagram's records, and the most sources that they name.
use Rattle.mq_c.proofs.Common.{◌≡◌, ℕ, ◌+◌, ◌-◌, ◌*◌, ◌<◌, ◌≤◌, Bool, true, false, cond, ◌&&◌, refl, List, [], ◌∷◌, ◌++◌, length, sum_by, Option, None, Some}
use Rattle.mq_c.proofs.Common.{IfSome, is_some, sym, ap, subst, arith, leb, min, mul-le-mul_right, leb-false, sum_by-cons, RecordView, Kind, hosts_of}
use Rattle.mq_c.proofs.Common.{translated_change, size_of, GroupChange, ScheduledGroup, settled, SentQuery, v1_mutes_leave, per_query, Setting, Statement}
use Rattle.mq_c.proofs.Common.{change_in, is_muted, stated, Seen, met, all_judged, Groups, unheld, group_at, with_group, sources_of, sources_in}
use Rattle.std.specs.Option.{unwrap_or}
use Rattle.mq_table.specs.Group.{IsWellFormed as IsHeld}
use Rattle.mq_sched.{specs.Election.is_querier, proofs.StayHeld.held_acted, proofs.StayHeld.held_after_round}
use Rattle.mq_link.proofs.{KeptGroups.absent_unheld, ChangedSizes.translated_few, RecordCosts.stated_left, RecordCosts.four_times, StatedSteps.asked_few}
use Rattle.mq_link.specs.{declared.answers.Refusal.Refusal, declared.answers.Refusal.TheVariants.Repeated, Sound.AreSound}
use Rattle.mq_link.specs.{Counters.Refused, Record.GoesOn, Record.entrance, Record.seen_by, Record.seen_after, Record.judged_from, Record.judged}
use Rattle.mq_link.specs.Record.{RecordOf, leaving, unless_passed, changed_by, after_sending, sent_at_once, changed_or_refused, limit_passed, Entrance, Stops}
use Rattle.mq_link.proofs.Potential.{left_for, potential, potential-empty, potential-le, potential-falls}
use Rattle.mq_link.proofs.{Quiet.not_vacant, Silent.none_unless}
use Rattle.mq_link.proofs.{Recorded.judged_leaves, Recorded.all_judged_leave, TakenRecords.again, TakenRecords.met_once, TakenRecords.met_more}
use Rattle.mq_c.proofs.Meetings.{meetings, meetings-most, meetings-le, meetings-fall, meetings-changed, meetings-made}
use Rattle.mq_c.proofs.QueryCounts.{AreFew, few_append, few_none, few_weaker, some_held, three_at_most}
use Rattle.mq_c.proofs.ReportLengths.{sources_named}
use Rattle.mq_c.proofs.UnheldGroups.{AsksNothing, unheld_asks_nothing, held_stays_held, nothing_sent}
use Rattle.std.specs.FinMap as map
use Rattle.std.specs.FinSet as set

-- a statement asks for no more sources than its group has then
module _ (at : Setting) (group : ℕ) (groups : Groups) (most : ℕ) where
  by_change : (change : Option GroupChange) → IfSome change (λ c. size_of c.group ≤ most) →
      AreFew (per_query at.config.family) 3 most (changed_or_refused at group groups change).queries
  by_change None few = few_none (per_query at.config.family) 3 most
  by_change (Some change) few = by_limit (limit_passed at.config.limits after (after_sending at e))
    where
      e : ScheduledGroup
      e = changed_by at group groups change

      after : Groups
      after = with_group groups group (after_sending at e)

      size : sources_of e ≤ most
      size =
          let asked = asked_few (is_querier at.election.role) at.election.timing at.now change (group_at groups group).schedule e refl in
          omega (arith, asked, few)

      by_limit : (passed : Option Refusal) → AreFew (per_query at.config.family) 3 most (unless_passed passed groups after (sent_at_once at group e)).queries
      by_limit (Some name) = few_none (per_query at.config.family) 3 most
      by_limit None =
          few_weaker (per_query at.config.family) 3 3 (sources_of e) most (sent_at_once at group e) (omega arith) size
          (three_at_most (per_query at.config.family) (some_held at.config.family) at.election.timing at.now group e)

  pub stated_asks : (st : Statement) → IfSome (change_in at group st groups) (λ c. size_of c.group ≤ most) →
      AreFew (per_query at.config.family) 3 most (stated at group st groups).queries
  unfolding stated
  stated_asks st few = by_change (change_in at group st groups) few

module _ (at : Setting) (group : ℕ) (kind : Kind) (xs : List ℕ) (groups : Groups) where
  st : Statement
  st = RecordOf kind (set.from_list xs)

  -- a group that is held stays held, and may be met as often
  module _ (seen : Seen) (contained : map.contains_key groups group ≡ true) (held : IsHeld (group_at groups group).group) where
    abbrev Keeps : Groups → Type 0
    Keeps left = (meetings seen left ≡ meetings seen groups) × (map.len left ≡ map.len groups)

    kept_by : (change : Option GroupChange) → IfSome change (λ c. IsHeld c.group) → Keeps (changed_or_refused at group groups change).groups
    kept_by None stays = (refl, refl)
    kept_by (Some change) stays = by_limit (limit_passed at.config.limits (with_group groups group (after_sending at e)) (after_sending at e))
      where
        e : ScheduledGroup
        e = changed_by at group groups change

        left : IsHeld (after_sending at e).group
        left =
            let before : ScheduledGroup = record { group = change.group; schedule = settled change.group (group_at groups group).schedule } in
            held_after_round at.election.timing at.now e
            (held_acted (is_querier at.election.role) at.election.timing at.now change.query_group change.query before stays)

        by_limit : (passed : Option Refusal) →
            Keeps (unless_passed passed groups (with_group groups group (after_sending at e)) (sent_at_once at group e)).groups
        by_limit (Some name) = (refl, refl)
        by_limit None = meetings-changed seen groups group (after_sending at e) contained (not_vacant (group_at groups group).group held)
            (not_vacant (after_sending at e).group left)

    stated_keeps : Keeps (stated at group (RecordOf kind (set.from_list xs)) groups).groups
    unfolding stated
    stated_keeps =
        let st = RecordOf kind (set.from_list xs) in
        kept_by (change_in at group st groups)
        (held_stays_held (v1_mutes_leave at.config.family) (is_muted at.config group st) at.election.timing at.now (group_at groups group).group kind
        (set.from_list xs) held)

  -- a group that isn't held is asked nothing, and may be met from then on
  module _ (seen : Seen) (absent : map.contains_key groups group ≡ false) (unheld_is : group_at groups group ≡ unheld) where
    abbrev Makes : Groups → Type 0
    Makes left = meetings seen left + 4 * map.len groups ≤ meetings seen groups + 4 * map.len left

    made_by : (change : Option GroupChange) → Makes (changed_or_refused at group groups change).groups
    made_by None = omega arith
    made_by (Some change) = by_limit (limit_passed at.config.limits (with_group groups group (after_sending at e)) (after_sending at e))
      where
        e : ScheduledGroup
        e = changed_by at group groups change

        by_limit : (passed : Option Refusal) →
            Makes (unless_passed passed groups (with_group groups group (after_sending at e)) (sent_at_once at group e)).groups
        by_limit (Some name) = omega arith
        by_limit None = meetings-made seen groups group (after_sending at e) absent

    stated_makes : Makes (stated at group (RecordOf kind (set.from_list xs)) groups).groups
    unfolding stated
    stated_makes = made_by (change_in at group (RecordOf kind (set.from_list xs)) groups)

    none_by : (change : Option GroupChange) → IfSome change AsksNothing → (changed_or_refused at group groups change).queries ≡ []
    none_by None asks = refl
    none_by (Some change) asks =
        let e = changed_by at group groups change in
        let left = after_sending at e in
        none_unless (limit_passed at.config.limits (with_group groups group left) left) groups (with_group groups group left) (sent_at_once at group e)
        (nothing_sent (per_query at.config.family) (is_querier at.election.role) at.election.timing at.now group change
        (group_at groups group).schedule (ap (λ (e : ScheduledGroup). e.schedule) unheld_is) asks)

    stated_asks_nothing : (stated at group (RecordOf kind (set.from_list xs)) groups).queries ≡ []
    unfolding stated
    stated_asks_nothing =
        let st = RecordOf kind (set.from_list xs) in
        none_by (change_in at group st groups)
        (subst (λ (e : ScheduledGroup). IfSome
        (translated_change (v1_mutes_leave at.config.family) (is_muted at.config group st) at.election.timing at.now e.group kind (set.from_list xs))
        AsksNothing) (sym unheld_is)
        (unheld_asks_nothing (v1_mutes_leave at.config.family) (is_muted at.config group st) at.election.timing at.now kind (set.from_list xs)))

-- The queries of some records: their number, and that of their sources. They fall off those that later records may
-- still ask for, but for the sources that they name and the groups that they make.
pub record Asks (n records named : ℕ) (seen after : Seen) (groups left : Groups) (queries : List SentQuery) : Type 0 where
  pub asked : ℕ
  pub sources : ℕ
  pub few : AreFew n (3 * asked) sources queries
  pub each : asked ≤ records
  pub paid : 6 * sources + potential after left ≤ potential seen groups + 24 * named
  pub met_less : asked + meetings after left + 4 * map.len groups ≤ meetings seen groups + 4 * map.len left

three_times : (m n : ℕ) → 1 ≤ m → left_for m n ≤ 18 * n
three_times m n some = let few : 4 - m ≤ 3 = omega (arith, some) in let most = mul-le-mul_right (6 * n) few in omega (arith, most)

held_at : (at : Setting) (groups : Groups) (group : ℕ) → AreSound at groups → map.contains_key groups group ≡ true
    → (e : ScheduledGroup) × (map.get groups group ≡ Some e) × (group_at groups group ≡ e) × IsHeld e.group
held_at at groups group sound held = by_group (map.get groups group) refl held
  where
    by_group : (found : Option ScheduledGroup) → map.get groups group ≡ found → is_some found ≡ true → (e : ScheduledGroup) ×
        (map.get groups group ≡ Some e) × (group_at groups group ≡ e) × IsHeld e.group
    by_group None is some = cc
    by_group (Some e) is some = (e, is, ap (λ (x : Option ScheduledGroup). unwrap_or x unheld) is, (sound.all group e is).held)

judged_asks : (at : Setting) (seen : Seen) (r : RecordView ℕ) (groups : Groups) → AreSound at groups
    → Asks (per_query at.config.family) 1 (length r.sources) seen (seen_after at.config r groups seen) groups (judged at seen r groups).groups
    (judged at seen r groups).queries
unfolding judged
judged_asks at seen r groups sound = by_entrance (entrance at.config r)
  where
    asks : (kind : Kind) → AreFew (per_query at.config.family) 3 (sources_of (group_at groups r.group) + length r.sources)
        (stated at r.group (RecordOf kind (set.from_list r.sources)) groups).queries
    asks kind =
        let st = RecordOf kind (set.from_list r.sources) in
        let g = (group_at groups r.group).group in
        stated_asks at r.group groups (sources_of (group_at groups r.group) + length r.sources) st
        (translated_few (v1_mutes_leave at.config.family) (is_muted at.config r.group st) at.election.timing at.now g kind r.sources (hosts_of g at.now))

    by_tests : (kind : Kind) (held four : Bool) → map.contains_key groups r.group ≡ held → leb 4 (met seen r.group) ≡ four →
        (let outcome = cond (held && four) (leaving groups (Refused Repeated)) (stated at r.group (RecordOf kind (set.from_list r.sources)) groups) in
        Asks (per_query at.config.family) 1 (length r.sources) seen (cond held (again seen r.group) seen) groups outcome.groups outcome.queries)
    by_tests kind true true held four =
        let more = λ (k : ℕ). (met_more seen r.group k).0 in
        record {
          asked = 0;
          sources = 0;
          few = few_none (per_query at.config.family) 0 0;
          each = omega arith;
          paid = let same = potential-le seen (again seen r.group) groups more in omega (arith, same);
          met_less = let same = meetings-le seen (again seen r.group) groups more in omega (arith, same);
        }
    by_tests kind true false held four =
        let more = λ (k : ℕ). (met_more seen r.group k).0 in
        let once = met_once seen r.group in
        let few = leb-false 4 (met seen r.group) four in
        let found = held_at at groups r.group sound held in
        record {
          asked = 1;
          sources = sources_of (group_at groups r.group) + length r.sources;
          few = asks kind;
          each = omega arith;
          paid =
              let falls = potential-falls seen (again seen r.group) groups more r.group once few held in
              let left = stated_left at (again seen r.group) r.group kind r.sources groups in
              let own = three_times (met (again seen r.group) r.group) (length r.sources) (omega (arith, once)) in
              omega (arith, falls, left, own);
          met_less =
              let falls = meetings-fall seen (again seen r.group) groups more r.group found.0 once few found.1 (not_vacant found.0.group found.3) in
              let stays = stated_keeps at r.group kind r.sources groups (again seen r.group) held
              (subst (λ (e : ScheduledGroup). IsHeld e.group) (sym found.2) found.3) in
              omega (arith, falls, stays.0, stays.1);
        }
    by_tests kind false four absent _ =
        let is : group_at groups r.group ≡ unheld = absent_unheld groups r.group absent in
        record {
          asked = 0;
          sources = 0;
          few = subst (AreFew (per_query at.config.family) 0 0) (sym (stated_asks_nothing at r.group kind r.sources groups seen absent is))
              (few_none (per_query at.config.family) 0 0);
          each = omega arith;
          paid =
              let left = stated_left at seen r.group kind r.sources groups in
              let own = four_times (met seen r.group) (length r.sources) in
              omega (arith, left, own);
          met_less = let makes = stated_makes at r.group kind r.sources groups seen absent is in omega (arith, makes);
        }

    by_entrance : (entered : Entrance) →
        Asks (per_query at.config.family) 1 (length r.sources) seen (seen_by entered r.group groups seen) groups
        (judged_from at seen r groups entered).groups (judged_from at seen r groups entered).queries
    by_entrance (Stops verdict) =
        record { asked = 0; sources = 0; few = few_none (per_query at.config.family) 0 0; each = omega arith; paid = omega arith; met_less = omega arith }
    by_entrance (GoesOn kind) = by_tests kind (map.contains_key groups r.group) (leb 4 (met seen r.group)) refl refl

-- All records of a datagram, one after the other.
pub record AllAsk (n records named : ℕ) (seen : Seen) (groups left : Groups) (queries : List SentQuery) : Type 0 where
  pub asked : ℕ
  pub sources : ℕ
  pub few : AreFew n (3 * asked) sources queries
  pub each : asked ≤ records
  pub paid : 6 * sources ≤ potential seen groups + 24 * named
  pub met_less : asked + 4 * map.len groups ≤ meetings seen groups + 4 * map.len left

all_ask : (at : Setting) (seen : Seen) (rs : List (RecordView ℕ)) (groups : Groups) → 0 < at.election.timing.robustness → AreSound at groups
    → AllAsk (per_query at.config.family) (length rs) (sum_by sources_named rs) seen groups (all_judged at seen rs groups).groups
    (all_judged at seen rs groups).queries
all_ask at seen [] groups positive sound =
    record { asked = 0; sources = 0; few = few_none (per_query at.config.family) 0 0; each = omega arith; paid = omega arith; met_less = omega arith }
all_ask at seen (r ∷ rs) groups positive sound =
    let n = per_query at.config.family in
    let first = judged at seen r groups in
    let later = all_judged at (seen_after at.config r groups seen) rs first.groups in
    let here = judged_asks at seen r groups sound in
    let rest = all_ask at (seen_after at.config r groups seen) rs first.groups positive (judged_leaves at seen r groups positive sound) in
    record {
      asked = here.asked + rest.asked;
      sources = here.sources + rest.sources;
      few =
          few_weaker n (3 * here.asked + 3 * rest.asked) (3 * (here.asked + rest.asked)) (here.sources + rest.sources) (here.sources + rest.sources)
          (first.queries ++ later.queries) (omega arith) (omega arith)
          (few_append n (3 * here.asked) (3 * rest.asked) here.sources rest.sources first.queries later.queries here.few rest.few);
      each = let a = here.each in let b = rest.each in omega (arith, a, b);
      paid = let a = here.paid in let b = rest.paid in omega (arith, a, b, sum_by-cons sources_named r rs);
      met_less = let a = here.met_less in let b = rest.met_less in omega (arith, a, b);
    }

-- A datagram's records ask four times at most for what is held and what they name; at most four ask about each group.
pub records_ask : (at : Setting) (rs : List (RecordView ℕ)) (groups : Groups) → 0 < at.election.timing.robustness → AreSound at groups
    → AreFew (per_query at.config.family) (3 * min (4 * at.config.limits.groups) (length rs)) (4 * sources_in groups + 4 * sum_by sources_named rs)
    (all_judged at map.empty rs groups).queries
records_ask at rs groups positive sound =
    let all = all_ask at map.empty rs groups positive sound in
    let paid = all.paid in
    let each = all.each in
    let less = all.met_less in
    let left = (all_judged_leave at map.empty rs groups positive sound).within.group_count in
    let most = meetings-most map.empty groups in
    let first = potential-empty groups in
    few_weaker (per_query at.config.family) (3 * all.asked) (3 * min (4 * at.config.limits.groups) (length rs)) all.sources
    (4 * sources_in groups + 4 * sum_by sources_named rs) (all_judged at map.empty rs groups).queries
    (omega (arith, each, less, left, most)) (omega (arith, paid, first)) all.few
