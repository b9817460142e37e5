use Rattle.mq_held.proofs.Common.{◌≡◌, ℕ, Bool, List, false, true, Option, None, Some, cond, if◌then◌else◌, ◌&&◌, ◌||◌, [], ◌∷◌, not, is_some, refl, ◌+◌}
use Rattle.mq_held.proofs.Common.{◌-◌, ◌≤◌}
use Rattle.mq_held.proofs.Common.{◌∙◌, length, get_or, set, sym, ap, subst, arith, insert, or-false, unwrap_or, Spends, Spends-join, Spends-join_within}
use Rattle.mq_held.proofs.Common.{Spends-within, IsAscending, IsPlaceFor, set_of, bitlen, Source, Running, IsWellFormed, is_include, is_stopped, is_vacant}
use Rattle.mq_held.proofs.Common.{timer_at, number_in, true≢false, ScheduledGroup, ScheduledHead, group_at, running_in, sources_of, moments_of}
use Rattle.mq_held.proofs.Common.{HasNumber, IsRowWritten, has_each, restarted, some_stopped, HeldState, earliest_of, group_of, no_head, get_or_default}
use Rattle.mq_held.proofs.Common.{common_steps}
use Rattle.mq_held.proofs.Common.{and_parts, has_room, ltb, sources_in}
use Rattle.std.proofs.lemmas.Bool.{ltb-true}
use Rattle.std.specs.FinMap as map
use Rattle.std.proofs.lemmas.List.Edits.{length-insert}
use Rattle.mq_held.proofs.{AddedSources.SourceAdded, AddedSources.contains-row, AddedSources.earliest-added, AddedSources.group-added}
use Rattle.mq_held.proofs.{AddedSources.up-added, Inside.some-address, Inside.source_room_is, Inside.sources-held, Located.Located}
use Rattle.mq_held.proofs.{Located.first-held, Located.group_in, Located.located, Located.placed, Located.row-inside, Located.row-read, Located.row-seen}
use Rattle.mq_held.proofs.{Located.row-seen_still, Located.row_of, OrderedAmounts.has-moment, RestartedTimers.GroupRestarted}
use Rattle.mq_held.proofs.{RestartedTimers.IsWellFormed-restarted, RestartedTimers.formed_then, RestartedTimers.group-then, RestartedTimers.later_then}
use Rattle.mq_held.proofs.{RestartedTimers.row-size, RestartedTimers.timer-held, RestartedTimers.up_then, StoredMoments.contains-insert, StoredMoments.len-set}
use Rattle.mq_held.proofs.{StoredMoments.names-rows, StoredMoments.row-written}
use Rattle.mq_held.proofs.held_groups.HeldGroups.restart.Given.{Over}
use Rattle.mq_held.proofs.held_groups.HeldGroups.restart.Goals as goal
use Rattle.mq_held.proofs.held_groups.HeldGroups.restart.Goals.{After-self, After-change_moment, After-insert, After-row-row-2}

-- the group of the number, and its head
at_so : (g : Over) (c : After-self g) → Located g.K.Key.number c.self.inside c.args.self.now c.args.number
at_so g c = located g.K.Key.number c.self.inside c.self.invariant c.self.view_is c.requires.number

abbrev head_of : (g : Over) → After-self g → ScheduledHead
head_of g c = get_or c.self.inside.heads.items c.args.number no_head

here_so : (g : Over) (c : After-self g) → head_of g c ≡ get_or c.self.inside.heads.items c.args.number (head_of g c)
here_so g c = get_or_default c.self.inside.heads.items c.args.number no_head (head_of g c) (at_so g c).in_heads

-- the group, once its source is heard of again
restarted_so : (g : Over) (c : After-row-row-2 g)
    → GroupRestarted g.K.Key.number c.self.inside c.args.self.now c.args.number (g.K.Key.number c.args.source) c.args.deadline c.index-row-place.result
    c.index.result.now c.row-row-2.result.now c.set.new.self
restarted_so g c =
    let l = located g.K.Key.number c.self.inside c.self.invariant c.self.view_is c.requires.number in
    let row_is = row-read l _ c.set.ensures.rows c.row-row-2.ensures.cells in
    record {
      at = l;
      head = c.index.ensures;
      place = c.in-Ok.place;
      y = c.restarted-after.result;
      heard = record {
        stands = placed g.K.Key.number c.row-row.ensures.cells c.in-Ok.ensures.found_in c.in-Ok.ensures.found c.index-row-place.is;
        becomes = c.restarted-after.ensures;
      };
      row_is = row_is;
      rows_are = c.set.ensures.rows ∙ (λ i. record c.self.inside.sources { rows = set c.self.inside.sources.rows c.args.number (sym row_is i) });
    }

abbrev new_source : {K : Type 0} → K → ℕ → Source K
new_source source deadline = record { address = source; timer = Running deadline 0 }

other_so : (g : Over) (c : After-self g) → is_vacant (group_in g.K.Key.number c.self.inside c.args.number).group ≡ false
other_so g c =
    let l = located g.K.Key.number c.self.inside c.self.invariant c.self.view_is c.requires.number in
    let found = some-address c.args.self.now c.args.number c.requires.number in
    ap (λ (e : ScheduledGroup). is_vacant e.group) (sym (l.group found.1)) ∙ c.requires.held found.0 found.1

pub index-requires : goal.index-requires
index-requires g c =
    let l = at_so g (goal.at.index-requires g c).After-self in
    omega (arith, l.in_heads, c.self.inside.heads.ok.0)

pub row-row-requires : goal.row-row-requires
row-row-requires g c = record { number = (at_so g (goal.at.row-row-requires g c).After-self).in_rows }

pub find-requires : goal.find-requires
find-requires g c =
    let l = at_so g (goal.at.find-requires g c).After-self in
    record { ascending = subst (IsAscending (number_in g.K.Key.number)) (sym c.row-row.ensures.cells) l.up }

added_so : (g : Over) (c : After-change_moment g) →
    SourceAdded g.K.Key.number (row_of c.self.inside c.args.number) c.in-Err.place (g.K.Key.number c.args.source) c.args.deadline
    (new_source c.args.source c.args.deadline)
added_so g c =
    let number = g.K.Key.number in
    let l = located number c.self.inside c.self.invariant c.self.view_is c.requires.number in
    let cells = c.row-row.ensures.cells in
    record {
      up = l.up;
      goes = subst (λ xs. IsPlaceFor (number_in number) xs (number c.args.source) c.in-Err.place) cells c.in-Err.ensures.absent;
      absent = ap (λ xs. set_of (number_in number) xs (number c.args.source)) (sym cells) ∙ c.in-Err.ensures.member;
      is = refl;
      runs = refl;
    }

-- its moment
moments_so : (g : Over) (c : After-change_moment g) → c.change_moment.new.moments
    ≡ record c.self.inside.moments {
      moments = map.insert c.self.inside.moments.moments c.args.number (unwrap_or c.earlier_than-earlier.result c.moment.result);
    }
moments_so g c = c.change_moment.ensures.moments c.moment.result c.moment.ensures

pub moment-requires : goal.moment-requires
moment-requires g c =
    let at = goal.at.moment-requires g c in
    let l = at_so g at.After-self in
    record { there = has-moment g.K.Key.number l.inside.0 c.args.number l.held ∙ ap not (other_so g at.After-self) }

pub change_moment-requires : goal.change_moment-requires
change_moment-requires g c =
    let at = goal.at.change_moment-requires g c in
    let l = at_so g at.After-self in
    record { there = has-moment g.K.Key.number l.inside.0 c.args.number l.held ∙ ap not (other_so g at.After-self) }

pub insert-requires-clause-number : goal.insert-requires-clause-number
insert-requires-clause-number g c = (at_so g (goal.at.insert-requires-clause-number g c).After-self).in_rows

pub insert-requires-clause-place : goal.insert-requires-clause-place
insert-requires-clause-place g c =
    let within = c.in-Err.ensures.absent.within in
    omega (arith, within, ap length c.row-row.ensures.cells)

pub insert-requires-clause-fits : goal.insert-requires-clause-fits
insert-requires-clause-fits g c =
    let all = sources-held g.K.Key.number c.self.invariant.0 c.self.view_is in
    let room = source_room_is g.K.Key.number c.self.invariant.0 c.self.view_is in
    let groups = c.args.self.now.groups in
    let found = some-address c.args.self.now c.args.number c.requires.number in
    let both = sym (c.has_room.ensures found.0 found.1) ∙ c.if-not-has_room.false in
    let parts = and_parts (ltb (sources_of (group_at groups found.0)) c.args.room.group_sources) (ltb (sources_in groups) c.args.room.sources) both in
    omega (arith, ltb-true (sources_in groups) c.args.room.sources parts.1, c.requires.fits, all, room, c.self.invariant.1)

pub insert-requires-clause-named : goal.insert-requires-clause-named
insert-requires-clause-named g c =
    let moments = c.self.inside.moments.moments in
    let is = moments_so g (goal.at.insert-requires-clause-named g c).After-change_moment in
    let each = rw is at c.numbers.ensures.each in
    let within = rw is at c.numbers.ensures.within in
    let due = unwrap_or c.earlier_than-earlier.result c.moment.result in
    names-rows g.K.Key.number c.self.invariant.0 (map.insert moments c.args.number due) c.numbers.result.now (contains-insert moments c.args.number due) each
    (λ k d in_list. omega (arith, within k d in_list, c.self.invariant.4, c.self.invariant.2))

rows_so : (g : Over) (c : After-insert g) → (let s = c.self.inside.sources in
    c.insert.new.self ≡ record s {
      rows = set s.rows c.args.number (insert (row_of c.self.inside c.args.number) c.in-Err.place (new_source c.args.source c.args.deadline));
      ahead = c.insert.new.self.ahead;
    })
rows_so g c =
    let is = c.insert.ensures.1 in
    let ahead = c.insert.new.self.ahead in
    λ i. record { rows = is.rows i; cell_limit = is.limit i; ahead = ahead }

pub invariant_of-self : goal.invariant_of-self
invariant_of-self g c =
    let at = goal.at.invariant_of-self g c in
    let number = g.K.Key.number in
    let l = at_so g at.After-self in
    let here = here_so g at.After-self in
    let a = added_so g at.After-change_moment in
    let h = head_of g at.After-self in
    let held = l.inside.0.others_are_held c.args.number l.held (other_so g at.After-self) in
    let formed = subst (λ (e : ScheduledGroup). IsWellFormed e.group) (sym (group-added a h))
    (IsWellFormed-restarted c.args.deadline (number c.args.source) (group_of number h (row_of c.self.inside c.args.number)) held) in
    let first = earliest-added a h c.moment.result (first-held l here c.moment.ensures) ∙ ap Some (sym c.earlier_than-earlier.ensures.earlier) in
    row-inside l _ (rows_so g at.After-insert) here (up-added a) formed first (moments_so g at.After-change_moment)

-- the group has the source exactly where its row does
contains_so : (g : Over) (c : After-self g) (row : List _) → row ≡ row_of c.self.inside c.args.number → {address : ℕ}
    → HasNumber c.args.self.now address c.args.number →
    (let e = group_at c.args.self.now.groups address in
    has_each (g.K.Key.number c.args.source ∷ []) e ≡ set_of (number_in g.K.Key.number) row (g.K.Key.number c.args.source))
contains_so g c row is has =
    let number = g.K.Key.number in
    let source = number c.args.source in
    alone _
    ∙ ap (λ (e : ScheduledGroup). map.contains_key e.group.sources source) ((at_so g c).group has)
    ∙ contains-row number (row_of c.self.inside c.args.number) source
    ∙ ap (λ xs. set_of (number_in number) xs source) (sym is)
  where
    alone : (b : Bool) → (b && true) ≡ b
    alone true = refl
    alone false = refl

pub returns-then-not-has_room-clause-effect : goal.returns-then-not-has_room-clause-effect
returns-then-not-has_room-clause-effect g c address has =
    let absent = contains_so g (goal.at.returns-then-not-has_room-clause-effect g c).After-self _ c.row-row.ensures.cells has ∙ c.in-Err.ensures.member in
    record {
      done = (λ i. sym absent i || sym (sym (c.has_room.ensures address has) ∙ c.if-not-has_room.true) i && true);
      told = tt;
      groups = refl;
      there = λ all. absurd (true≢false (sym all ∙ absent));
      added = λ _. tt;
      still = λ _. refl;
    }

pub returns-then-not-has_room-clause-spent : goal.returns-then-not-has_room-clause-spent
returns-then-not-has_room-clause-spent g c address has =
    let size = ap length c.row-row.ensures.cells ∙ sym ((at_so g (goal.at.returns-then-not-has_room-clause-spent g c).After-self).size has) in
    Spends-within _ _ c.find.ensures.spent (omega (arith, size)) (omega (arith, ap bitlen size))

pub returns-then-not-has_room-clause-moment_moved : goal.returns-then-not-has_room-clause-moment_moved
returns-then-not-has_room-clause-moment_moved g c address has there differs =
    let absent = contains_so g (goal.at.returns-then-not-has_room-clause-moment_moved g c).After-self _ c.row-row.ensures.cells has ∙ c.in-Err.ensures.member in
    absurd (true≢false (ap (λ b. b && true) (sym there) ∙ absent))

pub returns-in-Err-clause-moment_moved : goal.returns-in-Err-clause-moment_moved
returns-in-Err-clause-moment_moved g c address has there differs =
    let absent = contains_so g (goal.at.returns-in-Err-clause-moment_moved g c).After-self _ c.row-row.ensures.cells has ∙ c.in-Err.ensures.member in
    absurd (true≢false (ap (λ b. b && true) (sym there) ∙ absent))

pub returns-in-Err-clause-spent : goal.returns-in-Err-clause-spent
returns-in-Err-clause-spent g c address has =
    let l = at_so g (goal.at.returns-in-Err-clause-spent g c).After-self in
    let size = ap length c.row-row.ensures.cells ∙ sym (l.size has) in
    let told = Spends-join c.find.ensures.spent c.earlier_than-earlier.ensures.spent in
    Spends-join_within _ _ told c.change_moment.ensures.spent (omega (arith, size)) (omega (arith, ap bitlen size, l.others))

added_moves : (g : Over) (c : After-insert g) (address : ℕ) → HasNumber c.args.self.now address c.args.number →
    (let size = sources_of (group_at c.args.self.now.groups address) in
    let running = running_in c.args.self.now.groups in
    (own rows : ℕ) × (own ≤ size + 1) × IsRowWritten c.args.self.now size (size + 1) own running c.insert.new.self.ahead rows
    × Spends rows (rows + 1 + bitlen (running - 1)) c.args.moves.now c.insert.new.moves)
added_moves g c address has =
    let number = g.K.Key.number in
    let known = c.self.invariant in
    let n = c.args.number in
    let l = located number c.self.inside c.self.invariant c.self.view_is c.requires.number in
    let row = insert (row_of c.self.inside n) c.in-Err.place (new_source c.args.source c.args.deadline) in
    let within = c.in-Err.ensures.absent.within in
    let cells = ap length c.row-row.ensures.cells in
    let had = l.size has in
    let long : length row ≡ sources_of (group_at c.args.self.now.groups address) + 1 =
    omega (arith, length-insert (row_of c.self.inside n) c.in-Err.place (new_source c.args.source c.args.deadline) (omega (arith, within, cells)), had) in
    let is = c.change_moment.ensures.moments c.moment.result c.moment.ensures in
    let each = rw is at c.numbers.ensures.each in
    let due = unwrap_or c.earlier_than-earlier.result c.moment.result in
    let found = some-address c.args.self.now n c.requires.number in
    let other = ap (λ (e : ScheduledGroup). is_vacant e.group) (sym (l.group found.1)) ∙ c.requires.held found.0 found.1 in
    let there = has-moment number l.inside.0 n l.held ∙ ap not other in
    let named = len-set c.self.inside.moments.moments n due false c.numbers.result.now there each in
    let count : length c.numbers.result.now ≡ running_in c.args.self.now.groups = omega (arith, named, l.running) in
    let own = length (row_of c.self.inside n) - c.in-Err.place + 1 in
    let written = row-written number known.0 c.self.view_is n row c.self.inside.sources.cell_limit has (sym known.1) known.2 c.insert.new.self
    own (length c.numbers.result.now) (running_in c.args.self.now.groups) c.insert.ensures.0 count c.insert.ensures.1 in (
      own,
      c.insert.ensures.0,
      omega (arith, had),
      subst (λ k. IsRowWritten c.args.self.now (sources_of (group_at c.args.self.now.groups address)) k own
          (running_in c.args.self.now.groups) c.insert.new.self.ahead c.insert.ensures.0) long written,
      Spends-join_within _ _ c.change_moment.ensures.moved c.insert.ensures.2 (omega arith) (omega (arith, l.others)),
    )

pub returns-in-Err-clause-effect : goal.returns-in-Err-clause-effect
returns-in-Err-clause-effect g c address has =
    let at = goal.at.returns-in-Err-clause-effect g c in
    let absent = contains_so g at.After-self _ c.row-row.ensures.cells has ∙ c.in-Err.ensures.member in
    let change = restarted c.args.deadline (g.K.Key.number c.args.source) in
    let l = at_so g at.After-self in
    let h = head_of g at.After-self in
    let mode = c.is_include.ensures ∙ ap (λ (h : ScheduledHead). is_include h.head.mode)
    (c.index.ensures ∙ get_or_default c.self.inside.heads.items c.args.number c.index.result.now no_head l.in_heads)
    ∙ ap (λ (e : ScheduledGroup). is_include e.group.mode) (sym (l.group has)) in
    record {
      done = (λ i. sym absent i || sym (sym (c.has_room.ensures address has) ∙ c.if-not-has_room.false) i && true);
      told = mode ∙ (λ i. cond (sym absent i) (some_stopped (g.K.Key.number c.args.source ∷ []) (group_at c.args.self.now.groups address))
          (is_include (group_at c.args.self.now.groups address).group.mode));
      groups = row-seen l _ (rows_so g at.After-insert) (here_so g at.After-self) (change (group_at c.args.self.now.groups address)) has
          (group-added (added_so g at.After-change_moment) h ∙ ap change (sym (l.group has)));
      there = λ all. absurd (true≢false (sym all ∙ absent));
      added = λ _. added_moves g at.After-insert address has;
      still = λ none. cc;
    }

pub moment-earliest-requires : goal.moment-earliest-requires
moment-earliest-requires g c =
    let l = at_so g (goal.at.moment-earliest-requires g c).After-self in
    record { there = l.moment (omega (arith, c.in-Ok.ensures.found_in, ap length c.row-row.ensures.cells)) }

pub earliest_then-due-requires-clause-ascending : goal.earliest_then-due-requires-clause-ascending
earliest_then-due-requires-clause-ascending g c = up_then (restarted_so g (goal.at.earliest_then-due-requires-clause-ascending g c).After-row-row-2)

pub earliest_then-due-requires-clause-held : goal.earliest_then-due-requires-clause-held
earliest_then-due-requires-clause-held g c = formed_then (restarted_so g (goal.at.earliest_then-due-requires-clause-held g c).After-row-row-2)

pub earliest_then-due-requires-clause-later : goal.earliest_then-due-requires-clause-later
earliest_then-due-requires-clause-later g c was_later =
    let r = restarted_so g (goal.at.earliest_then-due-requires-clause-later g c).After-row-row-2 in
    later_then r c.moment-earliest.result c.moment-earliest.ensures (c.is_later-was_later.ensures.later.0 was_later)

pub invariant_of-self-2 : goal.invariant_of-self-2
invariant_of-self-2 g c =
    let r = restarted_so g (goal.at.invariant_of-self-2 g c).After-row-row-2 in
    let moments = c.change_moment-2.ensures.moments c.moment-earliest.result c.moment-earliest.ensures in
    row-inside r.at _ r.rows_are r.head (up_then r) (formed_then r) c.earliest_then-due.ensures.earliest moments

pub returns-clause-effect : goal.returns-clause-effect
returns-clause-effect g c address has =
    let at = goal.at.returns-clause-effect g c in
    let r = restarted_so g at.After-row-row-2 in
    let source = g.K.Key.number c.args.source in
    let change = restarted c.args.deadline source in
    let timer = ap (λ (e : ScheduledGroup). timer_at e.group source) (r.at.group has) ∙ timer-held r.at r.heard.stands in
    let there : has_each (source ∷ []) (group_at c.args.self.now.groups address) ≡ true = ap (λ t. is_some t && true) timer in
    let left = row-seen_still r.at _ r.rows_are r.head (change (group_at c.args.self.now.groups address)) has
    (group-then r ∙ ap change (sym (r.at.group has))) refl in
    let ahead = ap (λ (s : HeldState). s.ahead) left in
    record {
      done = (λ i. sym there i || has_room c.args.room c.args.self.now.groups address && true);
      told = c.is_stopped.ensures
          ∙ sym (or-false (is_stopped (Some c.index-row-place.result.timer)))
          ∙ ap (λ t. is_stopped t || false) (sym timer)
          ∙ (λ i. cond (sym there i) (some_stopped (source ∷ []) (group_at c.args.self.now.groups address))
          (is_include (group_at c.args.self.now.groups address).group.mode));
      groups = left ∙ (λ i. let t : HeldState =
          record c.args.self.now {
            groups = map.insert c.args.self.now.groups address (change (group_at c.args.self.now.groups address));
            ahead = sym ahead i;
          } in t);
      there = λ _. (ahead, Spends-join_within _ _ c.set.ensures.moves c.change_moment-2.ensures.moved (omega arith) (omega (arith, r.at.others)));
      added = λ absent. absurd (true≢false (sym there ∙ absent));
      still = λ none. cc;
    }

-- one comparison tells whether the timer was later, or whether the deadline is
one_of : (b : Bool) → (if b then 0 else 1) + (if b then 1 else 0) ≡ 1
one_of true = refl
one_of false = refl

pub returns-clause-spent : goal.returns-clause-spent
returns-clause-spent g c address has =
    let r = restarted_so g (goal.at.returns-clause-spent g c).After-row-row-2 in
    let size = ap length c.row-row.ensures.cells ∙ sym (r.at.size has) in
    let size_then = row-size r ∙ sym (r.at.size has) in
    let told = Spends-join (Spends-join c.find.ensures.spent c.is_later-was_later.ensures.spent) c.earliest_then-due.ensures.spent in
    let one = one_of c.is_later-was_later.result in
    Spends-join_within _ _ told c.change_moment-2.ensures.spent (omega (arith, c.in-Ok.ensures.found_in, one))
    (omega (arith, size_then, ap bitlen size, r.at.others))

-- where the earliest moment of the group changes, it is moved too
moved_twice : (due : Option ℕ) (n : ℕ) {before after : Option ℕ} {earliest old mid new : ℕ} → before ≡ Some earliest → after ≡ Some (unwrap_or due earliest)
    → (after ≡ before → ⊥) → Spends 1 1 old mid → Spends (if is_some due then 1 else 0) (1 + n) mid new → Spends 2 (2 + n) old new
moved_twice None n was is differs row moment = absurd (differs (is ∙ sym was))
moved_twice (Some due) n was is differs row moment = Spends-join_within _ _ row moment (omega arith) (omega arith)

pub returns-clause-moment_moved : goal.returns-clause-moment_moved
returns-clause-moment_moved g c address has there differs =
    let r = restarted_so g (goal.at.returns-clause-moment_moved g c).After-row-row-2 in
    let group_is = ap (restarted c.args.deadline (g.K.Key.number c.args.source)) (r.at.group has) ∙ sym (group-then r) in
    let before = ap (λ (e : ScheduledGroup). earliest_of (moments_of e)) (r.at.group has) ∙ r.at.earliest c.moment-earliest.result c.moment-earliest.ensures in
    let after = ap (λ (e : ScheduledGroup). earliest_of (moments_of e)) group_is ∙ c.earliest_then-due.ensures.earliest in
    rw r.at.others (moved_twice c.earliest_then-due.result _ before after differs c.set.ensures.moves c.change_moment-2.ensures.moved)

pub set-requires-clause-number : goal.set-requires-clause-number
set-requires-clause-number g c = grind (arith, common_steps)

pub row-row-requires-2 : goal.row-row-requires-2
row-row-requires-2 g c = grind (arith, common_steps)
