use Rattle.mq_link.proofs.Common.{◌≡◌, ◌<◌, ℕ, true, false, ◌||◌, length, refl, sym, ap, ◌∙◌, subst, arith, Option, IfSome, MatchOption, is_some, Result, Ok}
use Rattle.mq_link.proofs.Common.{Err, MatchResult, is_ok, result_ok, true≢false, Spends, Spends-join_within, Spends-within, IsSpotFor, Spot, named_in}
use Rattle.mq_link.proofs.Common.{HeldState, HasNumber, Storage, CanApply, HasEffect, statement_of, changes, least_work, most_copied, AreMarked, KeepsNumbers}
use Rattle.mq_link.proofs.Common.{met_in, has_counted}
use Rattle.std.specs.FinMap as map
use Rattle.std.specs.List.{Contains}
use Rattle.mq_sets.specs.NumberedKeys.{NumberedKeysState}
use Rattle.mq_held.specs.Groups.{Groups, group_at, sources_of}
use Rattle.mq_link.proofs.{Applied.can_apply_still, Applied.effect_before, ChangedRecords.length-by, ChangedRecords.marked_by, ChangedRecords.met_in-by}
use Rattle.mq_link.proofs.{MetNumbers.AreNumbered, Moved.paid_within, RefreshedCosts.least_named, RefreshedCosts.tried_and_copied}
use Rattle.mq_link.proofs.status.Status.apply.Given.{Over}
use Rattle.mq_link.proofs.status.Status.apply.Goals as goal
use Rattle.mq_link.proofs.status.Status.apply.Goals.{After-ok}

abbrev IsFound : HeldState → ℕ → Result ℕ Spot → Type 0
IsFound held a found = MatchResult found (HasNumber held a) (IsSpotFor held.order.items held.order.pages a)

-- the number of the group, which is held
within_so : (g : Over) (c : After-ok g) → IfSome c.ok.result (λ n. n < length c.args.work.now.changed)
within_so g c = subst (λ o. IfSome o (λ n. n < length c.args.work.now.changed)) (sym c.ok.ensures.value) (by_found c.args.lookup.found c.requires.ready.lookup)
  where
    by_found : (found : Result ℕ Spot) → IsFound c.args.storage.now.held (g.F.Address.Key.number c.args.lookup.address) found
        → IfSome (result_ok found) (λ n. n < length c.args.work.now.changed)
    by_found (Ok n) has =
        let below = c.lemma_is_numbered.ensures.within _ n has in
        omega (arith, below, c.requires.ready.group_room, c.requires.ready.room.changed)
    by_found (Err spot) is = tt

keeps_so : (g : Over) (c : After-ok g) → KeepsNumbers c.args.storage.now.held c.apply_in_place.new.storage.held
keeps_so g c a n has =
    let order = c.apply_in_place.ensures.order in
    record { is = subst (λ (o : NumberedKeysState). Contains o.items (record { number = n; key = a })) (sym order) has.is }

abbrev IsNumbered : HeldState → ℕ → Option ℕ → Type 0
IsNumbered held a number = MatchOption number (map.contains_key held.groups a ≡ false) (HasNumber held a)

numbered_so : (g : Over) (c : After-ok g) → IsNumbered c.apply_in_place.new.storage.held (g.F.Address.Key.number c.args.lookup.address) c.ok.result
numbered_so g c =
    subst (IsNumbered c.apply_in_place.new.storage.held (g.F.Address.Key.number c.args.lookup.address)) (sym c.ok.ensures.value)
    (by_found c.args.lookup.found c.requires.ready.lookup c.in-Some.ensures.held)
  where
    by_found : (found : Result ℕ Spot) → IsFound c.args.storage.now.held (g.F.Address.Key.number c.args.lookup.address) found → is_ok found ≡ true
        → IsNumbered c.apply_in_place.new.storage.held (g.F.Address.Key.number c.args.lookup.address) (result_ok found)
    by_found (Ok n) has is = keeps_so g c _ n has
    by_found (Err spot) at is = absurd (true≢false (sym is))

pub count_changed-requires : goal.count_changed-requires
count_changed-requires g c = record { number = within_so g c }

-- a statement applied in place is counted if the filter changed
pub returns-in-Some-clause-effect : goal.returns-in-Some-clause-effect
returns-in-Some-clause-effect g c =
    let storage = c.args.storage.now in
    let next = c.apply_in_place.new.storage in
    let counts = c.args.work.now.changed in
    let number = c.ok.result in
    let within = within_so g c.before in
    let was = c.lemma_is_numbered.ensures in
    let is = c.lemma_is_numbered-in-Some.ensures in
    let numbered : AreNumbered storage.held = record { held = was.held; of_one = was.of_one; same = was.same; one = was.one } in
    let numbered_next : AreNumbered next.held = record { held = is.held; of_one = is.of_one; same = is.same; one = is.one } in
    let address = g.F.Address.Key.number c.args.lookup.address in
    let left = c.in-Some.ensures.left in
    let counted = c.count_changed.ensures in
    let changes_it = c.in-Some.changes in
    let most = met_in-by counts changes_it number within in
    record {
      outcome = rw c.as_slice.ensures.members at c.in-Some.ensures.outcome;
      numbers = keeps_so g c.before;
      rooms = record { groups = ap (λ (o : NumberedKeysState). o.room) c.apply_in_place.ensures.order; sources = c.apply_in_place.ensures.sources };
      room = record { group = omega arith; named = refl; asked = omega arith; met = refl; changed = ap length counted ∙ length-by counts changes_it number };
      met = refl;
      changed = λ before marked.
          subst (λ xs. AreMarked next.held xs (λ other. before other || changes storage.held.groups next.held.groups other)) (sym counted)
          (marked_by storage.held next.held numbered numbered_next (keeps_so g c.before) address left.0 left.1 counts before marked
          changes_it number c.in-Some.ensures.changes (numbered_so g c.before) within);
      one_changed = omega (arith, most, ap met_in counted);
      moved = paid_within _ (rw c.as_slice.ensures.members at c.in-Some.ensures.moved) (omega arith);
    }

pub returns-in-Some-clause-spent : goal.returns-in-Some-clause-spent
returns-in-Some-clause-spent g c =
    let number = g.F.Address.Key.number in
    let least = least_named number c.args.self.now (number c.args.lookup.address) c.args.said c.args.work.now.named.members c.args.storage.now.held.groups in
    let spent = rw c.as_slice.ensures.members at c.in-Some.ensures.spent in
    Spends-within _ _ spent (omega (arith, least)) (omega arith)

-- a statement heard again is done in place
pub returns-in-Some-clause-in_place : goal.returns-in-Some-clause-in_place
returns-in-Some-clause-in_place g c heard = (rw c.as_slice.ensures.members at c.apply_in_place.ensures.moves) heard

pub returns-in-None-clause-in_place : goal.returns-in-None-clause-in_place
returns-in-None-clause-in_place g c heard =
    let done = rw c.as_slice.ensures.members at c.apply_in_place.ensures.again in
    absurd (true≢false (sym (done heard) ∙ ap is_some c.in-None.is))

-- where nothing was applied in place, only comparisons were made
pub apply_to_copy-requires-clause-ready : goal.apply_to_copy-requires-clause-ready
apply_to_copy-requires-clause-ready g c =
    let none = c.apply_in_place.ensures.none c.in-None.is in
    subst (λ (s : Storage _ _). CanApply g.F.Address.Key.number c.args.self.now s c.args.work.now c.args.lookup) (sym none)
    (can_apply_still c.apply_in_place.new.storage.meter c.requires.ready)

-- the effect of the copy with its comparisons, by the storage and the sink before
copied_so : (g : Over) (c : goal.After-apply_to_copy g) → (let number = g.F.Address.Key.number in
    let at = c.args.self.now in
    let address = number c.args.lookup.address in
    let work = c.args.work.now in
    let groups = c.args.storage.now.held.groups in
    let tried = has_counted c.args.storage.now c.apply_in_place.new.storage.meter in
    let done = c.apply_to_copy.new in
    let least = least_work at address (statement_of c.args.said (named_in number work.named.members)) groups in
    let most = most_copied c.args.said (sources_of (group_at groups address)) (length work.named.members) (map.len groups) in
    HasEffect number g.S.Sink.takes at c.args.lookup c.args.said c.apply_to_copy.result tried done.storage work done.work c.args.sink.now done.sink
    × Spends least most tried.meter done.storage.meter)
copied_so g c =
    let number = g.F.Address.Key.number in
    let at = c.args.self.now in
    let address = number c.args.lookup.address in
    let work = c.args.work.now in
    let result = c.apply_to_copy.result in
    let done = c.apply_to_copy.new in
    let least : Groups → ℕ = λ groups. least_work at address (statement_of c.args.said (named_in number work.named.members)) groups in
    let most : Groups → ℕ = λ groups. most_copied c.args.said (sources_of (group_at groups address)) (length work.named.members) (map.len groups) in
    subst (λ (p : Storage _ _ × _). HasEffect number g.S.Sink.takes at c.args.lookup c.args.said result p.0 done.storage work done.work p.1 done.sink
    × Spends (least p.0.held.groups) (most p.0.held.groups) p.0.meter done.storage.meter)
    (λ i. (c.apply_in_place.ensures.none c.in-None.is i, c.apply_in_place.ensures.unsent c.in-None.is i))
    (c.apply_to_copy.ensures.effect, c.apply_to_copy.ensures.spent)

pub returns-in-None-clause-effect : goal.returns-in-None-clause-effect
returns-in-None-clause-effect g c = effect_before c.apply_in_place.new.storage.meter (copied_so g c).0

pub returns-in-None-clause-spent : goal.returns-in-None-clause-spent
returns-in-None-clause-spent g c =
    let groups = c.args.storage.now.held.groups in
    let size = sources_of (group_at groups (g.F.Address.Key.number c.args.lookup.address)) in
    let tried = rw c.as_slice.ensures.members at c.in-None.ensures.spent in
    let most = tried_and_copied c.args.said size (length c.args.work.now.named.members) (map.len groups) in
    Spends-join_within _ _ tried (copied_so g c).1 (omega arith) (omega (arith, most))
