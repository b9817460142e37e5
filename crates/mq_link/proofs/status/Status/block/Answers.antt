use Rattle.mq_link.proofs.Common.{◌≡◌, ℕ, zero, suc, ◌+◌, ◌*◌, ◌≤◌, ◌==◌, ◌||◌, Bool, true, false, cond, min, [], ◌∷◌, is_some, length, one_item, refl}
use Rattle.mq_link.proofs.Common.{sym, ap, ◌∙◌}
use Rattle.mq_link.proofs.Common.{subst, arith, eq-eqb, eqb-false, eqb-true, or_right, true≢false, nil_from_length, Spends, Spends-join_within, bitlen}
use Rattle.mq_link.proofs.Common.{is_include, timer_at, named_in, IsQuietAt, ScheduledGroup, quiet_by, group_at, sources_of, HasNumber, HeldState, Storage}
use Rattle.mq_link.proofs.Common.{IsPaid, moved_by_edit, most_blocked, put_by_rows, common_steps}
use Rattle.std.specs.FinMap as map
use Rattle.mq_link.proofs.{BlockDone.IsDone, BlockDone.done_named, BlockDone.done_unnamed, BlockDone.rows_named, Faultless.few_groups, Moved.paid_by}
use Rattle.mq_link.proofs.PaidEdits.{few_digits}
use Rattle.mq_link.proofs.status.Status.block.Given.{Over}
use Rattle.mq_link.proofs.status.Status.block.Goals as goal
use Rattle.mq_link.proofs.status.Status.block.Goals.{Else-there, Then-is_empty, Then-there}

-- a list that isn't empty has one item, where it has one at most
some_named : (n : ℕ) (b : Bool) → b ≡ (n == 0) → b ≡ false → n ≤ 1 → n ≡ 1
some_named n b is none few = let some = eqb-false n 0 (sym is ∙ none) in positive n some few
  where
    positive : (n : ℕ) → (n ≡ 0 → ⊥) → n ≤ 1 → n ≡ 1
    positive zero some few = absurd (some refl)
    positive (suc zero) some few = refl
    positive (suc (suc n)) some few = absurd (omega (arith, few))

-- the storage has the groups that it had, once what can be done is looked at
same_so : (g : Over) (c : goal.After-ask-arg-2-1 g) → c.number_blocked.new.storage.held ≡ c.args.storage.now.held
same_so g c = ap (λ (s : Storage _ _). s.held) c.in-Some.ensures.left

-- and the number is the group's there
has_so : (g : Over) (c : goal.After-ask-arg-2-1 g) → HasNumber c.number_blocked.new.storage.held (g.F.Address.Key.number c.args.lookup.address) c.in-Some.number
has_so g c = subst (λ (h : HeldState). HasNumber h (g.F.Address.Key.number c.args.lookup.address) c.in-Some.number) (sym (same_so g c)) c.in-Some.ensures.found

-- one source is named
some_so : (g : Over) (c : goal.After-ask-arg-2-1 g) → length c.args.named.now ≡ 1
some_so g c = some_named (length c.args.named.now) c.is_empty.result c.is_empty.ensures c.if-is_empty.false c.in-Some.ensures.can.few

list_so : (g : Over) (c : goal.After-ask-arg-2-1 g) → c.args.named.now ≡ c.index-named-0.result ∷ []
list_so g c = one_item c.args.named.now c.index-named-0.result (some_so g c) c.index-named-0.is

-- the work if no source is named
done_empty : (g : Over) (c : Then-is_empty g) → (let number = g.F.Address.Key.number in
    IsDone g.S.Sink.takes c.args.self.now (number c.args.lookup.address) c.args.said (named_in number c.args.named.now) c.args.storage.now.held.groups
    c.number_blocked.new.storage.held.groups c.args.sink.now c.args.sink.now)
done_empty g c =
    let number = g.F.Address.Key.number in
    let facts = c.in-Some.ensures in
    let none = nil_from_length c.args.named.now (eqb-true (length c.args.named.now) 0 (sym c.is_empty.ensures ∙ c.if-is_empty.true)) in
    done_unnamed number g.S.Sink.takes c.args.self.now (number c.args.lookup.address) c.args.said c.args.named.now c.args.storage.now.held
    c.number_blocked.new.storage.held c.requires.sound facts.can c.requires.block (ap (λ (s : Storage _ _). s.held) facts.left)
    none c.args.sink.now

-- the case that the group has the named source
there_then : (g : Over) (c : Then-there g) → (let number = g.F.Address.Key.number in
    let e = group_at c.args.storage.now.held.groups (number c.args.lookup.address) in
    (is_include e.group.mode || is_some (timer_at e.group (number c.index-named-0.result))) ≡ true)
there_then g c =
    let number = g.F.Address.Key.number in
    let a = number c.args.lookup.address in
    let x = number c.index-named-0.result in
    let e = group_at c.args.storage.now.held.groups a in
    or_right (is_include e.group.mode) (is_some (timer_at e.group x))
    ((λ i. is_some (timer_at (group_at (sym (same_so g c.before.before) i).groups a).group x)) ∙
    sym (c.ask-there.ensures.there a (has_so g c.before.before)) ∙ c.if-there.true)

done_then : (g : Over) (c : Then-there g) → (let number = g.F.Address.Key.number in
    IsDone g.S.Sink.takes c.args.self.now (number c.args.lookup.address) c.args.said (named_in number c.args.named.now) c.args.storage.now.held.groups
    c.ask-there.new.storage.held.groups c.args.sink.now c.ask-there.new.sink)
done_then g c =
    let number = g.F.Address.Key.number in
    let a = number c.args.lookup.address in
    let has = has_so g c.before.before in
    let facts = c.in-Some.ensures in
    done_named number g.S.Sink.takes c.args.self.now a c.args.said c.args.named.now c.args.storage.now.held c.number_blocked.new.storage.held
    c.requires.sound facts.can c.requires.block (same_so g c.before.before)
    c.index-named-0.result (list_so g c.before.before) (there_then g c) c.ask-there.new.storage.held (c.ask-there.ensures.groups a has)
    c.args.sink.now c.ask-there.new.sink (c.ask-there.ensures.sent a has)

-- where the group hasn't, and is in INCLUDE
include_so : (g : Over) (c : Else-there g) →
    c.is_include-is_include.result ≡ is_include (group_at c.args.storage.now.held.groups (g.F.Address.Key.number c.args.lookup.address)).group.mode
include_so g c =
    let a = g.F.Address.Key.number c.args.lookup.address in
    c.is_include-is_include.ensures
    ∙ ap (λ (e : ScheduledGroup). is_include e.group.mode) (c.entry_of.ensures.group a (has_so g c.before.before))
    ∙ (λ i. is_include (group_at (same_so g c.before.before i).groups a).group.mode)

done_else : (g : Over) (c : Else-there g) → c.is_include-is_include.result ≡ true → (let number = g.F.Address.Key.number in
    IsDone g.S.Sink.takes c.args.self.now (number c.args.lookup.address) c.args.said (named_in number c.args.named.now) c.args.storage.now.held.groups
    c.ask-there.new.storage.held.groups c.args.sink.now c.ask-there.new.sink)
done_else g c include =
    let number = g.F.Address.Key.number in
    let a = number c.args.lookup.address in
    let e = group_at c.args.storage.now.held.groups a in
    let has = has_so g c.before.before in
    let facts = c.in-Some.ensures in
    let there = ap (λ b. b || is_some (timer_at e.group (number c.index-named-0.result))) (sym (include_so g c) ∙ include) in
    done_named number g.S.Sink.takes c.args.self.now a c.args.said c.args.named.now c.args.storage.now.held c.number_blocked.new.storage.held
    c.requires.sound facts.can c.requires.block (same_so g c.before.before)
    c.index-named-0.result (list_so g c.before.before) there c.ask-there.new.storage.held (c.ask-there.ensures.groups a has)
    c.args.sink.now c.ask-there.new.sink (c.ask-there.ensures.sent a has)

pub returns-then-is_empty-clause-outcome : goal.returns-then-is_empty-clause-outcome
returns-then-is_empty-clause-outcome g c done = let did = done_empty g c in did.outcome

pub returns-then-is_empty-clause-left : goal.returns-then-is_empty-clause-left
returns-then-is_empty-clause-left g c done = let did = done_empty g c in did.left

pub returns-then-is_empty-clause-changes : goal.returns-then-is_empty-clause-changes
returns-then-is_empty-clause-changes g c done = let did = done_empty g c in did.stays

pub ask-there-requires-clause-quiet : goal.ask-there-requires-clause-quiet
ask-there-requires-clause-quiet g c address has_it =
    let at = c.args.self.now in
    let a = g.F.Address.Key.number c.args.lookup.address in
    let held = c.args.storage.now.held in
    let quiet = quiet_by at.now (group_at held.groups a).schedule c.in-Some.ensures.can.quiet in
    let is = c.lemma_is_numbered.ensures.same address a c.in-Some.number has_it (has_so g c) in
    subst (λ k. IsQuietAt at.now (group_at c.number_blocked.new.storage.held.groups k).schedule) (sym is)
    (subst (λ (h : HeldState). IsQuietAt at.now (group_at h.groups a).schedule) (sym (same_so g c)) quiet)

pub returns-then-there-clause-outcome : goal.returns-then-there-clause-outcome
returns-then-there-clause-outcome g c done = let did = done_then g c in did.outcome

pub returns-then-there-clause-left : goal.returns-then-there-clause-left
returns-then-there-clause-left g c done = let did = done_then g c in did.left

pub returns-then-there-clause-changes : goal.returns-then-there-clause-changes
returns-then-there-clause-changes g c done = let did = done_then g c in did.stays

pub returns-else-there-clause-outcome : goal.returns-else-there-clause-outcome
returns-else-there-clause-outcome g c include = let did = done_else g c include in did.outcome

pub returns-else-there-clause-left : goal.returns-else-there-clause-left
returns-else-there-clause-left g c include = let did = done_else g c include in did.left

pub returns-else-there-clause-changes : goal.returns-else-there-clause-changes
returns-else-there-clause-changes g c include = let did = done_else g c include in did.stays

pub returns-then-there-clause-moved : goal.returns-then-there-clause-moved
returns-then-there-clause-moved g c =
    let number = g.F.Address.Key.number in
    let at = c.args.self.now in
    let a = number c.args.lookup.address in
    let held = c.args.storage.now.held in
    let groups = held.groups in
    let next = c.ask-there.new.storage in
    let facts = c.in-Some.ensures in
    let has = has_so g c.before.before in
    let same = same_so g c.before.before in
    let kept_by = rows_named number g.S.Sink.takes at a c.args.said c.args.named.now held c.number_blocked.new.storage.held c.requires.sound facts.can
    c.requires.block same c.index-named-0.result (list_so g c.before.before) (there_then g c) next.held (c.ask-there.ensures.groups a has) in
    let few = c.requires.sound.within.group_count in
    let most = few_groups at.config c.lemma_is_sound.ensures.faultless in
    let sixteen = few_digits (map.len groups) (omega (arith, few, most)) in
    let size = ap (λ (h : HeldState). sources_of (group_at h.groups a)) same in
    let digits = ap (λ (h : HeldState). bitlen (map.len h.groups)) same in
    subst (λ m. IsPaid (sources_of (group_at groups a) + moved_by_edit) (put_by_rows held) (put_by_rows next.held) m next.moves)
    (ap (λ (s : Storage _ _). s.moves) facts.left)
    (paid_by (sources_of (group_at groups a) + moved_by_edit) (c.ask-there.ensures.moved a has) (omega (arith, kept_by, size, digits, sixteen)))

pub returns-else-there-clause-done : goal.returns-else-there-clause-done
returns-else-there-clause-done g c ok can_it there =
    let number = g.F.Address.Key.number in
    let a = number c.args.lookup.address in
    let e = group_at c.args.storage.now.held.groups a in
    let x = number c.index-named-0.result in
    let gone : is_some (timer_at e.group x) ≡ false = (λ i. is_some (timer_at (group_at (sym (same_so g c.before.before) i).groups a).group x)) ∙
    sym (c.ask-there.ensures.there a (has_so g c.before.before)) ∙ c.if-there.false in
    include_so g c ∙ either (is_include e.group.mode) (is_some (timer_at e.group x)) gone (there c.index-named-0.result (list_so g c.before.before))
  where
    either : (d e : Bool) → e ≡ false → (d || e) ≡ true → d ≡ true
    either true e gone some = refl
    either false e gone some = absurd (true≢false (sym some ∙ gone))

pub returns-else-there-clause-spent : goal.returns-else-there-clause-spent
returns-else-there-clause-spent g c =
    let a = g.F.Address.Key.number c.args.lookup.address in
    let groups = c.args.storage.now.held.groups in
    let facts = c.in-Some.ensures in
    let same = same_so g c.before.before in
    let some = some_so g c.before.before in
    let size = sources_of (group_at groups a) in
    let size_is = ap (λ (h : HeldState). sources_of (group_at h.groups a)) same in
    let first = c.number_blocked.ensures.spent in
    let second = c.ask-there.ensures.spent a (has_so g c.before.before) in
    let gone = ap (λ b. cond b
    (3 * sources_of (group_at c.number_blocked.new.storage.held.groups a) + 5 + bitlen (map.len c.number_blocked.new.storage.held.groups)) 0)
    c.if-there.false in
    let digits = ap bitlen size_is in
    let counted = eq-eqb (length c.args.named.now) 1 some in
    let most : most_blocked c.args.said size (length c.args.named.now) ≡ 4 + bitlen size =
    λ i. cond (c.requires.block i) (4 + cond (counted i) (bitlen size) 0) 0 in
    by_test c.is_include-is_include.result first second size (length c.args.named.now)
    (most_blocked c.args.said size (length c.args.named.now)) some size_is digits most gone
  where
    by_test : (b : Bool) {old between new low high : ℕ} → Spends 0 4 old between → Spends (min 1 low) (bitlen low + high) between new →
        (size named most : ℕ) → named ≡ 1 → low ≡ size → bitlen low ≡ bitlen size → most ≡ 4 + bitlen size → high ≡ 0
        → Spends (cond b (min size named) 0) (cond b (most + 3 * size + 5 + bitlen (map.len c.args.storage.now.held.groups)) most) old new
    by_test true first second size named most one low_is digits most_is none = Spends-join_within _ _ first second (omega (arith, one, low_is))
        (omega (arith, digits, most_is, none))
    by_test false first second size named most one low_is digits most_is none = Spends-join_within _ _ first second (omega arith)
        (omega (arith, digits, most_is, none))

pub entry_of-requires : goal.entry_of-requires
entry_of-requires g c = grind (arith, common_steps)
