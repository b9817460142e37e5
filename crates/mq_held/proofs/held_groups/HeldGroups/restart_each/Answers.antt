use Rattle.mq_held.proofs.Common.{ℕ, ◌+◌, ◌-◌, ◌*◌, ◌≤◌, Bool, false, Option, None, Some, refl, true≢false, MatchOption, cond, List, length, sym, ap}
use Rattle.mq_held.proofs.Common.{subst, ◌∙◌, arith, rules, eq-eqb, eqb-true, nil_from_length}
use Rattle.mq_held.proofs.Common.{has_room, Spends, Spends-within, bitlen, Groups, group_at, running_in, sources_of, HeldState, RestartsEach}
use Rattle.mq_held.proofs.{Inside.group_found, RestartedEach.one_item, RestartedTimers.insert-same}
use Rattle.mq_held.proofs.held_groups.HeldGroups.restart_each.Goals as goal

pub returns-clause-effect : goal.returns-clause-effect
returns-clause-effect g c address has =
    let named = one_item c.args.named.now c.index-named-0.result c.if-named-ne1.false c.index-named-0.is in
    subst (λ (named : List _).
    RestartsEach g.K.Key.number address c.args.deadline named (has_room c.args.room c.args.self.now.groups address) c.restart.result c.args.self.now
    c.restart.new.self c.args.moves.now c.restart.new.moves) (sym named) (c.restart.ensures.effect address has)

pub returns-clause-spent : goal.returns-clause-spent
returns-clause-spent g c address has =
    let groups = c.args.self.now.groups in
    let size = sources_of (group_at groups address) in
    let digits = bitlen (running_in groups - 1) in
    let count = length c.args.named.now in
    let one = eq-eqb count 1 c.if-named-ne1.false in
    let looked = ap (λ b. cond b (bitlen size) (size + bitlen size)) one in
    let most = ap (λ b. cond b (bitlen size + size + 5 + digits) (3 * size + bitlen size + count + 4 + digits)) one in
    by_result c.restart.result _ _ _ (c.restart.ensures.spent address has) (omega (arith, looked)) (omega (arith, most)) (omega (arith, c.if-named-ne1.false))
  where
    by_result : (r : Option Bool) (least : ℕ) {looked set looked_in set_in count : ℕ} (old new : ℕ) →
        MatchOption r (Spends least looked old new) (λ _. Spends (1 + least) set old new) → looked ≤ looked_in → set ≤ set_in → count ≤ 1 →
        MatchOption r (Spends 0 looked_in old new) (λ _. Spends count set_in old new)
    by_result None least old new is less more few = Spends-within _ _ is (omega arith) less
    by_result (Some x) least old new is less more few = Spends-within _ _ is (omega (arith, few)) more

pub returns-then-named-ne1-clause-effect : goal.returns-then-named-ne1-clause-effect
returns-then-named-ne1-clause-effect g c address has = c.restart_several.ensures.effect address has (has_room c.args.room c.args.self.now.groups address)

-- the timers of no sources: the group is put where it is
pub returns-then-is_empty-clause-effect : goal.returns-then-is_empty-clause-effect
returns-then-is_empty-clause-effect g c address has =
    let self = c.args.self.now in
    let none = nil_from_length c.args.named.now (eqb-true (length c.args.named.now) 0 (sym c.is_empty.ensures ∙ c.if-is_empty.true)) in
    let same = insert-same self.groups address _ (group_found self.groups address (c.lemma_is_numbered.ensures.of_one address c.args.number has)) in
    let groups = ap (λ (groups : Groups). let s : HeldState = record self { groups = groups } in s) (sym same) in
    subst (λ (named : List _).
    RestartsEach g.K.Key.number address c.args.deadline named (has_room c.args.room self.groups address) (Some false) self self
    c.args.moves.now c.args.moves.now) (sym none)
    (record { done = refl; told = refl; groups = groups; there = λ _. (refl, search rules); added = λ absent. absurd (true≢false absent); still = λ none. cc })
