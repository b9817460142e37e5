use Rattle.mq_check.proofs.Common.{◌≡◌, ℕ, ◌+◌, ◌<◌, length, refl, ap, sym, ◌∙◌, arith, list_map, nat_tests, numbered_entry, WaitingValue}
use Rattle.std.specs.Prelude.{nat_lt}
use Rattle.mq_check.proofs.{JudgedEntries.judged_popped, MarkedEntries.made_behind, MarkedEntries.marked_popped, MarkedEntries.bounded_popped}
use Rattle.mq_check.proofs.Waits.{made_at, made_long, from_place, none_of_full, none_of_none, none_of_first, none_made, popped}
use Rattle.mq_check.proofs.waiting.Waiting.pop_over.Goals as goal

pub returns-then-self-clause-none_over : goal.returns-then-self-clause-none_over
returns-then-self-clause-none_over g c = none_of_full _ _ _ (sym (ap (λ (w : WaitingValue). w.is_full) c.self.view_is) ∙ c.if-self.true)

pub returns-then-is_empty-clause-none_over : goal.returns-then-is_empty-clause-none_over
returns-then-is_empty-clause-none_over g c =
    let f = numbered_entry g.F.Address.Key.number in
    let none : length c.self.inside.entries.items ≡ 0 = grind (arith, nat_tests, c.self.inside.entries.ok.0) in
    none_of_none _ _ _ (sym (ap (λ (w : WaitingValue). w.is_full) c.self.view_is) ∙ c.if-self.false)
    (none_made f _ _ (ap (λ (w : WaitingValue). w.entries) c.self.view_is) none)

pub returns-then-not-is_over-clause-none_over : goal.returns-then-not-is_over-clause-none_over
returns-then-not-is_over-clause-none_over g c =
    let f = numbered_entry g.F.Address.Key.number in
    let made = ap (λ (w : WaitingValue). w.entries) c.self.view_is in
    let some : 0 < length c.self.inside.entries.items = grind (arith, nat_tests, c.self.inside.entries.ok.0) in
    let within : 0 < length c.args.self.now.entries = omega (arith, some, made_long f _ _ made) in
    none_of_first _ _ _ _ _ (sym (ap (λ (w : WaitingValue). w.is_full) c.self.view_is) ∙ c.if-self.false)
    (from_place c.args.self.now.entries 0 _ within (made_at f _ _ 0 _ made c.index.ensures))
    (ap (λ (m : ℕ). nat_lt (m + c.args.keep) c.args.now) (sym c.moment.ensures) ∙ sym c.is_over.ensures ∙ c.if-not-is_over.true)

pub returns-clause-some : goal.returns-clause-some
returns-clause-some g c =
    let f = numbered_entry g.F.Address.Key.number in
    popped f _ _ _ _ _ _ c.index.result.now _ c.if-self.false c.self.view_is c.index.ensures
    (ap (λ (m : ℕ). nat_lt (m + c.args.keep) c.args.now) (sym c.moment.ensures) ∙ sym c.is_over.ensures ∙ c.if-not-is_over.false) c.pop_front.ensures.items

pub invariant_of-self : goal.invariant_of-self
invariant_of-self g c =
    let f = numbered_entry g.F.Address.Key.number in
    let are = c.self.invariant in
    let some : 0 < length c.self.inside.entries.items = grind (arith, nat_tests, c.self.inside.entries.ok.0) in
    let some_too : 0 < length (list_map f c.self.inside.entries.items) = omega (arith, some, made_long f c.self.inside.entries.items _ refl) in
    let rest = made_behind f c.self.inside.entries.items c.pop_front.new.self.items c.pop_front.ensures.rest in (
      omega (arith, c.pop_front.ensures.capacity, are.0),
      marked_popped _ _ _ _ _ _ are.1 rest some_too c.pop.ensures.slots c.pop.ensures.others c.pop.ensures.nears,
      bounded_popped _ _ _ _ are.2 rest,
      are.3,
      judged_popped _ _ _ _ are.4 rest c.saturating_sub-self-inside.ensures,
    )
