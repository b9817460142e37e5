use Rattle.mq_check.proofs.Common.{◌≡◌, ℕ, ◌+◌, ◌<◌, List, length, drop, sym, ap, subst, arith, length-drop, TrailsValue, Reaches, AreNumbers, AreLinked}
use Rattle.mq_check.proofs.LinkedSlots.{linked_popped, numbers_popped, reaches_popped}
use Rattle.mq_check.proofs.trails.Trails.pop.Goals as goal

pub invariant_of-self : goal.invariant_of-self
invariant_of-self g c =
    let are = c.self.invariant in
    let slots = c.pop_front.ensures.rest in
    let nexts = c.pop_front-2.ensures.rest in
    let befores = c.pop_front-3.ensures.rest in
    let next = c.saturating_add-self-inside.result in
    let before = subst (λ (xs : List ℕ). 0 < length xs) (sym {A = List ℕ} c.pass.ensures.slots) c.requires.some in
    let some : 0 < length c.self.inside.slots.items = subst (λ (t : TrailsValue). 0 < length t.slots) (sym {A = TrailsValue} c.self.view_is) before in (
      subst (λ (xs : List ℕ). AreLinked xs c.pop_front-2.new.self.items c.self.inside.lasts.items next) (sym {A = List ℕ} slots)
          (subst (λ (xs : List ℕ). AreLinked (drop 1 c.self.inside.slots.items) xs c.self.inside.lasts.items next) (sym {A = List ℕ} nexts)
          (linked_popped _ _ _ c.self.inside.base next are.0 are.1 (omega arith) some c.saturating_add-self-inside.ensures)),
      subst AreNumbers (sym {A = List ℕ} nexts) (numbers_popped _ are.1),
      are.2,
      are.3,
      omega (
        arith,
        ap (λ (xs : List ℕ). length xs) slots,
        ap (λ (xs : List ℕ). length xs) nexts,
        length-drop {A = ℕ} 1 c.self.inside.slots.items,
        length-drop {A = ℕ} 1 c.self.inside.nexts.items,
        are.4,
      ),
      omega (
        arith,
        ap (λ (xs : List ℕ). length xs) slots,
        ap (λ (xs : List ℕ). length xs) befores,
        length-drop {A = ℕ} 1 c.self.inside.slots.items,
        length-drop {A = ℕ} 1 c.self.inside.befores.items,
        are.5,
      ),
      are.6,
      are.7,
      are.8,
      omega (arith, c.pop_front.ensures.capacity, are.9),
      omega (arith, c.pop_front-2.ensures.capacity, are.10),
      omega (arith, c.pop_front-3.ensures.capacity, are.11),
    )

pub returns-clause-others : goal.returns-clause-others
returns-clause-others g c = λ k within before.
    let are = c.self.invariant in
    let next = c.saturating_add-self-inside.result in
    let Here : List ℕ → List ℕ →
    TrailsValue = λ some leads. record { slots = some; nexts = leads; starts = c.self.inside.starts.items; nears = c.self.inside.nears.items; base = next } in
    let later : k + 1 ≡ 1 + k = omega arith in
    let passed = c.pass.ensures.others (k + 1) within (λ e. absurd (omega (arith, e))) before in
    let seen = subst (λ (t : TrailsValue). Reaches t (k + 1)) (sym {A = TrailsValue} c.self.view_is) passed in
    let popped = reaches_popped c.self.inside.slots.items c.self.inside.nexts.items c.self.inside.starts.items c.self.inside.nears.items
    c.self.inside.base next k are.1 are.2 (omega arith) c.saturating_add-self-inside.ensures (subst (Reaches _) later seen) in
    subst (λ (xs : List ℕ). Reaches (Here xs c.pop_front-2.new.self.items) k) (sym {A = List ℕ} c.pop_front.ensures.rest)
    (subst (λ (xs : List ℕ). Reaches (Here (drop 1 c.self.inside.slots.items) xs) k) (sym {A = List ℕ} c.pop_front-2.ensures.rest) popped)
