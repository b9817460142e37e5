use Rattle.mq_check.proofs.Common.{◌≡◌, ℕ, ◌-◌, ◌<◌, ◌≤◌, ◌^◌, ◌++◌, ◌∷◌, [], List, length, get_or, sym, ap, subst, arith, get_or_read, length-set, length_push}
use Rattle.mq_check.proofs.Common.{TrailsValue, Reaches, AreNumbers, AreLinked}
use Rattle.std.specs.Prelude.{slice_set}
use Rattle.mq_check.proofs.LinkedSlots.{linked_pushed, reaches_pushed, reaches_still, numbers_pushed, numbers_set, numbers_lower}
use Rattle.mq_check.proofs.trails.Trails.push.Goals as goal

pub invariant_of-self : goal.invariant_of-self
invariant_of-self g c =
    let are = c.self.invariant in
    let slots = c.push_back_reserved.ensures.items in
    let nexts = c.push_back_reserved-2.ensures.items in
    let befores = c.push_back_reserved-3.ensures.items in
    let closed = c.close.ensures.closed in
    let lasts = c.self.inside.lasts.items in
    let number = c.number-number.result in
    let known : c.args.slot < length lasts = omega (arith, are.8) in
    let read = get_or_read lasts c.args.slot c.index-before.result.now known c.index-before.ensures 0 in
    let pending : c.self.inside.base ≤ get_or lasts c.args.slot 0 → c.pending_place-last.result ≡ get_or lasts c.args.slot 0 - c.self.inside.base =
    λ there. omega (arith, read, c.pending_place-last.ensures.pending (omega (arith, read, there))) in (
      subst (λ (xs : List ℕ). AreLinked xs c.push_back_reserved-2.new.self.items (slice_set lasts c.args.slot number) c.self.inside.base)
          (sym {A = List ℕ} slots) (subst (λ (xs : List ℕ). AreLinked (c.self.inside.slots.items ++ c.args.slot ∷ []) xs
          (slice_set lasts c.args.slot number) c.self.inside.base) (sym {A = List ℕ} nexts)
          (linked_pushed _ _ _ _ _ _ _ _ are.0 are.4 are.8 c.requires.slot
          (omega (arith, c.number-number.ensures, ap (λ (t : TrailsValue). t.base) c.self.view_is, c.len.ensures, c.self.inside.slots.ok.0)) pending closed)),
      subst AreNumbers (sym {A = List ℕ} nexts) (numbers_pushed _ _ (numbers_lower _ _ _ _ are.1 closed) (omega arith)),
      numbers_set _ _ _ are.2 (omega (arith, are.6)) (omega arith),
      numbers_set _ _ _ are.3 (omega (arith, are.7)) (omega arith),
      omega (
        arith,
        ap (λ (xs : List ℕ). length xs) slots,
        ap (λ (xs : List ℕ). length xs) nexts,
        length_push c.self.inside.slots.items c.args.slot,
        length_push c.close.new.nexts.items (2 ^ 64 - 1),
        are.4,
        closed.long,
      ),
      omega (
        arith,
        ap (λ (xs : List ℕ). length xs) slots,
        ap (λ (xs : List ℕ). length xs) befores,
        length_push c.self.inside.slots.items c.args.slot,
        length_push c.self.inside.befores.items c.index-before.result.now,
        are.5,
      ),
      omega (arith, length-set {A = ℕ}, are.6),
      omega (arith, length-set {A = ℕ}, are.7),
      omega (arith, length-set {A = ℕ}, are.8),
      omega (arith, c.push_back_reserved.ensures.capacity, are.9),
      omega (arith, c.push_back_reserved-2.ensures.capacity, c.close.ensures.capacity, are.10),
      omega (arith, c.push_back_reserved-3.ensures.capacity, are.11),
    )

pub returns-clause-here : goal.returns-clause-here
returns-clause-here g c =
    let are = c.self.invariant in
    let starts = c.self.inside.starts.items in
    let slots = c.self.inside.slots.items in
    let base = c.self.inside.base in
    let lasts = c.self.inside.lasts.items in
    let known : c.args.slot < length lasts = omega (arith, are.8) in
    let there : c.args.slot < length starts = omega (arith, are.6) in
    let read = get_or_read lasts c.args.slot c.index-before.result.now known c.index-before.ensures 0 in
    let pending : base ≤ get_or lasts c.args.slot 0 → c.pending_place-last.result ≡ get_or lasts c.args.slot 0 - base =
    λ there. omega (arith, read, c.pending_place-last.ensures.pending (omega (arith, read, there))) in
    let Here : List ℕ → List ℕ →
    TrailsValue = λ some leads. record {
      slots = some;
      nexts = leads;
      starts = slice_set starts c.args.slot c.min.result;
      nears = slice_set c.self.inside.nears.items c.args.slot c.min-2.result;
      base = base;
    } in
    let made = reaches_pushed slots _ _ lasts starts (slice_set c.self.inside.nears.items c.args.slot c.min-2.result) base c.args.slot
    c.number-number.result c.pending_place-last.result c.min.result are.0 are.4 there
    (omega (arith, c.number-number.ensures, ap (λ (t : TrailsValue). t.base) c.self.view_is, c.len.ensures, c.self.inside.slots.ok.0)) pending
    c.close.ensures.closed (omega (arith, c.min.ensures)) in
    subst (λ (t : TrailsValue). Reaches (Here c.push_back_reserved.new.self.items c.push_back_reserved-2.new.self.items) (length t.slots)) c.self.view_is
    (subst (λ (xs : List ℕ). Reaches (Here xs c.push_back_reserved-2.new.self.items) (length slots)) (sym {A = List ℕ} c.push_back_reserved.ensures.items)
    (subst (λ (xs : List ℕ). Reaches (Here (slots ++ c.args.slot ∷ []) xs) (length slots)) (sym {A = List ℕ} c.push_back_reserved-2.ensures.items) made))

pub returns-clause-others : goal.returns-clause-others
returns-clause-others g c = λ k within before.
    let are = c.self.invariant in
    let starts = c.self.inside.starts.items in
    let slots = c.self.inside.slots.items in
    let base = c.self.inside.base in
    let there : c.args.slot < length starts = omega (arith, are.6) in
    let read = get_or_read starts c.args.slot c.index-start.result.now there c.index-start.ensures 0 in
    let inside : k < length slots = subst (λ (t : TrailsValue). k < length t.slots) (sym {A = TrailsValue} c.self.view_is) within in
    let Here : List ℕ → List ℕ →
    TrailsValue = λ some leads. record {
      slots = some;
      nexts = leads;
      starts = slice_set starts c.args.slot c.min.result;
      nears = slice_set c.self.inside.nears.items c.args.slot c.min-2.result;
      base = base;
    } in
    let made = reaches_still slots c.self.inside.nexts.items _ starts c.self.inside.nears.items
    (slice_set c.self.inside.nears.items c.args.slot c.min-2.result) base c.args.slot c.number-number.result c.pending_place-last.result c.min.result k
    are.4 there c.close.ensures.closed (omega (arith, read, c.min.ensures)) inside
    (subst (λ (t : TrailsValue). Reaches t k) (sym {A = TrailsValue} c.self.view_is) before) in
    subst (λ (xs : List ℕ). Reaches (Here xs c.push_back_reserved-2.new.self.items) k) (sym {A = List ℕ} c.push_back_reserved.ensures.items)
    (subst (λ (xs : List ℕ). Reaches (Here (slots ++ c.args.slot ∷ []) xs) k) (sym {A = List ℕ} c.push_back_reserved-2.ensures.items) made)
