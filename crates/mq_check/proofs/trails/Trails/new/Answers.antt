use Rattle.mq_check.proofs.Common.{ℕ, ◌-◌, ◌^◌, List, length, sym, ap, ◌∙◌, subst, arith, length-replicate, both, neither, refused, AreNumbers, AreLinked}
use Rattle.mq_check.{specs.Sizes.bytes_of_trails, proofs.LinkedSlots.linked_none, proofs.LinkedSlots.numbers_none, proofs.LinkedSlots.numbers_made}
use Rattle.mq_check.proofs.trails.Trails.new.Goals as goal

pub invariant_of-result : goal.invariant_of-result
invariant_of-result g c =
    let slots = c.from_vec.ensures.items ∙ c.in_ok-with_capacity.ensures.room.0 in
    let nexts = c.from_vec-2.ensures.items ∙ c.in_ok-with_capacity-2.ensures.room.0 in
    let befores = c.from_vec-3.ensures.items ∙ c.in_ok-with_capacity-3.ensures.room.0 in
    let starts = c.in_ok-filled.ensures.items in
    let nears = c.in_ok-filled-2.ensures.items in
    let lasts = c.in_ok-filled-3.ensures.items in (
      subst (λ (xs : List ℕ). AreLinked xs c.from_vec-2.result.items c.in_ok-filled-3.field-0.items 0) (sym slots) (linked_none _ _ _),
      subst AreNumbers (sym nexts) numbers_none,
      subst AreNumbers (sym starts) (numbers_made 65522 (2 ^ 64 - 1) (omega arith)),
      subst AreNumbers (sym nears) (numbers_made 65522 (2 ^ 64 - 1) (omega arith)),
      ap (λ (xs : List ℕ). length xs) (nexts ∙ sym slots),
      ap (λ (xs : List ℕ). length xs) (befores ∙ sym slots),
      ap (λ (xs : List ℕ). length xs) starts ∙ length-replicate {A = ℕ} 65522 (2 ^ 64 - 1),
      ap (λ (xs : List ℕ). length xs) nears ∙ length-replicate {A = ℕ} 65522 (2 ^ 64 - 1),
      ap (λ (xs : List ℕ). length xs) lasts ∙ length-replicate {A = ℕ} 65522 (2 ^ 64 - 1),
      c.from_vec.ensures.capacity ∙ c.in_ok-with_capacity.ensures.room.1,
      c.from_vec-2.ensures.capacity ∙ c.in_ok-with_capacity-2.ensures.room.1,
      c.from_vec-3.ensures.capacity ∙ c.in_ok-with_capacity-3.ensures.room.1,
    )

pub returns-in_err-filled-2-clause-memory : goal.returns-in_err-filled-2-clause-memory
unfolding bytes_of_trails
returns-in_err-filled-2-clause-memory g c =
    refused c.from_residual-in_err-filled-2.result c.from_residual-in_err-filled-2.ensures.0 (neither _ (both (both
    (both (both c.in_ok-with_capacity.ensures.memory c.in_ok-with_capacity-2.ensures.memory) c.in_ok-with_capacity-3.ensures.memory)
    c.in_ok-filled.ensures.memory) c.in_err-filled-2.ensures.memory))

pub returns-in_err-filled-3-clause-memory : goal.returns-in_err-filled-3-clause-memory
unfolding bytes_of_trails
returns-in_err-filled-3-clause-memory g c =
    refused c.from_residual-in_err-filled-3.result c.from_residual-in_err-filled-3.ensures.0
    (both (both (both (both (both c.in_ok-with_capacity.ensures.memory c.in_ok-with_capacity-2.ensures.memory) c.in_ok-with_capacity-3.ensures.memory)
    c.in_ok-filled.ensures.memory) c.in_ok-filled-2.ensures.memory) c.in_err-filled-3.ensures.memory)

pub returns-clause-empty : goal.returns-clause-empty
returns-clause-empty g c = c.from_vec.ensures.items ∙ c.in_ok-with_capacity.ensures.room.0

pub returns-clause-memory : goal.returns-clause-memory
unfolding bytes_of_trails
returns-clause-memory g c =
    both (both (both (both (both c.in_ok-with_capacity.ensures.memory c.in_ok-with_capacity-2.ensures.memory) c.in_ok-with_capacity-3.ensures.memory)
    c.in_ok-filled.ensures.memory) c.in_ok-filled-2.ensures.memory) c.in_ok-filled-3.ensures.memory
