use Rattle.mq_check.proofs.Common.{ℕ, false, List, length, ap, subst, sym, ◌∙◌, list_map, length-replicate, both, neither, refused, Entry, numbered_entry}
use Rattle.mq_check.proofs.Common.{AreMarked, AreBounded}
use Rattle.mq_check.{specs.Sizes.bytes_of_entries, proofs.JudgedEntries.judged_none, proofs.MarkedEntries.marked_none, proofs.MarkedEntries.bounded_none}
use Rattle.mq_check.proofs.waiting.Waiting.new.Goals as goal

pub invariant_of-result : goal.invariant_of-result
invariant_of-result g c =
    let entries = c.from_vec.ensures.items ∙ c.in_ok-with_capacity.ensures.room.0 in
    let none = ap (list_map (numbered_entry g.F.Address.Key.number)) entries in (
      c.from_vec.ensures.capacity ∙ c.in_ok-with_capacity.ensures.room.1,
      subst (λ (es : List (Entry ℕ)). AreMarked g.F.Address.WireKey.WIDTH c.start.result es c.in_ok-new.field-0) (sym {A = List (Entry ℕ)} none)
          (marked_none _ _ _ c.in_ok-new.ensures.empty),
      subst (λ (es : List (Entry ℕ)). AreBounded g.F.Address.WireKey.WIDTH es c.in_ok-filled.field-0.items) (sym {A = List (Entry ℕ)} none) (bounded_none _ _),
      ap (λ (xs : List ℕ). length xs) c.in_ok-filled.ensures.items ∙ length-replicate {A = ℕ} 65522 c.moment.result,
      judged_none _,
    )

pub returns-in_err-with_capacity-clause-memory : goal.returns-in_err-with_capacity-clause-memory
unfolding bytes_of_entries
returns-in_err-with_capacity-clause-memory g c =
    refused c.from_residual.result c.from_residual.ensures.0 (neither {between = 0} _ (neither _ c.in_err-with_capacity.ensures.memory))

pub returns-in_err-new-clause-memory : goal.returns-in_err-new-clause-memory
unfolding bytes_of_entries
returns-in_err-new-clause-memory g c =
    refused c.from_residual-in_err-new.result c.from_residual-in_err-new.ensures.0
    (neither _ (both c.in_ok-with_capacity.ensures.memory c.in_err-new.ensures.memory))

pub returns-in_err-filled-clause-memory : goal.returns-in_err-filled-clause-memory
unfolding bytes_of_entries
returns-in_err-filled-clause-memory g c =
    refused c.from_residual-in_err-filled.result c.from_residual-in_err-filled.ensures.0
    (both (both c.in_ok-with_capacity.ensures.memory c.in_ok-new.ensures.memory) c.in_err-filled.ensures.memory)

pub returns-clause-nothing : goal.returns-clause-nothing
returns-clause-nothing g c =
    let none = ap (list_map (numbered_entry g.F.Address.Key.number)) (c.from_vec.ensures.items ∙ c.in_ok-with_capacity.ensures.room.0) in
    λ i. record { entries = none i; is_full = false }

pub returns-clause-memory : goal.returns-clause-memory
unfolding bytes_of_entries
returns-clause-memory g c = both (both c.in_ok-with_capacity.ensures.memory c.in_ok-new.ensures.memory) c.in_ok-filled.ensures.memory
