use Rattle.mq_c.proofs.Common.{◌≡◌, ℕ, ◌++◌, List, length, take, drop, min, refl, ap, ◌∙◌, drop_min}
use Rattle.std.proofs.{Math.Nat.min_comm, lemmas.List.take_min}
use Rattle.mq_c.specs.Counted.{counted}
use Rattle.mq_c.proofs.counting.put_counters.Goals as goal

-- as many of a list as there is room for stand at the front
stand : (all old front : List ℕ) (room : ℕ) → room ≡ min (length old) (length all) → front ≡ take room all → front ++
    drop room old ≡ take (length old) all ++ drop (length all) old
stand all old front room room_is front_is =
    ap (λ (l : List ℕ). l ++ drop room old) (front_is ∙ ap (λ (n : ℕ). take n all) room_is ∙ take_min (length old) all)
    ∙ ap (λ (l : List ℕ). take (length old) all ++ l) (ap (λ (n : ℕ). drop n old) (room_is ∙ min_comm (length old) (length all)) ∙ drop_min (length all) old)

pub returns : goal.returns
returns c = record {
  counters = stand (counted c.args.counts.now) c.args.out.now c.copy_from_slice.new.self c.min-room.result c.min-room.ensures
      (c.copy_from_slice.ensures.after ∙ ap (take c.min-room.result) c.all.ensures);
  count = refl;
}
