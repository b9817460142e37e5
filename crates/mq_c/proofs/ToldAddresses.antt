-- Addresses that are written to memory, one by one.
use Rattle.mq_c.proofs.Common.{◌≡◌, ℕ, ◌+◌, ◌-◌, ◌<◌, ◌≤◌, List, [], ◌∷◌, ◌++◌, length, take, drop, get_or, set, min, refl, sym, ap, ◌∙◌, arith, length-drop}
use Rattle.mq_c.proofs.Common.{list_map, length-map, take_all, drop_min, stored_octets}
use Rattle.std.proofs.lemmas.List.{take-map, drop-map}
use Rattle.mq_c.proofs.ShownGroups.{one_more, all_put}

-- some items stand at the front of the memory, and the memory isn't passed
pub record StandSoFar {X Y : Type 0} (f : X → Y) (from : List X) (old out : List Y) (i : ℕ) : Type 0 where
  pub put : out ≡ list_map f (take i from) ++ drop i old
  pub within : i ≤ length old

pub stand_more : {X Y : Type 0} (f : X → Y) (from : List X) (old out : List Y) (i : ℕ) (d : X) (y : Y) → y ≡ f (get_or from i d) → i < length from →
    i < length old
    → StandSoFar f from old out i → StandSoFar f from old (set out i y) (i + 1)
stand_more f from old out i d y is within room so_far = record {
  put = ap (set out i) is ∙ one_more f from old out i d within room so_far.put;
  within = omega (arith, room);
}

-- all stand there
pub stand_whole : {X Y : Type 0} (f : X → Y) (from : List X) (old out : List Y) (i : ℕ) → i ≤ length from → length from ≤ i
    → StandSoFar f from old out i → out ≡ list_map f (take (length old) from) ++ drop (length from) old
stand_whole f from old out i low high so_far =
    all_put f from old out i low high so_far.put
    ∙ ap (λ (l : List _). list_map f l ++ drop (length from) old) (sym (take_all (length old) from (omega (arith, so_far.within))))

-- the written addresses from a place on, by their numbers
pub of_numbers : {K A : Type 0} (number : K → ℕ) (octets_of : ℕ → A) (addresses : List K) (first : ℕ) (old : List A)
    → list_map (stored_octets number octets_of) (take (length old) (drop first addresses)) ++ drop (length (drop first addresses)) old
    ≡ list_map octets_of (take (length old) (drop first (list_map number addresses))) ++ drop (length (drop first (list_map number addresses))) old
of_numbers {K} {A} number octets_of addresses first old =
    let rest = drop first addresses in
    let rest_is : drop first (list_map number addresses) ≡ list_map number rest = drop-map number first addresses in
    ap (λ (l : List A). l ++ drop (length rest) old) (fused (take (length old) rest) ∙ ap (list_map octets_of) (sym (take-map number (length old) rest)))
    ∙ ap (λ (n : ℕ). list_map octets_of (take (length old) (list_map number rest)) ++ drop n old) (sym (length-map rest number))
    ∙ ap (λ (l : List ℕ). list_map octets_of (take (length old) l) ++ drop (length l) old) (sym rest_is)
  where
    fused : (l : List K) → list_map (stored_octets number octets_of) l ≡ list_map octets_of (list_map number l)
    fused [] = refl
    fused (a ∷ l) = ap (λ (l : List A). octets_of (number a) ∷ l) (fused l)

-- the addresses of a workspace from a place on, which may lie after them all
pub told_from : {K A : Type 0} (number : K → ℕ) (octets_of : ℕ → A) (addresses : List K) (changed : List ℕ) (first place : ℕ) (old new : List A)
    → list_map number addresses ≡ changed → place ≡ min first (length addresses)
    → (let rest = take (length addresses - place) (drop place addresses) in new ≡ list_map (stored_octets number octets_of) (take (length old) rest)
    ++ drop (length rest) old)
    → new ≡ list_map octets_of (take (length old) (drop first changed)) ++ drop (length (drop first changed)) old
told_from {K} {A} number octets_of addresses changed first place old new changed_is place_is new_is =
    let rest_is : take (length addresses - place) (drop place addresses) ≡ drop first addresses =
    take_all (length addresses - place) (drop place addresses) (omega (arith, length-drop place addresses))
    ∙ ap (λ (k : ℕ). drop k addresses) place_is ∙ drop_min first addresses in
    new_is
    ∙ ap (λ (l : List K). list_map (stored_octets number octets_of) (take (length old) l) ++ drop (length l) old) rest_is
    ∙ of_numbers number octets_of addresses first old
    ∙ ap (λ (l : List ℕ). list_map octets_of (take (length old) (drop first l)) ++ drop (length (drop first l)) old) changed_is
