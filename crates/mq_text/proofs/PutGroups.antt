-- Groups that were put one part after another.
use Rattle.std.proofs.Common.{◌≡◌, ℕ, ◌+◌, ◌-◌, ◌≤◌, nat_le, true, List, [], ◌∷◌, ◌++◌, length, take, drop, append_assoc, ap, ◌∙◌, arith}
use Rattle.std.proofs.lemmas.{Bool.Decides.nat_tests, List.take_all, List.length-drop}
use Rattle.mq_text.specs.{declared.address_v6.ZeroGroups.ZeroGroups, AddressV6.with_colons, AddressV6.shortened}

-- the groups before a run, two colons, and the later groups
pub put_shortened : (old first second third groups : List ℕ) (run : ZeroGroups) → length groups ≡ 8 → 2 ≤ run.count → first ≡ old ++
    with_colons (take run.place groups) → second ≡ first ++ (58 ∷ 58 ∷ []) → third ≡ second ++
    with_colons (take (8 - (run.place + run.count)) (drop (run.place + run.count) groups)) → third ≡ old ++ shortened groups run
unfolding shortened
put_shortened old first second third groups run eight two is_first is_second is_third =
    let behind = run.place + run.count in
    let test : nat_le 2 run.count ≡ true = grind (arith, nat_tests, two) in
    let all : take (8 - behind) (drop behind groups) ≡ drop behind groups = take_all (8 - behind) (drop behind groups)
    (let long = length-drop behind groups in omega (arith, long, eight)) in
    let front = with_colons (take run.place groups) in
    rw test
    (is_third ∙ rw (all, is_second, is_first) (ap (λ (xs : List ℕ). xs ++ with_colons (drop behind groups)) (append_assoc old front (58 ∷ 58 ∷ [])) ∙
    append_assoc old (front ++ (58 ∷ 58 ∷ [])) (with_colons (drop behind groups))))
