-- The entries of a map of groups from a place on: the first of them, and the rest.
use Rattle.mq_held.proofs.Common.{◌≡◌, ℕ, suc, ◌+◌, ◌<◌, List, ◌∷◌, drop, get_or, length, sym, ap, ◌∙◌, arith, get_or-map, ScheduledGroup, Groups, unheld}
use Rattle.mq_held.proofs.Common.{group_at, HasPlace, entries_from}
use Rattle.std.proofs.Math.Seq.{drop-cons}
use Rattle.std.specs.FinMap as map
use Rattle.mq_held.proofs.{Entries.place_within, Entries.key_at, Places.place-group}

pair_is : (x : ℕ × ScheduledGroup) (address : ℕ) (e : ScheduledGroup) → x.0 ≡ address → x.1 ≡ e → x ≡ (address, e)
pair_is x address e first second = λ i. (first i, second i)

-- the group at a place stands first among those from there on
pub entry_next : (groups : Groups) (address place : ℕ) (e : ScheduledGroup) → HasPlace groups address place → e ≡ group_at groups address
    → entries_from place groups ≡ (address, e) ∷ entries_from (place + 1) groups
entry_next groups address place e has is =
    let within = place_within groups address place has.address_is in
    let d : ℕ × ScheduledGroup = (address, unheld) in
    let value = is ∙ place-group groups address place has ∙ get_or-map (λ (x : ℕ × ScheduledGroup). x.1) (map.entries groups) place d unheld within in
    let next : suc place ≡ place + 1 = omega arith in
    drop-cons (map.entries groups) place d within
    ∙ ap (λ x. x ∷ drop (suc place) (map.entries groups))
    (pair_is (get_or (map.entries groups) place d) address e (key_at groups address place has.address_is d) (sym value))
    ∙ ap (λ n. (address, e) ∷ drop n (map.entries groups)) next

-- a list without its first item is shorter
pub one_fewer : {X : Type 0} (x : X) (xs ys : List X) → ys ≡ x ∷ xs → length xs < length ys
one_fewer x xs ys is = omega (arith, ap length is)
