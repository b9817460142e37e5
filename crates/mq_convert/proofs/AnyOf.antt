-- A test of several elements, tried one after the other.
use Rattle.mq_convert.proofs.Common.{◌≡◌, ℕ, suc, ◌+◌, ◌<◌, Bool, true, false, List, ◌∷◌, length, drop, get_or, refl, ap, sym, ◌∙◌, add-one, list_map, list_any}
use Rattle.mq_convert.proofs.Common.{drop-cons, drop-length, mapped_long}
use Rattle.std.proofs.Math.ListN.{get_or-map as mapped_at}

-- a list of results is as long
pub made_long : {X Y : Type 0} (f : X → Y) (xs : List X) (ys : List Y) → list_map f xs ≡ ys → length ys ≡ length xs
made_long f xs ys made = ap length (sym made) ∙ mapped_long xs f

-- an element, at its place in the list of results
pub made_at : {X Y : Type 0} (f : X → Y) (xs : List X) (ys : List Y) (place : ℕ) (x : X) → list_map f xs ≡ ys → x ≡ get_or xs place x →
    f x ≡ get_or ys place (f x)
made_at f xs ys place x made is = ap f is ∙ sym (mapped_at f xs place x) ∙ ap (λ (zs : List _). get_or zs place (f x)) made

from_place : {X : Type 0} (xs : List X) (place : ℕ) (x : X) → place < length xs → x ≡ get_or xs place x → drop place xs ≡ x ∷ drop (suc place) xs
from_place xs place x within is = drop-cons xs place x within ∙ ap (λ (y : _). y ∷ drop (suc place) xs) (sym is)

skipped_any : {X : Type 0} (p : X → Bool) (x : X) (rest : List X) → p x ≡ false → list_any p (x ∷ rest) ≡ list_any p rest
skipped_any p x rest is = rw is refl

found_any : {X : Type 0} (p : X → Bool) (x : X) (rest : List X) → p x ≡ true → list_any p (x ∷ rest) ≡ true
found_any p x rest is = rw is refl

pub one_any : {X : Type 0} (p : X → Bool) (xs : List X) (place : ℕ) (x : X) → place < length xs → x ≡ get_or xs place x → p x ≡ false
    → list_any p xs ≡ list_any p (drop place xs) → list_any p xs ≡ list_any p (drop (place + 1) xs)
one_any p xs place x within is fails passed =
    let next : list_any p xs ≡ list_any p (drop (suc place) xs) = passed ∙ ap (list_any p) (from_place xs place x within is) ∙
    skipped_any p x (drop (suc place) xs) fails in
    rw add-one next

pub any_at : {X : Type 0} (p : X → Bool) (xs : List X) (place : ℕ) (x : X) → place < length xs → x ≡ get_or xs place x → p x ≡ true
    → list_any p xs ≡ list_any p (drop place xs) → list_any p xs ≡ true
any_at p xs place x within is passes passed = passed ∙ ap (list_any p) (from_place xs place x within is) ∙ found_any p x (drop (suc place) xs) passes

pub any_of_none : {X : Type 0} (p : X → Bool) (xs : List X) (place : ℕ) → place ≡ length xs
    → list_any p xs ≡ list_any p (drop place xs) → list_any p xs ≡ false
any_of_none {X} p xs place all passed = passed ∙ ap (λ (n : ℕ). list_any p (drop n xs)) all ∙ ap (list_any p) (drop-length xs)
