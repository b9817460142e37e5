-- The moments of one item more.
use Rattle.mq_count.proofs.Common.{◌≡◌, ℕ, zero, suc, ◌+◌, ◌<◌, ◌≤◌, min, refl, List, [], ◌∷◌, ◌++◌, take, get_or, length, length-append, Option, None, Some}
use Rattle.mq_count.proofs.Common.{sym, ap, subst, ◌∙◌, append-nil, arith, option_to_list, take_more, Spends, compared, compared_at, least, moments_by}
use Rattle.std.proofs.lemmas.List.Concat.{flat_map-append}

pub moments-more : {T : Type 0} (moment_of : T → Option ℕ) (items : List T) (i : ℕ) (x : T) → i < length items → x ≡ get_or items i x →
    moments_by moment_of (take (i + 1) items) ≡ moments_by moment_of (take i items) ++ option_to_list (moment_of x)
moments-more moment_of items i x within here =
    ap (moments_by moment_of) (take_more items i x within ∙ ap (λ y. take i items ++ y ∷ []) (sym here))
    ∙ flat_map-append (λ y. option_to_list (moment_of y)) (take i items) (x ∷ [])
    ∙ ap (λ ms. moments_by moment_of (take i items) ++ ms) (append-nil (option_to_list (moment_of x)))

pub least-more : (n d : ℕ) (ms : List ℕ) → least n (ms ++ d ∷ []) ≡ min d (least n ms)
least-more n d [] = refl
least-more n d (m ∷ ms) =
    let rest = least-more n d ms in
    omega (arith, rest)

-- no more than the items
pub moments-few : {T : Type 0} (moment_of : T → Option ℕ) (items : List T) → length (moments_by moment_of items) ≤ length items
moments-few moment_of [] = omega arith
moments-few moment_of (x ∷ items) =
    let rest = moments-few moment_of items in
    let one = at_most_one (moment_of x) in
    let both = length-append (option_to_list (moment_of x)) (moments_by moment_of items) in
    omega (arith, rest, one, both)
  where
    at_most_one : (o : Option ℕ) → length (option_to_list o) ≤ 1
    at_most_one None = omega arith
    at_most_one (Some n) = omega arith

-- the comparisons at the place of an item, and behind the last
pub compared-here : {T : Type 0} (moment_of : T → Option ℕ) (items : List T) (place : ℕ) (x : T) → place < length items → x ≡ get_or items place x →
    compared_at moment_of items place ≡ compared (moment_of x)
compared-here moment_of [] place x within here = absurd (omega (arith, within))
compared-here moment_of (y ∷ items) zero x within here = ap (λ z. compared (moment_of z)) (sym here)
compared-here moment_of (y ∷ items) (suc place) x within here = compared-here moment_of items place x (omega (arith, within)) here

pub compared-past : {T : Type 0} (moment_of : T → Option ℕ) (items : List T) (place : ℕ) → length items ≤ place → compared_at moment_of items place ≡ 0
compared-past moment_of [] place past = refl
compared-past moment_of (y ∷ items) zero past = absurd (omega (arith, past))
compared-past moment_of (y ∷ items) (suc place) past = compared-past moment_of items place (omega (arith, past))

-- as many comparisons, said otherwise
pub exactly : (k n old mid new : ℕ) → Spends k k mid new → mid ≡ old → k ≡ n → Spends n n old new
exactly k n old mid new spent same is = subst (λ o. Spends n n o new) same (subst (λ j. Spends j j mid new) is spent)
