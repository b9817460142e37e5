-- Spans one after the other: where the first that isn't whole begins, and where they end.
use Rattle.mq_wire.proofs.Common.{◌≡◌, ℕ, zero, suc, ◌+◌, ◌*◌, ◌-◌, ◌/◌, ◌%◌, ◌<◌, ◌≤◌, nat_le, false, List, [], ◌∷◌, ◌++◌, Option, Some, None, Result, Ok, Err}
use Rattle.mq_wire.proofs.Common.{replicate, sum, inl, inr, ◌⊎◌, ap, sym, ◌∙◌, refl, arith, add-zero, option_map, mul-le-mul_right, div-add-mod', mod_below}
use Rattle.mq_wire.proofs.Common.{nat_tests, leb_tells, WireFault, Truncated, first_cut, cut_from, EndsAt}
use Rattle.std.proofs.lemmas.List.{Folds.sum_by-replicate, Sums.sum_by-append}

-- one span that is whole
pub step : (len at width : ℕ) (widths : List ℕ) → at + width ≤ len → first_cut len at (width ∷ widths) ≡ first_cut len (at + width) widths
step len at width widths whole = grind (arith, nat_tests)

-- spans of one width: of n the one after q whole ones is cut
cut_at : (n q width len at : ℕ) → at + q * width ≤ len → len < at + q * width + width → q < n → first_cut len at (replicate n width) ≡ Some (at + q * width)
cut_at zero q width len at whole cut less = absurd (omega arith)
cut_at (suc n) zero width len at whole cut less =
    let test : nat_le (at + width) len ≡ false = grind (arith, nat_tests) in
    let place : at ≡ at + zero * width = omega arith in rw test (ap Some place)
cut_at (suc n) (suc q) width len at whole cut less =
    let one = step len at width (replicate n width) (omega arith) in
    let rest = cut_at n q width len (at + width) (omega arith) (omega arith) (omega arith) in
    let place : at + width + q * width ≡ at + suc q * width = omega arith in one ∙ rest ∙ ap Some place

-- spans of one width that are all whole
pub whole_at : (n width len at : ℕ) → at + n * width ≤ len → first_cut len at (replicate n width) ≡ None
whole_at zero width len at whole = refl
whole_at (suc n) width len at whole =
    step len at width (replicate n width) (omega arith) ∙ whole_at n width len (at + width) (omega arith)

-- the first span is cut
cut_here : (len at width : ℕ) (widths : List ℕ) → len < at + width → first_cut len at (width ∷ widths) ≡ Some at
cut_here len at width widths cut = grind (arith, nat_tests)

-- where the first span is whole
pub first_whole : (len at width : ℕ) (widths : List ℕ) → first_cut len at (width ∷ widths) ≡ None → at + width ≤ len
first_whole len at width widths whole =
    elim (leb_tells (at + width) len) [
      | inl fits ↦ fits.1
      | inr over ↦ (let some = cut_here len at width widths over.1 in absurd (cc))
    ]

-- the bytes of spans
sum-cons : (width : ℕ) (widths : List ℕ) → sum (width ∷ widths) ≡ width + sum widths
sum-cons width widths = let all = sum_by-append (λ n. n) (width ∷ []) widths in omega (arith, all)

pub sum-append : (xs ys : List ℕ) → sum (xs ++ ys) ≡ sum xs + sum ys
sum-append xs ys = sum_by-append (λ n. n) xs ys

pub sum-replicate : (n width : ℕ) → sum (replicate n width) ≡ n * width
sum-replicate n width = sum_by-replicate (λ n. n) n width

-- spans that are whole, before others
pub cut_behind_whole : (len at : ℕ) (first others : List ℕ) → first_cut len at first ≡ None → first_cut len at (first ++ others)
    ≡ first_cut len (at + sum first) others
cut_behind_whole len at [] others whole = ap (λ (n : ℕ). first_cut len n others) (sym (add-zero at))
cut_behind_whole len at (width ∷ first) others whole =
    let fits = first_whole len at width first whole in
    let rest = cut_behind_whole len (at + width) first others (sym (step len at width first fits) ∙ whole) in
    let place : at + width + sum first ≡ at + sum (width ∷ first) = (let all = sum-cons width first in omega (arith, all)) in
    step len at width (first ++ others) fits ∙ rest ∙ ap (λ (n : ℕ). first_cut len n others) place

-- spans with a cut one, before others
cut_before : (len at place : ℕ) (first others : List ℕ) → first_cut len at first ≡ Some place → first_cut len at (first ++ others) ≡ Some place
cut_before len at place [] others cut = absurd (cc)
cut_before len at place (width ∷ first) others cut =
    elim (leb_tells (at + width) len) [
      | inl fits ↦ (
          let rest = cut_before len (at + width) place first others (sym (step len at width first fits.1) ∙ cut) in
          step len at width (first ++ others) fits.1 ∙ rest
          )
      | inr over ↦ cut_here len at width (first ++ others) over.1 ∙ sym (cut_here len at width first over.1) ∙ cut
    ]

whole_or_cut : (cut : Option ℕ) → (cut ≡ None) ⊎ ((place : ℕ) × (cut ≡ Some place))
whole_or_cut None = inl refl
whole_or_cut (Some place) = inr (place, refl)

cut_somewhere : (cut : Option ℕ) (fault : WireFault) → option_map (λ place. Truncated place) cut ≡ Some fault → (place : ℕ) × (cut ≡ Some place) ×
    (fault ≡ Truncated place)
cut_somewhere None fault same = absurd (cc)
cut_somewhere (Some place) fault same = (place, refl, cc)

-- where spans are whole, the first fault of them and of others is that of the others
fault_behind : (len at end : ℕ) (first others : List ℕ) (fault : WireFault) → EndsAt len at first (Ok end) → cut_from len end others ≡ Some fault →
    cut_from len at (first ++ others) ≡ Some fault
fault_behind len at end first others fault whole cut =
    ap (option_map (λ place. Truncated place)) (cut_behind_whole len at first others whole.0 ∙ ap (λ (n : ℕ). first_cut len n others) (sym whole.1)) ∙ cut

-- where a span is cut, its fault is that of all
pub fault_before : (len at : ℕ) (first others : List ℕ) (fault : WireFault) → cut_from len at first ≡ Some fault → cut_from len at (first ++ others)
    ≡ Some fault
fault_before len at first others fault cut =
    let place = cut_somewhere (first_cut len at first) fault cut in
    ap (option_map (λ place. Truncated place)) (cut_before len at place.0 first others place.1 ∙ sym place.1) ∙ cut

-- spans that end, and the facts about the later ones
pub ends_on : (len at end : ℕ) (first others : List ℕ) (r : Result ℕ WireFault) → EndsAt len at first (Ok end) → EndsAt len end others r →
    EndsAt len at (first ++ others) r
ends_on len at end first others (Ok last) one two =
    let all = sum-append first others in (
      cut_behind_whole len at first others one.0 ∙ ap (λ (n : ℕ). first_cut len n others) (sym one.1) ∙ two.0,
      omega (arith, one.1, two.1, all),
    )
ends_on len at end first others (Err fault) one two = fault_behind len at end first others fault one two

-- spans that are whole are so in two parts
pub whole_parts : (len at : ℕ) (first others : List ℕ) → first_cut len at (first ++ others) ≡ None → (first_cut len at first ≡ None) ×
    (first_cut len (at + sum first) others ≡ None)
whole_parts len at first others whole =
    elim (whole_or_cut (first_cut len at first)) [
      | inl none ↦ (none, sym (cut_behind_whole len at first others none) ∙ whole)
      | inr some ↦ (let cut = cut_before len at some.0 first others some.1 in absurd (cc))
    ]

-- spans end within the bytes
pub ends_within : (len at : ℕ) (widths : List ℕ) → at ≤ len → first_cut len at widths ≡ None → at + sum widths ≤ len
ends_within len at [] within whole = omega arith
ends_within len at (width ∷ widths) within whole =
    let fits = first_whole len at width widths whole in
    let rest = ends_within len (at + width) widths fits (sym (step len at width widths fits) ∙ whole) in
    let all = sum-cons width widths in omega (arith, rest, all)

pub end_within : (len at end : ℕ) (widths : List ℕ) → at ≤ len → EndsAt len at widths (Ok end) → end ≤ len
end_within len at end widths within ends =
    let all = ends_within len at widths within ends.0 in omega (arith, all, ends.1)

-- Spans of one width up to the end of the message: where they aren't all whole, the first that isn't stands
-- behind as many as fit.
cut_behind : (count width len at : ℕ) → 0 < width → at ≤ len → (len - at) / width < count → first_cut len at (replicate count width)
    ≡ Some (at + (len - at) / width * width)
cut_behind count width len at some within fewer =
    let fitting = (len - at) / width in
    let parts : fitting * width + (len - at) % width ≡ len - at = div-add-mod' (len - at) width in
    let rest : (len - at) % width < width = mod_below (len - at) width some in
    cut_at count fitting width len at (omega (arith, parts)) (omega (arith, parts, rest)) fewer

whole_behind : (count width len at : ℕ) → 0 < width → at ≤ len → count ≤ (len - at) / width → count * width ≤ len - at
whole_behind count width len at some within enough =
    let parts : (len - at) / width * width + (len - at) % width ≡ len - at = div-add-mod' (len - at) width in
    let all : count * width ≤ (len - at) / width * width = mul-le-mul_right width enough in omega (arith, parts, all)

-- This fact for computed values: the bytes left, divided by the width, and the count. They are known by equations,
-- since the code reads the width more than once.
pub addresses_cut : (count width len at left w v n : ℕ) → 0 < width → w ≡ width → v ≡ width → n ≡ count → left + at ≡ len → left / w < n →
    cut_from len at (replicate count width) ≡ Some (Truncated (at + left / w * v))
addresses_cut count width len at left w v n some is_w is_v is_n is_left fewer =
    let left_is : left ≡ len - at = omega (arith, is_left) in
    let fewer_now : (len - at) / width < count = rw (is_w, is_n, left_is) at fewer in
    let place = cut_behind count width len at some (omega (arith, is_left)) fewer_now in
    rw (is_w, is_v, left_is) (ap (option_map (λ place. Truncated place)) place)

pub addresses_fit : (count width len at left w n : ℕ) → 0 < width → w ≡ width → n ≡ count → left + at ≡ len → n ≤ left / w → at + count * width ≤ len
addresses_fit count width len at left w n some is_w is_n is_left enough =
    let left_is : left ≡ len - at = omega (arith, is_left) in
    let enough_now : count ≤ (len - at) / width = rw (is_w, is_n, left_is) at enough in
    let all = whole_behind count width len at some (omega (arith, is_left)) enough_now in
    omega (arith, all, is_left)

pub addresses_end : (count width len at v n : ℕ) → v ≡ width → n ≡ count → at + count * width ≤ len → EndsAt len at (replicate count width) (Ok (at + n * v))
addresses_end count width len at v n is_v is_n fits =
    rw (is_v, is_n) (whole_at count width len at fits, ap (λ (n : ℕ). at + n) (sym (sum-replicate count width)))
