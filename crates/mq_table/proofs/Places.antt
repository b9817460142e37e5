-- Sources without retransmissions left, and the places that all others have.
use Rattle.mq_table.proofs.Common.{◌≡◌, ◌++◌, ℕ, ◌+◌, ◌<◌, Bool, true, false, ltb, ◌||◌, List, [], ◌∷◌, length, take, drop, set, get_or, Some, refl, sym, ap}
use Rattle.mq_table.proofs.Common.{◌∙◌, arith, list_map, filter_map, list_any, IsAscending, has_retransmissions, true≢false, ltb-false, or-false, drop_all}
use Rattle.mq_table.proofs.Common.{drop-drop}
use Rattle.mq_table.proofs.Common.{length-map, take-append-drop, take_more_set, take-add, list_any-append, list_any_more, Source, OneFewer, GroupState}
use Rattle.mq_table.proofs.Common.{SourceTimer, retransmissions_of, item_has_retransmissions, PassesBetween, SendsBetween, number_in, timers_in, item_counted}
use Rattle.mq_table.proofs.Common.{timer_recounted, source_recounted}
use Rattle.mq_table.specs.declared.retransmissions.Recount.{Recount}
use Rattle.mq_table.proofs.{Rows.keys-timers_in, Rows.any_before, Rows.any_behind, MadeLists.made_of_all}
use Rattle.std.specs.FinMap as map

-- without a retransmission, a timer stays as its retransmissions are counted anew
timer_stays : (recount : Recount) (t : SourceTimer) → ltb 0 (retransmissions_of (Some t)) ≡ false → timer_recounted recount t ≡ t
timer_stays recount t none = grind (arith, ltb-false)

pub source_stays : {K : Type 0} (recount : Recount) (x : Source K) → item_has_retransmissions x ≡ false → source_recounted recount x ≡ x
source_stays recount x none = ap (λ t. record { address = x.address; timer = t }) (timer_stays recount x.timer none)

pub or_none : (a b : Bool) → (a || b) ≡ false → (a ≡ false) × (b ≡ false)
or_none true b none = absurd (true≢false none)
or_none false b none = (refl, none)

-- and so do all sources of a list
pub sources_stay : {K : Type 0} (recount : Recount) (xs : List (Source K)) → list_any item_has_retransmissions xs ≡ false →
    list_map (source_recounted recount) xs ≡ xs
sources_stay recount [] none = refl
sources_stay recount (x ∷ xs) none =
    let parts = or_none (item_has_retransmissions x) (list_any item_has_retransmissions xs) none in
    let first : source_recounted recount x ≡ x = source_stays recount x parts.0 in
    let rest = sources_stay recount xs parts.1 in
    λ i. first i ∷ rest i

pub made_of_none : {K : Type 0} (recount : Recount) (xs : List (Source K)) → list_any item_has_retransmissions xs ≡ false →
    filter_map (λ x. Some (source_recounted recount x)) xs ≡ xs
made_of_none recount xs none = made_of_all (source_recounted recount) xs ∙ sources_stay recount xs none

-- the test of the items up to one more place, whose item has changed or stays
pub any_with_set : {X : Type 0} (p : X → Bool) (xs : List X) (place : ℕ) (y : X) → place < length xs → list_any p (take (place + 1) (set xs place y))
    ≡ (list_any p (take place xs) || p y)
any_with_set p xs place y within = grind (arith, take_more_set, list_any-append, or-false)

pub any_without : {X : Type 0} (p : X → Bool) (xs : List X) (place : ℕ) (held : X) → place < length xs → held ≡ get_or xs place held →
    p held ≡ false → list_any p (take (place + 1) xs) ≡ list_any p (take place xs)
any_without p xs place held within is none =
    list_any_more p xs place held within
    ∙ ap (λ b. list_any p (take place xs) || b) (ap p (sym is) ∙ none)
    ∙ or-false (list_any p (take place xs))

-- The places of a list of sources are those of the group that has them.
module _ {K : Type 0} (number : K → ℕ) (g : GroupState) (xs : List (Source K)) (up : IsAscending (number_in number) xs)
    (is : timers_in number xs ≡ g.sources) (first end : ℕ) where
  size : length (map.keys g.sources) ≡ length xs
  size = ap (λ m. length (map.keys m)) (sym is) ∙ ap length (keys-timers_in number xs up) ∙ length-map xs (number_in number)

  before : list_any (has_retransmissions g) (take first (map.keys g.sources)) ≡ list_any item_has_retransmissions (take first xs)
  before = ap (λ m. list_any (λ s. ltb 0 (retransmissions_of (map.get m s))) (take first (map.keys m))) (sym is) ∙
      any_before number (λ s timer. ltb 0 (retransmissions_of timer)) first xs up

  behind : list_any (has_retransmissions g) (drop end (map.keys g.sources)) ≡ list_any item_has_retransmissions (drop end xs)
  behind = ap (λ m. list_any (λ s. ltb 0 (retransmissions_of (map.get m s))) (drop end (map.keys m))) (sym is) ∙
      any_behind number (λ s timer. ltb 0 (retransmissions_of timer)) end xs up

  pub between_in_group : PassesBetween item_has_retransmissions first end xs → SendsBetween first end g
  between_in_group h = record {
    ordered = h.ordered;
    within = omega (arith, h.within, size);
    none_before = before ∙ h.none_before;
    none_behind =
        behind ∙ h.none_behind;
  }

  pub between_in_row : SendsBetween first end g → PassesBetween item_has_retransmissions first end xs
  between_in_row h = record {
    ordered = h.ordered;
    within = omega (arith, h.within, size);
    none_before = sym before ∙ h.none_before;
    none_behind =
        sym behind ∙ h.none_behind;
  }

-- all places of a list
pub all_between : {X : Type 0} (test : X → Bool) (xs : List X) (count : ℕ) → count ≡ length xs → PassesBetween test 0 count xs
all_between test xs count is =
    record { ordered = omega arith; within = omega (arith, is); none_before = refl; none_behind = ap (list_any test) (drop_all count xs (omega (arith, is))) }

-- a list in which none passes a test, and a part of it more in front or behind
pub none_in_front : {X : Type 0} (p : X → Bool) (xs : List X) (n k : ℕ) → list_any p (take n xs) ≡ false → list_any p (take k (drop n xs)) ≡ false →
    list_any p (take (n + k) xs) ≡ false
none_in_front p xs n k none more = grind (arith, take-add, list_any-append)

pub none_behind_more : {X : Type 0} (p : X → Bool) (xs : List X) (start k : ℕ) → list_any p (drop (start + k) xs) ≡ false →
    list_any p (take k (drop start xs)) ≡ false → list_any p (drop start xs) ≡ false
none_behind_more p xs start k none more =
    ap (list_any p) (sym (take-append-drop k (drop start xs)) ∙ ap (λ ys. take k (drop start xs) ++ ys) (drop-drop k start xs))
    ∙ list_any-append p (take k (drop start xs)) (drop (start + k) xs)
    ∙ (λ i. more i || none i)

-- the same where one retransmission is counted
pub uncounted_stays : {K : Type 0} (x : Source K) → item_has_retransmissions x ≡ false → item_counted x ≡ x
uncounted_stays = source_stays OneFewer

pub uncounted_all : {K : Type 0} (xs : List (Source K)) → list_any item_has_retransmissions xs ≡ false → list_map item_counted xs ≡ xs
uncounted_all = sources_stay OneFewer

pub uncounted_made : {K : Type 0} (xs : List (Source K)) → list_any item_has_retransmissions xs ≡ false → filter_map (λ x. Some (item_counted x)) xs ≡ xs
uncounted_made = made_of_none OneFewer
