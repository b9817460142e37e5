-- The earliest of all moments of the groups, by the moments of their numbers.
use Rattle.std.proofs.Common.{◌≡◌, ℕ, zero, suc, ◌<◌, ◌≤◌, Bool, true, false, true≢false, if◌then◌else◌, refl, List, [], ◌∷◌, ◌++◌, length, map}
use Rattle.mq_held.proofs.Common.{get_or, Option, None, Some, is_some, sym, ap, ◌∙◌, subst, arith, ⊎_elim, nat_lt, MatchOption, All, Contains, flat_map}
use Rattle.mq_held.proofs.Common.{option_to_list, nat_cmp, FinMap, cases_lt, lt-ltb, le-ltb, All-nil, All-cons, Contains-append_left, Contains-append_right}
use Rattle.mq_held.proofs.Common.{flat_map-cons, set_of, NumberedKey, NumberedKeysState, Source, IsEarliestMoment, ScheduledHead, running_in, HeldState}
use Rattle.mq_held.proofs.Common.{moments_of, moments_in, least, min_or, group_by, groups_by, earliest_of, IsStored}
use Rattle.std.specs.FinMap as map
use Rattle.mq_held.proofs.{LeastMoments.least-append, LeastMoments.least-earliest, LeastMoments.least-bounds, OrderedItems.item, OrderedItems.number_of}
use Rattle.mq_held.proofs.{OrderedItems.has-number, OrderedItems.number-in, OrderedGroups.values-groups, OrderedAmounts.empty-contains, Inside.groups_are}
use Rattle.mq_held.proofs.{Inside.running-held}

-- each list by its earliest: the earliest of all are the earliest of these
least-options : {X : Type 0} (f : X → List ℕ) (n : ℕ) (xs : List X) → least n (flat_map f xs) ≡ least n (flat_map (λ x. option_to_list (earliest_of (f x))) xs)
least-options f n [] = refl
least-options f n (x ∷ xs) =
    ap (least n) (flat_map-cons f x xs)
    ∙ least-append n (f x) (flat_map f xs)
    ∙ ap (λ k. least k (f x)) (least-options f n xs)
    ∙ by_list (least n (flat_map (λ x. option_to_list (earliest_of (f x))) xs)) (f x)
    ∙ sym (least-append n (option_to_list (earliest_of (f x))) (flat_map (λ x. option_to_list (earliest_of (f x))) xs))
    ∙ ap (least n) (sym (flat_map-cons (λ x. option_to_list (earliest_of (f x))) x xs))
  where
    turned : (k : ℕ) (o : Option ℕ) → min_or k o ≡ least k (option_to_list o)
    turned k None = refl
    turned k (Some d) = omega arith

    by_list : (k : ℕ) (ms : List ℕ) → least k ms ≡ least k (option_to_list (earliest_of ms))
    by_list k ms = least-earliest k ms ∙ turned k (earliest_of ms)

module _ (moments : FinMap nat_cmp ℕ) (d : ℕ) where
  abbrev moments_among : List NumberedKey → List ℕ
  moments_among items = flat_map (λ (x : NumberedKey). option_to_list (map.get moments x.number)) items

  none-below : (items : List NumberedKey) → ((n e : ℕ) → map.get moments n ≡ Some e → d ≤ e) → All (λ e. d ≤ e) (moments_among items)
  none-below [] least_is = All-nil (λ e. d ≤ e)
  none-below (x ∷ items) least_is = by_value (map.get moments x.number) (least_is x.number) (none-below items least_is)
    where
      by_value : (o : Option ℕ) → ((e : ℕ) → o ≡ Some e → d ≤ e) → All (λ e. d ≤ e) (moments_among items) →
          All (λ e. d ≤ e) (option_to_list o ++ moments_among items)
      by_value None least_is rest = rest
      by_value (Some e) least_is rest = All-cons (λ e. d ≤ e) e (moments_among items) (least_is e refl) rest

  among : (items : List NumberedKey) (k : ℕ) (x : NumberedKey) → k < length items → get_or items k x ≡ x → map.get moments x.number ≡ Some d →
      Contains (moments_among items) d
  among [] k x within here is = absurd (omega (arith, within))
  among (y ∷ items) zero x within here is =
      let own : option_to_list (map.get moments y.number) ≡ d ∷ [] = ap option_to_list (ap (λ (x : NumberedKey). map.get moments x.number) here ∙ is) in
      Contains-append_left (option_to_list (map.get moments y.number)) (moments_among items) d (subst (λ xs. Contains xs d) (sym own) (0, omega arith, refl))
  among (y ∷ items) (suc k) x within here is =
      Contains-append_right (option_to_list (map.get moments y.number)) (moments_among items) d (among items k x (omega (arith, within)) here is)

module _ {K : Type 0} (number : K → ℕ) {order : NumberedKeysState} {heads : List ScheduledHead} {rows : List (List (Source K))}
    {moments : FinMap nat_cmp ℕ} {schedules : ℕ} (known : IsStored number order.items heads rows moments schedules) {source_room ahead : ℕ}
    {state : HeldState} (was : ◌≡◌ {A = HeldState}
    (record { groups = groups_by number order.items heads rows; order = order; source_room = source_room; ahead = ahead }) state) where
  -- the moment of a number of the order is the earliest of its group
  own-moment : (k : ℕ) (x : NumberedKey) → k < length order.items → get_or order.items k x ≡ x →
      earliest_of (moments_of (group_by number heads rows x.number)) ≡ map.get moments x.number
  own-moment k x within here =
      sym
      (known.moments_are x.number
      ∙ ap (λ b. if b then earliest_of (moments_of (group_by number heads rows x.number)) else None) (number-in order.items x.number x.key (k, within, here)))

  each-moment : (items : List NumberedKey) →
      ((k : ℕ) (x : NumberedKey) → k < length items → get_or items k x ≡ x → earliest_of (moments_of (group_by number heads rows x.number))
      ≡ map.get moments x.number)
      → flat_map (λ (x : NumberedKey). option_to_list (earliest_of (moments_of (group_by number heads rows x.number)))) items
      ≡ flat_map (λ (x : NumberedKey). option_to_list (map.get moments x.number)) items
  each-moment [] own = refl
  each-moment (x ∷ items) own =
      let first = own 0 x (omega arith) refl in
      let rest = each-moment items (λ k y within here. own (suc k) y (omega (arith, within)) here) in
      ap (λ o. option_to_list o ++ flat_map (λ (x : NumberedKey). option_to_list (earliest_of (moments_of (group_by number heads rows x.number)))) items) first
      ∙ ap (λ ms. option_to_list (map.get moments x.number) ++ ms) rest

  flat_map-map : (items : List NumberedKey) → flat_map moments_of (map (λ (x : NumberedKey). group_by number heads rows x.number) items)
      ≡ flat_map (λ (x : NumberedKey). moments_of (group_by number heads rows x.number)) items
  flat_map-map [] = refl
  flat_map-map (x ∷ items) = ap (λ ms. moments_of (group_by number heads rows x.number) ++ ms) (flat_map-map items)

  least-held : (n : ℕ) → least n (moments_in state.groups) ≡ least n (flat_map (λ (x : NumberedKey). option_to_list (map.get moments x.number)) order.items)
  least-held n =
      ap (λ groups. least n (moments_in groups)) (sym (groups_are number known was))
      ∙ ap (λ values. least n (flat_map moments_of values)) (values-groups number order.items heads rows known.ascending)
      ∙ ap (least n) (flat_map-map order.items)
      ∙ least-options (λ (x : NumberedKey). moments_of (group_by number heads rows x.number)) n order.items
      ∙ ap (least n) (each-moment order.items own-moment)

  -- a number that has a moment is one of the order
  held-moment : (n d : ℕ) → map.get moments n ≡ Some d → (a : ℕ) × Contains order.items (item n a)
  held-moment n d is = by_test (set_of number_of order.items n) refl
    where
      by_test : (b : Bool) → set_of number_of order.items n ≡ b → (a : ℕ) × Contains order.items (item n a)
      by_test true held = has-number order.items n held
      by_test false absent =
          let none : map.get moments n ≡ None = known.moments_are n ∙
          ap (λ b. if b then earliest_of (moments_of (group_by number heads rows n)) else None) absent in
          absurd (true≢false (sym (ap is_some is) ∙ ap is_some none))

  pub earliest-held : (r : Option ℕ) → MatchOption r (moments ≡ map.empty) (IsEarliestMoment moments) → (n : ℕ) → least n (moments_in state.groups) ≡ min_or n r
  earliest-held None is n = least-held n ∙ ap (λ m. least n (flat_map (λ (x : NumberedKey). option_to_list (map.get m x.number)) order.items)) is ∙
      ap (least n) (no_moments order.items)
    where
      no_moments : (items : List NumberedKey) → flat_map (λ (x : NumberedKey). option_to_list (map.get (map.empty {X = ℕ} {R = nat_cmp}) x.number)) items ≡ []
      no_moments [] = refl
      no_moments (x ∷ items) = rw (map.get-empty nat_cmp x.number) (no_moments items)
  earliest-held (Some d) is n =
      let one = is.is_one in
      let found = held-moment one.0 d one.1 in
      let there = found.1 in
      let in_list = among moments d order.items there.0 (item one.0 found.0) there.1 there.2 one.1 in
      least-held n ∙ least-bounds n (moments_among moments d order.items) d in_list.0 in_list.1 in_list.2
      (none-below moments d order.items (λ m e at. is.least m e at))

  pub some-held : (r : Option ℕ) → MatchOption r (moments ≡ map.empty) (IsEarliestMoment moments) → is_some r ≡ nat_lt 0 (running_in state.groups)
  some-held None is =
      let none : running_in state.groups ≡ 0 = running-held number known was ∙ ap map.len is ∙ map.len-empty nat_cmp ℕ in
      sym (le-ltb 0 (running_in state.groups) (omega (arith, none)))
  some-held (Some d) is =
      let one = is.is_one in
      ⊎_elim
      (λ (some : 0 < map.len moments). sym (lt-ltb 0 (running_in state.groups) (omega (arith, some, running-held number known was))))
      (λ (none : map.len moments ≤ 0). absurd (true≢false (sym (ap is_some one.1) ∙ empty-contains moments one.0 (omega (arith, none)))))
      (cases_lt 0 (map.len moments))
