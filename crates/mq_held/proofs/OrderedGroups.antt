-- The map of the groups that are kept by number, by the items of the order: what it has at an address, and its edits.
use Rattle.mq_held.proofs.Common.{◌≡◌, ℕ, ◌<◌, ◌≤◌, Bool, true, false, cond, refl, List, [], ◌∷◌, length, map, Option, None, Some, is_some, sym, ap, ◌∙◌, subst}
use Rattle.mq_held.proofs.Common.{arith, ⊎_elim, Contains, insert, option_map, unwrap_or, nat_cmp, eq_by_cmp, nat_cmp_total, cases_eq, length-map, get_or-map}
use Rattle.mq_held.proofs.Common.{IsAscending, set_of, item_with, NumberedKey, IsPlaceFor, times, IsAscending-map, found_where_member, maps_each_number}
use Rattle.mq_held.proofs.Common.{IsAscending-insert, map-insert, Source, ScheduledGroup, ScheduledHead, unheld, group_at, group_by, entry_of, entries_of}
use Rattle.mq_held.proofs.Common.{groups_by}
use Rattle.std.specs.FinMap as map
use Rattle.mq_held.proofs.{Sorted.sorted-ascending, Sorted.ties, Sorted.untied, Entries.entries-made, OrderedItems.item, OrderedItems.number_of}
use Rattle.mq_held.proofs.{OrderedItems.key_of, OrderedItems.one-key, OrderedItems.has-key, OrderedItems.item-of_key, OrderedItems.no-item}
use Rattle.mq_held.proofs.Sorted as sorted

module _ {K : Type 0} (number : K → ℕ) (items : List NumberedKey) (heads : List ScheduledHead) (rows : List (List (Source K)))
    (up : IsAscending key_of items) where
  ascending_entries : IsAscending sorted.key_of (entries_of number items heads rows)
  ascending_entries = IsAscending-map sorted.key_of (entry_of number heads rows) items up

  pub entries-groups : map.entries (groups_by number items heads rows) ≡ entries_of number items heads rows
  entries-groups = map.entries-from_sorted nat_cmp (entries_of number items heads rows)
      (sorted-ascending (entries_of number items heads rows) ascending_entries)

  pub len-groups : map.len (groups_by number items heads rows) ≡ length items
  len-groups = map.len-entries (groups_by number items heads rows) ∙ ap length entries-groups ∙ length-map items (entry_of number heads rows)

  -- the addresses are the keys, and the groups those of the numbers
  pub keys-groups : map.keys (groups_by number items heads rows) ≡ map key_of items
  keys-groups = ap (map (λ (e : ℕ × ScheduledGroup). e.0)) entries-groups ∙ keys items
    where
      keys : (items : List NumberedKey) → map (λ (e : ℕ × ScheduledGroup). e.0) (entries_of number items heads rows) ≡ map key_of items
      keys [] = refl
      keys (x ∷ items) = ap (λ ks. x.key ∷ ks) (keys items)

  pub values-groups : map.values (groups_by number items heads rows) ≡ map (λ (x : NumberedKey). group_by number heads rows x.number) items
  values-groups = ap (map (λ (e : ℕ × ScheduledGroup). e.1)) entries-groups ∙ values items
    where
      values : (items : List NumberedKey) → map (λ (e : ℕ × ScheduledGroup). e.1) (entries_of number items heads rows)
          ≡ map (λ (x : NumberedKey). group_by number heads rows x.number) items
      values [] = refl
      values (x ∷ items) = ap (λ gs. group_by number heads rows x.number ∷ gs) (values items)

  -- the map's entry at an address
  pub get-groups : (q : ℕ) → map.get (groups_by number items heads rows) q ≡ option_map (λ (x : NumberedKey). group_by number heads rows x.number)
      (item_with key_of items q)
  get-groups q =
      map.get-from_sorted nat_cmp (entries_of number items heads rows) q (sorted-ascending (entries_of number items heads rows) ascending_entries)
      ∙ sym (map.get-from_entries nat_cmp_total (entries_of number items heads rows) q)
      ∙ maps_each_number key_of (λ (x : NumberedKey). group_by number heads rows x.number) items q

  pub get-here : (n a : ℕ) → Contains items (item n a) → map.get (groups_by number items heads rows) a ≡ Some (group_by number heads rows n)
  get-here n a has =
      get-groups a ∙ ap (option_map (λ (x : NumberedKey). group_by number heads rows x.number)) (item-of_key items n a up has)

  pub group-here : (n a : ℕ) → Contains items (item n a) → group_at (groups_by number items heads rows) a ≡ group_by number heads rows n
  group-here n a has = ap (λ (e : Option ScheduledGroup). unwrap_or e unheld) (get-here n a has)

  pub get-absent : (a : ℕ) → set_of key_of items a ≡ false → map.get (groups_by number items heads rows) a ≡ None
  get-absent a absent =
      get-groups a ∙ ap (option_map (λ (x : NumberedKey). group_by number heads rows x.number)) (no-item items a absent)

  pub contains-groups : (a : ℕ) → map.contains_key (groups_by number items heads rows) a ≡ set_of key_of items a
  contains-groups a =
      ap is_some (get-groups a) ∙ mapped (item_with key_of items a) ∙ found_where_member key_of items a
    where
      mapped : (o : Option NumberedKey) → is_some (option_map (λ (x : NumberedKey). group_by number heads rows x.number) o) ≡ is_some o
      mapped None = refl
      mapped (Some x) = refl

  -- The group of one number has changed. The other groups are the same.
  pub groups-changed : (new_heads : List ScheduledHead) (new_rows : List (List (Source K))) (n a : ℕ) (e : ScheduledGroup) →
      Contains items (item n a) → times n (map number_of items) ≤ 1
      → group_by number new_heads new_rows n ≡ e
      → ((m : ℕ) → (m ≡ n → ⊥) → group_by number new_heads new_rows m ≡ group_by number heads rows m)
      → (all : (q : ℕ) → map.get (groups_by number items new_heads new_rows) q
      ≡ option_map (λ (x : NumberedKey). group_by number new_heads new_rows x.number) (item_with key_of items q))
      → groups_by number items new_heads new_rows ≡ map.insert (groups_by number items heads rows) a e
  groups-changed new_heads new_rows n a e has once is others all =
      map.same_map nat_cmp_total map.nat_cmp-IsAntisymmetric (groups_by number items new_heads new_rows)
      (map.insert (groups_by number items heads rows) a e) (λ q.
      all q
      ∙ ⊎_elim
      (λ (same : q ≡ a). here q same)
      (λ (differs : q ≡ a → ⊥). elsewhere q differs (set_of key_of items q) refl)
      (cases_eq q a)
      ∙ sym (map.get-insert nat_cmp_total (groups_by number items heads rows) a e q))
    where
      now : NumberedKey → ScheduledGroup
      now x = group_by number new_heads new_rows x.number

      here : (q : ℕ) → q ≡ a → option_map now (item_with key_of items q) ≡ cond (eq_by_cmp nat_cmp q a) (Some e) (map.get (groups_by number items heads rows) q)
      here q same =
          rw (same, item-of_key items n a up has, ties a a refl, is) refl

      elsewhere : (q : ℕ) → (q ≡ a → ⊥) → (b : Bool) → set_of key_of items q ≡ b → option_map now (item_with key_of items q)
          ≡ cond (eq_by_cmp nat_cmp q a) (Some e) (map.get (groups_by number items heads rows) q)
      elsewhere q differs true held =
          let found = has-key items q held in
          let other : found.0 ≡ n → ⊥ = λ same. differs (one-key items n q a once (subst (λ m. Contains items (item m q)) same found.1) has) in
          rw (untied q a differs, get-here found.0 q found.1, item-of_key items found.0 q up found.1, others found.0 other) refl
      elsewhere q differs false absent = rw (untied q a differs, get-absent q absent, no-item items q absent) refl

-- a group more, that of a number, where its address goes
pub groups-made : {K : Type 0} (number : K → ℕ) (items : List NumberedKey) (heads : List ScheduledHead) (rows : List (List (Source K)))
    (up : IsAscending key_of items) (n a p : ℕ) → IsPlaceFor key_of items a p
    → groups_by number (insert items p (item n a)) heads rows ≡ map.insert (groups_by number items heads rows) a (group_by number heads rows n)
groups-made number items heads rows up n a p place =
    let after = IsAscending-insert key_of items p (item n a) up place in
    let keys = keys-groups number items heads rows up in
    let goes : IsPlaceFor (λ k. k) (map key_of items) a p = record {
      within = omega (arith, place.within, length-map items key_of);
      below = λ i d from before. rw (get_or-map key_of items i (item 0 d) d (omega (arith, place.within, before))) (place.below i (item 0 d) from before);
      above = λ i d from in_list.
          let inside : i < length items = omega (arith, in_list, length-map items key_of) in
          rw (get_or-map key_of items i (item 0 d) d inside) (place.above i (item 0 d) from inside);
    } in
    map.same_entries_map (groups_by number (insert items p (item n a)) heads rows)
    (map.insert (groups_by number items heads rows) a (group_by number heads rows n))
    (entries-groups number (insert items p (item n a)) heads rows after
    ∙ map-insert (entry_of number heads rows) items p (item n a)
    ∙ ap (λ es. insert es p (entry_of number heads rows (item n a))) (sym (entries-groups number items heads rows up))
    ∙ sym (entries-made (groups_by number items heads rows) a p (subst (λ ks. IsPlaceFor (λ k. k) ks a p) (sym keys) goes) (group_by number heads rows n)))
