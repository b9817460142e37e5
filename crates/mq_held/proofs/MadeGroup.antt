-- The storage once an address has a number, before its group is written.
use Rattle.mq_held.proofs.Common.{◌≡◌, ◌||◌, ℕ, ◌+◌, ◌-◌, ◌<◌, ◌≤◌, Bool, true, false, cond, if◌then◌else◌, refl, List, length, map, Option, Some, sym, ap, ◌∙◌}
use Rattle.mq_held.proofs.Common.{subst, arith, ◌⊎◌, inl, inr, ⊎_elim, nat_le, All, Contains, insert, sum_by, nat_cmp, eq_by_cmp, nat_cmp_total, or-false}
use Rattle.mq_held.proofs.Common.{cases_lt, eqb_tells, sum_by-insert, IsAscending, set_of, NumberedKey, NumberedKeysState, IsSpotFor, rank_of, cells_reserved}
use Rattle.mq_held.proofs.Common.{IsPlaceFor, times, set_of-insert, map-insert, is_vacant, ScheduledGroup, Groups, group_at, running_in, sources_in, sources_of}
use Rattle.mq_held.proofs.Common.{unheld, HeldState, HasNumber, ahead_with, IsRowWritten, moved_by_packing, one_if, entry_of, entries_of, groups_by, Inside}
use Rattle.std.specs.FinMap as map
use Rattle.std.proofs.lemmas.List.Edits.{length-insert, get_or-insert_below, get_or-insert_above, get_or-insert_at}
use Rattle.mq_sets.specs.declared.spots.Spot.{Spot}
use Rattle.mq_held.proofs.{Amounts.no_sources, OrderedItems.item, OrderedItems.number_of, OrderedItems.key_of, OrderedGroups.group-here}
use Rattle.mq_held.proofs.{OrderedGroups.groups-made, OrderedAmounts.running-groups, OrderedAmounts.sources-groups, StoredEdits.IsStored-order}
use Rattle.mq_held.proofs.{StoredEdits.group-unused, StoredEdits.schedules_at, StoredEdits.unheld-vacant, Located.IsStorage, Located.group_in, Located.seen}
use Rattle.mq_held.proofs.{Inside.ahead_is, Inside.groups_are, Inside.room_is, Inside.running-held, Inside.source_room_is, Inside.sources-held}

-- the items of a list after an insert
pub made-there : {X : Type 0} (xs : List X) (p : ℕ) (x : X) → p ≤ length xs → Contains (insert xs p x) x
made-there xs p x within = (p, omega (arith, length-insert xs p x within), get_or-insert_at xs p x x within)

pub kept-there : {X : Type 0} (xs : List X) (p : ℕ) (x y : X) → p ≤ length xs → Contains xs y → Contains (insert xs p x) y
kept-there xs p x y within has =
    ⊎_elim
    (λ (below : has.0 < p). let at : Contains (insert xs p x) y =
    (has.0, omega (arith, has.1, length-insert xs p x within), get_or-insert_below xs p x y has.0 below within ∙ has.2) in at)
    (λ (from : p ≤ has.0). let at : Contains (insert xs p x) y =
    (has.0 + 1, omega (arith, has.1, length-insert xs p x within), get_or-insert_above xs p x y has.0 from within ∙ has.2) in at)
    (cases_lt has.0 p)

-- a second insert at an address replaces the first
insert-over : (groups : Groups) (a : ℕ) (d e : ScheduledGroup) → map.insert (map.insert groups a d) a e ≡ map.insert groups a e
insert-over groups a d e =
    map.same_map nat_cmp_total map.nat_cmp-IsAntisymmetric (map.insert (map.insert groups a d) a e) (map.insert groups a e) (λ q.
    map.get-insert nat_cmp_total (map.insert groups a d) a e q
    ∙ ap (cond (eq_by_cmp nat_cmp q a) (Some e)) (map.get-insert nat_cmp_total groups a d q)
    ∙ alike (eq_by_cmp nat_cmp q a) (map.get groups q)
    ∙ sym (map.get-insert nat_cmp_total groups a e q))
  where
    alike : (b : Bool) (o : Option ScheduledGroup) → cond b (Some e) (cond b (Some d) o) ≡ cond b (Some e) o
    alike true o = refl
    alike false o = refl

-- A number that no group has is given to an address. `new` is the order then, with the address at the place `p`.
pub record IsMade {K A : Type 0} (number : K → ℕ) (s : Inside K A) (state : HeldState) (new : NumberedKeysState) (n a p : ℕ) : Type 0 where
  pub inside : IsStorage number s
  pub was : seen number s ≡ state
  pub unused : group_in number s n ≡ unheld
  pub place : IsPlaceFor key_of s.order.items a p
  pub items : new.items ≡ insert s.order.items p (item n a)
  pub room : new.room ≡ s.order.room
  pub after : IsStorage number (record s { order = new })

pub made : {K A : Type 0} (number : K → ℕ) (s : Inside K A) {state : HeldState} {new : NumberedKeysState} {n a : ℕ} {spot : Spot} →
    IsStorage number s → seen number s ≡ state → IsSpotFor state.order.items state.order.pages a spot
    → set_of number_of s.order.items n ≡ false → new.items ≡ insert s.order.items (rank_of s.order.pages spot) (item n a) → new.room ≡ s.order.room
    → IsAscending key_of new.items → ((m : ℕ) → times m (map number_of new.items) ≤ 1) → All (λ (x : NumberedKey). x.number < new.room) new.items →
    length new.items ≤ new.room
    → IsMade number s state new n a (rank_of s.order.pages spot)
made {K} {A} number s {state} {new} {n} {a} {spot} inside was goes fresh items room up once numbered fits = record {
  inside = inside;
  was = was;
  unused = unused;
  place = subst (λ (x : HeldState). IsPlaceFor key_of x.order.items a (rank_of x.order.pages spot)) (sym was) goes.goes;
  items = items;
  room = room;
  after = (
    IsStored-order number inside.0 new.items up once (λ k d in_list. omega (arith, numbered k d in_list, room, inside.2)) differ
        (omega (arith, same, total, none)),
    inside.1,
    inside.2 ∙ sym room,
    inside.3 ∙ sym room,
    inside.4 ∙ sym room,
    omega (arith, room, inside.5),
    fits,
  );
}
  where
    unused : group_in number s n ≡ unheld
    unused = group-unused number inside.0 n fresh

    entries : List NumberedKey → List (ℕ × ScheduledGroup)
    entries xs = entries_of number xs s.heads.items s.sources.rows

    same : sum_by schedules_at (entries new.items) ≡ sum_by schedules_at (insert (entries s.order.items) (rank_of s.order.pages spot) (a, group_in number s n))
    same =
        ap (λ xs. sum_by schedules_at (entries xs)) items
        ∙ ap (sum_by schedules_at) (map-insert (entry_of number s.heads.items s.sources.rows) s.order.items (rank_of s.order.pages spot) (item n a))

    total : sum_by schedules_at (insert (entries s.order.items) (rank_of s.order.pages spot) (a, group_in number s n))
        ≡ sum_by schedules_at (entries s.order.items) + schedules_at (a, group_in number s n)
    total = sum_by-insert schedules_at (entries s.order.items) (rank_of s.order.pages spot) (a, group_in number s n)

    none : schedules_at (a, group_in number s n) ≡ 0
    none = ap (λ (e : ScheduledGroup). schedules_at (a, e)) unused

    differ : (m : ℕ) → (set_of number_of new.items m ≡ set_of number_of s.order.items m) ⊎ (group_in number s m ≡ unheld)
    differ m =
        ⊎_elim
        (λ same. inr (subst (λ m. group_in number s m ≡ unheld) same.1 unused))
        (λ other.
        inl
        (ap (λ xs. set_of number_of xs m) items
        ∙ set_of-insert number_of s.order.items (rank_of s.order.pages spot) (item n a) m
        ∙ ap (λ b. set_of number_of s.order.items m || b) other.0
        ∙ or-false (set_of number_of s.order.items m)))
        (eqb_tells n m)

module _ {K A : Type 0} {number : K → ℕ} {s : Inside K A} {state : HeldState} {new : NumberedKeysState} {n a p : ℕ} (f : IsMade number s state new n a p) where
  abbrev pub mid : HeldState
  mid = seen number (record s { order = new })

  pub made-has : HasNumber mid a n
  made-has = record { is = subst (λ xs. Contains xs (item n a)) (sym f.items) (made-there s.order.items p (item n a) f.place.within) }

  pub made-kept : (b m : ℕ) → HasNumber state b m → HasNumber mid b m
  made-kept b m has = record {
    is =
        subst (λ xs. Contains xs (item m b)) (sym f.items)
        (kept-there s.order.items p (item n a)
        (item m b) f.place.within (subst (λ xs. Contains xs (item m b)) (ap (λ (s : HeldState). s.order.items) (sym f.was)) has.is));
  }

  made-group : (b : ℕ) → HasNumber mid b n → group_at mid.groups b ≡ unheld
  made-group b has = group-here number new.items s.heads.items s.sources.rows f.after.0.ascending n b has.is ∙ f.unused

  pub made-vacant : (b : ℕ) → HasNumber mid b n → true ≡ is_vacant (group_at mid.groups b).group
  made-vacant b has = sym (ap (λ (e : ScheduledGroup). is_vacant e.group) (made-group b has) ∙ unheld-vacant)

  made-size : sources_of (group_at mid.groups a) ≡ 0
  made-size = ap sources_of (made-group a made-has) ∙ no_sources

  pub made-groups : (e : ScheduledGroup) → map.insert mid.groups a e ≡ map.insert state.groups a e
  made-groups e =
      ap (λ xs. map.insert (groups_by number xs s.heads.items s.sources.rows) a e) f.items
      ∙ ap (λ groups. map.insert groups a e) (groups-made number s.order.items s.heads.items s.sources.rows f.inside.0.ascending n a p f.place)
      ∙ insert-over (groups_by number s.order.items s.heads.items s.sources.rows) a (group_in number s n) e
      ∙ ap (λ groups. map.insert groups a e) (groups_are number f.inside.0 f.was)

  pub made-sources : sources_in mid.groups ≡ sources_in state.groups
  made-sources = sources-groups number f.after.0 ∙ sym (sources-held number f.inside.0 f.was)

  pub made-running : running_in mid.groups ≡ running_in state.groups
  made-running = running-groups number f.after.0 ∙ sym (running-held number f.inside.0 f.was)

  made-ahead : (has : ℕ) → ahead_with mid (sources_of (group_at mid.groups a)) has ≡ ahead_with state 0 has
  made-ahead has =
      let rooms = f.room ∙ room_is number f.inside.0 f.was in
      let total = source_room_is number f.inside.0 f.was in
      let left = ahead_is number f.inside.0 f.was in
      λ i. if nat_le has (made-size i) then left i
      else if nat_le has (left i) then left i - has
      else cells_reserved (rooms i) (total i) - (made-sources i - made-size i + has)

  made-moved : (has named count : ℕ) → named ≡ count → moved_by_packing named mid (sources_of (group_at mid.groups a)) has
      ≡ moved_by_packing count state 0 has
  made-moved has named count named_is =
      let left = ahead_is number f.inside.0 f.was in
      λ i. if nat_le has (made-size i) then has
      else if nat_le has (left i) then has
      else has + (made-sources i - made-size i + named_is i)

  pub made-written : (has own ahead moved : ℕ) →
      IsRowWritten mid (sources_of (group_at mid.groups a)) has own (running_in mid.groups + one_if true) ahead moved →
      IsRowWritten state 0 has own (running_in state.groups + 1) ahead moved
  made-written has own ahead moved written =
      let named : running_in mid.groups + one_if true ≡ running_in state.groups + 1 = ap (λ k. k + 1) made-running in
      record {
        how =
            ⊎_elim
            (λ (stays : (ahead ≡ mid.ahead) × (moved ≡ own)). inl (stays.0 ∙ ahead_is number f.inside.0 f.was, stays.1))
            (λ (goes : (ahead ≡ ahead_with mid (sources_of (group_at mid.groups a)) has) ×
            (moved ≡ moved_by_packing (running_in mid.groups + one_if true) mid (sources_of (group_at mid.groups a)) has)).
            inr (goes.0 ∙ made-ahead has, goes.1 ∙ made-moved has (running_in mid.groups + one_if true) (running_in state.groups + 1) named))
            written.how;
      }
