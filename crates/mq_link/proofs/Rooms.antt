-- The steps that keep room for groups and their sources.
use Rattle.mq_link.proofs.Common.{◌≡◌, ℕ, ◌*◌, ◌≤◌, List, length, ◌&&◌, leb, true, refl, ◌∙◌, sym, subst, arith, le-leb, leb-true, and_parts, Limits, Lists}
use Rattle.mq_link.proofs.Common.{Scratch, Storage, IsAscending, AreNone, HasRoom, HasSpace, IsReady, KeepsRoom, KeepsRooms, KeepsSpace, has_counted}
use Rattle.mq_link.proofs.Common.{IsWorkspace, suffices}
use Rattle.std.specs.Prelude.{vec_capacity}

pub room_stays : {K A : Type 0} (w : Scratch K A) → KeepsRoom w w
room_stays w = record { group = omega arith; named = refl; asked = omega arith; met = refl; changed = refl }

pub rooms_stay : {K A : Type 0} (s : Storage K A) → KeepsRooms s s
rooms_stay s = record { groups = refl; sources = refl }

pub ready_counted : {K A : Type 0} (room : ℕ) (s : Storage K A) (spent : ℕ) → IsReady room s → IsReady room (has_counted s spent)
ready_counted room s spent ready = record { few = ready.few; served = ready.served }

-- one step after another
pub room_on : {K A : Type 0} {a b c : Scratch K A} → KeepsRoom a b → KeepsRoom b c → KeepsRoom a c
room_on h k =
    let first = h.group in
    let second = k.group in
    let third = h.asked in
    let fourth = k.asked in
    record { group = omega arith; named = k.named ∙ h.named; asked = omega arith; met = k.met ∙ h.met; changed = k.changed ∙ h.changed }

pub rooms_on : {K A : Type 0} {a b c : Storage K A} → KeepsRooms a b → KeepsRooms b c → KeepsRooms a c
rooms_on h k = record { groups = k.groups ∙ h.groups; sources = k.sources ∙ h.sources }

-- there is room still for what there was room for
pub still_room : {K A : Type 0} (groups n : ℕ) {a b : Scratch K A} → HasRoom groups n a → KeepsRoom a b → HasRoom groups n b
still_room groups n room kept =
    let first = room.group in
    let second = kept.group in
    let third = room.named in
    let fourth = kept.named in
    let fifth = room.asked in
    let sixth = kept.asked in
    let seventh = room.met in
    let eighth = kept.met in
    let ninth = room.changed in
    let tenth = kept.changed in
    record { group = omega arith; named = omega arith; asked = omega arith; met = omega arith; changed = omega arith }

pub still_space : {K A : Type 0} (n : ℕ) {a b : Lists K A} → HasSpace n a → KeepsSpace a b → HasSpace n b
still_space n {a} {b} space kept =
    let first = space.due in
    let second = kept.due in
    let third = space.spare in
    let fourth = kept.spare in
    let fifth = space.changed in
    let sixth = kept.changed in
    record {
      due = omega arith;
      spare = omega arith;
      changed = omega arith;
      by_tick = subst (λ xs. 2 * n ≤ vec_capacity xs) (sym kept.by_tick) space.by_tick;
      by_records = subst (λ xs. n ≤ vec_capacity xs) (sym kept.by_records) space.by_records;
    }

-- a workspace suffices for the limits that it was made for
pub suffices_own : (limits : Limits) (changed : List ℕ) →
    suffices limits (record { groups = limits.groups; group_sources = limits.group_sources; changed = changed }) ≡ true
suffices_own limits changed = λ i. le-leb limits.groups limits.groups (omega arith) i && le-leb limits.group_sources limits.group_sources (omega arith) i

-- a workspace that suffices has room for what the limits allow
module _ (limits : Limits) (groups group_sources : ℕ) (enough : (leb limits.groups groups && leb limits.group_sources group_sources) ≡ true) where
  pub enough_groups : limits.groups ≤ groups
  enough_groups = leb-true limits.groups groups (and_parts _ _ enough).0

  pub enough_sources : limits.group_sources ≤ group_sources
  enough_sources = leb-true limits.group_sources group_sources (and_parts _ _ enough).1

  module _ {K A : Type 0} (number : K → ℕ) {scratch : Scratch K A} {lists : Lists K A} (is : IsWorkspace number groups group_sources scratch lists) where
    pub enough_room : HasRoom limits.groups limits.group_sources scratch
    enough_room =
        let first = is.room.group in
        let second = is.room.named in
        let third = is.room.asked in
        let fourth = is.room.met in
        let fifth = is.room.changed in
        let many = enough_groups in
        let sources = enough_sources in
        record { group = omega arith; named = omega arith; asked = omega arith; met = omega arith; changed = omega arith }

    pub enough_space : HasSpace limits.groups lists
    enough_space =
        let first = is.list_room.due in
        let second = is.list_room.spare in
        let third = is.list_room.changed in
        let fourth = is.list_room.by_tick in
        let fifth = is.list_room.by_records in
        let many = enough_groups in
        record { due = omega arith; spare = omega arith; changed = omega arith; by_tick = omega arith; by_records = omega arith }

-- a workspace stays one
pub workspace_next : {K A : Type 0} (number : K → ℕ) (groups group_sources : ℕ) {scratch next : Scratch K A} {lists next_lists : Lists K A} →
    IsWorkspace number groups group_sources scratch lists
    → KeepsRoom scratch next → HasSpace groups next_lists → AreNone next.met → AreNone next.changed → IsAscending number next_lists.changed.items →
    length next_lists.changed.items ≤ 2 * groups → IsWorkspace number groups group_sources next next_lists
workspace_next number groups group_sources was room space none none_changed ascending few =
    record {
      room = still_room groups group_sources was.room room;
      list_room = space;
      marks = room.changed ∙ was.marks;
      none_met =
          none;
      none_changed = none_changed;
      ascending = ascending;
      few = few;
    }
