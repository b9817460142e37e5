-- The moves of a group that is put, made or taken out. Five for each of its sources, and those put by, pay them.
use Rattle.mq_link.proofs.Common.{◌≡◌, subst, cond, ℕ, ◌+◌, ◌-◌, ◌*◌, ◌/◌, ◌<◌, ◌≤◌, Bool, true, false, not, min, ⊎_elim, None, Some, IfSome, refl}
use Rattle.mq_link.proofs.Common.{length, sym, ap}
use Rattle.mq_link.proofs.Common.{◌∙◌, arith, leb, ltb, ◌⊎◌, inl, inr, few-running, slice_index, mul-le-mul_right, cases_lt, le-leb, lt-leb, lt-ltb}
use Rattle.mq_link.proofs.Common.{le-ltb}
use Rattle.mq_link.proofs.Common.{Spends, NumberedKeysState, AreFilled, IsSpotFor, moved_by_insert, Spot, bitlen, bitlen-le, bitlen-mono, is_vacant}
use Rattle.mq_link.proofs.Common.{ScheduledGroup, HeldState, ahead_with, IsRowWritten, moved_by_packing, no_sources, vacant_sources}
use Rattle.mq_link.proofs.Common.{own_sources, total-with, total-entries, put_by_rows, IsPaid, moved_by_edit}
use Rattle.mq_link.proofs.{GrownGroups.one_at_most, Entries.total-kept, HeldAs.vacant_is, Moved.paid_by}
use Rattle.std.specs.FinMap as map
use Rattle.mq_held.specs.Groups.{Groups, unheld, group_at, if_running, kept_as, one_if, running_in, sources_in, sources_of, without_vacant}

-- 1 for a group that has a moment, else 0
abbrev runs : ScheduledGroup → ℕ
runs e = one_if (not (is_vacant e.group))

unheld_rests : runs unheld ≡ 0
unheld_rests = ap (λ b. one_if (not b)) vacant_is

-- the sources and moments once a group is set, or taken out
module _ (groups : Groups) (a : ℕ) where
  pub sources_set : (e : ScheduledGroup) → sources_in (map.insert groups a e) + sources_of (group_at groups a) ≡ sources_in groups + sources_of e
  sources_set e =
      let total = total-with (λ (x : ℕ × ScheduledGroup). sources_of x.1) groups a no_sources e in
      omega (arith, total, total-entries sources_of groups, total-entries sources_of (map.insert groups a e))

  pub running_set : (e : ScheduledGroup) → running_in (map.insert groups a e) + runs (group_at groups a) ≡ running_in groups + runs e
  running_set e =
      let total = total-with (λ (x : ℕ × ScheduledGroup). runs x.1) groups a unheld_rests e in
      omega (arith, total, total-entries runs groups, total-entries runs (map.insert groups a e))

-- the moves for a row are paid, by numbers alone
row_paid : (limit room cells running ahead had has named left : ℕ) → named ≤ running + 1 → running ≤ room → had ≤ cells → cells + has ≤ limit + had →
    left ≤ running + 1
    → (cond (leb has had) has (cond (leb has ahead) has (has + (cells - had + named))))
    + min (4 * (limit / 4 + room - (cond (leb has had) ahead (cond (leb has ahead) (ahead - has) (limit + limit / 4 + room - (cells - had + has))))))
    (cells - had + has + left)
    ≤ min (4 * (limit / 4 + room - ahead)) (cells + running) + 5 * has + 1
row_paid limit room cells running ahead had has named left few within part fits more =
    ⊎_elim
    (λ (shorter : has ≤ had). rw (le-leb has had shorter) (omega arith))
    (λ (longer : had < has).
    ⊎_elim
    (λ (behind : has ≤ ahead). rw (lt-leb has had longer, le-leb has ahead behind) (omega arith))
    (λ (past : ahead < has). rw (lt-leb has had longer, lt-leb has ahead past) (omega arith))
    (cases_or ahead has))
    (cases_or had has)
  where
    cases_or : (a b : ℕ) → (b ≤ a) ⊎ (a < b)
    cases_or a b = ⊎_elim (λ (below : a < b). inr below) (λ (from : b ≤ a). inl from) (cases_lt a b)

pub few_digits : (n : ℕ) → n ≤ 65535 → bitlen n ≤ 16
few_digits n few = bitlen-le 16 n (omega (arith, few))

kept_size : (e : ScheduledGroup) → sources_of (kept_as e) ≡ sources_of e
kept_size e = by_test (is_vacant e.group) refl
  where
    by_test : (b : Bool) → is_vacant e.group ≡ b → sources_of (cond b unheld e) ≡ sources_of e
    by_test true is = no_sources ∙ sym (vacant_sources e is)
    by_test false is = refl

-- the rows once a group is set, with what is put by then
set_paid : (s after : HeldState) (a has own : ℕ) (named rows : ℕ) (left : ScheduledGroup) → sources_of left ≡ has → own ≤ has →
    named ≤ running_in s.groups + 1 → map.len s.groups ≤ s.order.room
    → sources_of (group_at s.groups a) ≤ sources_in s.groups → sources_in s.groups + has ≤ s.source_room + sources_of (group_at s.groups a)
    → after.groups ≡ map.insert s.groups a left → after.order.room ≡ s.order.room → after.source_room ≡ s.source_room →
    IsRowWritten s (sources_of (group_at s.groups a)) has own named after.ahead rows
    → rows + put_by_rows after ≤ put_by_rows s + 5 * has + 1
set_paid s after a has own named rows left has_is own_few named_few few part fits groups_are rooms room_is written =
    ⊎_elim stays goes written.how
  where
    total : sources_in (map.insert s.groups a left) ≡ sources_in s.groups - sources_of (group_at s.groups a) + has
    total = let sizes = sources_set s.groups a left in omega (arith, sizes, has_is, part)

    moments : running_in (map.insert s.groups a left) ≤ running_in s.groups + 1
    moments =
        let set = running_set s.groups a left in
        let one = one_at_most (not (is_vacant left.group)) in
        omega (arith, set, one)

    put_by : (ahead : ℕ) → after.ahead ≡ ahead → put_by_rows after ≡ min (4 * (s.source_room / 4 + s.order.room - ahead))
        (sources_in s.groups - sources_of (group_at s.groups a) + has + running_in (map.insert s.groups a left))
    put_by ahead is =
        λ i. min (4 * (room_is i / 4 + rooms i - is i)) ((ap sources_in groups_are ∙ total) i + running_in (groups_are i))

    stays : (after.ahead ≡ s.ahead) × (rows ≡ own) → rows + put_by_rows after ≤ put_by_rows s + 5 * has + 1
    stays still = let after_is = put_by s.ahead still.0 in let moved = still.1 in omega (arith, after_is, moved, moments, own_few, part)

    goes : (after.ahead ≡ ahead_with s (sources_of (group_at s.groups a)) has) ×
        (rows ≡ moved_by_packing named s (sources_of (group_at s.groups a)) has) →
        rows + put_by_rows after ≤ put_by_rows s + 5 * has + 1
    goes behind =
        let after_is = put_by (ahead_with s (sources_of (group_at s.groups a)) has) behind.0 in
        let moved = behind.1 in
        let all = few-running s.groups in
        let paid = row_paid s.source_room s.order.room (sources_in s.groups) (running_in s.groups) s.ahead (sources_of (group_at s.groups a)) has named
        (running_in (map.insert s.groups a left)) named_few (omega (arith, all, few)) part fits moments in
        omega (arith, paid, after_is, moved)

-- the group of a number is put, and moves some others beside its row
pub put_paid : (s after : HeldState) (a own named rows others : ℕ) (e : ScheduledGroup) (old new : ℕ) → map.len s.groups ≤ s.order.room
    → sources_in s.groups + sources_of e ≤ s.source_room + sources_of (group_at s.groups a) → own ≤ sources_of e → named ≤ running_in s.groups + 1
    → after.groups ≡ map.insert s.groups a (kept_as e) → after.order ≡ s.order → after.source_room ≡ s.source_room
    → IsRowWritten s (sources_of (group_at s.groups a)) (sources_of e) own named after.ahead rows
    → others ≤ map.len s.groups → Spends rows (rows + 4 + bitlen others) old new
    → IsPaid (5 * sources_of e + 5 + bitlen (map.len s.groups)) (put_by_rows s) (put_by_rows after) old new
put_paid s after a own named rows others e old new few fits own_few named_few groups_are order_is room_is written fewer moved =
    let rooms = ap (λ (o : NumberedKeysState). o.room) order_is in
    let paid = set_paid s after a (sources_of e) own named rows (kept_as e) (kept_size e) own_few named_few few (own_sources s.groups a) fits groups_are
    rooms room_is written in
    let digits = bitlen-mono others (map.len s.groups) fewer in
    paid_by (5 * sources_of e + 5 + bitlen (map.len s.groups)) moved (omega (arith, paid, digits))

-- the order of the addresses has few pages, and no page has many
module _ (s : HeldState) (few : map.len s.groups ≤ 65535) (filled : AreFilled s.order.pages)
    (few_pages : 128 * length s.order.pages ≤ map.len s.groups + 128) where
  pages_few : length s.order.pages ≤ 512
  pages_few = omega (arith, few, few_pages)

  insert_few : (n : ℕ) (spot : Spot) → IsSpotFor s.order.items s.order.pages n spot → moved_by_insert s.order.pages spot ≤ 1024
  insert_few n spot is =
      let within : slice_index s.order.pages spot.page ≤ 511 = filled.within spot.page 0 is.page in
      let place = is.place in
      let pages = pages_few in
      by_room (slice_index s.order.pages spot.page) within place
    where
      behind : (place : ℕ) → cond (leb place 255) (255 - place + 1) (256 - (place - 255) + 1) ≤ 256
      behind place = ⊎_elim
          (λ (above : 255 < place). rw (lt-leb place 255 above) (omega arith))
          (λ (upto : place ≤ 255). rw (le-leb place 255 upto) (omega arith))
          (cases_lt 255 place)

      by_room : (count : ℕ) → count ≤ 511 → spot.place ≤ count → cond (ltb count 511) (count - spot.place + 1)
          (256 + (length s.order.pages - spot.page) + cond (leb spot.place 255) (255 - spot.place + 1) (256 - (spot.place - 255) + 1)) ≤ 1024
      by_room count within place =
          let few = behind spot.place in
          let pages = pages_few in
          ⊎_elim
          (λ (room : count < 511). rw (lt-ltb count 511 room) (omega arith))
          (λ (full : 511 ≤ count). rw (le-ltb count 511 full) (omega (arith, few, pages)))
          (cases_lt count 511)

  digits_few : bitlen (running_in s.groups) ≤ 16
  digits_few = few_digits (running_in s.groups) (let all = few-running s.groups in omega (arith, all, few))

  -- a group is made
  pub made_paid : (after : HeldState) (a rows : ℕ) (spot : Spot) (e : ScheduledGroup) (old new : ℕ) → map.len s.groups ≤ s.order.room →
      group_at s.groups a ≡ unheld
      → IsSpotFor s.order.items s.order.pages a spot → sources_in s.groups + sources_of e ≤ s.source_room
      → after.groups ≡ map.insert s.groups a e → after.order.room ≡ s.order.room → after.source_room ≡ s.source_room →
      IsRowWritten s 0 (sources_of e) (sources_of e) (running_in s.groups + 1) after.ahead rows
      → (let pages = moved_by_insert s.order.pages spot in Spends (pages + rows + 4) (pages + rows + 4 + bitlen (running_in s.groups)) old new)
      → IsPaid (5 * sources_of e + moved_by_edit) (put_by_rows s) (put_by_rows after) old new
  made_paid after a rows spot e old new room absent is fits groups_are rooms room_is written moved =
      let none : sources_of (group_at s.groups a) ≡ 0 = ap sources_of absent ∙ no_sources in
      let written_then = subst (λ n. IsRowWritten s n (sources_of e) (sources_of e) (running_in s.groups + 1) after.ahead rows) (sym none) written in
      let paid = set_paid s after a (sources_of e) (sources_of e) (running_in s.groups + 1) rows e refl (omega arith) (omega arith) room
      (own_sources s.groups a) (omega (arith, fits)) groups_are rooms room_is written_then in
      let order = insert_few a spot is in
      let digits = digits_few in
      paid_by (5 * sources_of e + moved_by_edit) moved (omega (arith, paid, order, digits))

-- those that are vacant are taken out
runs_no_more : (k : ℕ) (e : ScheduledGroup) → IfSome (if_running k e) (λ x. runs x ≤ runs e)
runs_no_more k e = by_test (is_vacant e.group)
  where
    by_test : (b : Bool) → IfSome (cond b None (Some e)) (λ x. runs x ≤ runs e)
    by_test true = tt
    by_test false = omega arith

sources_no_more : (k : ℕ) (e : ScheduledGroup) → IfSome (if_running k e) (λ x. sources_of x ≤ sources_of e)
sources_no_more k e = by_test (is_vacant e.group)
  where
    by_test : (b : Bool) → IfSome (cond b None (Some e)) (λ x. sources_of x ≤ sources_of e)
    by_test true = tt
    by_test false = omega arith

pub taken_out_paid : (s after : HeldState) (budget low old new : ℕ) → after.groups ≡ without_vacant s.groups → after.order.room ≡ s.order.room →
    after.source_room ≡ s.source_room → after.ahead ≡ s.ahead
    → Spends low budget old new → IsPaid budget (put_by_rows s) (put_by_rows after) old new
taken_out_paid s after budget low old new groups_are rooms room_is ahead_is moved =
    let after_is : put_by_rows after ≡ min (4 * (s.source_room / 4 + s.order.room - s.ahead))
    (sources_in (without_vacant s.groups) + running_in (without_vacant s.groups)) =
    λ i. min (4 * (room_is i / 4 + rooms i - ahead_is i)) (sources_in (groups_are i) + running_in (groups_are i))
    in
    let fewer = total-kept sources_of if_running s.groups sources_no_more in
    let rests : running_in (without_vacant s.groups) ≤ running_in s.groups = total-kept runs if_running s.groups runs_no_more in
    paid_by budget moved (omega (arith, after_is, fewer, rests))

-- the moves put by are at most those of packing
pub put_by_few : (s : HeldState) → put_by_rows s ≤ sources_in s.groups + map.len s.groups
put_by_few s = let all = few-running s.groups in omega (arith, all)

-- the comparisons for some are at most those for many
pub some_of : (some most : ℕ) → min 1 some * most ≤ most
some_of some most = let few : min 1 some ≤ 1 = omega arith in let all = mul-le-mul_right most few in omega (arith, all)

pub none_of_all : (some most : ℕ) → some ≡ 0 → min 1 some * most ≡ 0
none_of_all some most none = ap (λ n. min 1 n * most) none ∙ omega arith
