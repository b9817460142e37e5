-- The groups, by the number of a group or the place where it would go.
use Rattle.mq_link.proofs.Common.{◌≡◌, ◌==◌, ℕ, ◌+◌, ◌<◌, ◌≤◌, Bool, true, false, cond, refl, length, get_or, Option, None, Some, is_some, Result, Ok, Err}
use Rattle.mq_link.proofs.Common.{MatchResult, sym, ap, ◌∙◌, arith, ◌⊎◌, inl, inr, unwrap_or, is_ok, nat_cmp, eq_by_cmp, nat_cmp_total, cases_lt, eq-eqb}
use Rattle.mq_link.proofs.Common.{true≢false, list_any_at, NumberedKey, IsSpotFor, rank_of, Spot, is_vacant, IsHeld, same_sources, ScheduledGroup, HeldState}
use Rattle.mq_link.proofs.Common.{HasNumber, IsNumber, tied}
use Rattle.std.specs.FinMap as map
use Rattle.mq_held.specs.Groups.{Groups, group_at, kept_as, with_group, sources_of, unheld}
pub use Rattle.mq_held.proofs.Inside.{group_found}
use Rattle.mq_link.proofs.{Bounds.no_sources, Quiet.not_vacant}

-- a number of a group that is held is a number
pub is_number : (s : HeldState) (address n : ℕ) → HasNumber s address n → IsNumber s n
is_number s address n has =
    list_any_at (λ (x : NumberedKey). x.number == n) s.order.items has.is.0 (record { number = n; key = address }) has.is.1
    (eq-eqb _ n (ap (λ (x : NumberedKey). x.number) has.is.2))

pub group_absent : (groups : Groups) (address : ℕ) → map.contains_key groups address ≡ false → map.get groups address ≡ None
group_absent groups address absent = by_found (map.get groups address) absent
  where
    by_found : (e : Option ScheduledGroup) → is_some e ≡ false → e ≡ None
    by_found None is = refl
    by_found (Some e) is = absurd (true≢false is)

-- no group of an address that goes to a spot is held
pub spot_absent : (s : HeldState) (address : ℕ) (spot : Spot) → IsSpotFor s.order.items s.order.pages address spot
    → ((a : ℕ) → map.contains_key s.groups a ≡ true → (n : ℕ) × HasNumber s a n) → map.contains_key s.groups address ≡ false
spot_absent s address spot is held = by_test (map.contains_key s.groups address) refl
  where
    by_side : (n k : ℕ) → k < length s.order.items → (let x : NumberedKey = record { number = n; key = address } in get_or s.order.items k x ≡ x) →
        (k < rank_of s.order.pages spot) ⊎ (rank_of s.order.pages spot ≤ k) → ⊥
    by_side n k within here (inl before) =
        let x : NumberedKey = record { number = n; key = address } in
        let below = is.goes.below k x (omega arith) before in
        let key = ap (λ (y : NumberedKey). y.key) here in
        absurd (omega (arith, below, key))
    by_side n k within here (inr from) =
        let x : NumberedKey = record { number = n; key = address } in
        let above = is.goes.above k x from within in
        let key = ap (λ (y : NumberedKey). y.key) here in
        absurd (omega (arith, above, key))

    by_test : (b : Bool) → map.contains_key s.groups address ≡ b → b ≡ false
    by_test false there = refl
    by_test true there = let found = held address there in
        absurd (by_side found.0 found.1.is.0 found.1.is.1 found.1.is.2 (cases_lt found.1.is.0 (rank_of s.order.pages spot)))

-- a number that was found says that its group is held, and a spot that it isn't
pub found_or_not : (s : HeldState) (address : ℕ) (found : Result ℕ Spot) →
    MatchResult found (HasNumber s address) (IsSpotFor s.order.items s.order.pages address)
    → ((a : ℕ) → map.contains_key s.groups a ≡ true → (n : ℕ) × HasNumber s a n) → ((a n : ℕ) → HasNumber s a n → map.contains_key s.groups a ≡ true)
    → map.contains_key s.groups address ≡ is_ok found
found_or_not s address (Ok number) has held of_one = of_one address number has
found_or_not s address (Err spot) is held of_one = spot_absent s address spot is held

-- a group that is held is put back as it is
pub kept_held : (e : ScheduledGroup) → IsHeld e.group → kept_as e ≡ e
kept_held e held = ap (λ b. cond b unheld e) (not_vacant e.group held)

pub with_other : (groups : Groups) (address : ℕ) (e : ScheduledGroup) → is_vacant e.group ≡ false → map.insert groups address (kept_as e)
    ≡ with_group groups address e
with_other groups address e is =
    ap (λ b. map.insert groups address (cond b unheld e)) is
    ∙ sym (ap (λ b. cond b (map.remove groups address) (map.insert groups address e)) is)

pub with_new : (groups : Groups) (address : ℕ) (e : ScheduledGroup) → is_vacant e.group ≡ false → map.insert groups address e ≡ with_group groups address e
with_new groups address e is = sym (ap (λ b. cond b (map.remove groups address) (map.insert groups address e)) is)

module _ (groups : Groups) (address : ℕ) (absent : map.contains_key groups address ≡ false) where
  pub absent_unheld : group_at groups address ≡ unheld
  absent_unheld = ap (λ (e : Option ScheduledGroup). unwrap_or e unheld) (group_absent groups address absent)

  pub absent_sources : sources_of (group_at groups address) ≡ 0
  absent_sources = ap sources_of absent_unheld ∙ no_sources

  pub len_with_new : (e : ScheduledGroup) → is_vacant e.group ≡ false → map.len (with_group groups address e) ≡ map.len groups + 1
  len_with_new e held =
      ap (λ b. map.len (cond b (map.remove groups address) (map.insert groups address e))) held
      ∙ map.len-insert nat_cmp_total groups address e
      ∙ ap (λ x. cond (is_some x) (map.len groups) (map.len groups + 1)) (group_absent groups address absent)

  -- a group that isn't held before or after leaves all as it is
  pub with_none : (e : ScheduledGroup) → is_vacant e.group ≡ true → groups ≡ with_group groups address e
  with_none e vacant =
      same_sources groups (map.remove groups address) (λ q. sym (map.get-remove nat_cmp_total groups address q ∙ by_test q (eq_by_cmp nat_cmp q address) refl))
      ∙ ap (λ b. cond b (map.remove groups address) (map.insert groups address e)) (sym vacant)
    where
      by_test : (q : ℕ) (b : Bool) → eq_by_cmp nat_cmp q address ≡ b → cond b None (map.get groups q) ≡ map.get groups q
      by_test q true same = sym (group_absent groups address absent) ∙ ap (map.get groups) (sym (tied q address same))
      by_test q false same = refl
