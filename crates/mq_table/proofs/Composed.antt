-- The end of timers at one moment, and then at a later one.
use Rattle.mq_table.proofs.Common.{◌≡◌, ℕ, ◌≤◌, true, false, cond, Option, None, Some, refl, sym, ap, ◌∙◌, arith, eqb, and_parts, nat_tests, option_and_then}
use Rattle.mq_table.proofs.Common.{nat_cmp, FinMap, kept, GroupState, FilterMode, Include, Exclude, SourceTimer, is_include, vacant, is_vacant, ahead}
use Rattle.mq_table.proofs.Common.{mode_expired, source_expired, held_or_vacant, expired}
use Rattle.mq_table.proofs.{Maps.get-kept, Groups.same_sources, Held.nothing_held, Held.get_of_empty}
use Rattle.std.specs.FinMap as map

-- the rest after the end of timers, before it is known whether the group is held
abbrev pub ended_at : ℕ → GroupState → GroupState
ended_at now g = record {
  mode = mode_expired now g.mode;
  sources = kept (λ s. source_expired (mode_expired now g.mode) now) g.sources;
  v1 = option_and_then (ahead now) g.v1;
  v2 = option_and_then (ahead now) g.v2;
}

ahead_twice : (a b : ℕ) → a ≤ b → (o : Option ℕ) → option_and_then (ahead b) (option_and_then (ahead a) o) ≡ option_and_then (ahead b) o
ahead_twice a b le None = refl
ahead_twice a b le (Some d) = grind (arith, nat_tests)

mode_twice : (a b : ℕ) → a ≤ b → (mode : FilterMode) → mode_expired b (mode_expired a mode) ≡ mode_expired b mode
mode_twice a b le Include = refl
mode_twice a b le (Exclude d) = grind (arith, nat_tests)

source_twice : (a b : ℕ) → a ≤ b → (mode : FilterMode) (t : Option SourceTimer) → option_and_then (source_expired (mode_expired b mode) b)
    (option_and_then (source_expired (mode_expired a mode) a) t) ≡ option_and_then (source_expired (mode_expired b mode) b) t
source_twice a b le mode t = grind (arith, nat_tests)

ended_twice : (a b : ℕ) → a ≤ b → (g : GroupState) → ended_at b (ended_at a g) ≡ ended_at b g
ended_twice a b le g =
    let modes = mode_twice a b le g.mode in
    let sources = same_sources (ended_at b (ended_at a g)).sources (ended_at b g).sources (λ s.
    get-kept (λ _. source_expired (mode_expired b (mode_expired a g.mode)) b) (ended_at a g).sources s
    ∙ ap (λ t. option_and_then (source_expired (mode_expired b (mode_expired a g.mode)) b) t)
    (get-kept (λ _. source_expired (mode_expired a g.mode) a) g.sources s)
    ∙ ap (λ mode. option_and_then (source_expired mode b) (option_and_then (source_expired (mode_expired a g.mode) a) (map.get g.sources s))) modes
    ∙ source_twice a b le g.mode (map.get g.sources s)
    ∙ sym (get-kept (λ _. source_expired (mode_expired b g.mode) b) g.sources s)) in
    λ i. record { mode = modes i; sources = sources i; v1 = ahead_twice a b le g.v1 i; v2 = ahead_twice a b le g.v2 i }

include_stays : (b : ℕ) (mode : FilterMode) → is_include mode ≡ true → is_include (mode_expired b mode) ≡ true
include_stays b Include e = refl
include_stays b (Exclude d) e = grind (arith, nat_tests)

empty_has_no_keys : {X : Type 0} (m : FinMap nat_cmp X) → ((s : ℕ) → map.get m s ≡ None) → eqb (map.len m) 0 ≡ true
empty_has_no_keys m none = ap (λ n. eqb (map.len n) 0) (nothing_held m none) ∙ ap (λ n. eqb n 0) (map.len-empty nat_cmp _)

-- a vacant group stays vacant at the end of timers
vacant_stays : (b : ℕ) (g : GroupState) → is_vacant g ≡ true → is_vacant (ended_at b g) ≡ true
vacant_stays b g e = grind (arith, and_parts, empty_has_no_keys, get-kept, get_of_empty, include_stays)

vacant_is_vacant : is_vacant vacant ≡ true
vacant_is_vacant = ap (λ n. eqb n 0) (map.len-empty nat_cmp SourceTimer)

held_of_vacant : (g : GroupState) → is_vacant g ≡ true → held_or_vacant g ≡ vacant
held_of_vacant g e = ap (λ b. cond b vacant g) e

-- two expiries, if the group is vacant at once or only at the later moment
pub expired-expired : (g : GroupState) (a b : ℕ) → a ≤ b → expired b (expired a g) ≡ expired b g
expired-expired g a b le =
    elim (is_vacant (ended_at a g)) as (λ v. is_vacant (ended_at a g) ≡ v → held_or_vacant (ended_at b (cond v vacant (ended_at a g))) ≡ expired b g) [
      | true ↦ λ e. held_of_vacant (ended_at b vacant) (vacant_stays b vacant vacant_is_vacant)
          ∙ sym (held_of_vacant (ended_at b (ended_at a g)) (vacant_stays b (ended_at a g) e))
          ∙ ap held_or_vacant (ended_twice a b le g)
      | false ↦ λ e. ap held_or_vacant (ended_twice a b le g)
    ] refl
