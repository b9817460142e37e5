-- Conditions for two equal groups.
use Rattle.mq_table.proofs.Common.{◌≡◌, ℕ, Option, nat_cmp, nat_cmp_total, FinMap, same_map, nat_cmp-IsAntisymmetric, GroupState, FilterMode, SourceTimer}
use Rattle.std.specs.FinMap as map

-- two maps that answer alike at each source are one
pub same_sources : {X : Type 0} (m n : FinMap nat_cmp X) → ((s : ℕ) → map.get m s ≡ map.get n s) → m ≡ n
same_sources = same_map nat_cmp_total nat_cmp-IsAntisymmetric

-- so groups with one mode and one set of host-present deadlines whose sources answer alike are one
pub same_group : (mode : FilterMode) (m n : FinMap nat_cmp SourceTimer) (v1 v2 : Option ℕ) → ((s : ℕ) → map.get m s ≡ map.get n s) →
    ◌≡◌ {A = GroupState} (record { mode = mode; sources = m; v1 = v1; v2 = v2 }) (record { mode = mode; sources = n; v1 = v1; v2 = v2 })
same_group mode m n v1 v2 is = λ i. record { mode = mode; sources = same_sources m n is i; v1 = v1; v2 = v2 }
