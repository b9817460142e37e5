-- Conditions for a held group. Records and the end of timers leave such a group, or nothing.
use Rattle.mq_table.proofs.Common.{◌≡◌, ◌≢◌, ℕ, ◌+◌, Bool, true, false, cond, inl, inr, List, [], ◌∷◌, length, Option, None, Some, IsSome, refl, sym, ap, ◌∙◌}
use Rattle.mq_table.proofs.Common.{arith, eqb, none-some, not-true, not-false, true_from_ne_false, false≢true, true≢false, eqb-true, cases_Bool, or_left}
use Rattle.mq_table.proofs.Common.{nat_tests, length-map, list_any, option_and_then, nat_cmp, eq_by_cmp, FinMap, Kind, IsIn, IsEx, ToIn, ToEx, Allow, Block}
use Rattle.mq_table.proofs.Common.{Timing, GroupState, FilterMode, Include, Exclude, running, SourceTimer, is_running, is_stopped, stopped, vacant, is_vacant}
use Rattle.mq_table.proofs.Common.{IsWellFormed, IsAnyGroup, Set, kept, membership_interval, NamedSources, table_row, change_of, lowered_to, mode_lowered}
use Rattle.mq_table.proofs.Common.{source_lowered, group_lowered, sources_lowered, source_expired, held_or_vacant, expired}
use Rattle.mq_count.specs.declared.versions.OlderVersion.{OlderVersion, TheVariants.V1, TheVariants.V2}
use Rattle.mq_table.specs.OlderHosts.{older_report}
use Rattle.mq_table.proofs.{Maps.get-kept, Groups.same_sources, TableRows.none_stopped_of, TableRows.was_included, TableRows.runs_on}
use Rattle.std.specs.FinMap as map
use Rattle.std.specs.FinSet as set

ties_itself : (k : ℕ) → eq_by_cmp nat_cmp k k ≡ true
ties_itself k = grind (arith, nat_tests)

some_listed : (ks : List ℕ) → (eqb (length ks) 0 ≡ false) → (k : ℕ) × (list_any (eq_by_cmp nat_cmp k) ks ≡ true)
some_listed [] h = absurd (true≢false h)
some_listed (k ∷ ks) h = (k, or_left _ _ (ties_itself k))

-- a map of some length has a key
pub some_key : {X : Type 0} (m : FinMap nat_cmp X) → eqb (map.len m) 0 ≡ false → (k : ℕ) × IsSome (map.get m k)
some_key m h =
    let k = some_listed (map.keys m) (ap (λ n. eqb n 0) (length-map (map.entries m) (λ e. e.0) ∙ sym (map.len-entries m)) ∙ h) in
    (k.0, map.contains_key-keys m k.0 ∙ k.1)

-- a map that has nothing is the empty one
pub nothing_held : {X : Type 0} (m : FinMap nat_cmp X) → ((s : ℕ) → map.get m s ≡ None) → m ≡ map.empty
nothing_held m none = same_sources m map.empty (λ s. none s ∙ sym (map.get-empty nat_cmp s))

pub get_of_empty : {X : Type 0} (m : FinMap nat_cmp X) → eqb (map.len m) 0 ≡ true → (s : ℕ) → map.get m s ≡ None
get_of_empty m e s = ap (λ n. map.get n s) (map.empty_of_len m (eqb-true _ _ e)) ∙ map.get-empty nat_cmp s

running_if_held : (t : Option SourceTimer) → is_stopped t ≡ false → IsSome t → is_running t ≡ true
running_if_held t runs held = grind (arith, false≢true, true≢false)

-- where no source of an INCLUDE group is stopped and it has no host-present timer, it is held or vacant
pub held_if_included : (m : FinMap nat_cmp SourceTimer) (v1 v2 : Option ℕ) → ((s : ℕ) → is_stopped (map.get m s) ≡ false) →
    (eqb (map.len m) 0 ≡ true → (v1 ≡ None) × (v2 ≡ None)) → IsAnyGroup (record { mode = Include; sources = m; v1 = v1; v2 = v2 })
held_if_included m v1 v2 none alone = elim (cases_Bool (eqb (map.len m) 0)) [
  | inl empty ↦ inl (let e = map.empty_of_len m (eqb-true _ _ empty) in
      λ i. record { mode = Include; sources = e i; v1 = (alone empty).0 i; v2 = (alone empty).1 i })
  | inr some ↦ let k = some_key m some in inr (record { has_source = λ _. (k.0, running_if_held (map.get m k.0) (none k.0) k.1); none_stopped = λ _. none })
]

-- A record leaves a held group held.
pub IsWellFormed-change_of : (timing : Timing) (now : ℕ) (g : GroupState) (kind : Kind) (named : NamedSources) → IsWellFormed g →
    IsWellFormed (change_of timing now g kind named).group
IsWellFormed-change_of timing now g kind named held = grind (arith, was_included, runs_on, none_stopped_of)

-- a record for a group that isn't held makes a held one, or none
vacant_after : (timing : Timing) (now : ℕ) (kind : Kind) (named : NamedSources) → IsAnyGroup (change_of timing now vacant kind named).group
vacant_after timing now IsIn named = held_if_included _ None None (none_stopped_of timing now vacant IsIn named refl) (λ _. (refl, refl))
vacant_after timing now Allow named = held_if_included _ None None (none_stopped_of timing now vacant Allow named refl) (λ _. (refl, refl))
vacant_after timing now Block named = held_if_included _ None None (none_stopped_of timing now vacant Block named refl) (λ _. (refl, refl))
vacant_after timing now ToIn named = held_if_included _ None None (none_stopped_of timing now vacant ToIn named refl) (λ _. (refl, refl))
vacant_after timing now IsEx named = inr (record { has_source = λ e. cc; none_stopped = λ e. cc })
vacant_after timing now ToEx named = inr (record { has_source = λ e. cc; none_stopped = λ e. cc })

pub IsAnyGroup-change_of : (timing : Timing) (now : ℕ) (g : GroupState) (kind : Kind) (named : NamedSources) → IsAnyGroup g →
    IsAnyGroup (change_of timing now g kind named).group
IsAnyGroup-change_of timing now g kind named any = grind (arith, vacant_after, IsWellFormed-change_of)

well_formed : (g : GroupState) → is_vacant g ≡ false → (g.mode ≡ Include → (s : ℕ) → stopped g s ≡ false) → IsWellFormed g
well_formed g some none = grind (arith, some_key, running_if_held)

pub IsAnyGroup-held_or_vacant : (g : GroupState) → (g.mode ≡ Include → (s : ℕ) → stopped g s ≡ false) → IsAnyGroup (held_or_vacant g)
IsAnyGroup-held_or_vacant g none =
    elim (is_vacant g) as (λ b. is_vacant g ≡ b → IsAnyGroup (cond b vacant g)) [ true ↦ λ _. inl refl | false ↦ λ some. inr (well_formed g some none) ] refl

-- in INCLUDE the end of timers leaves no source stopped
none_stopped_at : (now : ℕ) (t : Option SourceTimer) → is_stopped (option_and_then (source_expired Include now) t) ≡ false
none_stopped_at now t = grind arith

pub IsAnyGroup-expired : (now : ℕ) (g : GroupState) → IsAnyGroup (expired now g)
IsAnyGroup-expired now g = grind (arith, IsAnyGroup-held_or_vacant, get-kept, none_stopped_at)

-- An INCLUDE group with a source stays. Without sources it is vacant.
pub held_or_vacant-some : (m n : FinMap nat_cmp SourceTimer) (v1 v2 : Option ℕ) (k : ℕ) (t : SourceTimer) → map.get n k ≡ Some t →
    ((s : ℕ) → map.get m s ≡ map.get n s) → held_or_vacant (record { mode = Include; sources = m; v1 = v1; v2 = v2 })
    ≡ record { mode = Include; sources = n; v1 = v1; v2 = v2 }
held_or_vacant-some m n v1 v2 k t some alike = grind (arith, true_from_ne_false, none-some, get_of_empty, not-false, same_sources, not-true)

pub held_or_vacant-none : (m : FinMap nat_cmp SourceTimer) (v1 v2 : Option ℕ) → ((s : ℕ) → map.get m s ≡ None) →
    held_or_vacant (record { mode = Include; sources = m; v1 = v1; v2 = v2 }) ≡ vacant
held_or_vacant-none m v1 v2 none =
    ap (λ b. cond b vacant (record { mode = Include; sources = m; v1 = v1; v2 = v2 }))
    (ap (λ n. eqb (map.len n) 0) (nothing_held m none) ∙ ap (λ n. eqb n 0) (map.len-empty nat_cmp _))

-- A group whose mode and whose timers change, but not which of them run, stays held.
replaced_runs : (f : SourceTimer → SourceTimer) → ((t : SourceTimer) → is_running (Some (f t)) ≡ is_running (Some t)) → (t : Option SourceTimer) →
    is_running (option_and_then (λ t. Some (f t)) t) ≡ is_running t
replaced_runs f same None = refl
replaced_runs f same (Some t) = same t

replaced_stops : (f : SourceTimer → SourceTimer) → ((t : SourceTimer) → is_running (Some (f t)) ≡ is_running (Some t)) → (t : Option SourceTimer) →
    is_stopped (option_and_then (λ t. Some (f t)) t) ≡ is_stopped t
replaced_stops f same t = grind (arith, false≢true, true≢false)

pub IsWellFormed-replaced : (g : GroupState) (mode : FilterMode) (f : ℕ → SourceTimer → SourceTimer) → (mode ≡ Include → g.mode ≡ Include) →
    ((s : ℕ) (t : SourceTimer) → is_running (Some (f s t)) ≡ is_running (Some t)) → IsWellFormed g →
    IsWellFormed (record { mode = mode; sources = kept (λ s t. Some (f s t)) g.sources; v1 = g.v1; v2 = g.v2 })
IsWellFormed-replaced g mode f was same held = grind (arith, get-kept, replaced_runs, replaced_stops)

-- so does one whose mode alone changes
pub IsWellFormed-mode : (g : GroupState) (mode : FilterMode) → (mode ≡ Include → g.mode ≡ Include) → IsWellFormed g →
    IsWellFormed (record { mode = mode; sources = g.sources; v1 = g.v1; v2 = g.v2 })
IsWellFormed-mode g mode was held = record { has_source = λ e. held.has_source (was e); none_stopped = λ e. held.none_stopped (was e) }

pub was_include : (limit : ℕ) (mode : FilterMode) → mode_lowered limit mode ≡ Include → mode ≡ Include
was_include limit Include e = refl
was_include limit (Exclude d) e = cc

lowered_runs : (limit : ℕ) (b : Bool) (t : SourceTimer) → is_running (Some (cond b (source_lowered limit t) t)) ≡ is_running (Some t)
lowered_runs limit b t = grind arith

pub IsWellFormed-group_lowered : (timing : Timing) (now : ℕ) (g : GroupState) → IsWellFormed g → IsWellFormed (group_lowered timing now g)
IsWellFormed-group_lowered timing now g = IsWellFormed-mode g (mode_lowered (lowered_to timing now) g.mode) (was_include (lowered_to timing now) g.mode)

pub IsWellFormed-sources_lowered : (timing : Timing) (now : ℕ) (asked : Set) (g : GroupState) → IsWellFormed g →
    IsWellFormed (sources_lowered timing now asked g)
IsWellFormed-sources_lowered timing now asked g = IsWellFormed-replaced g g.mode (λ s t. cond (asked s) (source_lowered (lowered_to timing now) t) t)
    (λ e. e) (λ s t. lowered_runs (lowered_to timing now) (asked s) t)

-- an older Report leaves an EXCLUDE group, which is held
excluded_by : (gmi : ℕ) (mode : FilterMode) (X Y A : Set) → (table_row gmi mode IsEx X Y A).mode ≢ Include
excluded_by gmi Include X Y A e = cc
excluded_by gmi (Exclude d) X Y A e = cc

pub IsWellFormed-older_report : (version : OlderVersion) (timing : Timing) (now : ℕ) (g : GroupState) → IsWellFormed (older_report version timing now g)
IsWellFormed-older_report V1 timing now g = let never = excluded_by (now + membership_interval timing) g.mode (running g) (stopped g)
    (set.contains set.empty) in record { has_source = λ e. absurd (never e); none_stopped = λ e. absurd (never e) }
IsWellFormed-older_report V2 timing now g = let never = excluded_by (now + membership_interval timing) g.mode (running g) (stopped g)
    (set.contains set.empty) in record { has_source = λ e. absurd (never e); none_stopped = λ e. absurd (never e) }
