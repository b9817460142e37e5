-- The effect of a row of the tables on one source.
use Rattle.mq_table.proofs.Common.{◌≡◌, ℕ, ◌+◌, Bool, true, false, Option, None, Some, IsSome, sym, subst, arith, false≢true, Kind, IsIn, Timing, Set}
use Rattle.mq_table.proofs.Common.{GroupState, FilterMode, Include, Exclude, SourceTimer, Stopped, Running, is_running, is_stopped, running, stopped, timer_at}
use Rattle.mq_table.proofs.Common.{membership_interval, NamedSources, TableRow, table_row, timer_by, table_row_met, change_of}
use Rattle.mq_table.proofs.Maps.{get-by_rule_everywhere}
use Rattle.std.specs.FinSet as set

-- the row for one source, from its timer before and whether the record names it
abbrev pub table_row_at : ℕ → FilterMode → Kind → Option SourceTimer → Bool → TableRow
table_row_at gmi mode kind t a = table_row gmi mode kind (λ _. is_running t) (λ _. is_stopped t) (λ _. a)

abbrev pub timer_then : ℕ → FilterMode → Kind → ℕ → Option SourceTimer → Bool → Option SourceTimer
timer_then gmi mode kind s t a = timer_by (table_row_at gmi mode kind t a) gmi mode s t

-- to show a fact of a source, show it where the source is absent, stopped and running, named and not
pub each_case : (P : Option SourceTimer → Bool → Type 0) → ((a : Bool) → P None a) → ((a : Bool) → P (Some Stopped) a) →
    ((d n : ℕ) (a : Bool) → P (Some (Running d n)) a) → (t : Option SourceTimer) (a : Bool) → P t a
each_case P none stopped runs None a = none a
each_case P none stopped runs (Some Stopped) a = stopped a
each_case P none stopped runs (Some (Running d n)) a = runs d n a

pub both : (P : Bool → Type 0) → P true → P false → (a : Bool) → P a
both P t f true = t
both P t f false = f

-- nothing comes of a source that is neither held nor named
pub timer_by-nothing : (gmi : ℕ) (mode : FilterMode) (kind : Kind) (X Y A : Set) (s : ℕ) → X s ≡ false → Y s ≡ false → A s ≡ false →
    timer_by (table_row gmi mode kind X Y A) gmi mode s None ≡ None
timer_by-nothing gmi mode kind X Y A s x y a = grind arith

-- the timer of a source in the new group, by the one rule
pub timer_at-change_of : (timing : Timing) (now : ℕ) (g : GroupState) (kind : Kind) (named : NamedSources) (s : ℕ) →
    timer_at (change_of timing now g kind named).group s ≡ timer_by (table_row_met timing now g kind named)
    (now + membership_interval timing) g.mode s (timer_at g s)
timer_at-change_of timing now g kind named s = grind (arith, get-by_rule_everywhere, timer_by-nothing)

-- The effect on one source depends on that source alone: on its timer, and whether it is named.
pub at_source : (P : Bool → Bool → Bool → FilterMode → Option SourceTimer → Type 0) → (gmi : ℕ) (mode : FilterMode) (kind : Kind) (g : GroupState)
    (A : Set) (s : ℕ)
    → (let l = table_row_at gmi mode kind (timer_at g s) (A s) in P (l.restart s) (l.copy s) (l.query s) l.mode (timer_by l gmi mode s (timer_at g s)))
    → (let l = table_row gmi mode kind (running g) (stopped g) A in P (l.restart s) (l.copy s) (l.query s) l.mode (timer_by l gmi mode s (timer_at g s)))
at_source P gmi Include IsIn g A s p = p
at_source P gmi (Exclude d) IsIn g A s p = p
at_source P gmi _ _ g A s p = p

-- this fact for the new group
pub at_source_of : (P : Bool → Bool → Bool → FilterMode → Option SourceTimer → Type 0) → (timing : Timing) (now : ℕ) (g : GroupState) (kind : Kind)
    (named : NamedSources) (s : ℕ)
    → (let gmi = now + membership_interval timing in let l = table_row_at gmi g.mode kind (timer_at g s) (set.contains named s) in
    P (l.restart s) (l.copy s) (l.query s) l.mode (timer_by l gmi g.mode s (timer_at g s)))
    → (let l = table_row_met timing now g kind named in P (l.restart s) (l.copy s) (l.query s) l.mode (timer_at (change_of timing now g kind named).group s))
at_source_of P timing now g kind named s p =
    let l = table_row_met timing now g kind named in
    subst (P (l.restart s) (l.copy s) (l.query s) l.mode) (sym (timer_at-change_of timing now g kind named s))
    (at_source P (now + membership_interval timing) g.mode kind g (set.contains named) s p)

-- the new group has each source that a record asks for
asked_then : (gmi : ℕ) (mode : FilterMode) (kind : Kind) (s : ℕ) (t : Option SourceTimer) (a : Bool) → (table_row_at gmi mode kind t a).query s ≡ true
    → IsSome (timer_then gmi mode kind s t a)
asked_then gmi mode kind s t a h1 = grind arith

pub asked_is_held : (timing : Timing) (now : ℕ) (g : GroupState) (kind : Kind) (named : NamedSources) (s : ℕ) →
    (change_of timing now g kind named).query s ≡ true → IsSome (timer_at (change_of timing now g kind named).group s)
asked_is_held timing now g kind named s =
    at_source_of (λ _ _ query _ t. query ≡ true → IsSome t) timing now g kind named s
    (asked_then (now + membership_interval timing) g.mode kind s (timer_at g s) (set.contains named s))

-- no source is stopped where the new group is INCLUDE
none_stopped_then : (gmi : ℕ) (mode : FilterMode) (kind : Kind) (s : ℕ) (t : Option SourceTimer) (a : Bool) → (table_row_at gmi mode kind t a).mode
    ≡ Include → is_stopped (timer_then gmi mode kind s t a) ≡ false
none_stopped_then gmi mode kind s t a h1 = grind arith

-- a source that runs in INCLUDE runs on where the new group is INCLUDE
runs_on_then : (gmi : ℕ) (mode : FilterMode) (kind : Kind) (s : ℕ) (t : Option SourceTimer) (a : Bool) → (table_row_at gmi mode kind t a).mode
    ≡ Include → is_running t ≡ true → is_running (timer_then gmi mode kind s t a) ≡ true
runs_on_then gmi mode kind s t a h1 h2 = grind (arith, false≢true)

-- only a group that is INCLUDE becomes INCLUDE by a record
included_before : (gmi : ℕ) (mode : FilterMode) (kind : Kind) (X Y A : Set) → (table_row gmi mode kind X Y A).mode ≡ Include → mode ≡ Include
included_before gmi mode kind X Y A e = grind arith

pub none_stopped_of : (timing : Timing) (now : ℕ) (g : GroupState) (kind : Kind) (named : NamedSources) →
    (change_of timing now g kind named).group.mode ≡ Include → (s : ℕ) → stopped (change_of timing now g kind named).group s ≡ false
none_stopped_of timing now g kind named e s =
    at_source_of (λ _ _ _ mode t. mode ≡ Include → is_stopped t ≡ false) timing now g kind named s
    (none_stopped_then (now + membership_interval timing) g.mode kind s (timer_at g s) (set.contains named s)) e

pub was_included : (timing : Timing) (now : ℕ) (g : GroupState) (kind : Kind) (named : NamedSources) → (change_of timing now g kind named).group.mode
    ≡ Include → g.mode ≡ Include
was_included timing now g kind named = included_before (now + membership_interval timing) g.mode kind (running g) (stopped g) (set.contains named)

pub runs_on : (timing : Timing) (now : ℕ) (g : GroupState) (kind : Kind) (named : NamedSources) (s : ℕ) →
    (change_of timing now g kind named).group.mode ≡ Include → running g s ≡ true → running (change_of timing now g kind named).group s ≡ true
runs_on timing now g kind named s =
    at_source_of (λ _ _ _ mode t. mode ≡ Include → running g s ≡ true → is_running t ≡ true) timing now g kind named s
    (runs_on_then (now + membership_interval timing) g.mode kind s (timer_at g s) (set.contains named s))
