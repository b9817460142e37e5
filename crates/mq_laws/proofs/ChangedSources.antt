-- The timer of one source after a record, by the row of the tables that it meets.
use Rattle.mq_laws.proofs.Common.{◌≡◌, ℕ, ◌+◌, Bool, true, false, not, ◌||◌, inl, inr, Option, None, Some, IsSome, IsTrue, refl, sym, ap, ◌∙◌, subst, cond}
use Rattle.mq_laws.proofs.Common.{arith, false≢true, GroupState, is_running, running, timer_at, deadline_of, group_deadline, retransmissions_of, wants}
use Rattle.mq_laws.proofs.Common.{forwards_in}
use Rattle.mq_laws.proofs.Common.{NamedSources, table_row_met, change_of, membership_interval, Kind, IsEx, ToEx, Block, FilterMode}
use Rattle.mq_laws.proofs.Common.{SourceTimer, Timing, ForwardsAfter, group_after, ◌⊎◌, timer_then, at_source_of}
use Rattle.mq_table.proofs.TableRows.{table_row_at, timer_at-change_of}
use Rattle.mq_table.specs.declared.timers.SourceTimer.TheVariants.{Stopped, Running}
use Rattle.std.specs.FinSet as set

-- the forwarding of a source after a record, by whether it is named and was forwarded before
abbrev pub forwards_then : Kind → Bool → Bool → Bool
forwards_then IsEx named before = not named || before
forwards_then ToEx named before = not named || before
forwards_then Block named before = before
forwards_then _ named before = named || before

wants_then : (gmi : ℕ) (mode : FilterMode) (kind : Kind) (s : ℕ) (t : Option SourceTimer) (a : Bool)
    → wants (table_row_at gmi mode kind t a).mode (timer_then gmi mode kind s t a) ≡ forwards_then kind a (wants mode t)
wants_then gmi mode kind s t a = grind arith

pub forwards_in-group_after : (kind : Kind) → ForwardsAfter kind (forwards_then kind)
forwards_in-group_after kind r s is =
    subst (λ k. forwards_in (group_after r) s ≡ forwards_then k (set.contains r.named s) (forwards_in r.group s)) is
    (at_source_of (λ _ _ _ mode t. wants mode t ≡ forwards_then r.kind (set.contains r.named s) (forwards_in r.group s)) r.timing r.now r.group r.kind r.named s
    (wants_then (r.now + membership_interval r.timing) r.group.mode r.kind s (timer_at r.group s) (set.contains r.named s)))

-- a source that is neither restarted nor copied to keeps its deadline
kept_then : (gmi : ℕ) (mode : FilterMode) (kind : Kind) (s : ℕ) (t : Option SourceTimer) (a : Bool) → (table_row_at gmi mode kind t a).restart s ≡ false
    → (table_row_at gmi mode kind t a).copy s ≡ false → (e : ℕ) → deadline_of (timer_then gmi mode kind s t a) ≡ Some e → deadline_of t ≡ Some e
kept_then gmi mode kind s t a r c e h = grind arith

-- the timer of a source that the record doesn't name is unchanged, or the source is gone
others_then : (gmi : ℕ) (mode : FilterMode) (kind : Kind) (s : ℕ) (t : Option SourceTimer)
    → (timer_then gmi mode kind s t false ≡ t) ⊎ (timer_then gmi mode kind s t false ≡ None)
others_then gmi mode kind s t = grind arith

-- the three facts of the new group, for any source
pub deadline_kept : (timing : Timing) (now : ℕ) (g : GroupState) (kind : Kind) (named : NamedSources) (s : ℕ)
    → (table_row_met timing now g kind named).restart s ≡ false → (table_row_met timing now g kind named).copy s ≡ false → (e : ℕ)
    → deadline_of (timer_at (change_of timing now g kind named).group s) ≡ Some e → deadline_of (timer_at g s) ≡ Some e
deadline_kept timing now g kind named s =
    at_source_of (λ restart copy _ _ t. restart ≡ false → copy ≡ false → (e : ℕ) → deadline_of t ≡ Some e → deadline_of (timer_at g s) ≡ Some e)
    timing now g kind named s (kept_then (now + membership_interval timing) g.mode kind s (timer_at g s) (set.contains named s))

pub unnamed_as_before : (timing : Timing) (now : ℕ) (g : GroupState) (kind : Kind) (named : NamedSources) (s : ℕ) → set.contains named s ≡ false
    → (timer_at (change_of timing now g kind named).group s ≡ timer_at g s) ⊎ (timer_at (change_of timing now g kind named).group s ≡ None)
unnamed_as_before timing now g kind named s unnamed =
    at_source_of (λ _ _ _ _ t. (t ≡ timer_at g s) ⊎ (t ≡ None)) timing now g kind named s
    (rw unnamed (others_then (now + membership_interval timing) g.mode kind s (timer_at g s)))

-- a source of the new group was in the old one or is named
pub known : (timing : Timing) (now : ℕ) (g : GroupState) (kind : Kind) (named : NamedSources) (s : ℕ)
    → IsSome (timer_at (change_of timing now g kind named).group s) → IsSome (timer_at g s) ⊎ IsTrue (set.contains named s)
known timing now g kind named s some =
    elim (set.contains named s) as (λ a. set.contains named s ≡ a → IsSome (timer_at g s) ⊎ IsTrue a) [
      | true ↦ λ _. inr refl
      | false ↦ λ unnamed. inl (elim (unnamed_as_before timing now g kind named s unnamed)
          [ inl same ↦ subst IsSome same some | inr gone ↦ absurd (false≢true (subst IsSome gone some)) ])
    ] refl

-- a source that a row restarts runs for the group membership interval
restarted_then : (gmi : ℕ) (mode : FilterMode) (kind : Kind) (s : ℕ) (t : Option SourceTimer) (a : Bool) → (table_row_at gmi mode kind t a).restart s ≡ true
    → deadline_of (timer_then gmi mode kind s t a) ≡ Some gmi
restarted_then gmi mode kind s t a r = grind arith

-- a source that a row gives the group timer runs to its deadline from before
copied_then : (gmi : ℕ) (mode : FilterMode) (kind : Kind) (s : ℕ) (t : Option SourceTimer) (a : Bool) → (table_row_at gmi mode kind t a).copy s ≡ true
    → deadline_of (timer_then gmi mode kind s t a) ≡ group_deadline mode
copied_then gmi mode kind s t a r = grind arith

pub restarted : (timing : Timing) (now : ℕ) (g : GroupState) (kind : Kind) (named : NamedSources) (s : ℕ)
    → (table_row_met timing now g kind named).restart s ≡ true
    → deadline_of (timer_at (change_of timing now g kind named).group s) ≡ Some (now + membership_interval timing)
restarted timing now g kind named s =
    at_source_of (λ restart _ _ _ t. restart ≡ true → deadline_of t ≡ Some (now + membership_interval timing)) timing now g kind named s
    (restarted_then (now + membership_interval timing) g.mode kind s (timer_at g s) (set.contains named s))

pub copied : (timing : Timing) (now : ℕ) (g : GroupState) (kind : Kind) (named : NamedSources) (s : ℕ) → (table_row_met timing now g kind named).copy s ≡ true
    → deadline_of (timer_at (change_of timing now g kind named).group s) ≡ group_deadline g.mode
copied timing now g kind named s =
    at_source_of (λ _ copy _ _ t. copy ≡ true → deadline_of t ≡ group_deadline g.mode) timing now g kind named s
    (copied_then (now + membership_interval timing) g.mode kind s (timer_at g s) (set.contains named s))

-- a source that runs on keeps its retransmissions
pub retransmissions_kept : (timing : Timing) (now : ℕ) (g : GroupState) (kind : Kind) (named : NamedSources) (s : ℕ)
    → running (change_of timing now g kind named).group s ≡ true
    → retransmissions_of (timer_at (change_of timing now g kind named).group s) ≡ retransmissions_of (timer_at g s)
retransmissions_kept timing now g kind named s runs =
    let l = table_row_met timing now g kind named in
    let same = timer_at-change_of timing now g kind named s in
    ap retransmissions_of same ∙ by_rule (l.x s) (l.y s) _ (retransmissions_of (timer_at g s)) (sym (ap is_running same) ∙ runs)
  where
    by_rule : (x y : Bool) (d n : ℕ) → is_running (cond x (Some (Running d n)) (cond y (Some Stopped) None)) ≡ true →
        retransmissions_of (cond x (Some (Running d n)) (cond y (Some Stopped) None)) ≡ n
    by_rule true y d n e = refl
    by_rule false true d n e = absurd (false≢true e)
    by_rule false false d n e = absurd (false≢true e)
