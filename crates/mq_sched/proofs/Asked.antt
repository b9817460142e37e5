-- The timers that asking for a group or for sources lowers. The schedule still fits its group.
use Rattle.mq_sched.proofs.Common.{◌≡◌, ℕ, Bool, true, cond, List, [], ◌∷◌, IsSome, refl, sym, ap, ◌∙◌, inl, inr, eqb, arith, false≢true, or_left, or_right}
use Rattle.mq_sched.proofs.Common.{or_cases, eqb-true, eq-eqb, list_any, option_map, Timing, Set, GroupState, timer_at, last_member_count, lowered_to, get-kept}
use Rattle.mq_sched.proofs.Common.{some_source, source_asked, ScheduledGroup, sources_asked}
use Rattle.mq_sched.proofs.Rounds.{among-keys}
use Rattle.std.specs.FinMap as map

-- the timer of a source after sources were asked for
pub timer_at-sources_asked : (timing : Timing) (now : ℕ) (asked : Set) (e : ScheduledGroup) (s : ℕ) →
    timer_at (sources_asked timing now asked e).group s ≡ cond (asked s)
    (option_map (source_asked (lowered_to timing now) (last_member_count timing)) (timer_at e.group s)) (timer_at e.group s)
timer_at-sources_asked timing now asked e s = grind (arith, get-kept)

-- a test passes for some source exactly if the group holds such a source
any_at : (p : ℕ → Bool) (ks : List ℕ) (q : ℕ) → list_any (λ x. eqb q x) ks ≡ true → p q ≡ true → list_any p ks ≡ true
any_at p [] q listed passes = absurd (false≢true listed)
any_at p (k ∷ ks) q listed passes = elim (or_cases (eqb q k) (list_any (λ x. eqb q x) ks) listed) [
  | inl same ↦ or_left (p k) (list_any p ks) (ap p (sym (eqb-true q k same)) ∙ passes)
  | inr later ↦ or_right (p k) (list_any p ks) (any_at p ks q later passes)
]

one_that_passes : (p : ℕ → Bool) (ks : List ℕ) → list_any p ks ≡ true → (q : ℕ) × (list_any (λ x. eqb q x) ks ≡ true) × (p q ≡ true)
one_that_passes p [] some = absurd (false≢true some)
one_that_passes p (k ∷ ks) some = elim (or_cases (p k) (list_any p ks) some) [
  | inl here ↦ (k, or_left (eqb k k) (list_any (λ x. eqb k x) ks) (eq-eqb k k refl), here)
  | inr later ↦ let q = one_that_passes p ks later in (q.0, or_right (eqb q.0 k) (list_any (λ x. eqb q.0 x) ks) q.1, q.2)
]

pub some_source-from : (test : Set) (g : GroupState) (s : ℕ) → IsSome (timer_at g s) → test s ≡ true → some_source test g ≡ true
some_source-from test g s held passes = any_at test (map.keys g.sources) s (among-keys g.sources s ∙ held) passes

pub some_source-gives : (test : Set) (g : GroupState) → some_source test g ≡ true → (s : ℕ) × IsSome (timer_at g s) × (test s ≡ true)
some_source-gives test g some = let q = one_that_passes test (map.keys g.sources) some in (q.0, sym (among-keys g.sources q.0) ∙ q.1, q.2)
