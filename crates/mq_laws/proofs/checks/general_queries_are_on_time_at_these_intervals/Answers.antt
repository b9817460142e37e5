-- The meaning of the tests of intervals.
use Rattle.mq_laws.proofs.Common.{◌≡◌, ℕ, ◌+◌, ◌-◌, ◌≤◌, not, Bool, true, false, None, refl, ap, nat_lt, and_from, and_parts, le-leb, le-ltb, leb-true, lt-ltb}
use Rattle.mq_laws.proofs.Common.{ltb-false, ltb-true, or_cases, or_left, or_right, Timing, query_interval, startup_interval, is_within, is_interval}
use Rattle.mq_laws.proofs.Common.{is_of_start, unless, IsClose, IsWantedInterval, inl, inr}
use Rattle.mq_check.specs.General.{is_late}
use Rattle.mq_laws.proofs.checks.general_queries_are_on_time_at_these_intervals.Goals as goal

close : (within a b : ℕ) → is_within within a b ≡ true → IsClose within a b
close within a b is = let both = and_parts _ _ is in record { not_above = leb-true a (b + within) both.0; not_below = leb-true b (a + within) both.1 }

is_close : (within a b : ℕ) → IsClose within a b → is_within within a b ≡ true
is_close within a b is = and_from _ _ (le-leb a (b + within) is.not_above) (le-leb b (a + within) is.not_below)

wanted : (within : ℕ) (timing : Timing) (startup interval : ℕ) → is_interval within timing startup interval ≡ true →
    IsWantedInterval within timing startup interval
wanted w timing startup interval is = elim (or_cases (is_of_start w timing startup interval) (is_within w interval (query_interval timing)) is) [
  | inl start ↦ inr (let both = and_parts (nat_lt 0 startup) _ start in (ltb-true 0 startup both.0, close w interval (startup_interval timing) both.1))
  | inr usual ↦ inl (close w interval (query_interval timing) usual)
]

tested : (within : ℕ) (timing : Timing) (startup interval : ℕ) → IsWantedInterval within timing startup interval →
    is_interval within timing startup interval ≡ true
tested w timing startup interval is = elim is [
  | inl usual ↦ or_right (is_of_start w timing startup interval) _ (is_close w interval (query_interval timing) usual)
  | inr start ↦ or_left _ (is_within w interval (query_interval timing))
      (and_from _ _ (lt-ltb 0 startup start.0) (is_close w interval (startup_interval timing) start.1))
]

-- a test passes exactly if it reports nothing
none_told : (b : Bool) (n : ℕ) → unless b n ≡ None → b ≡ true
none_told true n is = refl
none_told false n is = cc

passed : (b : Bool) (n : ℕ) → b ≡ true → unless b n ≡ None
passed b n is = ap (λ (t : Bool). unless t n) is

-- in time is not late
in_time : (within : ℕ) (timing : Timing) (interval : ℕ) → not (is_late within timing interval) ≡ true → interval ≤ query_interval timing + within
in_time w timing interval is = ltb-false (query_interval timing + w) interval (not_late (is_late w timing interval) is)
  where
    not_late : (b : Bool) → not b ≡ true → b ≡ false
    not_late true is = cc
    not_late false is = refl

not_late : (within : ℕ) (timing : Timing) (interval : ℕ) → interval ≤ query_interval timing + within → not (is_late within timing interval) ≡ true
not_late w timing interval is = ap not (le-ltb (query_interval timing + w) interval is)

pub returns-clause-first : goal.returns-clause-first
returns-clause-first c w timing moment startup = (λ is. in_time w timing moment (none_told _ moment is), λ is. passed _ moment (not_late w timing moment is))

pub returns-clause-next : goal.returns-clause-next
returns-clause-next c w timing before moment startup = (
  λ is. wanted w timing startup (moment - before) (none_told _ (moment - before) is),
  λ is. passed _ (moment - before) (tested w timing startup (moment - before) is),
)

pub returns-clause-again : goal.returns-clause-again
returns-clause-again c w timing moment = refl

pub returns-clause-silence : goal.returns-clause-silence
returns-clause-silence c w timing before moment startup =
    (λ is. in_time w timing (moment - before) (none_told _ (moment - before) is), λ is. passed _ (moment - before) (not_late w timing (moment - before) is))
