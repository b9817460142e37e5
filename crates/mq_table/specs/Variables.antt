-- The variables of a router that may be configured (RFC 3376 section 8, RFC 3810 section 9).
use Rattle.std.specs.Prelude.{ℕ, ◌≤◌}

-- The Robustness Variable, three intervals, and the Last Member (for MLD: Last Listener) Query Count, where 0 stands for
-- the Robustness Variable. The Query Interval is in whole seconds, as messages carry it. The Query Response Interval and
-- the Last Member Query Interval are in milliseconds.
pub record Variables : Type 0 where
  pub robustness : ℕ
  pub query_seconds : ℕ
  pub response_interval : ℕ
  pub last_member_interval : ℕ
  pub last_member_query_count : ℕ

-- a number between two others
pub record IsWithin (low high n : ℕ) : Type 0 where
  pub at_least : low ≤ n
  pub at_most : n ≤ high

-- The ranges: what QRV, QQIC and the maximum response code of a query can carry, without 0. The count is at most what
-- the Robustness Variable, its default, can be.
pub record AreInRange (v : Variables) : Type 0 where
  pub robustness : IsWithin 1 7 v.robustness
  pub query_seconds : IsWithin 1 31744 v.query_seconds
  pub response_interval : IsWithin 1 8387584 v.response_interval
  pub last_member_interval : IsWithin 1 8387584 v.last_member_interval
  pub last_member_query_count : v.last_member_query_count ≤ 7
