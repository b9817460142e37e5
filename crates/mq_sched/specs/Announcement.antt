-- The announcement of a querier in a query of the current version.
use Rattle.std.specs.Prelude.{ℕ, ◌≤◌}

-- the Robustness Variable, and the Query Interval in seconds; zero stands for none
pub record Announcement : Type 0 where
  pub robustness : ℕ
  pub query_seconds : ℕ

-- The values that the fields QRV and QQIC can carry. RFC 3376 sections 4.1.6 and 4.1.7, RFC 3810 sections 5.1.8 and
-- 5.1.9.
pub record IsCarried (a : Announcement) : Type 0 where
  pub robustness : a.robustness ≤ 7
  pub query_seconds : a.query_seconds ≤ 31744
