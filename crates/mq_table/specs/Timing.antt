-- The variables of RFC 3376 section 8 and RFC 3810 section 9, and the values computed from them. All are in
-- milliseconds. The query interval is kept in whole seconds, as messages carry it.
use Rattle.std.specs.Prelude.{ℕ, ◌+◌, ◌*◌, ◌/◌, ◌==◌, if◌then◌else◌}
use Rattle.mq_table.specs.declared.timing.Timing.{Timing}

-- QI
abbrev pub query_interval : Timing → ℕ
query_interval t = t.query_seconds * 1000

-- GMI, for MLD the multicast address listening interval (RFC 3376 section 8.4, RFC 3810 section 9.4)
abbrev pub membership_interval : Timing → ℕ
membership_interval t = t.robustness * query_interval t + t.response_interval

-- the time for which a host of an older version is assumed to be there (RFC 3376 section 8.13, RFC 3810 section 9.13)
abbrev pub older_host_present : Timing → ℕ
older_host_present t = t.robustness * query_interval t + t.response_interval

-- The time for which another querier is assumed to be there (RFC 3376 section 8.5, RFC 3810 section 9.5). Half of an
-- odd response interval is rounded down.
abbrev pub other_querier_present : Timing → ℕ
other_querier_present t = t.robustness * query_interval t + t.response_interval / 2

-- The interval of the queries at startup, and their number. RFC 3376 sections 8.6 and 8.7, RFC 3810 sections 9.6 and
-- 9.7.
abbrev pub startup_interval : Timing → ℕ
startup_interval t = query_interval t / 4

abbrev pub startup_count : Timing → ℕ
startup_count t = t.robustness

-- LMQC and LMQT, for MLD the last listener query count and time. The count is the configured one, or by default the
-- Robustness Variable in force. RFC 3376 sections 8.9 and 8.10, RFC 3810 sections 9.9 and 9.10.
abbrev pub last_member_count : Timing → ℕ
last_member_count t = if t.last_member_query_count == 0 then t.robustness else t.last_member_query_count

abbrev pub last_member_time : Timing → ℕ
last_member_time t = t.last_member_interval * last_member_count t
