-- Watched streams: the inner stream, whether a call failed, and the bytes read.
use Rattle.std.specs.Prelude.{ℕ, ◌+◌, ◌-◌, ◌^◌, ◌==◌, ◌&&◌, nat_lt, length, min, Bool, true, List, Result, Ok, Err}
use Rattle.mq_count.specs.declared.streams.Watched.{Watched}

-- the inner reader or writer
abbrev pub inner_of : {T : Type 0} → Watched T → T
inner_of w = w.inner

-- a call has failed
abbrev pub has_failed : {T : Type 0} → Watched T → Bool
has_failed w = w.failed

-- the number of bytes read
abbrev pub taken_from : {T : Type 0} → Watched T → ℕ
taken_from w = w.taken

-- the result is a failed write: an error, or no byte of some written
abbrev pub is_failed_write : {E : Type 0} → Result ℕ E → List ℕ → Bool
is_failed_write (Err e) buf = true
is_failed_write (Ok n) buf = (n == 0) && nat_lt 0 (length buf)

-- the number of bytes that a read returned
abbrev pub count_of : {E : Type 0} → Result ℕ E → ℕ
count_of (Ok n) = n
count_of (Err e) = 0

-- n more than old, up to the greatest u64
abbrev pub counted_on : ℕ → ℕ → ℕ
counted_on old n = old + min n (2 ^ 64 - 1 - old)
