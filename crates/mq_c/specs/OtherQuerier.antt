-- Another router that is querier, as C sees it.
use Rattle.std.specs.Prelude.{ℕ, List, ◌++◌, length, drop, nat_le, if◌then◌else◌}
use Rattle.byteorder.specs.Endian.{big_bytes}
use Rattle.mq_sched.specs.Election.{Role, Querier, Other}

-- the memory with an address at its front, most significant byte first; without room for it, the memory is unchanged
abbrev pub with_address : (width address : ℕ) → List ℕ → List ℕ
with_address width address old = if nat_le width (length old) then big_bytes width address ++ drop width old else old

-- the memory with the address of the other querier; if the router is querier itself, it is unchanged
abbrev pub with_other_querier : (width : ℕ) → Role → List ℕ → List ℕ
with_other_querier width (Querier due startup_queries) old = old
with_other_querier width (Other address deadline) old = with_address width address old
