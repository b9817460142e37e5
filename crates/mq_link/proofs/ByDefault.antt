-- The defaults of a family, which have no fault.
use Rattle.mq_link.proofs.Common.{◌≡◌, ℕ, Bool, true, not, cond, Some, None, Option, ap, Family, Igmp, Mld, ConfigFault, OwnAddress, IsFaultless}
use Rattle.mq_link.proofs.Common.{is_router_address}
use Rattle.mq_link.specs.Defaults.{configured_by_default}

of_address : Bool → Option ConfigFault
of_address may = cond (not may) (Some OwnAddress) None

pub no_fault_by_default : (family : Family) (own : ℕ) (source_specific : Bool) → is_router_address family own ≡ true →
    IsFaultless (configured_by_default family own source_specific)
unfolding of_address
no_fault_by_default Igmp own source_specific may = ap of_address may
no_fault_by_default Mld own source_specific may = ap of_address may
