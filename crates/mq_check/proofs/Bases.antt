-- The basis of a verdict, in the terms of the code.
use Rattle.mq_check.proofs.Common.{◌≡◌, ℕ, refl, Option, None, Some, Family, Basis, with_other_querier}
use Rattle.mq_sched.specs.{declared.roles.OtherQuerier.OtherQuerier, Election.Role, Election.Querier, Election.Other, StoredElection.IsOtherOf}
use Rattle.mq_check.specs.Basis.{with_other_named}

-- the other router that the link names is the one of its role
pub other_named : {K : Type 0} (family : Family) (number : K → ℕ) (role : Role) (other : Option (OtherQuerier K)) (b : Basis) →
    IsOtherOf number role other → with_other_named family number other b ≡ with_other_querier family role b
other_named family number (Querier due startup) None b is = refl
other_named family number (Other address deadline) None b is = absurd (cc is)
other_named family number role (Some querier) b is = rw is refl
