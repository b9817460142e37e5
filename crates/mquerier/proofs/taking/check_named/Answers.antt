use Rattle.mquerier.proofs.Common.{ap, family_of}
use Rattle.mquerier.proofs.Takings.{as_family}
use Rattle.mquerier.proofs.taking.check_named.Goals as goal

pub returns-in-Igmp : goal.returns-in-Igmp
returns-in-Igmp g c = as_family _ c.args.options.now _ _ _ _ (ap family_of c.in-Igmp.is) c.check_taking.ensures

pub returns-in-Mld : goal.returns-in-Mld
returns-in-Mld g c = as_family _ c.args.options.now _ _ _ _ (ap family_of c.in-Mld.is) c.check_taking-in-Mld.ensures
