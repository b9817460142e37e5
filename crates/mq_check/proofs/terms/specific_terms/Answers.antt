-- The version of the configuration's family.
use Rattle.mq_check.proofs.Common.{refl}
use Rattle.mq_check.proofs.terms.specific_terms.Goals as goal

pub returns : goal.returns
returns g c =
    rw (
      c.current_version.ensures,
      g.met.F.CapturedFamily.same_family,
      c.response_said.ensures,
      c.last_member_interval.ensures,
      c.in_force_terms.ensures,
      c.is_faultless.ensures.family,
    ) refl
