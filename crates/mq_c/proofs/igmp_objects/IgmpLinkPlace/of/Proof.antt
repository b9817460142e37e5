-- The function `of`, which takes the pointer of a borrowed value.
use Rattle.mq_c.proofs.Common.{◌≡◌, Some, refl, emp, fact_i, igmp_row}
use Rattle.mq_c.{specs.contracts.igmp_objects.IgmpLinkPlace.the_heap, proofs.Pointers.igmp_link_place, proofs.PointerWalks.stay_meets}
use Rattle.mq_c.specs.contracts.igmp_objects.IgmpLinkPlace.of as f
use Rattle.mq_c.proofs.igmp_objects.IgmpLinkPlace.of.Code as code
use Rattle.mq_c.proofs.igmp_objects.IgmpLinkPlace.of.Statement.{statement}

pub of_spec : {M : Type 1} → statement M
of_spec 𝓤 𝓛 𝓜 𝓡 wired =
    stay_meets igmp_row igmp_link_place the_heap (λ p v. record { at = p; kept = Some v }) (λ p v. refl) (λ p v. refl) tt 𝓤 𝓛 𝓜 𝓡 f.Key.name
    (f.clauses 𝓛 𝓜.mem 𝓡.returns)
    (λ κs a g e. fact_i 𝓤 (Some a.0.now ≡ Some a.0.now) (emp 𝓤) refl) (code.unfolded 𝓤 𝓛.H 𝓜 𝓡 wired)
