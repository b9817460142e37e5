-- Statuses of configurations.
use Rattle.mq_c.proofs.Common.{◌≡◌, ℕ, Err, arith, Configuration}
use Rattle.mq_link.specs.declared.configuration.ConfigFault.{ConfigFault, TheVariants.LastMemberCount}
use Rattle.mq_link.specs.declared.configuration.ConfigFault.TheVariants.{Robustness, QueryInterval, ResponseInterval, LastMember, Limit, OwnAddress}
use Rattle.mq_link.specs.declared.configuration.LimitName.TheVariants.{Groups, GroupSources, Sources, Scheduled}
use Rattle.mq_c.specs.{Making.IsConfigOrStatus, Statuses.memory, Statuses.status_of}

no_memory : (fault : ConfigFault) → status_of fault ≡ 10 → ⊥
no_memory Robustness h = omega (arith, h)
no_memory QueryInterval h = omega (arith, h)
no_memory ResponseInterval h = omega (arith, h)
no_memory LastMember h = omega (arith, h)
no_memory (Limit Groups) h = omega (arith, h)
no_memory (Limit GroupSources) h = omega (arith, h)
no_memory (Limit Sources) h = omega (arith, h)
no_memory (Limit Scheduled) h = omega (arith, h)
no_memory OwnAddress h = omega (arith, h)
no_memory LastMemberCount h = omega (arith, h)

-- a configuration is never refused for memory
pub not_for_memory : (asked : Configuration) (status : ℕ) → IsConfigOrStatus asked (Err status) → status ≡ memory → ⊥
not_for_memory asked status (fault, at, is, some) same = no_memory fault (omega (arith, is, same))
