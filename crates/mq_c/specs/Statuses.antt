-- Statuses and reasons as numbers.
use Rattle.std.specs.Prelude.{ℕ}
use Rattle.mq_link.specs.declared.configuration.LimitName.{LimitName}
use Rattle.mq_link.specs.declared.configuration.LimitName.TheVariants.{Groups, GroupSources, Sources, Scheduled}
use Rattle.mq_link.specs.declared.configuration.ConfigFault.{ConfigFault}
use Rattle.mq_link.specs.declared.configuration.ConfigFault.TheVariants.{Robustness, QueryInterval, ResponseInterval, LastMember, Limit, OwnAddress, LastMemberCount}
pub use Rattle.mq_link.specs.Counters.{reason_number, refusal_number, kind_number}

-- The statuses. They are for success, for refused memory, for a moment above 2^53, for a workspace that is too small,
-- and for a link that holds too much.
abbrev pub all_done : ℕ
all_done = 0

abbrev pub memory : ℕ
memory = 10

abbrev pub moment : ℕ
moment = 11

abbrev pub workspace : ℕ
workspace = 12

abbrev pub held : ℕ
held = 13

abbrev pub limit_status : LimitName → ℕ
limit_status Groups = 5
limit_status GroupSources = 6
limit_status Sources = 7
limit_status Scheduled = 8

-- the status of a fault of a configuration
abbrev pub status_of : ConfigFault → ℕ
status_of Robustness = 1
status_of QueryInterval = 2
status_of ResponseInterval = 3
status_of LastMember = 4
status_of (Limit which) = limit_status which
status_of OwnAddress = 9
status_of LastMemberCount = 14
