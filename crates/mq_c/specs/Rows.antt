-- The links and the workspaces of both families, as the logic holds them.
use Rattle.std.specs.Prelude.{ℕ}
use denote.RattleType.{RattleType}
use Rattle.mq_count.specs.contracts.address_v4.Addr4 as addr4
use Rattle.mq_count.specs.contracts.address_v4.Addr4Default.TheImpl as default4
use Rattle.mq_count.specs.contracts.address_v4.Addr4Key.TheImpl as key4
use Rattle.mq_count.specs.contracts.address_v6.Addr6 as addr6
use Rattle.mq_count.specs.contracts.address_v6.Addr6Default.TheImpl as default6
use Rattle.mq_count.specs.contracts.address_v6.Addr6Key.TheImpl as key6
use Rattle.mq_wire.specs.contracts.wire_key.Addr4WireKey.TheImpl as wire4
use Rattle.mq_wire.specs.contracts.wire_key.Addr6WireKey.TheImpl as wire6
use Rattle.mq_link.specs.contracts.igmp.Igmp as igmp
use Rattle.mq_link.specs.contracts.igmp.IgmpEnvelope as igmp_envelope
use Rattle.mq_link.specs.contracts.igmp.IgmpFamily.TheImpl as igmp_family
use Rattle.mq_link.specs.contracts.mld.Mld as mld
use Rattle.mq_link.specs.contracts.mld.MldEnvelope as mld_envelope
use Rattle.mq_link.specs.contracts.mld.MldFamily.TheImpl as mld_family
use Rattle.mq_link.specs.contracts.bare_link.BareLink as link
use Rattle.mq_link.specs.contracts.workspace.Workspace as workspace
use Rattle.std_alloc.specs.contracts.vec.lodged.Lodged as lodged
use Rattle.std_alloc.specs.contracts.vec.lodged.LodgedAllocator.TheImpl as lodging
use Rattle.mq_link.specs.Configuration.{Configuration}
use Rattle.mq_link.specs.Sizes.{bytes_of_workspace}
use Rattle.mq_c.specs.Sizes.{bytes_of_link_lent, bytes_with_object}

abbrev pub igmp_row : RattleType
igmp_row = link.the_row igmp.the_row lodged.the_row addr4.the_row igmp_envelope.the_row igmp_family.ghosts wire4.ghosts key4.ghosts default4.ghosts lodging.ghosts

abbrev pub mld_row : RattleType
mld_row = link.the_row mld.the_row lodged.the_row addr6.the_row mld_envelope.the_row mld_family.ghosts wire6.ghosts key6.ghosts default6.ghosts lodging.ghosts

abbrev pub igmp_workspace_row : RattleType
igmp_workspace_row = workspace.the_row igmp.the_row lodged.the_row addr4.the_row igmp_envelope.the_row igmp_family.ghosts wire4.ghosts key4.ghosts default4.ghosts lodging.ghosts

abbrev pub mld_workspace_row : RattleType
mld_workspace_row = workspace.the_row mld.the_row lodged.the_row addr6.the_row mld_envelope.the_row mld_family.ghosts wire6.ghosts key6.ghosts default6.ghosts lodging.ghosts

-- the bytes of memory that suffice for a link, and for a workspace, if they begin at a multiple of 16
abbrev pub igmp_bytes : Configuration → ℕ
igmp_bytes config = bytes_with_object igmp_row (bytes_of_link_lent addr4.the_row config.limits)

abbrev pub igmp_workspace_bytes : Configuration → ℕ
igmp_workspace_bytes config = bytes_with_object igmp_workspace_row (bytes_of_workspace addr4.the_row config.limits)

abbrev pub mld_bytes : Configuration → ℕ
mld_bytes config = bytes_with_object mld_row (bytes_of_link_lent addr6.the_row config.limits)

abbrev pub mld_workspace_bytes : Configuration → ℕ
mld_workspace_bytes config = bytes_with_object mld_workspace_row (bytes_of_workspace addr6.the_row config.limits)
