-- Hosts of older versions (RFC 3376 section 7.3.2, RFC 3810 section 8.3.2).
use Rattle.std.specs.Prelude.{ℕ, ◌+◌, Bool, true, false, ◌&&◌, ◌||◌, if◌then◌else◌, Option, None, Some}
use Rattle.std.specs.Option.{option_map}
use Rattle.std.specs.FinSet as set
use Rattle.mq_table.specs.declared.kind.Kind.{Kind}
use Rattle.mq_table.specs.declared.kind.Kind.TheVariants.{IsIn, IsEx, ToIn, ToEx, Allow, Block}
use Rattle.mq_table.specs.declared.older_hosts.Hosts.{Hosts}
use Rattle.mq_count.specs.declared.versions.OlderVersion.{OlderVersion}
use Rattle.mq_count.specs.declared.versions.OlderVersion.TheVariants.{V1, V2}
use Rattle.mq_table.specs.declared.timing.Timing.{Timing}
use Rattle.mq_table.specs.Group.{GroupState, is_ahead}
use Rattle.mq_table.specs.Timing.{older_host_present}
use Rattle.mq_table.specs.Table.{NamedSources, GroupChange, change_of}

-- the older versions that have hosts in the group, as far as the router knows
abbrev pub hosts_of : GroupState → ℕ → Hosts
hosts_of g now = record { v1 = is_ahead now g.v1; v2 = is_ahead now g.v2 }

-- The record that counts while these older hosts are there, or None if it is ignored. `muted` means that records of
-- this kind and messages of older versions don't count in the group's range of addresses (RFC 4604 sections 3.1, 3.5
-- and 3.7). An older host can't leave single sources out, so BLOCK and the sources of TO_EX don't count. While a host
-- of version 1 is there, IGMP ignores Leave and TO_IN, as which a Leave acts: there `v1_mutes_leave` is true. MLD does
-- not ignore them.
abbrev pub translated : (v1_mutes_leave muted : Bool) → Hosts → Kind → NamedSources
    → Option (Kind × NamedSources)
translated mutes true hosts kind named = None
translated mutes false hosts Block named = if hosts.v1 || hosts.v2 then None else Some (Block, named)
translated mutes false hosts ToEx named =
    if hosts.v1 || hosts.v2 then Some (ToEx, set.empty) else Some (ToEx, named)
translated mutes false hosts ToIn named = if mutes && hosts.v1 then None else Some (ToIn, named)
translated mutes false hosts IsIn named = Some (IsIn, named)
translated mutes false hosts IsEx named = Some (IsEx, named)
translated mutes false hosts Allow named = Some (Allow, named)

-- the record with its sources, or without them if they are dropped
abbrev pub with_sources : NamedSources → Option (Kind × Bool) → Option (Kind × NamedSources)
with_sources named None = None
with_sources named (Some (kind, is_emptied)) = Some (kind, if is_emptied then set.empty else named)

-- the change of a group by a record, through the translation and the tables; None if it is ignored
abbrev pub translated_change : (v1_mutes_leave muted : Bool) → Timing → ℕ → GroupState → Kind → NamedSources
    → Option GroupChange
translated_change mutes muted timing now g kind named =
    let change = λ (r : Kind × NamedSources). change_of timing now g r.0 r.1 in
    option_map change (translated mutes muted (hosts_of g now) kind named)

-- the group after a Report of version 1 or 2, which sets that version's host-present timer
abbrev pub older_host : OlderVersion → Timing → ℕ → GroupState → GroupState
older_host V1 timing now g = record g { v1 = Some (now + older_host_present timing) }
older_host V2 timing now g = record g { v2 = Some (now + older_host_present timing) }

-- the group after a Report of version 1 or 2, which also acts as IS_EX({})
abbrev pub older_report : OlderVersion → Timing → ℕ → GroupState → GroupState
older_report version timing now g =
    let change = change_of timing now g IsEx set.empty in
    older_host version timing now change.group

-- the change of a group by a Leave of IGMPv2 or a Done of MLDv1, which acts as TO_IN({})
abbrev pub older_leave : (v1_mutes_leave muted : Bool) → Timing → ℕ → GroupState → Option GroupChange
older_leave mutes muted timing now g = translated_change mutes muted timing now g ToIn set.empty
