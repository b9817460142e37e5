-- The change of a statement in storage: a kind of record, and the lists into which the change is written.
use Rattle.std.specs.Prelude.{ℕ, Bool, if◌then◌else◌, List, Option, None, Some}
use Rattle.std.specs.Option.{option_map}
use Rattle.std.specs.FinSet as set
use Rattle.mq_sets.specs.Ascending.{set_of}
use Rattle.mq_table.specs.declared.kind.Kind.{Kind}
use Rattle.mq_table.specs.declared.kind.Kind.TheVariants.{IsEx, ToIn}
use Rattle.mq_table.specs.declared.kind.NamedEffect.{NamedEffect}
use Rattle.mq_table.specs.declared.older_hosts.Hosts.{Hosts}
use Rattle.mq_table.specs.AtSource.{named_effect}
use Rattle.mq_table.specs.Group.{GroupState}
use Rattle.mq_table.specs.Table.{NamedSources, GroupChange}
use Rattle.mq_table.specs.OlderHosts.{translated}
use Rattle.mq_link.specs.declared.statement.StatementKind.{StatementKind}
use Rattle.mq_link.specs.declared.statement.StatementKind.TheVariants.{Record, OlderJoin as SaidJoin, OlderLeave as SaidLeave}
use Rattle.mq_link.specs.Record.{Statement, RecordOf, OlderJoin, OlderLeave}

-- the statement with its sources, which are given apart from it
abbrev pub statement_of : StatementKind → NamedSources → Statement
statement_of (Record kind) named = RecordOf kind named
statement_of (SaidJoin version) named = OlderJoin version
statement_of SaidLeave named = OlderLeave

-- the effect of the statement on the sources that it names, if it leaves the other sources of its group alone
abbrev pub effect_of : StatementKind → Option NamedEffect
effect_of (Record kind) = named_effect kind
effect_of (SaidJoin version) = None
effect_of SaidLeave = None

-- The record as which a statement acts while these older hosts are there: its kind and its sources. It is None if the
-- statement is ignored.
abbrev pub acts_as : (v1_mutes_leave muted : Bool) → Hosts → Statement → Option (Kind × NamedSources)
acts_as mutes muted hosts (RecordOf kind named) = translated mutes muted hosts kind named
acts_as mutes muted hosts (OlderJoin version) = if muted then None else Some (IsEx, set.empty)
acts_as mutes muted hosts OlderLeave = translated mutes muted hosts ToIn set.empty

-- the change that is written into a group and a list of sources to ask for, if there is one
abbrev pub change_written : {K : Type 0} → (K → ℕ) → GroupState → List K → (asks_group : Option Bool) → Option GroupChange
change_written number group asked asks_group =
    option_map (λ (q : Bool). record { group = group; query = set_of number asked; query_group = q }) asks_group
