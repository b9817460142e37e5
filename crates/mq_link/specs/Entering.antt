-- The entrance of a record, as the code returns it.
use Rattle.std.specs.Prelude.{Result, Ok, Err}
use Rattle.mq_table.specs.declared.kind.Kind.{Kind}
use Rattle.mq_link.specs.declared.statement.Verdict.{Verdict}
use Rattle.mq_link.specs.Judging.{verdict_of}
use Rattle.mq_link.specs.Record.{Entrance, Stops, GoesOn}

-- the entrance: the verdict if the record stops, its kind if it goes on
abbrev pub entered_as : Result Kind Verdict → Entrance
entered_as (Ok kind) = GoesOn kind
entered_as (Err verdict) = Stops (verdict_of verdict)
