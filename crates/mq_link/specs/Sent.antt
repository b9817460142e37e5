-- Queries as they are sent: their fields, their bytes and their destinations. RFC 3376 sections 4.1, 4.1.12 and 8, RFC
-- 3810 sections 5.1, 5.1.15 and 9.
use Rattle.std.specs.Prelude.{ℕ, ◌==◌, Bool, false, if◌then◌else◌, List, [], map as list_map}
use Rattle.mq_wire.specs.declared.query.Query.{Query}
use Rattle.mq_wire.specs.declared.query.QueryVersion.TheVariants.{Current}
use Rattle.mq_wire.specs.Canon.{canon}
use Rattle.mq_table.specs.declared.timing.Timing.{Timing}
use Rattle.mq_sched.specs.Sending.{SentQuery, GeneralQuery, GroupQuery, SourcesQuery}
use Rattle.mq_link.specs.Family.{general_destination}
use Rattle.mq_link.specs.Configuration.{Configuration}
use Rattle.mq_link.specs.Tick.{Step}

-- a query with the robustness variable and the query interval in force
abbrev pub query_with : Timing → (group response : ℕ) → (suppress : Bool) → List ℕ → Query ℕ
query_with timing group response suppress sources = record {
  group = group;
  response = response;
  version = Current (record {
    suppress = suppress;
    robustness = timing.robustness;
    interval = timing.query_seconds;
    sources = sources;
  });
}

-- The fields of a query. A general query asks for group zero, with the query response interval. A specific query asks
-- for its group, with the last member query interval.
abbrev pub fields_sent : Timing → SentQuery → Query ℕ
fields_sent timing GeneralQuery = query_with timing 0 timing.response_interval false []
fields_sent timing (GroupQuery group suppress) = query_with timing group timing.last_member_interval suppress []
fields_sent timing (SourcesQuery group suppress sources) = query_with timing group timing.last_member_interval suppress sources

-- a message as the outlet receives it: its destination, its query and its bytes
pub record Outgoing : Type 0 where
  pub to : ℕ
  pub query : Query ℕ
  pub bytes : List ℕ

-- the message of a query in its canonical bytes, from the router's own address
abbrev pub outgoing : Configuration → Timing → SentQuery → Outgoing
outgoing config timing query =
    let fields = fields_sent timing query in
    record {
      to = if fields.group == 0 then general_destination config.family else fields.group;
      query = fields;
      bytes = canon config.family config.own fields;
    }

-- the messages of a call, in order
abbrev pub outgoing_of : Configuration → Step → List Outgoing
outgoing_of config step = list_map (outgoing config step.timing) step.queries
