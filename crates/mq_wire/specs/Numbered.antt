-- Messages and records with their addresses as numbers, for every type of address.
use Rattle.std.specs.Prelude.{ℕ}
use Rattle.mq_wire.specs.declared.message.Message.{Message}
use Rattle.mq_wire.specs.declared.message.Message.TheVariants.{Query as AQuery, OldReport, Leave, Report}
use Rattle.mq_wire.specs.declared.query.Query.{Query}
use Rattle.mq_wire.specs.declared.query.QueryVersion.{QueryVersion}
use Rattle.mq_wire.specs.declared.query.QueryVersion.TheVariants.{Older, Current}
use Rattle.mq_wire.specs.declared.records.RecordView.{RecordView}

abbrev pub numbered_version : {K : Type 0} → QueryVersion K → QueryVersion ℕ
numbered_version (Older version) = Older version
numbered_version (Current fields) =
    Current (record {
      suppress = fields.suppress;
      robustness = fields.robustness;
      interval = fields.interval;
      sources = fields.sources;
    })

abbrev pub numbered_query : {K : Type 0} → (K → ℕ) → Query K → Query ℕ
numbered_query number query =
    record { group = number query.group; response = query.response; version = numbered_version query.version }

abbrev pub numbered_record : {K : Type 0} → (K → ℕ) → RecordView K → RecordView ℕ
numbered_record number view = record { kind = view.kind; group = number view.group; sources = view.sources }

abbrev pub numbered_message : {K : Type 0} → (K → ℕ) → Message K → Message ℕ
numbered_message number (AQuery query) = AQuery (numbered_query number query)
numbered_message number (OldReport version group) = OldReport version (number group)
numbered_message number (Leave group) = Leave (number group)
numbered_message number (Report records) = Report records
