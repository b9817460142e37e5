-- The groups that a call changes: those whose filter is another after one of its steps than before it. The steps are
-- the tick and each record of the datagram (RFC 3376 sections 6.3, 6.4 and 6.5, RFC 3810 sections 7.3, 7.4 and 7.5).
use Rattle.std.specs.Prelude.{◌≡◌, ℕ, Bool, false, ◌||◌, List, [], ◌∷◌, Option, None, Some, Result, Ok, Err}
use Rattle.std.specs.FinMap as map
use Rattle.mq_sets.specs.Ascending.{IsAscending, set_of}
use Rattle.mq_table.specs.Filter.{changes_filter}
use Rattle.mq_wire.specs.declared.records.RecordView.{RecordView}
use Rattle.mq_wire.specs.declared.message.Message.{Message}
use Rattle.mq_wire.specs.declared.message.Message.TheVariants.{Query as QueryMessage, OldReport, Leave as LeaveMessage, Report as ReportMessage}
use Rattle.mq_wire.specs.declared.message.WireFault.{WireFault}
use Rattle.mq_link.specs.declared.answers.DropReason.{DropReason}
use Rattle.mq_link.specs.Configuration.{Configuration}
use Rattle.mq_link.specs.Receive.{Envelope, drop_reason, pseudo_of, read_of, setting_of}
use Rattle.mq_link.specs.Record.{Seen, Setting, OlderJoin, OlderLeave, judged, seen_after, stated_alone}
use Rattle.mq_link.specs.Run.{Event, Tick, Datagram}
use Rattle.mq_link.specs.State.{Groups, LinkState, group_at}
use Rattle.mq_link.specs.Tick.{tick_of}

-- the group has another filter afterwards; a group that isn't held forwards nothing
abbrev pub changes : (before after : Groups) → (address : ℕ) → Bool
changes before after address = changes_filter (group_at before address).group (group_at after address).group

abbrev pub changed_by_tick : Configuration → (now : ℕ) → LinkState → (address : ℕ) → Bool
changed_by_tick config now state address = changes state.groups (tick_of config now state).state.groups address

-- some records change the group, each judged on the groups that the earlier ones leave
abbrev pub changed_by_all : Setting → Seen → List (RecordView ℕ) → Groups → (address : ℕ) → Bool
changed_by_all at seen [] groups address = false
changed_by_all at seen (r ∷ rs) groups address =
    let left = (judged at seen r groups).groups in
    changes groups left address || changed_by_all at (seen_after at.config r groups seen) rs left address

-- a message that isn't dropped changes the group; a query has no records
abbrev pub changed_by_message : Setting → Message ℕ → Groups → (address : ℕ) → Bool
changed_by_message at (QueryMessage query) groups address = false
changed_by_message at (OldReport version group) groups address =
    changes groups (stated_alone at group (OlderJoin version) groups).groups address
changed_by_message at (LeaveMessage group) groups address = changes groups (stated_alone at group OlderLeave groups).groups address
changed_by_message at (ReportMessage records) groups address = changed_by_all at map.empty records groups address

-- the message that was read changes the group, if it isn't dropped
abbrev pub changed_by_read : Setting → Result (Message ℕ) WireFault → Option DropReason → Groups → (address : ℕ) → Bool
changed_by_read at read (Some reason) groups address = false
changed_by_read at (Err fault) None groups address = false
changed_by_read at (Ok message) None groups address = changed_by_message at message groups address

-- a datagram changes the group: first the tick, and then its records
abbrev pub changed_by_datagram : Configuration → Envelope → List ℕ → (now : ℕ) → LinkState → (address : ℕ) → Bool
changed_by_datagram config envelope bytes now state address =
    let left = (tick_of config now state).state in
    let read = read_of config.family (pseudo_of config.family envelope bytes) bytes in
    changed_by_tick config now state address
    || changed_by_read (setting_of config left) read (drop_reason config envelope read) left.groups address

-- an event changes the group
abbrev pub changed_by_event : Configuration → Event → LinkState → (address : ℕ) → Bool
changed_by_event config (Tick now) state address = changed_by_tick config now state address
changed_by_event config (Datagram envelope bytes now) state address = changed_by_datagram config envelope bytes now state address

-- these addresses ascend, and are those that pass the test
pub record AreThose (test : ℕ → Bool) (addresses : List ℕ) : Type 0 where
  pub ascending : IsAscending (λ a. a) addresses
  pub each : (address : ℕ) → set_of (λ a. a) addresses address ≡ test address
