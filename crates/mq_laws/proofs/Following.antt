-- A table that takes over the filters of the named groups. It is that of the state,
-- since a group that an event doesn't name keeps its filter.
use Rattle.mq_laws.proofs.Common.{◌≡◌, ℕ, Bool, true, false, cond, not, List, [], ◌∷◌, Option, None, Some, Result, Ok, Err, refl, sym, ap, ◌∙◌, true≢false}
use Rattle.mq_laws.proofs.Common.{or_parts, unwrap_or, nat_cmp, Message, QueryMessage, ReportMessage, WireFault, RecordView}
use Rattle.mq_laws.proofs.Common.{are_same-equal, forwards_by-filter_of, Filter, filter_of, nothing, forwards_by, are_same, GroupState, filter_of_unheld}
use Rattle.mq_laws.proofs.Common.{Configuration, Envelope, read_of, pseudo_of, drop_reason, setting_of, counting_read, taken_or_dropped, Setting, judged}
use Rattle.mq_laws.proofs.Common.{seen_after, all_judged, Event, Tick, Datagram, Happening, step_of, answered, RunFrom, Groups, LinkState, unheld, group_at}
use Rattle.mq_laws.proofs.Common.{forwards, link_at, Step, tick_of, DropReason, filter_at, FilterTable, taken_over, IsTableOf, AllFollowed, changes_filter}
use Rattle.mq_laws.proofs.Common.{changes, changed_by_tick, changed_by_all, changed_by_message, changed_by_read, taken_in}
use Rattle.mq_link.specs.{Forwarding.changed_by_event, Record.Seen}
use Rattle.mq_laws.proofs.HeardFilters.{heard_keeps_filters}
use Rattle.std.specs.FinMap as map

-- the filter of a group
abbrev filter_in : Groups → ℕ → Filter
filter_in groups group = filter_of (group_at groups group).group

-- a state that keeps the filter
pub same_unless_changed : (before after : GroupState) → changes_filter before after ≡ false → filter_of after ≡ filter_of before
unfolding changes_filter
same_unless_changed before after is = sym (are_same-equal (filter_of before) (filter_of after) (by_value (are_same (filter_of before) (filter_of after)) is))
  where
    by_value : (b : Bool) → not b ≡ false → b ≡ true
    by_value true is = refl
    by_value false is = absurd (true≢false is)

same_in : (before after : Groups) (group : ℕ) → changes before after group ≡ false → filter_in after group ≡ filter_in before group
same_in before after group = same_unless_changed (group_at before group).group (group_at after group).group

-- records, one after the other
records_keep : (at : Setting) (seen : Seen) (records : List (RecordView ℕ)) (groups : Groups) (group : ℕ) → changed_by_all at seen records groups group ≡ false
    → filter_in (all_judged at seen records groups).groups group ≡ filter_in groups group
records_keep at seen [] groups group is = refl
records_keep at seen (r ∷ rs) groups group is =
    let left = (judged at seen r groups).groups in
    let parts = or_parts (changes groups left group) _ is in
    records_keep at (seen_after at.config r groups seen) rs left group parts.1 ∙ same_in groups left group parts.0

-- a message, by what it says
message_keeps : (config : Configuration) (envelope : Envelope) (message : Message ℕ) (step : Step) (group : ℕ)
    → changed_by_message (setting_of config step.state) message step.state.groups group ≡ false
    → filter_in (taken_in config envelope message step).step.state.groups group ≡ filter_in step.state.groups group
unfolding taken_in
message_keeps config envelope (QueryMessage query) step group is = heard_keeps_filters config step.state.last envelope.source query step.state group
message_keeps config envelope (ReportMessage records) step group is = records_keep (setting_of config step.state) map.empty records step.state.groups group is
message_keeps config envelope _ step group is = same_in step.state.groups _ group is

-- the read message, dropped or not
read_keeps : (config : Configuration) (envelope : Envelope) (step : Step) (read : Result (Message ℕ) WireFault) (reason : Option DropReason) (group : ℕ)
    → changed_by_read (setting_of config step.state) read reason step.state.groups group ≡ false
    → filter_in (taken_or_dropped config envelope step read reason).step.state.groups group ≡ filter_in step.state.groups group
read_keeps config envelope step read (Some reason) group is = refl
read_keeps config envelope step (Err fault) None group is = refl
read_keeps config envelope step (Ok message) None group is = message_keeps config envelope message (counting_read (Ok message) step) group is

-- An event leaves the filter of each group that it doesn't name.
pub event_keeps : (config : Configuration) (event : Event) (state : LinkState) (group : ℕ) → changed_by_event config event state group ≡ false
    → filter_at (step_of config event state).state group ≡ filter_at state group
event_keeps config (Tick now) state group is = same_in state.groups (tick_of config now state).state.groups group is
event_keeps config (Datagram envelope bytes now) state group is =
    let read = read_of config.family (pseudo_of config.family envelope bytes) bytes in
    let parts = or_parts (changed_by_tick config now state group) _ is in
    read_keeps config envelope (tick_of config now state) read (drop_reason config envelope read) group parts.1
    ∙ same_in state.groups (tick_of config now state).state.groups group parts.0

-- a group with this filter forwards equally
pub alike_forwarded : (before after : LinkState) (group source : ℕ) → filter_at after group ≡ filter_at before group
    → forwards after group source ≡ forwards before group source
alike_forwarded before after group source same =
    sym (forwards_by-filter_of (group_at after.groups group).group source) ∙ ap (λ f. forwards_by f source) same
    ∙ forwards_by-filter_of (group_at before.groups group).group source

-- A table that has the filters of a state is its table.
table_of : (state : LinkState) (table : FilterTable) → ((group : ℕ) → table group ≡ filter_at state group) → IsTableOf state table
table_of state table each = record {
  filters = each;
  forwarded = λ group source. ap (λ f. forwards_by f source) (each group) ∙ forwards_by-filter_of (group_at state.groups group).group source;
}

-- so it is that of the state after an event
one_taken_over : (config : Configuration) (event : Event) (before after : LinkState) (answers : List Bool) (table : FilterTable)
    → after ≡ answered answers (step_of config event before) → ((group : ℕ) → table group ≡ filter_at before group) → (group : ℕ)
    → taken_over (changed_by_event config event before) after table group ≡ filter_at after group
one_taken_over config event before after answers table leaves each group = by_name (changed_by_event config event before group) refl
  where
    by_name : (b : Bool) → changed_by_event config event before group ≡ b → cond b (filter_at after group) (table group) ≡ filter_at after group
    by_name true is = refl
    by_name false is = each group ∙ sym (event_keeps config event before group is) ∙ sym (ap (λ s. filter_at s group) leaves)

pub all_followed : (config : Configuration) (before : LinkState) (table : FilterTable) (hs : List Happening)
    → ((group : ℕ) → table group ≡ filter_at before group) → RunFrom config before hs → AllFollowed config before table hs
all_followed config before table [] each run = table_of before table each
all_followed config before table (h ∷ hs) each run =
    let named = changed_by_event config h.event before in
    let next = taken_over named h.after table in (
      table_of before table each,
      all_followed config h.after next hs (one_taken_over config h.event before h.after h.answers table run.0.hands_out.leaves each) run.1,
    )

-- at the start nothing is forwarded
pub at_start : (config : Configuration) (start group : ℕ) → nothing ≡ filter_at (link_at config start) group
at_start config start group = sym filter_of_unheld ∙ sym (ap (λ e. filter_of (unwrap_or e unheld).group) (map.get-empty nat_cmp group))
