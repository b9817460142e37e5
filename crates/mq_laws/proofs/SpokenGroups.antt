-- A message changes no group that it doesn't speak of.
use Rattle.mq_laws.proofs.Common.{◌≡◌, ℕ, Bool, false, ◌||◌, List, [], ◌∷◌, Option, None, Some, Result, Ok, Err, refl, sym, ap, ◌∙◌, arith, true≢false, eq-eqb}
use Rattle.mq_laws.proofs.Common.{or_from, or_parts, unwrap_or, list_map, Message, QueryMessage, OldReport, LeaveMessage, ReportMessage, WireFault, RecordView}
use Rattle.mq_laws.proofs.Common.{changes_filter, unchanged, Configuration, Envelope, read_of, pseudo_of, drop_reason, setting_of, Setting, OlderJoin, Denied}
use Rattle.mq_laws.proofs.Common.{OlderLeave, judged, leaving, seen_after, stated, Groups, LinkState, unheld, group_at, tick_of, DropReason, DifferAt, ◌==◌}
use Rattle.mq_laws.proofs.Common.{if◌then◌else◌, true, changes, changed_by_tick, changed_by_all, changed_by_message, changed_by_read, is_allowed}
use Rattle.mq_sets.specs.Ascending.{set_of}
use Rattle.mq_link.specs.{Forwarding.changed_by_datagram, Record.Outcome, Record.Seen}
use Rattle.mq_laws.{specs.Following.groups_in, proofs.Unchanged.others_judged, proofs.Unchanged.others_stated}
use Rattle.std.specs.FinMap as map

-- where the groups differ in another one alone, it isn't changed
other_unchanged : (before left : Groups) (address group : ℕ) → DifferAt address before left → (address == group) ≡ false → changes before left group ≡ false
other_unchanged before left address group differ apart =
    ap (λ e. changes_filter (group_at before group).group (unwrap_or e unheld).group)
    (differ group (λ same. true≢false (sym (eq-eqb address group (sym same)) ∙ apart))) ∙ unchanged (group_at before group).group

others_of_all : (at : Setting) (seen : Seen) (records : List (RecordView ℕ)) (groups : Groups) (group : ℕ)
    → set_of (λ a. a) (list_map (λ r. r.group) records) group ≡ false → changed_by_all at seen records groups group ≡ false
others_of_all at seen [] groups group is = refl
others_of_all at seen (r ∷ rs) groups group is =
    let left = (judged at seen r groups).groups in
    let parts = or_parts (r.group == group) _ is in
    or_from _ _ (other_unchanged groups left r.group group (others_judged at seen r groups) parts.0)
    (others_of_all at (seen_after at.config r groups seen) rs left group parts.1)

-- the same for a message of an older version, which may be ignored
alone_unchanged : (allowed : Bool) (outcome : Outcome) (groups : Groups) (address group : ℕ) → DifferAt address groups outcome.groups
    → (address == group) ≡ false → changes groups (if allowed then outcome else leaving groups Denied).groups group ≡ false
alone_unchanged true outcome groups address group differ apart = other_unchanged groups outcome.groups address group differ apart
alone_unchanged false outcome groups address group differ apart = unchanged (group_at groups group).group

others_of_message : (at : Setting) (message : Message ℕ) (groups : Groups) (group : ℕ) → set_of (λ a. a) (groups_in message) group ≡ false
    → changed_by_message at message groups group ≡ false
others_of_message at (QueryMessage query) groups group is = refl
others_of_message at (OldReport version joined) groups group is =
    alone_unchanged (is_allowed at.config joined) (stated at joined (OlderJoin version) groups) groups joined group
    (others_stated at joined (OlderJoin version) groups) (or_parts (joined == group) _ is).0
others_of_message at (LeaveMessage left) groups group is =
    alone_unchanged (is_allowed at.config left) (stated at left OlderLeave groups) groups left group
    (others_stated at left OlderLeave groups) (or_parts (left == group) _ is).0
others_of_message at (ReportMessage records) groups group is = others_of_all at map.empty records groups group is

others_of_read : (at : Setting) (message : Message ℕ) (reason : Option DropReason) (groups : Groups) (group : ℕ)
    → set_of (λ a. a) (groups_in message) group ≡ false → changed_by_read at (Ok message) reason groups group ≡ false
others_of_read at message (Some reason) groups group is = refl
others_of_read at message None groups group is = others_of_message at message groups group is

or_nothing : (a b : Bool) → b ≡ false → (a || b) ≡ a
or_nothing a b h1 = grind arith

-- A datagram lists such a group exactly if the tick at its moment does. One without a message does so for each group.
module _ (config : Configuration) (envelope : Envelope) (bytes : List ℕ) (now : ℕ) (state : LinkState) (group : ℕ) where
  abbrev changed_when : Result (Message ℕ) WireFault → Bool
  changed_when read = let left = (tick_of config now state).state in
      changed_by_read (setting_of config left) read (drop_reason config envelope read) left.groups group

  pub as_the_tick : (message : Message ℕ) → read_of config.family (pseudo_of config.family envelope bytes) bytes ≡ Ok message →
      set_of (λ a. a) (groups_in message) group ≡ false
      → changed_by_datagram config envelope bytes now state group ≡ changed_by_tick config now state group
  as_the_tick message read is =
      let left = (tick_of config now state).state in
      or_nothing (changed_by_tick config now state group) _
      (ap changed_when read ∙ others_of_read (setting_of config left) message (drop_reason config envelope (Ok message)) left.groups group is)

  pub as_the_tick_unread : (fault : WireFault) → read_of config.family (pseudo_of config.family envelope bytes) bytes ≡ Err fault →
      changed_by_datagram config envelope bytes now state group ≡ changed_by_tick config now state group
  as_the_tick_unread fault read = or_nothing (changed_by_tick config now state group) _ (ap changed_when read)
