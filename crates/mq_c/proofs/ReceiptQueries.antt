-- The most queries of a datagram, and the most sources that they name.
use Rattle.mq_c.proofs.Common.{◌≡◌, ℕ, ◌+◌, ◌*◌, ◌≤◌, List, ◌++◌, length, sum_by, Option, None, Some, Result, Ok, Err, IfSome, refl, arith, min, Message}
use Rattle.mq_c.proofs.Common.{OldReport, Family, Igmp, Mld, size_of, SentQuery, Configuration, IsFaultless, v1_mutes_leave, per_query, Envelope, read_of}
use Rattle.mq_c.proofs.Common.{receipt_of, Setting, Statement, change_in, is_muted, stated, all_judged, Groups, LinkState, IsWellFormed, group_at, sources_of}
use Rattle.mq_c.proofs.Common.{sources_in, tick_of, moment_of, records_in_body, sources_in_body, asking_records, most_asked}
use Rattle.mq_wire.specs.declared.message.Message.TheVariants.{Query as QueryMessage, Leave as LeaveMessage, Report as ReportMessage}
use Rattle.mq_wire.specs.declared.message.WireFault.{WireFault}
use Rattle.mq_held.proofs.Amounts.{own_sources}
use Rattle.mq_link.specs.{declared.answers.DropReason.DropReason, Record.OlderJoin, Record.OlderLeave, Record.stated_alone, Tick.Step}
use Rattle.mq_link.specs.Receive.{setting_of, taken_in, taken_or_dropped, drop_reason, pseudo_of, counting_read}
use Rattle.mq_link.proofs.{ChangedSizes.joined_few, ChangedSizes.left_few, Ticked.IsWellFormed-tick_at}
use Rattle.mq_link.proofs.{Faultless.some_groups, Faultless.timing_in_range, Receipts.sound_in, Receipts.recounted, Receipts.positive_in, StatedAlone.alone_by}
use Rattle.mq_c.proofs.{QueryCounts.AreFew, QueryCounts.few_append, QueryCounts.few_none, QueryCounts.few_weaker, QueryCounts.tick_few, ReportLengths.IsWithin}
use Rattle.mq_c.proofs.{RecordQueries.stated_asks, RecordQueries.records_ask, ReportLengths.sources_named, ReportLengths.within_where_read}
use Rattle.std.specs.FinMap as map

-- a statement of an older message, which names no source
older_asks : (at : Setting) (group : ℕ) (groups : Groups) (st : Statement)
    → IfSome (change_in at group st groups) (λ c. size_of c.group ≤ sources_of (group_at groups group) + 0)
    → AreFew (per_query at.config.family) 3 (sources_in groups) (stated_alone at group st groups).queries
older_asks at group groups st few =
    alone_by (λ o. AreFew (per_query at.config.family) 3 (sources_in groups) o.queries) at group st groups
    (few_weaker (per_query at.config.family) 3 3 (sources_of (group_at groups group) + 0) (sources_in groups) (stated at group st groups).queries
    (omega arith) (omega (arith, own_sources groups group)) (stated_asks at group groups (sources_of (group_at groups group) + 0) st few))
    (few_none (per_query at.config.family) 3 (sources_in groups))

one_asks : (longest : ℕ) (config : Configuration) → 1 ≤ config.limits.groups → 1 ≤ asking_records longest config
one_asks longest config some = by_family config.family
  where
    by_family : (family : Family) → 1 ≤ min (4 * config.limits.groups) (records_in_body longest family)
    by_family Igmp = omega (arith, some)
    by_family Mld = omega (arith, some)

-- the queries of a tick, and then those of a message
module _ (longest : ℕ) (config : Configuration) (runs sources : ℕ) (some : 1 ≤ config.limits.groups) where
  abbrev AreAsked : List SentQuery → Type 0
  AreAsked queries = AreFew (per_query config.family) (runs + 3 * asking_records longest config)
      (sources + 4 * (config.limits.sources + sources_in_body longest config.family)) queries

  module _ (tick : Step) (few : AreFew (per_query config.family) runs sources tick.queries) (formed : IsWellFormed config tick.state) where
    with_none : AreAsked tick.queries
    with_none = few_weaker (per_query config.family) runs (runs + 3 * asking_records longest config) sources
        (sources + 4 * (config.limits.sources + sources_in_body longest config.family)) tick.queries (omega arith) (omega arith) few

    with_more : (queries : List SentQuery) (r s : ℕ) → AreFew (per_query config.family) r s queries → r ≤ 3 * asking_records longest config →
        s ≤ 4 * (config.limits.sources + sources_in_body longest config.family) → AreAsked (tick.queries ++ queries)
    with_more queries r s more fewer less =
        few_weaker (per_query config.family) (runs + r) (runs + 3 * asking_records longest config) (sources + s)
        (sources + 4 * (config.limits.sources + sources_in_body longest config.family)) (tick.queries ++ queries)
        (omega (arith, fewer)) (omega (arith, less)) (few_append (per_query config.family) runs r sources s tick.queries queries few more)

    within : sources_in tick.state.groups ≤ config.limits.sources
    within = formed.within.sources

    taken_few : (envelope : Envelope) (message : Message ℕ) → IsWithin longest config.family message →
        AreAsked (taken_in config envelope message tick).step.queries
    unfolding taken_in
    taken_few envelope (QueryMessage query) body = with_none
    taken_few envelope (OldReport version group) body =
        let at = setting_of config tick.state in
        let groups = tick.state.groups in
        with_more (stated_alone at group (OlderJoin version) groups).queries 3 (sources_in groups)
        (older_asks at group groups (OlderJoin version)
        (joined_few (v1_mutes_leave config.family) (is_muted config group (OlderJoin version)) at.election.timing at.now version (group_at groups group).group))
        (omega (arith, one_asks longest config some)) (omega (arith, within))
    taken_few envelope (LeaveMessage group) body =
        let at = setting_of config tick.state in
        let groups = tick.state.groups in
        with_more (stated_alone at group OlderLeave groups).queries 3 (sources_in groups)
        (older_asks at group groups OlderLeave
        (left_few (v1_mutes_leave config.family) (is_muted config group OlderLeave) at.election.timing at.now (group_at groups group).group))
        (omega (arith, one_asks longest config some)) (omega (arith, within))
    taken_few envelope (ReportMessage records) body =
        let at = setting_of config tick.state in
        let groups = tick.state.groups in
        let most = body.0 in
        let few_named = body.1 in
        with_more (all_judged at map.empty records groups).queries (3 * min (4 * config.limits.groups) (length records))
        (4 * sources_in groups + 4 * sum_by sources_named records)
        (records_ask at records groups (positive_in config tick.state formed) (sound_in config tick.state formed))
        (omega (arith, most)) (omega (arith, within, few_named))

  decided : (envelope : Envelope) (tick : Step) (read : Result (Message ℕ) WireFault) (reason : Option DropReason)
      → AreFew (per_query config.family) runs sources tick.queries → IsWellFormed config tick.state →
      ((message : Message ℕ) → read ≡ Ok message → IsWithin longest config.family message)
      → AreAsked (taken_or_dropped config envelope tick read reason).step.queries
  decided envelope tick read (Some reason) few formed body = with_none tick few formed
  decided envelope tick (Err fault) None few formed body = with_none tick few formed
  decided envelope tick (Ok message) None few formed body =
      let counted = recounted config tick.state (counting_read (Ok message) tick).state.counters formed in
      taken_few (counting_read (Ok message) tick) few counted envelope message (body message refl)

pub receipt_few : (longest : ℕ) (config : Configuration) (envelope : Envelope) (bytes : List ℕ) (now : ℕ) (state : LinkState) → IsFaultless config →
    IsWellFormed config state → length bytes ≤ longest
    → AreFew (per_query config.family) (1 + 2 * config.limits.scheduled + 3 * asking_records longest config) (most_asked longest config)
    (receipt_of config envelope bytes now state).step.queries
receipt_few longest config envelope bytes now state faultless formed short =
    let pseudo = pseudo_of config.family envelope bytes in
    let read = read_of config.family pseudo bytes in
    let moment = moment_of state now in
    decided longest config (1 + 2 * config.limits.scheduled) config.limits.sources (some_groups config faultless) envelope
    (tick_of config now state) read (drop_reason config envelope read)
    (tick_few config moment state formed.within) (IsWellFormed-tick_at config moment state (timing_in_range config faultless) formed)
    (λ message is. within_where_read longest config.family pseudo bytes message is short)
