-- The groups and sources after a tick, at most those before. So a datagram spends within those held before both, and
-- at least its costs on the groups that the tick leaves.
use Rattle.mq_link.proofs.Common.{◌≡◌, ℕ, ◌+◌, ◌*◌, ◌≤◌, max, List, Some, sym, ap, ◌∙◌, subst, arith, max-le, Spends, Spends-join_within, Timing, after_round}
use Rattle.mq_link.proofs.Common.{Family, Configuration, cost_of, least_after, least_received, IsPaid, most_moved, most_moved_by_tick, Envelope, setting_of}
use Rattle.mq_link.proofs.Common.{Groups, LinkState, sources_in, group_expired, if_held, groups_expired, groups_after_round, moment_of, tick_at}
use Rattle.std.specs.FinMap as map
use Rattle.mq_link.proofs.{Bounds.expired_no_more, Bounds.round_no_more, Bounds.sources_kept, Entries.len-kept, LinkReceived.read_in, Moved.paid_join}
use Rattle.mq_link.proofs.{Moved.paid_moves}

module _ (timing : Timing) (now : ℕ) (groups : Groups) where
  abbrev left_groups : Groups
  left_groups = groups_after_round timing now (groups_expired now groups)

  sources_left : sources_in left_groups ≤ sources_in groups
  unfolding groups_expired groups_after_round
  sources_left =
      let expired = sources_kept (λ group e. if_held (group_expired now e)) groups (λ _ e. expired_no_more now e) in
      let sent = sources_kept (λ group e. Some (after_round timing now e)) (groups_expired now groups) (λ _ e. round_no_more timing now e) in
      omega (arith, expired, sent)

  groups_left : map.len left_groups ≤ map.len groups
  unfolding groups_expired groups_after_round
  groups_left =
      let expired = len-kept (λ group e. if_held (group_expired now e)) groups in
      let sent = len-kept (λ group e. Some (after_round timing now e)) (groups_expired now groups) in
      omega (arith, expired, sent)

  pub received_within : (after : Groups) (length listed least old ticked new : ℕ) → after ≡ left_groups → listed ≤ map.len groups
      → Spends 2 (4 * sources_in groups + 44 * map.len groups + 3) old ticked
      → Spends least (24 * sources_in after + max (20 * map.len after) listed + 64 * length) ticked new
      → Spends (2 + least) (cost_of length (map.len groups + sources_in groups)) old new
  received_within after length listed least old ticked new is few due taken =
      let fewer : sources_in after ≤ sources_in groups = subst (λ g. sources_in g ≤ sources_in groups) (sym is) sources_left in
      let fewer_groups : map.len after ≤ map.len groups = subst (λ (g : Groups). map.len g ≤ map.len groups) (sym is) groups_left in
      let most : max (20 * map.len after) listed ≤ 20 * map.len groups = max-le (omega (arith, fewer_groups)) (omega (arith, few)) in
      Spends-join_within (2 + least) _ due taken (omega arith) (omega (arith, fewer, most))

  pub moved_within : (after : Groups) (length before between left old ticked new : ℕ) → after ≡ left_groups → before ≤ sources_in groups + map.len groups
      → IsPaid (most_moved_by_tick groups) before between old ticked
      → IsPaid (24 * sources_in after + 22 * map.len after + 256 * length) between left ticked new
      → Spends 0 (most_moved length (map.len groups + sources_in groups)) old new
  moved_within after length before between left old ticked new is few due taken =
      let fewer : sources_in after ≤ sources_in groups = subst (λ g. sources_in g ≤ sources_in groups) (sym is) sources_left in
      let fewer_groups : map.len after ≤ map.len groups = subst (λ (g : Groups). map.len g ≤ map.len groups) (sym is) groups_left in
      paid_moves (most_moved length (map.len groups + sources_in groups))
      (paid_join (most_moved_by_tick groups + (24 * sources_in after + 22 * map.len after + 256 * length)) due taken (omega arith))
      (omega (arith, fewer, fewer_groups, few))

-- the least comparisons of a datagram on the groups that the tick leaves
pub least_after_tick : (family : Family) (config : Configuration) (envelope : Envelope) (bytes : List ℕ) (now moment : ℕ) (before after : LinkState)
    → config.family ≡ family → moment ≡ moment_of before now → after ≡ (tick_at config moment before).state
    → least_after (setting_of config after) envelope (read_in family envelope bytes) after.groups ≡ least_received config envelope bytes now before
least_after_tick family config envelope bytes now moment before after is_family is_moment ticked =
    ap (λ (s : LinkState). least_after (setting_of config s) envelope (read_in family envelope bytes) s.groups) ticked
    ∙ (λ i. least_after (setting_of config (tick_at config (is_moment i) before).state) envelope (read_in (sym is_family i) envelope bytes)
    (tick_at config (is_moment i) before).state.groups)
