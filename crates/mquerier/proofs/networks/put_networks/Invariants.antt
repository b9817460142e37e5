use Rattle.mquerier.proofs.Common.{◌≡◌, ◌≤◌, ◌+◌, ◌*◌, ℕ, List, ◌++◌, true, drop, array_vec_len, items_from}
use Rattle.mquerier.specs.Failures.{network_item}
use Rattle.mquerier.proofs.networks.put_networks.Given as goal

-- the text so far and that of the networks left are the whole text
abbrev pub invariant-loop-network : goal.invariant-loop-network
invariant-loop-network l = record {
  text : (done : List ℕ)
      × (items_from network_item true l.fn.networks ≡ done ++ items_from network_item l.is_first (drop l.network-index l.networks))
      × (l.lines.items ≡ l.fn.lines.items ++ done);
  size : array_vec_len l.lines ≤ 100 + 70 * l.network-index;
}
