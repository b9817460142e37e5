use Rattle.mq_convert.proofs.Common.{◌≡◌, ◌-◌, ◌≤◌, length, has_failed, input_of, context_of, endless, most_seen}
use Rattle.mq_convert.proofs.Networked.{AreKnownTo}
use Rattle.mq_convert.proofs.networks.find_networks.Given as goal

-- the blocks that were read, and the networks of their messages
abbrev pub invariant-loop-size : goal.invariant-loop-size
invariant-loop-size g l =
    let old = input_of g.R.Read.remaining l.fn.reader in
    let now = input_of g.R.Read.remaining l.reader in
    record {
      known : AreKnownTo l.fn.protocol l.fn.choice old now (context_of l.context) l.number l.networks.items;
      few : l.number ≤ endless;
      room : most_seen ≤ length l.block;
      read : has_failed l.reader ≡ has_failed l.fn.reader;
    }

abbrev pub decreases-loop-size : goal.decreases-loop-size
decreases-loop-size g l = endless - l.number
