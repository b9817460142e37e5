use Rattle.mq_held.proofs.Common.{length, ◌+◌, ◌-◌, bitlen, Spends, number_in}
use Rattle.mq_held.proofs.NamedWalks.{IsWalked}
use Rattle.mq_held.proofs.several_in_place.has_each.Given as goal

abbrev pub invariant-loop-next : goal.invariant-loop-next
invariant-loop-next g l = record {
  walked : IsWalked (number_in g.K.Key.number) g.K.Key.number l.row l.named l.place l.next;
  spent : Spends l.next (bitlen (length l.row) + l.place) l.fn.m l.m;
}

abbrev pub decreases-loop-next : goal.decreases-loop-next
decreases-loop-next g l = length l.row - l.place
