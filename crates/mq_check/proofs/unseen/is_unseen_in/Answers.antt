use Rattle.mq_check.proofs.Common.{refl, most_bytes, room_of_filled}
use Rattle.mq_check.proofs.Seeking.{seeks, sought}
use Rattle.mq_check.proofs.unseen.is_unseen_in.Goals as goal

pub walk-read-requires : goal.walk-read-requires
walk-read-requires g c = room_of_filled most_bytes _ _ c.as_mut_slice.ensures.value c.in-Ok.ensures.items

pub returns-clause-seeks : goal.returns-clause-seeks
returns-clause-seeks g c =
    seeks _ _ _ _ _ _ _ (sought g.F.Family.FAMILY (λ x. record { own = g.F.Address.Key.number x.0.own; has_higher = x.0.has_higher }) _ _ _ _ _ refl
    c.walk-read.ensures) c.concluded.ensures
