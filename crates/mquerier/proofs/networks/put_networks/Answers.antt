use Rattle.mquerier.proofs.Common.{[], refl, sym, append-nil, arith, nat_tests}
use Rattle.mquerier.proofs.networks.put_networks.Goals as goal

pub loop-network-init : goal.loop-network-init
loop-network-init c = record { text = ([], refl, sym (append-nil _)); size = grind (arith, nat_tests) }
