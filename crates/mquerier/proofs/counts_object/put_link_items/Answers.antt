use Rattle.mquerier.proofs.Common.{[], refl, sym, append-nil, arith, nat_tests}
use Rattle.mquerier.proofs.counts_object.put_link_items.Goals as goal

pub loop-row-init : goal.loop-row-init
loop-row-init c = record { text = ([], refl, sym (append-nil _)); size = grind (arith, nat_tests) }
