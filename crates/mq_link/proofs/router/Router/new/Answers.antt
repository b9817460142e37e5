use Rattle.mq_link.proofs.Common.{subst, sym, Setting, IsStored}
use Rattle.mq_link.proofs.LinkStored.{stored_at_start}
use Rattle.mq_link.proofs.router.Router.new.Goals as goal

pub invariant_of-result : goal.invariant_of-result
invariant_of-result g c =
    let limits = c.room.ensures in
    let made = c.in_ok-storage.ensures in
    subst (λ (s : Setting). IsStored s c.in_ok-storage.storage) (sym c.new.ensures)
    (stored_at_start c.args.config c.args.start c.in_ok-storage.storage c.is_faultless.ensures.faultless c.is_faultless.ensures.within (rw limits at made.held))
