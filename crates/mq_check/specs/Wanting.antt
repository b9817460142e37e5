-- The outlet through which a link's queries become wanted, as contracts see it.
use Rattle.std.specs.Prelude.{◌≡◌, ℕ, Bool, true}
use Rattle.mq_wire.specs.Family.{Family}
use Rattle.mq_link.specs.Sent.{Outgoing}
use Rattle.mq_check.specs.declared.basis.Basis.{Basis}
use Rattle.mq_check.specs.Checking.{CheckingValue, one_wanted}

-- The check so far, the basis of the verdict, and the sender. The sender has the moment at which it sends, and two
-- flags. The first is set if a tick makes it send, the second if it may become querier again then.
pub record WantingValue : Type 0 where
  pub checking : CheckingValue
  pub basis : Basis
  pub moment : ℕ
  pub by_tick : Bool
  pub is_returning : Bool

-- the outlet took one message
pub record TakesMessage (family : Family) (old : WantingValue) (message : Outgoing) (sent : Bool) (new : WantingValue) : Type 0 where
  pub sent_is : sent ≡ true
  pub takes : new ≡ record old { checking = one_wanted family old.moment old.basis.packets old.by_tick old.is_returning message.to message.query old.checking }
