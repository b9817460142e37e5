-- The effect of a query on a sender.
use Rattle.std.specs.Prelude.{◌≡◌, Bool}
use Rattle.mq_wire.specs.Family.{Family}
use Rattle.mq_table.specs.declared.timing.Timing.{Timing}
use Rattle.mq_sched.specs.Sending.{SentQuery}
use Rattle.mq_link.specs.declared.sender.Sender.{Sender}
use Rattle.mq_link.specs.Configuration.{Configuration}
use Rattle.mq_link.specs.Handing.{Tally, HandsOne}
use Rattle.mq_link.specs.Sent.{Outgoing}

-- a sender's outlet and its counts
abbrev pub tally_of : {F O K E : Type 0} → Sender F O K E → Tally O
tally_of s = record { outlet = s.outlet.now; sent = s.sent; unsent = s.unsent }

-- its terms and its outlet stay the same, and the outlet receives the query if one message holds it
pub record TakesQuery {F O K E : Type 0} (takes : O → Outgoing → Bool → O → Type 0) (family : Family) (old : Sender F O K E) (query : SentQuery) (new : Sender F O K E) : Type 0 where
  pub same_terms : new.terms ≡ old.terms
  pub same_outlet : new.outlet.ghost_name ≡ old.outlet.ghost_name
  pub hands : HandsOne takes family old.terms.now query (tally_of old) (tally_of new)

-- the sender with the terms of this configuration and timing, and with nothing counted
abbrev pub begun : {F O K E : Type 0} → Configuration → Timing → Sender F O K E → Sender F O K E
begun config timing s = record s { terms = record s.terms { now = record { own = config.own; timing = timing } }; sent = 0; unsent = 0 }
