-- Lines that are written before a read that may wait.
use Rattle.mq_replay.proofs.Common.{◌≡◌, ℕ, List, [], ◌++◌, Bool, false, ◌||◌, Option, Result, Ok, Err, append-nil, ◌∙◌, IfOk, or-false, LinkValue, Carried}
use Rattle.mq_replay.proofs.Common.{Passes, Puts, put_as, then_put, place_in, PutsPacket, Replayed, PutsReplayed}

-- a text passed, and then nothing more was put
pub then_nothing : (T E : Type 0) (a b c : Option (List ℕ)) (held mid left text : List ℕ) (r : Result T E) → Passes a b held mid text →
    Puts b c mid left [] r → Puts a c held left text r
then_nothing T E a b c held mid left text r passed put =
    put_as a c held left (text ++ []) text r (append-nil text) (then_put a b c held mid left text [] r passed put)

-- this fact for the line of a packet
pub packet_then_nothing : (json : Bool) (T E : Type 0) (a b c : Option (List ℕ)) (held mid left : List ℕ) (number moment : ℕ) (carried : Carried)
    (x : T) (r : Result T E)
    → PutsPacket {T = T} {E = E} json a b held mid number moment carried (Ok x) → Puts b c mid left [] r → PutsPacket json a c held left number moment carried r
packet_then_nothing json T E a b c held mid left number moment carried x r line put =
    record {
      said = line.said;
      is_said = line.is_said;
      put = then_nothing T E a b c held mid left (place_in json number moment ++ line.said) r line.put put;
    }

still_linked : {T E : Type 0} (after : LinkValue) (replayed : Replayed) (r : Result T E) → after.state ≡ replayed.link →
    IfOk r (λ _. after.state ≡ replayed.link)
still_linked after replayed (Ok x) same = same
still_linked after replayed (Err e) same = tt

-- this fact for a replayed packet
pub replayed_then_nothing : (T E : Type 0) (before after : LinkValue) (replayed : Replayed) (a b c : Option (List ℕ)) (held mid left : List ℕ) (x : T)
    (r : Result T E)
    → PutsReplayed {T = T} {E = E} before after replayed a b held mid (Ok x) → Puts b c mid left [] r → PutsReplayed before after replayed a c held left r
replayed_then_nothing T E before after replayed a b c held mid left x r puts put =
    record {
      same_config = puts.same_config;
      link = still_linked after replayed r puts.link;
      text = then_nothing T E a b c held mid left replayed.text r puts.text put;
    }

-- neither of two steps has failed
pub both_unfailed : (old mid new : Bool) → mid ≡ (old || false) → new ≡ (mid || false) → new ≡ old
both_unfailed old mid new first second = second ∙ or-false mid ∙ first ∙ or-false old
