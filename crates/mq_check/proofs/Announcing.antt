-- The search for the querier of a capture, packet by packet.
use Rattle.mq_check.proofs.Common.{◌≡◌, ◌⊎◌, ℕ, ◌+◌, Bool, true, false, List, [], ◌∷◌, Option, None, Some, Result, Ok, Err, refl, ap, sym, subst, ◌∙◌, inl, inr}
use Rattle.mq_check.proofs.Common.{LinkType, InputState, Family, Walked, CaptureFault, PlacedPacket}
use Rattle.mq_pcap.specs.{declared.fault.PcapFault.PcapFault, declared.form.Form.Form, Capture.Captured, Capture.Captures, Capture.is_read, Filling.Takes}
use Rattle.mq_walk.specs.PlacedPackets.{Place, at_first, place_behind}
use Rattle.mq_walk.specs.Walking.{IsBrokenOff, IsEndedByFault, IsStopped, ReadCapture, StepsOver, StepsOverAll, Walks}
use Rattle.mq_check.specs.{declared.announced.Announced.Announced, declared.sought.Sought.Sought, Numbered.numbered_announced_if, Numbered.numbered_answer}
use Rattle.mq_check.specs.Announced.{Announces, IsRead, IsReadBy, LooksIn, TakesLooked, by_fault, concluded, found_in, sought_in, sought_of}
use Rattle.mq_pcap.specs.declared.fault.PcapFault.TheVariants as fault
use Rattle.mq_walk.specs.declared.capture_fault.CaptureFault.TheVariants as answer

-- the end of a walk, without its place
abbrev pub end_of : {X E : Type 0} → Result X E → Result (Unit {0}) E
end_of (Ok x) = Ok tt
end_of (Err e) = Err e

module _ {X : Type 0} (family : Family) (state : X → Option (Sought ℕ)) where
  abbrev takes : PlacedPacket → X → X → Result (Unit {0}) PcapFault → Type 0
  takes packet x x' r = TakesLooked family packet (state x) (state x') r

  -- the querier that packets announce
  looked_over : (link : LinkType) (at to : Place) (packets : List Captured) (x x' : X) → StepsOver takes link at packets x to x' →
      state x' ≡ sought_in family link at packets (state x)
  unfolding sought_in
  looked_over link at to [] x x' steps = ap state steps.1
  looked_over link at to (packet ∷ packets) x x' steps =
      looked_over link (place_behind at packet.stamp) to packets steps.0 x' steps.2
      ∙ ap (sought_in family link (place_behind at packet.stamp) packets) steps.1

  all_looked : (header : Result Form PcapFault) (packets : List Captured) (x x' : X) → state x ≡ None → StepsOverAll takes header packets x x' →
      state x' ≡ sought_of family header packets
  all_looked (Err f) packets x x' none same = ap state same ∙ none
  all_looked (Ok form) packets x x' none (to, steps) =
      looked_over form.link at_first to packets x x' steps ∙ ap (sought_in family form.link at_first packets) none

  looks_in : (old new : InputState) (x' : X) (c : ReadCapture) (r : Result (Unit {0}) PcapFault) → Takes old new c.bytes →
      Captures c.bytes c.header c.packets c.end → state x' ≡ sought_of family c.header c.packets
      → IsRead c.header c.end c.bytes old new r → LooksIn family old new (state x') r
  looks_in old new x' c r takes_in captures is_found ended = record {
    bytes = c.bytes;
    header = c.header;
    packets = c.packets;
    end = c.end;
    takes = takes_in;
    capture = captures;
    is_found = is_found;
    ended = ended;
  }

  pub looked : (old new : InputState) (x x' : X) (r : Result Walked PcapFault) → state x ≡ None → Walks takes (λ f e. e ≡ f) old new x x' r →
      LooksIn family old new (state x') (end_of r)
  looked old new x x' (Ok w) none walks =
      let walked = walks.ended in
      let to : Place = record { first = walked.first; before = w.last; number = w.packets + 1 } in
      let all : StepsOverAll takes walks.read.header walks.read.packets x x' = rw walked.header (to, walked.steps) in
      looks_in old new x' walks.read (Ok tt) walks.takes_in walks.capture (all_looked walks.read.header walks.read.packets x x' none all)
      (walked.end, walked.at_end, walked.failed)
  looked old new x x' (Err e) none walks = by_end walks.ended
    where
      c : ReadCapture
      c = walks.read

      by_kind : (f : PcapFault) (b : Bool) → IsEndedByFault b c f old new → IsReadBy b c.header c.end c.bytes old new f
      by_kind f true ended = ended
      by_kind f false ended = ended

      by_end : IsBrokenOff takes (λ f e. e ≡ f) c old new x x' e ⊎ IsStopped takes c old new x x' e → LooksIn family old new (state x') (Err e)
      by_end (inl it) =
          subst (λ (f : PcapFault). LooksIn family old new (state x') (Err f)) (sym it.given)
          (looks_in old new x' c (Err it.fault) walks.takes_in walks.capture (all_looked c.header c.packets x x' none it.steps)
          (by_kind it.fault (is_read it.fault) it.ended))
      by_end (inr it) = absurd it.stops

-- a fault of the result is one of the capture
abbrev pub IsOfCapture : CaptureFault → Type 0
IsOfCapture (answer.Pcap f) = Unit {0}
IsOfCapture _ = ⊥

abbrev fault_in : {X : Type 0} → Result X CaptureFault → CaptureFault
fault_in (Ok x) = answer.Memory
fault_in (Err e) = e

pub of_capture : {X Y : Type 0} (found : Option X) (read : Result Y PcapFault) (e : CaptureFault) → concluded found read ≡ Err e → IsOfCapture e
of_capture found (Ok done) e is = absurd (cc is)
of_capture {X} {Y} found (Err f) e is = by_kind (is_read f) found is
  where
    by_kind : (b : Bool) (o : Option X) → by_fault b o f ≡ Err e → IsOfCapture e
    by_kind true o is = subst IsOfCapture (ap fault_in is) tt
    by_kind false None is = subst IsOfCapture (ap fault_in is) tt
    by_kind false (Some x) is = absurd (cc is)

-- the result with addresses as numbers
numbered_concluded : {K : Type 0} (number : K → ℕ) (found : Option (Announced K)) (read : Result (Unit {0}) PcapFault) →
    numbered_answer number (concluded found read) ≡ concluded (numbered_announced_if number found) read
numbered_concluded number found (Ok done) = refl
numbered_concluded {K} number found (Err f) = by_kind (is_read f) found
  where
    by_kind : (b : Bool) (o : Option (Announced K)) → numbered_answer number (by_fault b o f) ≡ by_fault b (numbered_announced_if number o) f
    by_kind true o = refl
    by_kind false None = refl
    by_kind false (Some x) = refl

concludes : {K : Type 0} (found : Option (Announced K)) (read : Result Walked PcapFault) → concluded found read ≡ concluded found (end_of read)
concludes found (Ok w) = refl
concludes found (Err f) = refl

pub announces : {K : Type 0} (family : Family) (number : K → ℕ) (old new : InputState) (sought : Option (Sought ℕ)) (found : Option (Announced K))
    (read : Result Walked PcapFault) (r : Result (Option (Announced K)) CaptureFault)
    → LooksIn family old new sought (end_of read) → numbered_announced_if number found ≡ found_in sought → r ≡ concluded found read →
    Announces family old new (numbered_answer number r)
announces {K} family number old new sought found read r looks finds is = by_answer (numbered_answer number r)
    (ap (numbered_answer number) (is ∙ concludes found read) ∙ numbered_concluded number found (end_of read)
    ∙ ap (λ (o : Option (Announced ℕ)). concluded o (end_of read)) finds)
  where
    by_answer : (a : Result (Option (Announced ℕ)) CaptureFault) → a ≡ concluded (found_in sought) (end_of read) → Announces family old new a
    by_answer (Ok x) is = (sought, end_of read, looks, is)
    by_answer (Err (answer.Pcap f)) is = (sought, end_of read, looks, is)
    by_answer (Err answer.Write) is = absurd (of_capture (found_in sought) (end_of read) _ (sym is))
    by_answer (Err (answer.Gap at)) is = absurd (of_capture (found_in sought) (end_of read) _ (sym is))
    by_answer (Err (answer.Waiting at)) is = absurd (of_capture (found_in sought) (end_of read) _ (sym is))
    by_answer (Err answer.Memory) is = tt
