-- The search for a message of the checked router, packet by packet.
use Rattle.mq_check.proofs.Common.{◌≡◌, ◌⊎◌, ℕ, ◌+◌, ◌||◌, Bool, true, false, List, [], ◌∷◌, ◌++◌, Option, Some, Result, Ok, Err}
use Rattle.mq_check.proofs.Common.{refl, ap, sym, subst, ◌∙◌, inl, inr}
use Rattle.mq_check.proofs.Common.{or-false, if◌then◌else◌, list_any, LinkType, InputState, Family, Walked, CaptureFault, PlacedPacket}
use Rattle.mq_check.proofs.Common.{datagram_of, carried_in}
use Rattle.std.proofs.Math.Bool.{or_assoc}
use Rattle.mq_pcap.specs.{declared.fault.PcapFault.PcapFault, declared.form.Form.Form, Capture.Captured, Capture.Captures, Capture.is_read, Filling.Takes}
use Rattle.mq_walk.specs.PlacedPackets.{Place, at_first, place_behind}
use Rattle.mq_walk.specs.Walking.{IsBrokenOff, IsEndedByFault, IsStopped, ReadCapture, StepsOver, StepsOverAll, Walks}
use Rattle.mq_walk.specs.declared.capture_fault.CaptureFault.TheVariants as answer
use Rattle.mq_check.specs.declared.unseen.Stop.{Stop}
use Rattle.mq_check.specs.declared.unseen.Stop.TheVariants.{Fault, Heard}
use Rattle.mq_check.specs.Announced.{IsRead, IsReadBy}
use Rattle.mq_check.specs.Unseen.{IsOver, SeekingValue, Seeks, SeeksIn, TakesSought, concluded, has_higher, has_higher_in, is_from, is_from_higher}
use Rattle.mq_check.specs.Unseen.{is_heard, is_heard_in}
use Rattle.mq_check.proofs.Announcing.{end_of}

any_cons : {X : Type 0} (p : X → Bool) (x : X) (xs : List X) → list_any p (x ∷ xs) ≡ p x || list_any p xs
any_cons {X} p x xs = by_test (p x) refl
  where
    by_test : (b : Bool) → p x ≡ b → list_any p (x ∷ xs) ≡ p x || list_any p xs
    by_test true is = rw is refl
    by_test false is = rw is refl

any_last : {X : Type 0} (p : X → Bool) (xs : List X) (x : X) → p x ≡ true → list_any p (xs ++ x ∷ []) ≡ true
any_last p [] x is = rw is refl
any_last p (y ∷ ys) x is = any_cons p y (ys ++ x ∷ []) ∙ ap (λ (b : Bool). p y || b) (any_last p ys x is) ∙ or_true (p y)
  where
    or_true : (b : Bool) → b || true ≡ true
    or_true true = refl
    or_true false = refl

-- The search over some packets: none came from the router.
record SoughtOver (family : Family) (link : LinkType) (packets : List Captured) (old new : SeekingValue) : Type 0 where
  pub own : new.own ≡ old.own
  pub heard : is_heard_in family old.own link packets ≡ false
  pub higher : new.has_higher ≡ old.has_higher || has_higher_in family old.own link packets

record SoughtAll (family : Family) (header : Result Form PcapFault) (packets : List Captured) (old new : SeekingValue) : Type 0 where
  pub own : new.own ≡ old.own
  pub heard : is_heard family old.own header packets ≡ false
  pub higher : new.has_higher ≡ old.has_higher || has_higher family old.own header packets

one_more : (family : Family) (link : LinkType) (packet : Captured) (packets : List Captured) (old mid new : SeekingValue)
    → is_from old.own (datagram_of family (carried_in link packet.bytes)) ≡ false
    → mid ≡ record old { has_higher = old.has_higher || is_from_higher family old.own (datagram_of family (carried_in link packet.bytes)) }
    → SoughtOver family link packets mid new → SoughtOver family link (packet ∷ packets) old new
one_more family link packet packets old mid new other is rest =
    let from : Captured → Bool = λ p. is_from old.own (datagram_of family (carried_in link p.bytes)) in
    let above : Captured → Bool = λ p. is_from_higher family old.own (datagram_of family (carried_in link p.bytes)) in
    let more : SoughtOver family link packets (record old { has_higher = old.has_higher || above packet }) new =
    subst (λ (s : SeekingValue). SoughtOver family link packets s new) is rest in
    record {
      own = more.own;
      heard = any_cons from packet packets ∙ ap (λ (b : Bool). b || list_any from packets) other ∙ more.heard;
      higher = more.higher ∙ or_assoc old.has_higher (above packet) (list_any above packets)
          ∙ ap (λ (b : Bool). old.has_higher || b) (sym (any_cons above packet packets));
    }

module _ {X : Type 0} (family : Family) (state : X → SeekingValue) where
  abbrev takes : PlacedPacket → X → X → Result (Unit {0}) Stop → Type 0
  takes packet x x' r = TakesSought family packet (state x) (state x') r

  sought_over : (link : LinkType) (at to : Place) (packets : List Captured) (x x' : X) → StepsOver takes link at packets x to x' →
      SoughtOver family link packets (state x) (state x')
  sought_over link at to [] x x' steps = record {
    own = ap (λ (y : X). (state y).own) steps.1;
    heard = refl;
    higher = ap (λ (y : X). (state y).has_higher) steps.1 ∙ sym (or-false (state x).has_higher);
  }
  sought_over link at to (packet ∷ packets) x x' steps =
      one_more family link packet packets (state x) (state steps.0) (state x') steps.1.0 steps.1.1
      (sought_over link (place_behind at packet.stamp) to packets steps.0 x' steps.2)

  sought_all : (header : Result Form PcapFault) (packets : List Captured) (x x' : X) → StepsOverAll takes header packets x x' →
      SoughtAll family header packets (state x) (state x')
  sought_all (Err f) packets x x' same = record {
    own = ap (λ (y : X). (state y).own) same;
    heard = refl;
    higher = ap (λ (y : X). (state y).has_higher) same ∙ sym (or-false (state x).has_higher);
  }
  sought_all (Ok form) packets x x' (to, steps) =
      let over = sought_over form.link at_first to packets x x' steps in
      record { own = over.own; heard = over.heard; higher = over.higher }

  seeks_in : (old new : InputState) (x x' : X) (c : ReadCapture) (r : Result (Unit {0}) Stop) → Takes old new c.bytes →
      Captures c.bytes c.header c.packets c.end
      → IsOver family (state x).own c.header c.packets c.end c.bytes old new (state x').has_higher r
      → SeeksIn family (state x).own old new (state x').has_higher r
  seeks_in old new x x' c r takes_in captures over = record {
    bytes = c.bytes;
    header = c.header;
    packets = c.packets;
    end = c.end;
    takes = takes_in;
    capture = captures;
    over = over;
  }

  higher_in : (header : Result Form PcapFault) (packets : List Captured) (x x' : X) → (state x).has_higher ≡ false →
      SoughtAll family header packets (state x) (state x') → (state x').has_higher ≡ has_higher family (state x).own header packets
  higher_in header packets x x' none all = all.higher ∙ ap (λ (b : Bool). b || has_higher family (state x).own header packets) none

  -- the search ended at the last packet that was read
  stopped : (old new : InputState) (x x' : X) (c : ReadCapture) (e : Stop) → Takes old new c.bytes → Captures c.bytes c.header c.packets c.end
      → IsStopped takes c old new x x' e → SeeksIn family (state x).own old new (state x').has_higher (Err e)
  stopped old new x x' c (Fault f) takes_in captures it = absurd it.stops
  stopped old new x x' c Heard takes_in captures it =
      let over = sought_over it.form.link at_first it.to it.some x it.between it.steps in
      let from : Captured → Bool = λ p. is_from (state x).own (datagram_of family (carried_in it.form.link p.bytes)) in
      let last : from it.last ≡ true =
      ap (λ (own : ℕ). is_from own (datagram_of family (carried_in it.form.link it.last.bytes))) (sym over.own) ∙ it.stops in
      let heard : is_heard family (state x).own c.header c.packets ≡ true =
      ap (λ (h : Result Form PcapFault). is_heard family (state x).own h c.packets) it.header ∙ ap (list_any from) it.packets
      ∙ any_last from it.some it.last last in
      seeks_in old new x x' c (Err Heard) takes_in captures (heard, it.failed)

  pub sought : (old new : InputState) (x x' : X) (r : Result Walked Stop) → (state x).has_higher ≡ false →
      Walks takes (λ f e. e ≡ Fault f) old new x x' r → SeeksIn family (state x).own old new (state x').has_higher (end_of r)
  sought old new x x' (Ok w) none walks =
      let walked = walks.ended in
      let c = walks.read in
      let to : Place = record { first = walked.first; before = w.last; number = w.packets + 1 } in
      let steps : StepsOverAll takes c.header c.packets x x' = rw walked.header (to, walked.steps) in
      let all = sought_all c.header c.packets x x' steps in
      seeks_in old new x x' c (Ok tt) walks.takes_in walks.capture
      (all.heard, higher_in c.header c.packets x x' none all, (walked.end, walked.at_end, walked.failed))
  sought old new x x' (Err e) none walks = by_end walks.ended
    where
      c : ReadCapture
      c = walks.read

      by_kind : (f : PcapFault) (b : Bool) → IsEndedByFault b c f old new → IsReadBy b c.header c.end c.bytes old new f
      by_kind f true ended = ended
      by_kind f false ended = ended

      by_end : IsBrokenOff takes (λ f e. e ≡ Fault f) c old new x x' e ⊎ IsStopped takes c old new x x' e →
          SeeksIn family (state x).own old new (state x').has_higher (Err e)
      by_end (inl it) =
          let all = sought_all c.header c.packets x x' it.steps in
          subst (λ (s : Stop). SeeksIn family (state x).own old new (state x').has_higher (Err s)) (sym it.given)
          (seeks_in old new x x' c (Err (Fault it.fault)) walks.takes_in walks.capture
          (all.heard, higher_in c.header c.packets x x' none all, by_kind it.fault (is_read it.fault) it.ended))
      by_end (inr it) = stopped old new x x' c e walks.takes_in walks.capture it

-- a fault of the result is one of the capture
abbrev pub IsOfSearch : Result Bool CaptureFault → Type 0
IsOfSearch (Ok b) = Unit {0}
IsOfSearch (Err (answer.Pcap f)) = Unit {0}
IsOfSearch (Err answer.Write) = ⊥
IsOfSearch (Err (answer.Gap at)) = ⊥
IsOfSearch (Err (answer.Waiting at)) = ⊥
IsOfSearch (Err answer.Memory) = ⊥

pub of_search : (higher : Bool) (read : Result (Unit {0}) Stop) → IsOfSearch (concluded higher read)
of_search higher (Ok done) = tt
of_search higher (Err Heard) = tt
of_search higher (Err (Fault f)) = by_test (is_read f || higher)
  where
    by_test : (b : Bool) → IsOfSearch (if b then Err (answer.Pcap f) else Ok false)
    by_test true = tt
    by_test false = tt

concludes : (higher : Bool) (read : Result Walked Stop) → concluded higher read ≡ concluded higher (end_of read)
concludes higher (Ok w) = refl
concludes higher (Err Heard) = refl
concludes higher (Err (Fault f)) = refl

pub seeks : (family : Family) (own : ℕ) (old new : InputState) (higher : Bool) (read : Result Walked Stop) (r : Result Bool CaptureFault)
    → SeeksIn family own old new higher (end_of read) → r ≡ concluded higher read → Seeks family own old new r
seeks family own old new higher read r sought is =
    let so = is ∙ concludes higher read in by_answer r so (subst IsOfSearch (sym so) (of_search higher (end_of read)))
  where
    by_answer : (a : Result Bool CaptureFault) → a ≡ concluded higher (end_of read) → IsOfSearch a → Seeks family own old new a
    by_answer (Ok b) is of = (higher, end_of read, sought, is)
    by_answer (Err (answer.Pcap f)) is of = (higher, end_of read, sought, is)
    by_answer (Err answer.Write) is of = absurd of
    by_answer (Err (answer.Gap at)) is of = absurd of
    by_answer (Err (answer.Waiting at)) is of = absurd of
    by_answer (Err answer.Memory) is of = tt
