-- A walk that lists a capture, and the lines that it put.
use Rattle.mq_replay.proofs.Common.{◌≡◌, ℕ, ◌+◌, ◌||◌, Bool, true, false, List, [], ◌∷◌, ◌++◌, length, Result, Ok, Err, refl, ap, sym, subst, ◌∙◌, append_assoc}
use Rattle.mq_replay.proofs.Common.{append-nil, inl, inr, arith, or-false, InputState, carried_in, Passes, both_passed, broken_behind, nothing_passed}
use Rattle.mq_replay.proofs.Common.{CaptureFault, Walked, is_failed_write, PlacedPacket, IsEndedBy, place_in, PutsListing, PutsPacket}
use Rattle.std.proofs.Common.{◌⊎◌}
use Rattle.mq_pcap.specs.{declared.fault.PcapFault.PcapFault, declared.form.Form.Form, declared.link_type.LinkType.LinkType, Capture.Captured, Capture.is_read}
use Rattle.mq_walk.specs.PlacedPackets.{Place, at_first, place_behind, placed}
use Rattle.mq_walk.specs.Walking.{IsBrokenOff, IsEndedByFault, IsStopped, ReadCapture, StepsOver, StepsOverAll, Walks}
use Rattle.mq_walk.proofs.WalkedOver.{steps_counted}
use Rattle.mq_replay.specs.{Listing.AreLines, Listing.IsListing, Putting.ListingState, Putting.TakesListed}
use Rattle.mq_pcap.specs.declared.fault.PcapFault.TheVariants as fault
use Rattle.mq_walk.specs.declared.capture_fault.CaptureFault.TheVariants as answer

-- a failed read and a fault of the capture, in the terms of a listing
ended_by : (c : ReadCapture) (old new : InputState) (f : PcapFault) → IsEndedByFault (is_read f) c f old new →
    IsEndedBy c.header c.packets c.end c.bytes old new (Err (answer.Pcap f))
ended_by c old new fault.Read ended = ended
ended_by c old new _ ended = ended

module _ {X : Type 0} (state : X → ListingState) where
  abbrev takes : PlacedPacket → X → X → Result Unit CaptureFault → Type 0
  takes packet x x' r = TakesListed packet (state x) (state x') r

  record IsListedOver (link : LinkType) (at to : Place) (packets : List Captured) (x x' : X) : Type 0 where
    text : List ℕ
    lines : (more : List Captured) (rest : List ℕ) → AreLines (state x).json link to.first to.before to.number more rest →
        AreLines (state x).json link at.first at.before at.number (packets ++ more) (text ++ rest)
    passed : Passes (state x).output.held (state x').output.held (state x).held (state x').held text
    failed : (state x').output.failed ≡ (state x).output.failed
    same_json : (state x').json ≡ (state x).json

  listed_over : (link : LinkType) (at to : Place) (packets : List Captured) (x x' : X) → StepsOver takes link at packets x to x' →
      IsListedOver link at to packets x x'
  listed_over link at to [] x x' steps = subst (λ (y : X). IsListedOver link at to [] x y) (sym steps.1) (record {
    text = [];
    lines = λ more rest h. subst (λ (p : Place). AreLines (state x).json link p.first p.before p.number more rest) steps.0 h;
    passed = nothing_passed _ _;
    failed = refl;
    same_json = refl;
  })
  listed_over link at to (packet ∷ packets) x x' steps =
      let over = listed_over link (place_behind at packet.stamp) to packets steps.0 x' steps.2 in
      let puts = steps.1.puts in
      let same : (state steps.0).json ≡ (state x).json = steps.1.same_json in
      let behind : Place = place_behind at packet.stamp in
      let line = place_in (state x).json at.number (placed link at packet).moment ++ puts.said in
      record {
        text = line ++ over.text;
        lines = λ more rest h. (
          line,
          over.text ++ rest,
          append_assoc line over.text rest,
          (puts.said, puts.is_said, refl),
          subst (λ (json : Bool). AreLines json link behind.first behind.before behind.number (packets ++ more) (over.text ++ rest)) same
              (over.lines more rest (subst (λ (json : Bool). AreLines json link to.first to.before to.number more rest) (sym same) h)),
        );
        passed = both_passed _ _ _ _ _ _ line over.text puts.put over.passed;
        failed = over.failed ∙ steps.1.failed ∙ or-false _;
        same_json = over.same_json ∙ steps.1.same_json;
      }

  -- the lines of all packets
  lines_of : (form : Form) (to : Place) (packets : List Captured) (x x' : X) (over : IsListedOver form.link at_first to packets x x') →
      IsListing (state x).json (Ok form) packets over.text
  lines_of form to packets x x' over = rw (← append-nil packets, ← append-nil over.text) (over.lines [] [] refl)

  abbrev Listed : (old new : InputState) (x x' : X) → CaptureFault → Type 0
  Listed old new x x' e = PutsListing (state x).json old new (state x).output.held (state x').output.held (state x).held (state x').held (Err e) ×
      ((state x').output.failed ≡ (state x).output.failed || is_failed_write {T = Walked} (Err e)) × (e ≡ answer.Memory → ⊥)

  by_fault : (c : ReadCapture) (old new : InputState) (x x' : X) (f : PcapFault) (header : Result Form PcapFault) → c.header ≡ header →
      StepsOverAll takes header c.packets x x' → (text : List ℕ) × IsListing (state x).json header c.packets text
      × Passes (state x).output.held (state x').output.held (state x).held (state x').held text × ((state x').output.failed ≡ (state x).output.failed)
  by_fault c old new x x' f (Err g) is_header same = (
    [],
    refl,
    subst (λ (y : X). Passes (state x).output.held (state y).output.held (state x).held (state y).held []) (sym same) (nothing_passed _ _),
    ap (λ (y : X). (state y).output.failed) same,
  )
  by_fault c old new x x' f (Ok form) is_header (to, steps) =
      let over = listed_over form.link at_first to c.packets x x' steps in
      (over.text, lines_of form to c.packets x x' over, over.passed, over.failed)

  -- the walk ended early
  pub listed_early : (old new : InputState) (x x' : X) (e : CaptureFault) → Walks takes (λ f it. it ≡ answer.Pcap f) old new x x' (Err e) →
      Listed old new x x' e
  listed_early old new x x' e walks = by_end walks.ended
    where
      c : ReadCapture
      c = walks.read

      stopped : (it : IsStopped takes c old new x x' e) → (e' : CaptureFault) → takes (placed it.form.link it.to it.last) it.between x' (Err e') →
          Listed old new x x' e'
      stopped it answer.Write stops =
          let over = listed_over it.form.link at_first it.to it.some x it.between it.steps in
          let puts = subst (λ (json : Bool). PutsPacket {T = Unit} {E = Unit} json (state it.between).output.held (state x').output.held (state it.between).held
          (state x').held it.to.number (placed it.form.link it.to it.last).moment (carried_in it.form.link it.last.bytes) (Err tt)) over.same_json stops.puts in
          let line = place_in (state x).json it.to.number (placed it.form.link it.to it.last).moment ++ puts.said in
          let all = over.lines (it.last ∷ []) line (line, [], sym (append-nil line), (puts.said, puts.is_said, refl), refl) in
          let listing : IsListing (state x).json c.header c.packets (over.text ++ line) =
          subst (λ (ps : List Captured). IsListing (state x).json c.header ps (over.text ++ line)) (sym it.packets)
          (subst (λ (h : Result Form PcapFault). IsListing (state x).json h (it.some ++ it.last ∷ []) (over.text ++ line)) (sym it.header) all) in (
            record {
              bytes = c.bytes;
              header = c.header;
              packets = c.packets;
              end = c.end;
              text = over.text ++ line;
              takes = walks.takes_in;
              capture = walks.capture;
              listing = listing;
              ended = tt;
              put = broken_behind _ _ _ _ _ over.text line over.passed puts.put;
            },
            stops.failed ∙ ap (λ (b : Bool). b || true) over.failed,
            λ is. absurd (cc is),
          )
      stopped it _ stops = absurd stops

      by_end : IsBrokenOff takes (λ f it. it ≡ answer.Pcap f) c old new x x' e ⊎ IsStopped takes c old new x x' e → Listed old new x x' e
      by_end (inl it) =
          let all = by_fault c old new x x' it.fault c.header refl it.steps in
          let listed : Listed old new x x' (answer.Pcap it.fault) = (
            record {
              bytes = c.bytes;
              header = c.header;
              packets = c.packets;
              end = c.end;
              text = all.0;
              takes = walks.takes_in;
              capture = walks.capture;
              listing = all.1;
              ended = ended_by c old new it.fault it.ended;
              put = all.2;
            },
            all.3 ∙ sym (or-false (state x).output.failed),
            λ is. absurd (cc is),
          ) in
          subst (Listed old new x x') (sym it.given) listed
      by_end (inr it) = stopped it e it.stops

  -- the walk came to the end of the capture
  pub listed_well : (old new : InputState) (x x' : X) (w : Walked) → Walks takes (λ f it. it ≡ answer.Pcap f) old new x x' (Ok w)
      → PutsListing (state x).json old new (state x).output.held (state x').output.held (state x).held (state x').held (Ok w.packets) ×
      ((state x').output.failed ≡ (state x).output.failed || false)
  listed_well old new x x' w walks =
      let c = walks.read in
      let walked = walks.ended in
      let to : Place = record { first = walked.first; before = w.last; number = w.packets + 1 } in
      let over = listed_over walked.form.link at_first to c.packets x x' walked.steps in
      let numbered : w.packets + 1 ≡ 1 + length c.packets = steps_counted takes walked.form.link at_first to c.packets x x' walked.steps in
      let counted : w.packets ≡ length c.packets = omega (arith, numbered) in
      let lines = lines_of walked.form to c.packets x x' over in
      let listing : IsListing (state x).json c.header c.packets over.text =
      subst (λ (h : Result Form PcapFault). IsListing (state x).json h c.packets over.text) (sym walked.header) lines in (
        record {
          bytes = c.bytes;
          header = c.header;
          packets = c.packets;
          end = c.end;
          text = over.text;
          takes = walks.takes_in;
          capture = walks.capture;
          listing = listing;
          ended = (walked.end, walked.at_end, counted, walked.failed);
          put = over.passed;
        },
        over.failed ∙ sym (or-false (state x).output.failed),
      )
