-- Work over a capture in the code, and the report that it comes to.
use Rattle.std.proofs.Common.{◌≡◌, ◌⊎◌, ℕ, ◌+◌, ◌≤◌, Bool, true, false, ◌||◌, List, [], ◌∷◌, ◌++◌, length, Option, None, Some, Result, Ok, Err, refl}
use Rattle.std.proofs.Common.{if◌then◌else◌, ap, sym, subst, ◌∙◌, append-nil, length-append, inl, inr, unwrap_or, arith}
use Rattle.std.proofs.Math.Bool.{or-false}
use Rattle.mq_pcap.specs.declared.fault.PcapFault.{PcapFault}
use Rattle.mq_pcap.specs.declared.form.Form.{Form}
use Rattle.mq_pcap.specs.declared.link_type.LinkType.{LinkType}
use Rattle.mq_pcap.specs.Capture.{Captured, Captures, is_read}
use Rattle.mq_pcap.specs.Filling.{InputState}
use Rattle.mq_text.specs.Printing.{GrowsByBeginning, OutputState, Passes}
use Rattle.mq_text.proofs.Passing.{both_passed, broken_behind, nothing_passed}
use Rattle.mq_walk.specs.declared.capture_fault.CaptureFault.{CaptureFault}
use Rattle.mq_walk.specs.declared.capture_fault.CaptureFault.TheVariants as answer
use Rattle.mq_walk.specs.declared.walked.Walked.{Walked}
use Rattle.mq_walk.specs.Courses.{Course, Report, Work, broken_off, course_of, last_moment, packets_text, report_in, report_of, reported, with_packets}
use Rattle.mq_walk.specs.Faults.{is_failed_write}
use Rattle.mq_walk.specs.PlacedPackets.{Place, PlacedPacket, at_first, is_gap, place_behind, placed}
use Rattle.mq_walk.specs.PuttingReports.{IsPutBy, IsRestPut, PutsReport, end_of, rest_at}
use Rattle.mq_walk.specs.Reports.{IsEndedBy}
use Rattle.mq_walk.specs.Walking.{IsBrokenOff, IsEndedByFault, IsStopped, ReadCapture, StepsOver, StepsOverAll, TakesUpToGap, Walks}
use Rattle.mq_walk.proofs.WalkedOver.{fault_or, steps_counted}

-- a report behind a text
abbrev pub report_behind : {T : Type 0} → List ℕ → Report T → Report T
report_behind text report = record { text = text ++ report.text; answer = report.answer }

-- a gap before the end
pub gap_put : {T : Type 0} (ended : ℕ → Report T) (until : Option ℕ) (last number : ℕ) (e : CaptureFault) (before : Option (List ℕ)) (left : List ℕ)
    → Err e ≡ end_of until last number → IsRestPut (rest_at ended (end_of until last number)) before before left left (Err e)
gap_put ended until last number e before left is = by_kind (is_gap last (last_moment until last)) is
  where
    end : Bool → Result ℕ CaptureFault
    end b = elim b [ true ↦ Err (answer.Gap number) | false ↦ Ok (last_moment until last) ]

    by_kind : (b : Bool) → Err e ≡ end b → IsRestPut (rest_at ended (end b)) before before left left (Err e)
    by_kind true is =
        subst (λ (f : CaptureFault). IsRestPut (rest_at ended (end true)) before before left left (Err f)) (sym (ap (fault_or e) is))
        (refl, nothing_passed before left)
    by_kind false is = absurd (cc is)

-- a walk up to a gap, by what the code does with a packet before it
abbrev pub WalksUpToGap : {X Y : Type 0} → (inner : Y → X) → (takes : PlacedPacket → X → X → Result Unit CaptureFault → Type 0) → (old new : InputState)
    → (y y' : Y) → Result Walked CaptureFault → Type 0
WalksUpToGap inner takes old new y y' r = Walks (λ packet y y' r. TakesUpToGap takes packet (inner y) (inner y') r) (λ f e. e ≡ answer.Pcap f) old new y y' r

module _ {S T : Type 0} (work : Work S T) where
  none_left : (link : LinkType) (at : Place) (s : S) → with_packets work link at [] s ≡ record { state = s; moment = at.before; fault = None }
  unfolding with_packets
  none_left link at s = refl

  -- the course behind a packet, by whether too many entries are pending there
  abbrev behind_packet : LinkType → Place → Captured → List Captured → S → (is_full : Bool) → Course S
  behind_packet link at packet more after is_full = elim is_full [
    | true ↦ record { state = after; moment = (placed link at packet).moment; fault = Some (answer.Waiting at.number) }
    | false ↦ with_packets work link (place_behind at packet.stamp) more after
  ]

  -- the same, by whether a gap comes before the packet
  abbrev behind_gap : LinkType → Place → Captured → List Captured → S → (is_gap : Bool) → Course S
  behind_gap link at packet more s is_gap =
      let after = work.step (placed link at packet) s in
      elim is_gap [
        | true ↦ record { state = s; moment = at.before; fault = Some (answer.Gap at.number) }
        | false ↦ behind_packet link at packet more after (work.is_full after)
      ]

  pub by_gap : (link : LinkType) (at : Place) (packet : Captured) (more : List Captured) (s : S) (b : Bool)
      → is_gap at.before (placed link at packet).moment ≡ b → with_packets work link at (packet ∷ more) s ≡ behind_gap link at packet more s b
  unfolding with_packets
  by_gap link at packet more s b is = ap (behind_gap link at packet more s) is

  pub by_room : (link : LinkType) (at : Place) (packet : Captured) (more : List Captured) (s : S) (b : Bool)
      → is_gap at.before (placed link at packet).moment ≡ false → work.is_full (work.step (placed link at packet) s) ≡ b
      → with_packets work link at (packet ∷ more) s ≡ behind_packet link at packet more (work.step (placed link at packet) s) b
  by_room link at packet more s b none is =
      by_gap link at packet more s false none ∙ ap (behind_packet link at packet more (work.step (placed link at packet) s)) is

  -- the state after one packet, whether or not too many entries are pending then
  after_one : (link : LinkType) (at : Place) (packet : Captured) (s : S) → is_gap at.before (placed link at packet).moment ≡ false
      → (with_packets work link at (packet ∷ []) s).state ≡ work.step (placed link at packet) s
  after_one link at packet s none = ap (λ (c : Course S). c.state) (by_room link at packet [] s _ none refl) ∙ by_kind (work.is_full after)
    where
      after : S
      after = work.step (placed link at packet) s

      by_kind : (b : Bool) → (behind_packet link at packet [] after b).state ≡ after
      by_kind true = refl
      by_kind false = ap (λ (c : Course S). c.state) (none_left link (place_behind at packet.stamp) after)

  -- the report after the packets of a file that has ended, behind the text of the packets
  pub rest_joined : (last number : ℕ) (s : S) (ended : ℕ → Report T)
      → ((moment : ℕ) → work.ended moment number s ≡ report_behind (work.text s) (ended moment))
      → reported work number None None (record { state = s; moment = last; fault = None })
      ≡ report_behind (work.text s) (rest_at ended (end_of work.until last number))
  rest_joined last number s ended joined = by_kind (is_gap last end)
    where
      end : ℕ
      end = last_moment work.until last

      by_kind : (b : Bool) → elim b [ true ↦ broken_off work (answer.Gap number) s | false ↦ work.ended end number s ]
          ≡ report_behind (work.text s) (rest_at ended (elim b [ true ↦ Err (answer.Gap number) | false ↦ Ok end ]))
      by_kind true = λ i. record { text = sym (append-nil (work.text s)) i; answer = Err (answer.Gap number) }
      by_kind false = joined end

-- `Is` says that the code has come to a state of the work, and its output to that state's text.
module _ {S T X : Type 0} (work : Work S T) (Is : S → X → Type 0) (out : X → OutputState) (held : X → List ℕ) (before : OutputState) (first : List ℕ) where
  -- the text of a state passed
  abbrev pub IsPassed : S → X → Type 0
  IsPassed s x = Passes before.held (out x).held first (held x) (work.text s) × ((out x).failed ≡ before.failed)

  -- the code has come to the state after a packet, or a write failed within its text
  abbrev pub IsStepped : PlacedPacket → S → X → Result Unit CaptureFault → Type 0
  IsStepped packet s x' (Ok u) = Is (work.step packet s) x' × (work.is_full (work.step packet s) ≡ false)
  IsStepped packet s x' (Err answer.Write) =
      GrowsByBeginning before.held (out x').held (first ++ work.text (work.step packet s)) × ((out x').failed ≡ before.failed || true)
  IsStepped packet s x' (Err (answer.Waiting number)) =
      Is (work.step packet s) x' × (work.is_full (work.step packet s) ≡ true) × (number ≡ packet.number)
  IsStepped packet s x' _ = ⊥

  module _ {Y : Type 0} (inner : Y → X) (takes : PlacedPacket → X → X → Result Unit CaptureFault → Type 0) where
    abbrev takes_all : PlacedPacket → Y → Y → Result Unit CaptureFault → Type 0
    takes_all packet y y' r = TakesUpToGap takes packet (inner y) (inner y') r

    record IsComeOver (link : LinkType) (at to : Place) (packets : List Captured) (s : S) (y' : Y) : Type 0 where
      end : S
      course : (more : List Captured) → with_packets work link at (packets ++ more) s ≡ with_packets work link to more end
      there : Is end (inner y')

    abbrev pub Puts : (old new : InputState) (y' : Y) → CaptureFault → Type 0
    Puts old new y' e = PutsReport work old new before.held (out (inner y')).held first (held (inner y')) (Err e)
        × ((out (inner y')).failed ≡ before.failed || is_failed_write {T = Walked} (Err e)) × (e ≡ answer.Memory → ⊥)

    -- the capture has a fault, or a read failed
    record IsFaulty (c : ReadCapture) (y' : Y) (f : PcapFault) : Type 0 where
      state : S
      there : Is state (inner y')
      so_far : (course_of work c.header c.packets).state ≡ state
      report : c.end ≡ Some f → report_in work c ≡ broken_off work (answer.Pcap f) state

    module _ (passed : (s : S) (x : X) → Is s x → IsPassed s x)
        (stepped : (packet : PlacedPacket) (s : S) (x x' : X) (r : Result Unit CaptureFault) → Is s x → takes packet x x' r → IsStepped packet s x' r) where
      come_over : (link : LinkType) (at to : Place) (packets : List Captured) (s : S) (y y' : Y) → Is s (inner y)
          → StepsOver takes_all link at packets y to y' → IsComeOver link at to packets s y'
      come_over link at to [] s y y' here steps = record {
        end = s;
        course = λ more. ap (λ (p : Place). with_packets work link p more s) (sym steps.0);
        there = subst (λ (z : Y). Is s (inner z)) (sym steps.1) here;
      }
      come_over link at to (packet ∷ packets) s y y' here steps =
          elim (steps.1) [
            | inl gap ↦ absurd (cc gap.1)
            | inr taken ↦
                let next = stepped (placed link at packet) s (inner y) (inner steps.0) (Ok tt) here taken.1 in
                let rest = come_over link (place_behind at packet.stamp) to packets (work.step (placed link at packet) s) steps.0 y' next.0 steps.2 in
                record {
                  end = rest.end;
                  course = λ more. by_room work link at packet (packets ++ more) s false taken.0 next.1 ∙ rest.course more;
                  there = rest.there;
                }
          ]

      module _ (y : Y) (here : Is work.start (inner y)) where
        over : (form : Form) (to : Place) (packets : List Captured) (y' : Y) → StepsOver takes_all form.link at_first packets y to y' →
            IsComeOver form.link at_first to packets work.start y'
        over form to packets y' steps = come_over form.link at_first to packets work.start y y' here steps

        course_here : (form : Form) (to : Place) (packets : List Captured) (y' : Y) (all : IsComeOver form.link at_first to packets work.start y')
            → with_packets work form.link at_first packets work.start ≡ record { state = all.end; moment = to.before; fault = None }
        course_here form to packets y' all =
            ap (λ (ps : List Captured). with_packets work form.link at_first ps work.start) (sym (append-nil packets)) ∙ all.course [] ∙
            none_left work form.link to all.end

        faulty : (c : ReadCapture) (y' : Y) (f : PcapFault) (header : Result Form PcapFault) → c.header ≡ header →
            Captures c.bytes header c.packets c.end → StepsOverAll takes_all header c.packets y y' → IsFaulty c y' f
        faulty c y' f (Err g) is_header captures same = record {
          state = work.start;
          there = subst (λ (z : Y). Is work.start (inner z)) (sym same) here;
          so_far = ap (λ (h : Result Form PcapFault). (course_of work h c.packets).state) is_header;
          report = λ ends. let same : g ≡ f = ap (λ (o : Option PcapFault). unwrap_or o g) (sym captures.2 ∙ ends) in
              ap (λ (h : Result Form PcapFault). report_of work h c.packets c.end) is_header ∙
              ap (λ (g : PcapFault). broken_off work (answer.Pcap g) work.start) same;
        }
        faulty c y' f (Ok form) is_header captures (to, steps) =
            let all = over form to c.packets y' steps in
            let course = ap (λ (h : Result Form PcapFault). course_of work h c.packets) is_header ∙ course_here form to c.packets y' all in
            record {
              state = all.end;
              there = all.there;
              so_far = ap (λ (k : Course S). k.state) course;
              report = λ ends. (λ i. reported work (length c.packets + 1) (ends i) (course i).fault (course i));
            }

        by_fault : (c : ReadCapture) (old new : InputState) (y' : Y) (f : PcapFault) → IsFaulty c y' f → (b : Bool) → is_read f ≡ b →
            IsEndedByFault b c f old new → IsEndedBy work c old new (Err (answer.Pcap f)) ×
            Passes before.held (out (inner y')).held first (held (inner y')) (if is_read f then packets_text work c else (report_in work c).text)
        by_fault c old new y' f it true is ended = (
          rw is ended,
          rw is (subst (λ (s : S). Passes before.held (out (inner y')).held first (held (inner y')) (work.text s)) (sym it.so_far)
              (passed it.state (inner y') it.there).0),
        )
        by_fault c old new y' f it false is ended =
            let report = it.report ended.0 in (
              rw is (ap (λ (r : Report T). r.answer) report, ended.1, ended.2),
              rw is (subst (λ (r : Report T). Passes before.held (out (inner y')).held first (held (inner y')) r.text) (sym report)
                  (passed it.state (inner y') it.there).0),
            )

        -- the packet at which the work ended
        module _ (c : ReadCapture) (old new : InputState) (y' : Y) (e : CaptureFault) (it : IsStopped takes_all c old new y y' e) where
          all : IsComeOver it.form.link at_first it.to it.some work.start it.between
          all = over it.form it.to it.some it.between it.steps

          course : (k : Course S) → with_packets work it.form.link it.to (it.last ∷ []) all.end ≡ k → course_of work c.header c.packets ≡ k
          course k is = (λ i. course_of work (it.header i) (it.packets i)) ∙ all.course (it.last ∷ []) ∙ is

          within_packets : (number : ℕ) → number ≡ it.to.number → number ≤ length c.packets
          within_packets number is =
              let count : length c.packets ≡ length it.some + 1 = ap (λ (ps : List Captured). length ps) it.packets ∙ length-append it.some (it.last ∷ []) in
              let numbered : it.to.number ≡ 1 + length it.some = steps_counted takes_all it.form.link at_first it.to it.some y it.between it.steps in
              omega (arith, count, numbered, is)

          -- the report that this packet ends
          broken : (s : S) (moment : ℕ) (f : CaptureFault) → Is s (inner y')
              → with_packets work it.form.link it.to (it.last ∷ []) all.end ≡ record { state = s; moment = moment; fault = Some f }
              → ((report_in work c).answer ≡ Err f) × Passes before.held (out (inner y')).held first (held (inner y')) (report_in work c).text
              × ((out (inner y')).failed ≡ before.failed)
          broken s moment f there is =
              let whole = course (record { state = s; moment = moment; fault = Some f }) is in
              let report : report_in work c ≡ broken_off work f s =
              λ i. reported work (length c.packets + 1) (it.end i) (whole i).fault (whole i) in
              let put = passed s (inner y') there in (
                ap (λ (r : Report T). r.answer) report,
                subst (λ (r : Report T). Passes before.held (out (inner y')).held first (held (inner y')) r.text) (sym report) put.0,
                put.1,
              )

        -- the walk ended early
        pub reported_early : (old new : InputState) (y' : Y) (e : CaptureFault) → WalksUpToGap inner takes old new y y' (Err e) → Puts old new y' e
        reported_early old new y' e walks = by_end walks.ended
          where
            c : ReadCapture
            c = walks.read

            puts : (f : CaptureFault) → IsEndedBy work c old new (Err f) →
                IsPutBy (is_failed_write {T = T} (Err f)) work c new before.held (out (inner y')).held first (held (inner y')) (Err f)
                → PutsReport work old new before.held (out (inner y')).held first (held (inner y')) (Err f)
            puts f ended put = record { read = c; takes = walks.takes_in; capture = walks.capture; ended = ended; put = put }

            by_step : (it : IsStopped takes_all c old new y y' e) (f : CaptureFault) → is_gap it.to.before (placed it.form.link it.to it.last).moment ≡ false
                → IsStepped (placed it.form.link it.to it.last) (all c old new y' e it).end (inner y') (Err f) → Puts old new y' f
            by_step it answer.Write none begun =
                let state = ap (λ (k : Course S). k.state) (course c old new y' e it _ refl) ∙
                after_one work it.form.link it.to it.last (all c old new y' e it).end none in (
                  puts answer.Write tt (inl (subst (λ (s : S). GrowsByBeginning before.held (out (inner y')).held (first ++ work.text s)) (sym state) begun.0)),
                  begun.1,
                  λ is. absurd (cc is),
                )
            by_step it (answer.Waiting number) none full =
                let at = broken c old new y' e it _ _ (answer.Waiting it.to.number) full.0
                (by_room work it.form.link it.to it.last [] (all c old new y' e it).end true none full.1) in (
                  puts (answer.Waiting number)
                      (at.0 ∙ ap (λ (n : ℕ). Err (answer.Waiting n)) (sym full.2), inl (within_packets c old new y' e it number full.2), it.failed) at.1,
                  at.2 ∙ sym (or-false before.failed),
                  λ is. absurd (cc is),
                )
            by_step it _ none never = absurd never

            by_gap_before : (it : IsStopped takes_all c old new y y' e) → is_gap it.to.before (placed it.form.link it.to it.last).moment ≡ true
                → inner y' ≡ inner it.between → Puts old new y' (answer.Gap it.to.number)
            by_gap_before it gap same =
                let there = subst (λ (x : X). Is (all c old new y' e it).end x) (sym same) (all c old new y' e it).there in
                let at = broken c old new y' e it _ _ (answer.Gap it.to.number) there
                (by_gap work it.form.link it.to it.last [] (all c old new y' e it).end true gap) in (
                  puts (answer.Gap it.to.number) (at.0, inl (within_packets c old new y' e it it.to.number refl), it.failed) at.1,
                  at.2 ∙ sym (or-false before.failed),
                  λ is. absurd (cc is),
                )

            by_stop : (it : IsStopped takes_all c old new y y' e) → takes_all (placed it.form.link it.to it.last) it.between y' (Err e) → Puts old new y' e
            by_stop it (inl gap) = subst (Puts old new y') (sym (ap (fault_or e) gap.1)) (by_gap_before it gap.0 gap.2)
            by_stop it (inr (none, taken)) =
                by_step it e none (stepped (placed it.form.link it.to it.last) (all c old new y' e it).end (inner it.between) (inner y') (Err e)
                (all c old new y' e it).there taken)

            by_end : IsBrokenOff takes_all (λ f it. it ≡ answer.Pcap f) c old new y y' e ⊎ IsStopped takes_all c old new y y' e → Puts old new y' e
            by_end (inl it) =
                let is = faulty c y' it.fault c.header refl walks.capture it.steps in
                let both = by_fault c old new y' it.fault is (is_read it.fault) refl it.ended in
                let put : Puts old new y' (answer.Pcap it.fault) =
                (puts (answer.Pcap it.fault) both.0 both.1, (passed is.state (inner y') is.there).1 ∙ sym (or-false before.failed), λ is. absurd (cc is)) in
                subst (Puts old new y') (sym it.given) put
            by_end (inr it) = by_stop it it.stops

        -- the walk came to the end of the capture
        module _ (old new : InputState) (y' : Y) (w : Walked) (walks : WalksUpToGap inner takes old new y y' (Ok w)) where
          abbrev the_end : Place
          the_end = record { first = walks.ended.first; before = w.last; number = w.packets + 1 }

          to_the_end : IsComeOver walks.ended.form.link at_first the_end walks.read.packets work.start y'
          to_the_end = over walks.ended.form the_end walks.read.packets y' walks.ended.steps

          pub come_to_the_end : (s : S) × Is s (inner y')
          come_to_the_end = (to_the_end.end, to_the_end.there)

          -- then the end was put
          pub reported_well : (after : Option (List ℕ)) (left : List ℕ) (it : Result T CaptureFault) (rest : Report T)
              → ((s : S) → Is s (inner y') → reported work (w.packets + 1) None None (record { state = s; moment = w.last; fault = None })
              ≡ report_behind (work.text s) rest)
              → IsRestPut rest (out (inner y')).held after (held (inner y')) left it → PutsReport work old new before.held after first left it
          reported_well after left it rest joined put = by_answer it put
            where
              c : ReadCapture
              c = walks.read

              s : S
              s = to_the_end.end

              counted : length c.packets ≡ w.packets
              counted = let numbered : w.packets + 1 ≡ 1 + length c.packets =
                  steps_counted takes_all walks.ended.form.link at_first the_end c.packets y y' walks.ended.steps in omega (arith, numbered)

              report : report_in work c ≡ report_behind (work.text s) rest
              report = (λ i. report_of work (walks.ended.header i) c.packets (walks.ended.end i))
                  ∙ ap (λ (k : Course S). reported work (length c.packets + 1) None k.fault k) (course_here walks.ended.form the_end c.packets y' to_the_end)
                  ∙ ap (λ (n : ℕ). reported work (n + 1) None None (record { state = s; moment = w.last; fault = None })) counted
                  ∙ joined s to_the_end.there

              behind : Passes before.held (out (inner y')).held first (held (inner y')) (work.text s)
              behind = (passed s (inner y') to_the_end.there).0

              whole : Passes (out (inner y')).held after (held (inner y')) left rest.text → Passes before.held after first left (report_in work c).text
              whole p = subst (λ (r : Report T). Passes before.held after first left r.text) (sym report)
                  (both_passed before.held (out (inner y')).held after first (held (inner y')) left (work.text s) rest.text behind p)

              begun : GrowsByBeginning (out (inner y')).held after (held (inner y') ++ rest.text) →
                  GrowsByBeginning before.held after (first ++ (report_in work c).text)
              begun g = subst (λ (r : Report T). GrowsByBeginning before.held after (first ++ r.text)) (sym report)
                  (broken_behind before.held (out (inner y')).held after first (held (inner y')) (work.text s) rest.text behind g)

              answered : (report_in work c).answer ≡ rest.answer
              answered = ap (λ (r : Report T). r.answer) report

              puts : (it : Result T CaptureFault) → IsEndedBy work c old new it → IsPutBy (is_failed_write it) work c new before.held after first left it →
                  PutsReport work old new before.held after first left it
              puts it ended put = record { read = c; takes = walks.takes_in; capture = walks.capture; ended = ended; put = put }

              by_answer : (it : Result T CaptureFault) → IsRestPut rest (out (inner y')).held after (held (inner y')) left it →
                  PutsReport work old new before.held after first left it
              by_answer (Ok x) p = puts (Ok x) (answered ∙ p.0, walks.ended.at_end, walks.ended.failed) (whole p.1)
              by_answer (Err (answer.Gap n)) p = puts (Err (answer.Gap n)) (answered ∙ p.0, inr walks.ended.at_end, walks.ended.failed) (whole p.1)
              by_answer (Err (answer.Waiting n)) p = puts (Err (answer.Waiting n)) (answered ∙ p.0, inr walks.ended.at_end, walks.ended.failed) (whole p.1)
              by_answer (Err answer.Write) p = puts (Err answer.Write) tt (inr (walks.ended.end, walks.ended.at_end, begun p))
              by_answer _ p = absurd p
