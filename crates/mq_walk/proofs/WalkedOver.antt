-- A walk over a capture: the packets that were read, and how it ends.
use Rattle.std.proofs.Common.{◌≡◌, ◌⊎◌, ℕ, ◌+◌, ◌<◌, ◌||◌, ◌≤◌, ◌^◌, Bool, true, false, List, [], ◌∷◌, ◌++◌, length, drop, take, Option, None, Some}
use Rattle.std.proofs.Common.{Result, Ok, Err, unwrap_or, refl, ap, sym, subst, ◌∙◌, append-nil, inl, inr, arith}
use Rattle.std.proofs.Math.Bool.{or-false, or-true}
use Rattle.std.proofs.Math.Seq.{drop-append_seam}
use Rattle.std.specs.Io.KnownBytes.{IsAtEnd}
use Rattle.mq_pcap.specs.declared.fault.PcapFault.{PcapFault}
use Rattle.mq_pcap.specs.declared.fault.PcapFault.TheVariants as fault
use Rattle.mq_pcap.specs.declared.form.Form.{Form}
use Rattle.mq_pcap.specs.declared.link_type.LinkType.{LinkType}
use Rattle.mq_pcap.specs.declared.reader_state.Packet.{Packet}
use Rattle.mq_pcap.specs.declared.reader_state.PcapReader.{PcapReader}
use Rattle.mq_pcap.specs.Capture.{Captured, AreRecords, header_of, is_read}
use Rattle.mq_pcap.specs.Filling.{InputState, Takes}
use Rattle.mq_pcap.specs.Reading.{Opens, Reads, form_of}
use Rattle.mq_pcap.proofs.FileHeader.{header_of-append}
use Rattle.mq_pcap.proofs.Filled.{Takes-nil, Takes-trans}
use Rattle.mq_walk.specs.declared.stamps.Stamps.{Stamps}
use Rattle.mq_walk.specs.declared.walked.Walked.{Walked}
use Rattle.mq_walk.specs.PlacedPackets.{goes_back, moment_of, Place, PlacedPacket, at_first, place_behind, placed}
use Rattle.mq_walk.specs.Walking.{EndsWalk, IsEndedByFault, StepsOver, Walks, WalksBehind}
use Rattle.mq_walk.proofs.Headers.{cut_header}
use Rattle.mq_walk.proofs.ReadSoFar.{AreRecords-assoc, begun_answer, begun_ends, faulty_answer}

-- the fault of a result, or another one
abbrev pub fault_or : {T E : Type 0} → E → Result T E → E
fault_or e (Ok x) = e
fault_or e (Err f) = f

-- a packet in the buffer
abbrev captured : Packet → (buffer : List ℕ) → Captured
captured packet buffer = record { stamp = packet.stamp_ms; bytes = take packet.length buffer }

module _ {X E : Type 0} (takes : PlacedPacket → X → X → Result Unit E → Type 0) where
  -- one packet more was taken
  pub steps_on : (link : LinkType) (at to : Place) (packets : List Captured) (packet : Captured) (x mid x' : X)
      → StepsOver takes link at packets x to mid → takes (placed link to packet) mid x' (Ok tt)
      → StepsOver takes link at (packets ++ packet ∷ []) x (place_behind to packet.stamp) x'
  steps_on link at to [] packet x mid x' steps step = (
    x',
    subst (λ (p : Place). takes (placed link p packet) x x' (Ok tt)) steps.0
        (subst (λ (m : X). takes (placed link to packet) m x' (Ok tt)) steps.1 step),
    (ap (λ (p : Place). place_behind p packet.stamp) steps.0, refl),
  )
  steps_on link at to (first ∷ packets) packet x mid x' steps step =
      (steps.0, steps.1, steps_on link (place_behind at first.stamp) to packets packet steps.0 mid x' steps.2 step)

  -- the number of the next packet
  pub steps_counted : (link : LinkType) (at to : Place) (packets : List Captured) (x x' : X) → StepsOver takes link at packets x to x' →
      to.number ≡ at.number + length packets
  steps_counted link at to [] x x' steps = let same = ap (λ (p : Place). p.number) steps.0 in omega (arith, same)
  steps_counted link at to (packet ∷ packets) x x' steps =
      let rest = steps_counted link (place_behind at packet.stamp) to packets steps.0 x' steps.2 in omega (arith, rest)

  -- Some bytes after the file's header were read as packets, which the step took. Whatever follows, its records are
  -- those after these packets.
  pub record IsWalkedTo (form : Form) (old now : InputState) (x : X) (to : Place) (x' : X) : Type 0 where
    pub bytes : List ℕ
    pub packets : List Captured
    pub takes_in : Takes old now bytes
    pub records : (rest : List ℕ) (more : List Captured) (end : Option PcapFault) → AreRecords form to.number rest more end →
        AreRecords form 1 (bytes ++ rest) (packets ++ more) end
    pub steps : StepsOver takes form.link at_first packets x to x'

  pub none_walked : (form : Form) (s : InputState) (x : X) → IsWalkedTo form s s x at_first x
  none_walked form s x = record {
    bytes = [];
    packets = [];
    takes_in = Takes-nil s;
    records = λ rest more end h. h;
    steps = (refl, refl);
  }

  pub next_walked : (form : Form) (old mid new : InputState) (x between x' : X) (to : Place) (buffer : List ℕ) (packet : Packet)
      → IsWalkedTo form old mid x to between → Reads form to.number mid new buffer (Ok (Some packet))
      → takes (placed form.link to (captured packet buffer)) between x' (Ok tt) → IsWalkedTo form old new x (place_behind to packet.stamp_ms) x'
  next_walked form old mid new x between x' to buffer packet walked reads step =
      record {
        bytes = walked.bytes ++ reads.bytes;
        packets = walked.packets ++ (captured packet buffer ∷ []);
        takes_in = Takes-trans old mid new walked.bytes reads.bytes walked.takes_in reads.takes;
        records = λ rest more end h.
            let all = walked.records (reads.bytes ++ rest) (captured packet buffer ∷ more) end (reads.bytes, rest, refl, reads.answers.1, reads.answers.0, h) in
            AreRecords-assoc form 1 walked.bytes reads.bytes rest walked.packets (captured packet buffer ∷ []) more end all;
        steps = steps_on form.link at_first to walked.packets (captured packet buffer) x between x' walked.steps step;
      }

  -- a packet as the code hands it on
  pub placed_as : (link link' : LinkType) (stamps stamps' : Stamps) (last moment number stamp : ℕ) (back : Bool) (frame : List ℕ) (x x' : X) (r : Result Unit E)
      → link ≡ link' → last ≡ stamps.before → moment ≡ moment_of stamps.first stamps.before stamp → back ≡ goes_back stamps.first stamps.before stamp
      → takes (record { number = number + 1; before = last; moment = moment; goes_back = back; link = link; frame = frame }) x x' r
      → takes (placed link' (record { first = stamps.first; before = stamps.before; number = number + 1 }) (record { stamp = stamp; bytes = frame })) x x' r
  placed_as link link' stamps stamps' last moment number stamp back frame x x' r is_link is_last is_moment is_back step =
      subst (λ (p : PlacedPacket). takes p x x' r)
      (λ i. record { number = number + 1; before = is_last i; moment = is_moment i; goes_back = is_back i; link = is_link i; frame = frame }) step

-- the moments of a walk are in range
pub moment_within : (moment : ℕ) (first : Option ℕ) (before stamp : ℕ) → moment ≡ moment_of first before stamp → stamp ≤ 2 ^ 53 → before ≤ 2 ^ 53 →
    moment ≤ 2 ^ 53
moment_within moment first before stamp is in_range before_in_range = grind (arith, is)

-- the place after a packet, as the code counts it
pub place_as : (stamps stamps' : Stamps) (moment number stamp : ℕ) → stamps' ≡ record { first = Some (unwrap_or stamps.first stamp); before = moment }
    → moment ≡ moment_of stamps.first stamps.before stamp
    → place_behind (record { first = stamps.first; before = stamps.before; number = number }) stamp
    ≡ record { first = stamps'.first; before = stamps'.before; number = number + 1 }
place_as stamps stamps' moment number stamp are is_moment =
    (λ i. record { first = Some (unwrap_or stamps.first stamp); before = sym is_moment i; number = number + 1 })
    ∙ ap (λ (s : Stamps). record { first = s.first; before = s.before; number = number + 1 }) (sym are)

module _ {X E : Type 0} (takes : PlacedPacket → X → X → Result Unit E → Type 0) (gives : PcapFault → E → Type 0) where
  -- the input ended
  pub walked_well : (form : Form) (old mid new : InputState) (x x' : X) (first : Option ℕ) (w : Walked) (buffer : List ℕ)
      → IsWalkedTo takes form old mid x (record { first = first; before = w.last; number = w.packets + 1 }) x' → mid.failed ≡ old.failed →
      Reads form (w.packets + 1) mid new buffer (Ok None) → WalksBehind takes gives form old new x x' (Ok w)
  walked_well form old mid new x x' first w buffer walked same reads =
      record {
        bytes = walked.bytes ++ reads.bytes;
        packets = walked.packets;
        end = None;
        takes_in = Takes-trans old mid new walked.bytes reads.bytes walked.takes_in reads.takes;
        records = rw (← append-nil walked.packets) (walked.records reads.bytes [] None reads.answers.0);
        ended = record {
          form = form;
          header = refl;
          end = refl;
          at_end = reads.answers.1;
          failed = reads.failed ∙ or-false mid.failed ∙ same;
          first = first;
          steps = walked.steps;
        };
      }

  -- the capture has a fault, or a read failed
  pub walked_faulty : (form : Form) (old mid new : InputState) (x x' : X) (to : Place) (buffer : List ℕ) (f : PcapFault) (e : E)
      → IsWalkedTo takes form old mid x to x' → mid.failed ≡ old.failed → Reads form to.number mid new buffer (Err f) → gives f e
      → WalksBehind takes gives form old new x x' (Err e)
  walked_faulty form old mid new x x' to buffer f e walked same reads given = by_kind (is_read f) refl
    where
      by_end : (end : Option PcapFault) → AreRecords form to.number reads.bytes [] end
          → IsEndedByFault (is_read f) (record { bytes = walked.bytes ++ reads.bytes; header = Ok form; packets = walked.packets; end = end }) f old new
          → WalksBehind takes gives form old new x x' (Err e)
      by_end end records ended = record {
        bytes = walked.bytes ++ reads.bytes;
        packets = walked.packets;
        end = end;
        takes_in = Takes-trans old mid new walked.bytes reads.bytes walked.takes_in reads.takes;
        records = rw (← append-nil walked.packets) (walked.records reads.bytes [] end records);
        ended = inl (record { fault = f; given = given; ended = ended; steps = (to, walked.steps) });
      }

      by_kind : (b : Bool) → is_read f ≡ b → WalksBehind takes gives form old new x x' (Err e)
      by_kind true is =
          let begun = begun_ends form to.number reads.bytes (begun_answer form to.number new buffer reads.bytes f is reads.answers) in
          by_end begun.0 begun.1 (rw is (reads.failed ∙ ap (λ (b : Bool). mid.failed || b) is ∙ or-true mid.failed))
      by_kind false is =
          let known = faulty_answer form to.number new buffer reads.bytes f is reads.answers in
          by_end (Some f) known.0 (rw is (refl, known.1, reads.failed ∙ ap (λ (b : Bool). mid.failed || b) is ∙ or-false mid.failed ∙ same))

  -- the step failed at a packet
  pub walked_in_part : (form : Form) (old mid new : InputState) (x between x' : X) (to : Place) (buffer : List ℕ) (packet : Packet) (e : E)
      → IsWalkedTo takes form old mid x to between → mid.failed ≡ old.failed → Reads form to.number mid new buffer (Ok (Some packet))
      → takes (placed form.link to (captured packet buffer)) between x' (Err e) → WalksBehind takes gives form old new x x' (Err e)
  walked_in_part form old mid new x between x' to buffer packet e walked same reads stops =
      record {
        bytes = walked.bytes ++ reads.bytes;
        packets = walked.packets ++ (captured packet buffer ∷ []);
        end = None;
        takes_in = Takes-trans old mid new walked.bytes reads.bytes walked.takes_in reads.takes;
        records = walked.records reads.bytes (captured packet buffer ∷ []) None (
          reads.bytes,
          [],
          sym (append-nil reads.bytes),
          reads.answers.1,
          reads.answers.0,
          refl,
        );
        ended = inr (record {
          form = form;
          header = refl;
          some = walked.packets;
          last = captured packet buffer;
          packets = refl;
          end = refl;
          to = to;
          between = between;
          steps = walked.steps;
          stops = stops;
          failed = reads.failed ∙ or-false mid.failed ∙ same;
        });
      }

  -- the header has a fault, or a read of it failed
  no_header : (old new : InputState) (x : X) (f g : PcapFault) (bytes : List ℕ) (e : E) → Takes old new bytes → header_of bytes ≡ Err g → gives f e
      → IsEndedByFault (is_read f) (record { bytes = bytes; header = Err g; packets = []; end = Some g }) f old new → Walks takes gives old new x x (Err e)
  no_header old new x f g bytes e takes_in header given ended =
      record {
        read = record { bytes = bytes; header = Err g; packets = []; end = Some g };
        takes_in = takes_in;
        capture = (header, refl, refl);
        ended = inl (record { fault = f; given = given; ended = ended; steps = refl });
      }

  pub opened_faulty : (old new : InputState) (x : X) (f : PcapFault) (e : E) → gives f e → Opens old new (Err f) → Walks takes gives old new x x (Err e)
  opened_faulty old new x f e given opens = by_answer opens.answers
    where
      by_kind : (b : Bool) → is_read f ≡ b → (length opens.bytes ≡ 24) ⊎ IsAtEnd new.ahead
          → IsEndedByFault (is_read f) (record { bytes = opens.bytes; header = Err f; packets = []; end = Some f }) f old new
      by_kind true is whole = rw is (opens.failed ∙ ap (λ (b : Bool). old.failed || b) is ∙ or-true old.failed)
      by_kind false is whole = rw is (refl, whole, opens.failed ∙ ap (λ (b : Bool). old.failed || b) is ∙ or-false old.failed)

      by_answer : ((f ≡ fault.Read) × (length opens.bytes < 24)) ⊎ ((header_of opens.bytes ≡ Err f) × ((length opens.bytes ≡ 24) ⊎ IsAtEnd new.ahead))
          → Walks takes gives old new x x (Err e)
      by_answer (inl (is, short)) =
          no_header old new x f (fault.CutHeader 0) opens.bytes e opens.takes (cut_header opens.bytes short) given
          (rw (ap is_read is) (opens.failed ∙ ap (λ (g : PcapFault). old.failed || is_read g) is ∙ or-true old.failed))
      by_answer (inr (header, whole)) = no_header old new x f f opens.bytes e opens.takes header given (by_kind (is_read f) refl whole)

  -- the bytes of the header come before those of the packets
  ended_behind : (form : Form) (packets : List Captured) (end : Option PcapFault) (header bytes : List ℕ) (old mid new : InputState) (x x' : X)
      (r : Result Walked E) → mid.failed ≡ old.failed
      → EndsWalk takes gives (record { bytes = bytes; header = Ok form; packets = packets; end = end }) mid new x x' r
      → EndsWalk takes gives (record { bytes = header ++ bytes; header = Ok form; packets = packets; end = end }) old new x x' r
  ended_behind form packets end header bytes old mid new x x' (Ok w) same it =
      record {
        form = it.form;
        header = it.header;
        end = it.end;
        at_end = it.at_end;
        failed = it.failed ∙ same;
        first = it.first;
        steps = it.steps;
      }
  ended_behind form packets end header bytes old mid new x x' (Err e) same (inr it) =
      inr (record {
        form = it.form;
        header = it.header;
        some = it.some;
        last = it.last;
        packets = it.packets;
        end = it.end;
        to = it.to;
        between = it.between;
        steps = it.steps;
        stops = it.stops;
        failed = it.failed ∙ same;
      })
  ended_behind form packets end header bytes old mid new x x' (Err e) same (inl it) =
      inl (record { fault = it.fault; given = it.given; ended = by_kind (is_read it.fault) it.ended; steps = it.steps })
    where
      by_kind : (b : Bool) → IsEndedByFault b (record { bytes = bytes; header = Ok form; packets = packets; end = end }) it.fault mid new
          → IsEndedByFault b (record { bytes = header ++ bytes; header = Ok form; packets = packets; end = end }) it.fault old new
      by_kind true ended = ended
      by_kind false ended = (ended.0, ended.1, ended.2 ∙ same)

  pub opened_well : (old mid new : InputState) (x x' : X) (capture : PcapReader) (r : Result Walked E) → Opens old mid (Ok capture) →
      WalksBehind takes gives (form_of capture) mid new x x' r → Walks takes gives old new x x' r
  opened_well old mid new x x' capture r opens walks =
      let size = opens.answers.0 in
      record {
        read = record { bytes = opens.bytes ++ walks.bytes; header = Ok (form_of capture); packets = walks.packets; end = walks.end };
        takes_in = Takes-trans old mid new opens.bytes walks.bytes opens.takes walks.takes_in;
        capture = (
          header_of-append opens.bytes walks.bytes (omega (arith, size)) ∙ opens.answers.1,
          subst (λ (bytes : List ℕ). AreRecords (form_of capture) 1 bytes walks.packets walks.end)
              (sym (ap (λ (n : ℕ). drop n (opens.bytes ++ walks.bytes)) (sym size) ∙ drop-append_seam opens.bytes walks.bytes)) walks.records,
        );
        ended = ended_behind (form_of capture) walks.packets walks.end opens.bytes walks.bytes old mid new x x' r
            (opens.failed ∙ or-false old.failed) walks.ended;
      }
