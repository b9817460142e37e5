-- The terms of the worked examples of replays.
use Rattle.std.specs.Prelude.{◌≡◌, ℕ, false, List, ◌++◌, Option, Result, Ok, Err}
use Rattle.mq_pcap.specs.declared.fault.PcapFault.{PcapFault}
use Rattle.mq_pcap.specs.declared.form.Form.{Form}
use Rattle.mq_pcap.specs.Capture.{Captured, Captures}
use Rattle.mq_link.specs.Configuration.{Configuration}
use Rattle.mq_link.specs.Counters.{Counters}
use Rattle.mq_examples.specs.Links.{octets}
use Rattle.mq_replay.specs.declared.asked.Asked.{Asked}
use Rattle.mq_walk.specs.declared.capture_fault.CaptureFault.{CaptureFault}
use Rattle.mq_walk.specs.Courses.{report_of}
use Rattle.mq_replay.specs.Report.{replay_of}

-- a file's header: least significant byte first, microseconds, Ethernet
abbrev pub file_header : List ℕ
file_header = octets 24 0xd4c3b2a10200040000000000000000000000040001000000

-- a Report of version 2 for 239.1.2.3 from 10.0.0.1, in one packet with 18 octets of padding
abbrev pub one_report : List ℕ
one_report =
    file_header
    ++ octets 16 0x00000000000000003c0000003c000000
    ++ octets 14 0x01005e0102030200000000010800
    ++ octets 20 0x4500001c00000000010200000a000001ef010203
    ++ octets 8 0x1600f8faef010203
    ++ octets 18 0

-- two packets without octets, the second one 86400001 ms after the first
abbrev pub two_packets : List ℕ
two_packets =
    file_header
    ++ octets 16 0x00000000000000000000000000000000
    ++ octets 16 0x80510100e80300000000000000000000

-- the counters of a replay in all
pub record Totals : Type 0 where
  pub received : ℕ
  pub dropped : ℕ
  pub applied : ℕ
  pub ignored : ℕ
  pub refused : ℕ
  pub sent : ℕ
  pub unsent : ℕ

abbrev pub totals_of : Result Counters CaptureFault → Result Totals CaptureFault
totals_of (Ok c) = Ok (record {
  received = c.received;
  dropped = c.dropped;
  applied = c.applied;
  ignored = c.ignored;
  refused = c.refused;
  sent = c.sent;
  unsent = c.unsent;
})
totals_of (Err fault) = Err fault

-- a replay up to a moment as text, without changed groups
abbrev pub up_to : (until : Option ℕ) → Asked
up_to until = record { until = until; changes = false; json = false }

-- the bytes are a capture, and its report has this text and this result
pub record Reports (config : Configuration) (until : Option ℕ) (bytes text : List ℕ) (answer : Result Totals CaptureFault)
    : Type 0 where
  pub header : Result Form PcapFault
  pub packets : List Captured
  pub end : Option PcapFault
  pub capture : Captures bytes header packets end
  pub text_is : (report_of (replay_of config (up_to until)) header packets end).text ≡ text
  pub answer_is : totals_of (report_of (replay_of config (up_to until)) header packets end).answer ≡ answer
