-- The laws of captures.
use Rattle.std.specs.Prelude.{◌≡◌, ℕ, List, ◌++◌, Option, Some, Result}
use Rattle.mq_pcap.specs.declared.form.Form.{Form}
use Rattle.mq_pcap.specs.declared.fault.PcapFault.{PcapFault}
use Rattle.mq_pcap.specs.declared.fault.PcapFault.TheVariants as fault
use Rattle.mq_pcap.specs.Capture.{Captured, Captures, record_fault}

-- a file is one capture: its header, its packets and its end
abbrev pub OneCapture : Type 0
OneCapture =
    (bytes : List ℕ) (header header' : Result Form PcapFault) (packets packets' : List Captured)
    (end end' : Option PcapFault)
    → Captures bytes header packets end → Captures bytes header' packets' end'
    → (header ≡ header') × (packets ≡ packets') × (end ≡ end')

-- these faults of a prefix are faults of the whole
abbrev pub FaultsStay : Type 0
FaultsStay =
    (form : Form) (number : ℕ) (bytes more : List ℕ)
    → (record_fault form number bytes ≡ Some (fault.TooLong number)
    → record_fault form number (bytes ++ more) ≡ Some (fault.TooLong number))
    × (record_fault form number bytes ≡ Some fault.Endless
    → record_fault form number (bytes ++ more) ≡ Some fault.Endless)
