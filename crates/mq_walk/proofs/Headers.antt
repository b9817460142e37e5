-- The header of a capture.
use Rattle.std.proofs.Common.{◌≡◌, ℕ, ◌<◌, List, length, Err, refl}
use Rattle.std.proofs.lemmas.Bool.{lt-ltb}
use Rattle.mq_pcap.specs.declared.fault.PcapFault.TheVariants as fault
use Rattle.mq_pcap.specs.Capture.{header_of}

-- fewer bytes than a header has are a file whose header is cut
pub cut_header : (bytes : List ℕ) → length bytes < 24 → header_of bytes ≡ Err (fault.CutHeader 0)
unfolding header_of
cut_header bytes short = rw (lt-ltb (length bytes) 24 short) refl
