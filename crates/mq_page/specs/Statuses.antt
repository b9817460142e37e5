-- Faults as numbers.
use Rattle.std.specs.Prelude.{ℕ}
use Rattle.mq_check.specs.declared.unjudged.Unjudged.{Unjudged}
use Rattle.mq_check.specs.declared.unjudged.Unjudged.TheVariants.{NotUnderstood, OutOfOrder, NoMessage, NoQuery, LimitsExceeded}
use Rattle.mq_convert.specs.declared.fault.BlockFault.{BlockFault}
use Rattle.mq_convert.specs.declared.fault.BlockFault.TheVariants as block
use Rattle.mq_link.specs.declared.configuration.ConfigFault.{ConfigFault}
use Rattle.mq_link.specs.declared.configuration.ConfigFault.TheVariants as config
use Rattle.mq_link.specs.declared.configuration.LimitName.{LimitName}
use Rattle.mq_link.specs.declared.configuration.LimitName.TheVariants as limit
use Rattle.mq_pcap.specs.declared.fault.PcapFault.{PcapFault}
use Rattle.mq_pcap.specs.declared.fault.PcapFault.TheVariants as capture
use Rattle.mq_page.specs.declared.page_fault.PageFault.{PageFault}
use Rattle.mq_page.specs.declared.page_fault.PageFault.TheVariants.{Full, Memory, Capture, Gap, Waiting, ConversionRead, Conversion, UntilTooLarge, Configuration, NothingJudged}

-- the status of a capture's fault: 10 more than the number of the fault in the texts of the program
abbrev pub capture_status : PcapFault → ℕ
capture_status capture.Read = 11
capture_status capture.Magic = 12
capture_status capture.Version = 13
capture_status capture.LinkType = 14
capture_status (capture.CutHeader number) = 15
capture_status (capture.CutData number) = 16
capture_status (capture.TooLong number) = 17
capture_status capture.Endless = 18

-- the status of a block's fault: 30 more
abbrev pub block_status : BlockFault → ℕ
block_status block.NoCapture = 32
block_status block.Version = 33
block_status block.Order = 34
block_status block.Length = 35
block_status block.Interface = 36
block_status block.Interfaces = 37
block_status block.Moment = 38
block_status block.Cut = 39
block_status block.Endless = 40

abbrev pub limit_status : LimitName → ℕ
limit_status limit.Groups = 61
limit_status limit.GroupSources = 62
limit_status limit.Sources = 63
limit_status limit.Scheduled = 64

-- the status of a configuration's fault: 50 more
abbrev pub configuration_status : ConfigFault → ℕ
configuration_status config.Robustness = 51
configuration_status config.QueryInterval = 52
configuration_status config.ResponseInterval = 53
configuration_status config.LastMember = 54
configuration_status (config.Limit which) = limit_status which
configuration_status config.OwnAddress = 56
configuration_status config.LastMemberCount = 57

-- the status of a check that judged nothing
abbrev pub unjudged_status : Unjudged → ℕ
unjudged_status NotUnderstood = 71
unjudged_status OutOfOrder = 72
unjudged_status NoMessage = 73
unjudged_status NoQuery = 74
unjudged_status LimitsExceeded = 75

abbrev pub status_of : PageFault → ℕ
status_of Full = 1
status_of Memory = 2
status_of (Capture f) = capture_status f
status_of (Gap number) = 20
status_of (Waiting number) = 21
status_of UntilTooLarge = 22
status_of ConversionRead = 31
status_of (Conversion number f) = block_status f
status_of (Configuration f) = configuration_status f
status_of (NothingJudged why) = unjudged_status why

-- the number of the record with the fault, or 0
abbrev pub record_of : PcapFault → ℕ
record_of capture.Read = 0
record_of capture.Magic = 0
record_of capture.Version = 0
record_of capture.LinkType = 0
record_of (capture.CutHeader number) = number
record_of (capture.CutData number) = number
record_of (capture.TooLong number) = number
record_of capture.Endless = 0

-- the number of the record or the block with the fault, or 0
abbrev pub number_of : PageFault → ℕ
number_of Full = 0
number_of Memory = 0
number_of (Capture f) = record_of f
number_of (Gap number) = number
number_of (Waiting number) = number
number_of UntilTooLarge = 0
number_of ConversionRead = 0
number_of (Conversion number f) = number
number_of (Configuration f) = 0
number_of (NothingJudged why) = 0
