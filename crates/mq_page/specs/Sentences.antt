-- The sentences of faults. Those of captures and blocks are what the program says after their numbers.
use Rattle.std.specs.Prelude.{ℕ, List, ◌++◌, codes}
use Rattle.std.specs.Fmt.{decimal}
use Rattle.mq_check.specs.declared.unjudged.Unjudged.{Unjudged}
use Rattle.mq_check.specs.declared.unjudged.Unjudged.TheVariants.{NotUnderstood, OutOfOrder, NoMessage, NoQuery, LimitsExceeded}
use Rattle.mq_convert.specs.declared.fault.BlockFault.{BlockFault}
use Rattle.mq_convert.specs.declared.fault.BlockFault.TheVariants as block
use Rattle.mq_link.specs.declared.configuration.ConfigFault.{ConfigFault}
use Rattle.mq_link.specs.declared.configuration.ConfigFault.TheVariants as config
use Rattle.mq_link.specs.declared.configuration.LimitName.{LimitName}
use Rattle.mq_link.specs.declared.configuration.LimitName.TheVariants as limit
use Rattle.mq_pcap.specs.declared.fault.PcapFault.{PcapFault}
use Rattle.mq_pcap.specs.declared.fault.PcapFault.TheVariants as pcap
use Rattle.mq_page.specs.declared.page_fault.PageFault.{PageFault}
use Rattle.mq_page.specs.declared.page_fault.PageFault.TheVariants.{Full, Memory, Capture, Gap, Waiting, ConversionRead, Conversion, UntilTooLarge, Configuration, NothingJudged}

-- a sentence about a record
abbrev pub at_record : (number : ℕ) → (said : List ℕ) → List ℕ
at_record number said = codes "record " ++ (decimal number ++ said)

-- a fault of a capture
abbrev pub capture_sentence : PcapFault → List ℕ
capture_sentence pcap.Read = codes "a read of the capture failed"
capture_sentence pcap.Magic = codes "it is no classic capture file"
capture_sentence pcap.Version = codes "the version of the file is not 2.4"
capture_sentence pcap.LinkType = codes "the link type is neither Ethernet nor raw IP"
capture_sentence (pcap.CutHeader number) = at_record number (codes ": the file ends within a header")
capture_sentence (pcap.CutData number) = at_record number (codes ": the file ends within a packet")
capture_sentence (pcap.TooLong number) = at_record number (codes ": the packet has more than 262144 bytes")
capture_sentence pcap.Endless = codes "the file has more than 4294967295 packets"

-- a fault of a block of a capture that is converted
abbrev pub block_sentence : BlockFault → List ℕ
block_sentence block.NoCapture = codes "the file is no capture"
block_sentence block.Version = codes "the version of the file is not 2.4, or of a pcapng file not 1"
block_sentence block.Order = codes "the section is in no byte order"
block_sentence block.Length = codes "the block has an impossible length"
block_sentence block.Interface = codes "the packet is of an interface that the file did not describe before"
block_sentence block.Interfaces = codes "the section describes more than 1024 interfaces"
block_sentence block.Moment = codes "the packet is from before 1970 or after 2106"
block_sentence block.Cut = codes "the file ends within the block"
block_sentence block.Endless = codes "the file has more than 4294967295 blocks before it"

abbrev pub limit_sentence : LimitName → List ℕ
limit_sentence limit.Groups = codes "the limit of groups is not within 1 to 65535"
limit_sentence limit.GroupSources = codes "the limit of sources of a group is not within 1 to 1024"
limit_sentence limit.Sources = codes "the limit of sources is not within 1 to 65535"
limit_sentence limit.Scheduled = codes "the limit of schedules is not within 1 to 65535"

-- a fault of a configuration, in the words of include/mquerier.h
abbrev pub configuration_sentence : ConfigFault → List ℕ
configuration_sentence config.Robustness = codes "the robustness variable is not within 1 to 7"
configuration_sentence config.QueryInterval = codes "the query interval is not within 1 to 31744 seconds"
configuration_sentence config.ResponseInterval = codes "the response interval is out of range or not below the query interval"
configuration_sentence config.LastMember = codes "the last member query interval is out of range"
configuration_sentence (config.Limit which) = limit_sentence which
configuration_sentence config.OwnAddress = codes "no router may send queries from the own address"
configuration_sentence config.LastMemberCount = codes "the last member query count is not within 0 to 7"

-- the reason why a check judged nothing
abbrev pub unjudged_sentence : Unjudged → List ℕ
unjudged_sentence NotUnderstood = codes "every second packet or more is cut or isn't read"
unjudged_sentence OutOfOrder = codes "every second packet or more has a stamp that goes back"
unjudged_sentence NoMessage = codes "there is no message of this family"
unjudged_sentence NoQuery = codes "no query from this address was seen"
unjudged_sentence LimitsExceeded = codes "the limits refuse records about too many groups"

abbrev pub sentence : PageFault → List ℕ
sentence Full = codes "the text is longer than the memory for it"
sentence Memory = codes "out of memory"
sentence (Capture f) = capture_sentence f
sentence (Gap number) = at_record number (codes ": more than a day lies between the packet before and this one, or the end")
sentence (Waiting number) = at_record number (codes ": more than 65536 queries wait for those that they go with")
sentence ConversionRead = codes "a read of the capture failed"
sentence (Conversion number f) = (codes "block " ++ (decimal number ++ codes ": ")) ++ block_sentence f
sentence UntilTooLarge = codes "until is too large"
sentence (Configuration f) = configuration_sentence f
sentence (NothingJudged why) = unjudged_sentence why
