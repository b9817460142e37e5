-- Failures of the program: their statuses, and the lines on standard error.
use Rattle.std.specs.Prelude.{ℕ, zero, suc, ◌-◌, ◌==◌, Bool, true, false, if◌then◌else◌, List, [], ◌∷◌, ◌++◌, codes, take, Option, None, Some}
use Rattle.std.specs.List.{flat_map}
use Rattle.std.specs.Fmt.{decimal}
use Rattle.mq_check.specs.declared.unjudged.Unjudged.{Unjudged}
use Rattle.mq_check.specs.declared.unjudged.Unjudged.TheVariants.{NotUnderstood, OutOfOrder, NoMessage, NoQuery, LimitsExceeded}
use Rattle.mq_convert.specs.declared.counts.ConvertCounts.{ConvertCounts}
use Rattle.mq_convert.specs.declared.fault.BlockFault.{BlockFault}
use Rattle.mq_convert.specs.declared.fault.BlockFault.TheVariants as block
use Rattle.mq_convert.specs.declared.network.Network.{Network}
use Rattle.mq_convert.specs.declared.unread.LinkCount.{LinkCount}
use Rattle.mq_convert.specs.declared.unread.Unread.{Unread}
use Rattle.mq_lines.specs.Objects.{comma_before, items_from}
use Rattle.mq_link.specs.declared.configuration.ConfigFault.{ConfigFault}
use Rattle.mq_link.specs.declared.configuration.ConfigFault.TheVariants as config
use Rattle.mq_link.specs.declared.configuration.LimitName.{LimitName}
use Rattle.mq_link.specs.declared.configuration.LimitName.TheVariants as limit
use Rattle.mq_pcap.specs.declared.fault.PcapFault.{PcapFault}
use Rattle.mq_pcap.specs.declared.fault.PcapFault.TheVariants as fault
use Rattle.mquerier.specs.declared.failure.Failure.{Failure}
use Rattle.mquerier.specs.declared.failure.Failure.TheVariants.{NoAddresses, NotAnAddress, NotHex, UntilTooLarge, Configuration, Capture, Gap, Waiting, Conversion, ConversionRead, Memory, Write}

-- 2 for a fault of the command line or of a configuration, 1 for a fault of the input, the output or memory
abbrev pub status_of : Failure → ℕ
status_of NoAddresses = 2
status_of NotAnAddress = 2
status_of NotHex = 2
status_of UntilTooLarge = 2
status_of (Configuration f query_seconds response_interval) = 2
status_of (Capture f) = 1
status_of (Gap number) = 1
status_of (Waiting number) = 1
status_of (Conversion number f) = 1
status_of ConversionRead = 1
status_of Memory = 1
status_of Write = 1

-- a fault of a configuration, by its number; no option sets the Last Member Query Count
abbrev pub configuration_text : ConfigFault → List ℕ
configuration_text config.Robustness = codes "configuration fault 1"
configuration_text config.QueryInterval = codes "configuration fault 2"
configuration_text config.ResponseInterval = codes "configuration fault 3"
configuration_text config.LastMember = codes "configuration fault 4"
configuration_text (config.Limit which) = codes "configuration fault 5"
configuration_text config.OwnAddress = codes "configuration fault 6"
configuration_text config.LastMemberCount = codes "configuration fault 7"

-- a fault of a capture, by its number
abbrev pub capture_text : PcapFault → List ℕ
capture_text fault.Read = codes "capture fault 1"
capture_text fault.Magic = codes "capture fault 2"
capture_text fault.Version = codes "capture fault 3"
capture_text fault.LinkType = codes "capture fault 4"
capture_text (fault.CutHeader number) = codes "capture fault 5 at record " ++ decimal number
capture_text (fault.CutData number) = codes "capture fault 6 at record " ++ decimal number
capture_text (fault.TooLong number) = codes "capture fault 7 at record " ++ decimal number
capture_text fault.Endless = codes "capture fault 8"

-- a fault of a conversion, by its number, up to the number of the block
abbrev pub conversion_text : BlockFault → List ℕ
conversion_text block.NoCapture = codes "conversion fault 2 at block "
conversion_text block.Version = codes "conversion fault 3 at block "
conversion_text block.Order = codes "conversion fault 4 at block "
conversion_text block.Length = codes "conversion fault 5 at block "
conversion_text block.Interface = codes "conversion fault 6 at block "
conversion_text block.Interfaces = codes "conversion fault 7 at block "
conversion_text block.Moment = codes "conversion fault 8 at block "
conversion_text block.Cut = codes "conversion fault 9 at block "
conversion_text block.Endless = codes "conversion fault 10 at block "

-- The line of packets whose link type isn't read, if some were written: their number, the number for each link type
-- with a row, and the number of the others.
abbrev pub link_text : LinkCount → List ℕ
link_text row = codes "\n  " ++ decimal row.count ++ codes " of link type " ++ decimal row.link

abbrev pub others : (count : ℕ) → List LinkCount → ℕ
others count [] = count
others count (row ∷ rows) = others (count - row.count) rows

abbrev pub others_text : (count : ℕ) → List ℕ
others_text zero = []
others_text (suc n) = codes "\n  " ++ decimal (suc n) ++ codes " of others"

abbrev pub unread_line : Unread → List ℕ
unread_line unread =
    codes "mquerier: " ++ decimal unread.count ++ codes " packets of link types that aren't read"
    ++ flat_map link_text unread.links.items ++ others_text (others unread.count unread.links.items) ++ codes "\n"

-- The lines after a conversion: the number of repeated packets, the number of packets that the file records as dropped,
-- and the number of packets whose link type isn't read. A
-- line with 0 is left out.
abbrev pub repeated_line : (repeated : ℕ) → List ℕ
repeated_line zero = []
repeated_line (suc n) = codes "mquerier: " ++ decimal (suc n) ++ codes " packets that came again are left out\n"

abbrev pub dropped_line : (dropped : ℕ) → List ℕ
dropped_line zero = []
dropped_line (suc n) = codes "mquerier: the file records " ++ decimal (suc n) ++ codes " dropped packets\n"

abbrev pub unread_part : Unread → List ℕ
unread_part unread = if unread.count == 0 then [] else unread_line unread

-- the same as an object
unfoldable pub count_field : (name : List ℕ) → ℕ → List ℕ
count_field name count = name ++ decimal count

abbrev pub link_item : (is_first : Bool) → LinkCount → List ℕ
link_item is_first row =
    comma_before is_first ++ count_field (codes "{\"link\":") row.link ++ count_field (codes ",\"packets\":") row.count ++ codes "}"

abbrev pub counts_start : ConvertCounts → List ℕ
counts_start counts =
    count_field (codes "{\"converted\":{\"repeated\":") counts.repeated ++ count_field (codes ",\"dropped\":") counts.dropped
    ++ count_field (codes ",\"unread\":") counts.unread.count ++ codes ",\"links\":["

abbrev pub counts_object : ConvertCounts → List ℕ
counts_object counts = counts_start counts ++ (items_from link_item true counts.unread.links.items ++ codes "]}}\n")

abbrev pub counts_lines : ConvertCounts → List ℕ
counts_lines counts = (repeated_line counts.repeated ++ dropped_line counts.dropped) ++ unread_part counts.unread

-- the line of a check that had nothing to judge
abbrev pub unjudged_line : Unjudged → List ℕ
unjudged_line NotUnderstood =
    codes "mquerier: nothing judged: every second packet or more is cut or isn't read\n"
unjudged_line OutOfOrder =
    codes "mquerier: nothing judged: every second packet or more has a stamp that goes back\n"
unjudged_line NoMessage = codes "mquerier: nothing judged: there is no message of this family\n"
unjudged_line NoQuery = codes "mquerier: nothing judged: no query from this address was seen\n"
unjudged_line LimitsExceeded =
    codes "mquerier: nothing judged: the limits refuse records about too many groups\n"

-- the line of a check that found no querier in the capture
abbrev pub no_querier_line : List ℕ
no_querier_line = codes "mquerier: nothing judged: there is no general query of this family\n"

-- the line of a check that found no querier in the kept bytes of standard input
abbrev pub late_line : List ℕ
late_line =
    codes "mquerier: nothing judged: there is no general query in the first 67108864 bytes of standard input; name a FILE\n"

abbrev pub failure_text : Failure → List ℕ
failure_text NoAddresses = codes "--from and --to are needed for mld"
failure_text NotAnAddress = codes "not an address"
failure_text NotHex = codes "not hex"
failure_text UntilTooLarge = codes "until is too large"
failure_text (Configuration f query_seconds response_interval) = configuration_text f
failure_text (Capture f) = capture_text f
failure_text (Gap number) = codes "gap before record " ++ decimal number
failure_text (Waiting number) = codes "too many wait at record " ++ decimal number
failure_text (Conversion number f) = conversion_text f ++ decimal number
failure_text ConversionRead = codes "conversion fault 1"
failure_text Memory = codes "out of memory"
failure_text Write = codes "write failed"

-- the explanation of a configuration fault's number, on a line of its own, with the two intervals if they are at fault
abbrev pub limit_words : LimitName → List ℕ
limit_words limit.Groups = codes "\n  --groups has to be 1 to 65535"
limit_words limit.GroupSources = codes "\n  --group-sources has to be 1 to 1024"
limit_words limit.Sources = codes "\n  --sources has to be 1 to 65535"
limit_words limit.Scheduled = codes "\n  --scheduled has to be 1 to 65535"

abbrev pub interval_words : (query_seconds response_interval : ℕ) → List ℕ
interval_words query_seconds response_interval =
    codes "\n  --qri is " ++ decimal response_interval ++ codes " ms, and --qi " ++ decimal query_seconds
    ++ codes " s: --qri has to be below --qi, and for igmp 100 to 3174400, for mld 1 to 8387584"

abbrev pub configuration_words : ConfigFault → (query_seconds response_interval : ℕ) → List ℕ
configuration_words config.Robustness query_seconds response_interval = codes "\n  --rv has to be 1 to 7"
configuration_words config.QueryInterval query_seconds response_interval = codes "\n  --qi has to be 1 to 31744"
configuration_words config.ResponseInterval query_seconds response_interval = interval_words query_seconds response_interval
configuration_words config.LastMember query_seconds response_interval =
    codes "\n  --lmqi has to be 100 to 3174400 for igmp, 1 to 8387584 for mld"
configuration_words (config.Limit which) query_seconds response_interval = limit_words which
configuration_words config.OwnAddress query_seconds response_interval =
    codes "\n  --own or --querier has to be an address of a router: for igmp not 0.0.0.0 and below 224.0.0.0, for mld in fe80::/10"
configuration_words config.LastMemberCount query_seconds response_interval =
    codes "\n  the query count has to be 0 to 7"

-- the explanation of a capture fault's number
abbrev pub capture_words : PcapFault → List ℕ
capture_words fault.Read = codes "\n  a read of the capture failed"
capture_words fault.Magic = codes "\n  it is no classic capture file; mquerier convert makes one of a pcapng file"
capture_words fault.Version = codes "\n  the version of the file is not 2.4"
capture_words fault.LinkType = codes "\n  the link type is neither Ethernet nor raw IP; mquerier convert makes a file of Ethernet"
capture_words (fault.CutHeader number) = codes "\n  the file ends within a header"
capture_words (fault.CutData number) = codes "\n  the file ends within a packet"
capture_words (fault.TooLong number) = codes "\n  the packet has more than 262144 bytes"
capture_words fault.Endless = codes "\n  the file has more than 4294967295 packets"

-- the lines of a check whose capture has messages of several networks, with each of them
abbrev pub vlan_text : (vlan : Option ℕ) → List ℕ
vlan_text None = codes " untagged"
vlan_text (Some vlan) = codes " vlan " ++ decimal vlan

abbrev pub network_item : (is_first : Bool) → Network → List ℕ
network_item is_first network =
    comma_before is_first ++ codes " interface " ++ decimal network.interface ++ vlan_text network.vlan

abbrev pub networks_lines : List Network → List ℕ
networks_lines networks =
    codes "mquerier: more than one network:" ++ items_from network_item true networks
    ++ codes "\n  choose one by --interface or --vlan, or take all for one by --once\n"

-- the explanation of a conversion fault's number
abbrev pub conversion_words : BlockFault → List ℕ
conversion_words block.NoCapture = codes "\n  the file is no capture"
conversion_words block.Version = codes "\n  the version of the file is not 2.4, or of a pcapng file not 1"
conversion_words block.Order = codes "\n  the section is in no byte order"
conversion_words block.Length = codes "\n  the block has an impossible length"
conversion_words block.Interface = codes "\n  the packet is of an interface that the file did not describe before"
conversion_words block.Interfaces = codes "\n  the section describes more than 1024 interfaces"
conversion_words block.Moment = codes "\n  the packet is from before 1970 or after 2106"
conversion_words block.Cut = codes "\n  the file ends within the block"
conversion_words block.Endless = codes "\n  the file has more than 4294967295 blocks before it"

-- the explanation after the line of a failure that has a number
abbrev pub failure_words : Failure → List ℕ
failure_words (Configuration f query_seconds response_interval) = configuration_words f query_seconds response_interval
failure_words (Capture f) = capture_words f
failure_words (Gap number) = codes "\n  more than a day lies between the packet before and this one, or the end; groups and totals are not printed"
failure_words (Waiting number) = codes "\n  more than 65536 queries wait for those that they go with; totals are not printed"
failure_words (Conversion number f) = conversion_words f
failure_words ConversionRead = codes "\n  a read of the capture failed"
failure_words failure = []

-- the explanation for a person; a script gets none
abbrev pub wanted_words : (in_words : Bool) → Failure → List ℕ
wanted_words true failure = failure_words failure
wanted_words false failure = []

-- the line of a failure, and a second line if words are requested
abbrev pub failure_line : (in_words : Bool) → Failure → List ℕ
failure_line in_words failure = codes "mquerier: " ++ failure_text failure ++ wanted_words in_words failure ++ codes "\n"

-- the line of a check whose querier is no address, with the word
abbrev pub no_address_line : (word : List ℕ) → List ℕ
no_address_line word =
    codes "mquerier: not an address\n  " ++ take 3000 word
    ++ codes " is no address of the family; auto takes the querier from the capture" ++ codes "\n"

-- the lines of a failure of a check, always with an explanation
abbrev pub check_line : (querier : List ℕ) → Failure → List ℕ
check_line querier NotAnAddress = no_address_line querier
check_line querier failure = failure_line true failure

-- the line of a file that can't be opened: its name and the system's reason, or prefixes of them
abbrev pub unopened_line : (name reason : List ℕ) → List ℕ
unopened_line name reason = codes "mquerier: the file can't be opened: " ++ take 3000 name ++ codes ": " ++ take 300 reason ++ codes "\n"

-- the line of the program's version
abbrev pub version_line : (version : List ℕ) → List ℕ
version_line version = codes "mquerier " ++ version ++ codes "\n"
