-- Files that have to be converted before they are checked.
use Rattle.std.specs.Prelude.{ℕ, ◌%◌, nat_lt, Bool, true, false, not, ◌&&◌, ◌||◌, ◌==◌, List, length, Option, None, Some}
use Rattle.mq_pcap.specs.declared.form.Endian.{Endian}
use Rattle.mq_pcap.specs.declared.form.Endian.TheVariants.{Big}
use Rattle.mq_pcap.specs.declared.form.Fraction.{Fraction}
use Rattle.mq_pcap.specs.Capture.{field}
use Rattle.mq_convert.specs.declared.choice.Choice.{Choice}
use Rattle.mq_convert.specs.Sizes.{form_in, section_type}

abbrev pub is_nothing : {X : Type 0} → Option X → Bool
is_nothing None = true
is_nothing (Some x) = false

-- all packets are chosen
abbrev pub is_all : Choice → Bool
is_all choice = is_nothing choice.interface && (is_nothing choice.vlan && not choice.once)

-- the number of a file's first bytes that decide whether it is converted: the size of a classic capture's header
abbrev pub first_bytes : ℕ
first_bytes = 24

-- these first bytes are the header of a classic capture of another link type than Ethernet and raw IP
abbrev pub is_of_other_link : Option (Endian × Fraction) → List ℕ → Bool
is_of_other_link None head = false
is_of_other_link (Some form) head =
    (field form.0 4 2 head == 2 && field form.0 6 2 head == 4)
    && not (field form.0 20 4 head % 65536 == 1 || field form.0 20 4 head % 65536 == 101)

-- a file with these first bytes has to be converted: a pcapng file, or a classic capture of another link type
unfoldable pub is_converted : List ℕ → Bool
is_converted head =
    (not (nat_lt (length head) 4) && field Big 0 4 head == section_type)
    || (not (nat_lt (length head) first_bytes) && is_of_other_link (form_in head) head)
