-- The description of an interface: its link type, the most bytes that are captured of a packet, and options.
use Rattle.std.specs.Prelude.{ℕ, zero, suc, ◌+◌, ◌-◌, ◌*◌, ◌/◌, min, nat_lt, ◌==◌, ◌&&◌, if◌then◌else◌, List, [], ◌∷◌, ◌++◌, length, drop, replicate, slice_index, slice_range}
use Rattle.std.specs.Int.{w128, from_be_bytes}
use Rattle.mq_pcap.specs.declared.form.Endian.{Endian}
use Rattle.mq_pcap.specs.Capture.{field, number_in}
use Rattle.mq_convert.specs.declared.context.Interface.{Interface}

-- an option: its code, and its bytes
abbrev pub DescribedOption : Type 0
DescribedOption = ℕ × List ℕ

-- the end of an option whose bytes end here; options begin at multiples of 4
abbrev pub filled_up : ℕ → ℕ
filled_up end = (end + 3) / 4 * 4

-- The options in these bytes, up to code 0 or to the first that doesn't fit, and at most `most`. An option is two bytes
-- of code, two of its length, and this many bytes, which are filled up.
abbrev pub options_within : Endian → ℕ → List ℕ → List DescribedOption
options_within order zero bytes = []
options_within order (suc most) bytes =
    let end = 4 + field order 2 2 bytes in
    if nat_lt (length bytes) 4
    then []
    else (if field order 0 2 bytes == 0
    then []
    else (if nat_lt (length bytes) end
    then []
    else (field order 0 2 bytes, slice_range bytes 4 end) ∷ options_within order most (drop (min (length bytes) (filled_up end)) bytes)))

-- all options; there are no more options than bytes
abbrev pub options_of : Endian → List ℕ → List DescribedOption
options_of order bytes = options_within order (length bytes) bytes

abbrev pub quad_word : Endian → List ℕ → ℕ
quad_word order bytes = number_in order 8 bytes

-- a name as a number: its bytes in big-endian order, padded with zeros to 16; a longer name is 0, like no name
unfoldable pub name_of : List ℕ → ℕ
name_of text = if nat_lt 16 (length text) then 0 else from_be_bytes w128 (text ++ replicate (16 - length text) 0)

-- The interface with the value of an option. Code 2 is its name, code 9 with one byte the unit of its moments, and code
-- 14 with eight bytes the seconds that are added to them.
unfoldable pub with_option : Endian → Interface → DescribedOption → Interface
with_option order interface option =
    if option.0 == 9 && length option.1 == 1
    then record interface { resolution = slice_index option.1 0 }
    else (if option.0 == 14 && length option.1 == 8
    then record interface { offset = quad_word order option.1 }
    else (if option.0 == 2 then record interface { name = name_of option.1 } else interface))

-- the interface with all options; a later option replaces an earlier one
abbrev pub with_options : Endian → Interface → List DescribedOption → Interface
with_options order interface [] = interface
with_options order interface (option ∷ options) = with_options order (with_option order interface option) options

-- the interface described between the lengths of the block; moments are microseconds unless an option says otherwise
abbrev pub interface_in : Endian → List ℕ → Interface
interface_in order body = with_options order
    (record { link = field order 0 2 body; limit = field order 4 4 body; resolution = 6; offset = 0; name = 0; dropped = 0 })
    (options_of order (drop 8 body))
