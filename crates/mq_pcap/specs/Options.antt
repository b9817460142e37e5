-- The options of an IPv6 hop-by-hop header, with the Router Alert of MLD messages (RFC 3810 section 5).
use Rattle.std.specs.Prelude.{ℕ, zero, suc, ◌+◌, nat_lt, Bool, ◌==◌, ◌&&◌, if◌then◌else◌, List, [], ◌∷◌, length, drop, slice_index, slice_range}
use Rattle.std.specs.List.{list_any}
use Rattle.byteorder.specs.Endian.{big_number}

-- an option: its type, and its data
abbrev pub HeaderOption : Type 0
HeaderOption = ℕ × List ℕ

-- The consecutive options in these bytes, up to the first that does not fit, and at most `most`. Type 0 (Pad1) is a
-- single byte. After every other type stand the number of data bytes, and the data.
abbrev pub options_within : ℕ → List ℕ → List HeaderOption
options_within zero bytes = []
options_within (suc most) [] = []
options_within (suc most) (kind ∷ bytes) =
    let end = slice_index bytes 0 + 1 in
    if kind == 0
    then (0, []) ∷ options_within most bytes
    else (
    if nat_lt (slice_index bytes 0) (length bytes)
    then (kind, slice_range bytes 1 end) ∷ options_within most (drop end bytes)
    else [])

-- all options: there are no more options than bytes
abbrev pub options_of : List ℕ → List HeaderOption
options_of bytes = options_within (length bytes) bytes

-- type 5, two bytes of data, and the value 0, which marks an MLD message
abbrev pub is_router_alert : HeaderOption → Bool
is_router_alert option = option.0 == 5 && (length option.1 == 2 && big_number 2 option.1 == 0)

abbrev pub has_router_alert : List ℕ → Bool
has_router_alert bytes = list_any is_router_alert (options_of bytes)
