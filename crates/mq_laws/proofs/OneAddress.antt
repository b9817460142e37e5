-- The one address of a text.
use Rattle.mq_laws.proofs.Common.{ap, ◌≡◌, ℕ, List, sym, ◌∙◌, w32, from_be_bytes, from_be_bytes-to_be_bytes_4, number_of}
use Rattle.std.specs.Net.Addr.{ipv4_octets, ipv6_segments}
use Rattle.std.proofs.NetLemmas.Theorems.{IsIpv4Text_unique, IsIpv6Text_unique}
use Rattle.mq_text.{specs.Reading.SpellsV4, specs.Reading.SpellsV6, proofs.Spelled.spelled_as_std, proofs.Spelled.v4_as_std}
use Rattle.mq_laws.specs.Texts.{OneAddress}

one_v4 : (text : List ℕ) (a b : ℕ) → SpellsV4 text a → SpellsV4 text b → a ≡ b
one_v4 text a b first second =
    let same = ap ipv4_octets (IsIpv4Text_unique text _ _ (v4_as_std text a first) (v4_as_std text b second)) in
    sym (from_be_bytes-to_be_bytes_4 a first.0) ∙ ap (from_be_bytes w32) same ∙ from_be_bytes-to_be_bytes_4 b second.0

one_v6 : (text : List ℕ) (a b : ℕ) → SpellsV6 text a → SpellsV6 text b → a ≡ b
one_v6 text a b first second =
    let same = ap ipv6_segments (IsIpv6Text_unique text (record { segments = first.0 }) (record { segments = second.0 })
    (spelled_as_std text first.0 first.1) (spelled_as_std text second.0 second.1)) in
    first.2 ∙ ap number_of same ∙ sym second.2

pub one_address : OneAddress
one_address = (one_v4, one_v6)
