-- Walking over tags: one step of the walk takes one tag off.
use Rattle.mq_convert.proofs.Common.{◌≡◌, ◌≤◌, ◌-◌, ℕ, true, List, [], ◌∷◌, length, take, drop, refl, arith, field, from_place, is_tag, behind_tags}
use Rattle.mq_pcap.specs.declared.form.Endian.TheVariants.{Big}

-- a tag and the bytes after this tag
pub tag_off : (addresses : List ℕ) (kind : ℕ) (payload : List ℕ) → is_tag kind ≡ true → 4 ≤ length payload
    → behind_tags addresses kind payload ≡ behind_tags addresses (field Big 2 2 payload) (take (length payload - 4) (drop 4 payload))
tag_off addresses kind (a ∷ (b ∷ (c ∷ (d ∷ rest)))) tag long = rw (tag, from_place 4 (a ∷ (b ∷ (c ∷ (d ∷ rest))))) refl
tag_off addresses kind _ tag long = absurd (omega arith)
