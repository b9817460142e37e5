-- The one message that bytes encode, if they have no fault.
use Rattle.mq_wire.proofs.Common.{◌≡◌, ◌+◌, ◌≤◌, ◌⊎◌, inl, inr, ℕ, ◌↔◌, List, [], ◌∷◌, ◌++◌, length, Option, Result, Ok, Err, Some, None, arith, ap, subst, sym}
use Rattle.mq_wire.proofs.Common.{◌∙◌, refl, option_map, nat_tests, leb_tells, eqb_tells, AQuery, OldReport, ALeave, AReport, MessageType, Query, OlderReport}
use Rattle.mq_wire.proofs.Common.{Leave, Report, WireFault, Truncated, QueryLength, QueryVersion, Older, Current, IsRight, Family, group_end, first_cut}
use Rattle.mq_wire.proofs.Common.{numbered_message, numbered_version, Spells, ReadsAs, ReadsWithin, HasLength, fault_of, fault_within, first_of, wrong_length}
use Rattle.mq_wire.proofs.Common.{cut_in, spans_of, type_of, type_named, message_of}
use Rattle.mq_wire.specs.declared.message.Message.{Message}
use Rattle.mq_wire.proofs.{Cuts.long_enough, Faults.short, Faults.wrong, Faults.unknown, Faults.within, Faults.right_or_not}

same_message : (family : Family) (pseudo bytes : List ℕ) (a b : Message ℕ) → Spells family pseudo bytes a → Spells family pseudo bytes b → a ≡ b
same_message family pseudo bytes a b first second =
    let same : Some first.kind ≡ Some second.kind = sym first.listed ∙ second.listed in
    let kind : first.kind ≡ second.kind = cc in
    first.says ∙ ap (λ (k : MessageType). message_of family k bytes) kind ∙ sym second.says

-- where an address is its own number, a message is so too
same_version : (version : QueryVersion ℕ) → numbered_version version ≡ version
same_version (Older version) = refl
same_version (Current fields) = refl

numbered_same : (number : ℕ → ℕ) → ((a : ℕ) → number a ≡ a) → (m : Message ℕ) → numbered_message number m ≡ m
numbered_same number own (AQuery query) =
    let group = own query.group in
    let version = same_version query.version in rw (group, version) refl
numbered_same number own (OldReport version group) = ap (OldReport version) (own group)
numbered_same number own (ALeave group) = ap ALeave (own group)
numbered_same number own (AReport records) = refl

-- a query's length is that of a version, or it is a fault
no_length_fault : (family : Family) (kind : MessageType) (len : ℕ) → HasLength family kind len → wrong_length family kind len ≡ None
no_length_fault family Query len (inl older) = grind (arith, nat_tests, older)
no_length_fault family Query len (inr current) = grind (arith, nat_tests, current)
no_length_fault family (OlderReport version) len any = refl
no_length_fault family Leave len any = refl
no_length_fault family Report len any = refl

has_length : (family : Family) (kind : MessageType) (len : ℕ) → wrong_length family kind len ≡ None → HasLength family kind len
has_length family Query len none =
    elim (eqb_tells len (group_end family)) [
      | inl older ↦ inl older.1
      | inr other ↦ elim (leb_tells (group_end family + 4) len) [
        | inl current ↦ inr current.1
        | inr short ↦ (let some : Some QueryLength ≡ None = rw (other.0, short.0) at none in absurd (cc))
      ]
    ]
has_length family _ len none = tt

-- neither of two faults holds
neither : (a b : Option WireFault) → first_of (a ∷ b ∷ []) ≡ None → (a ≡ None) × (b ≡ None)
neither None None none = (refl, refl)
neither None (Some b) none = absurd (cc)
neither (Some a) b none = absurd (cc)

uncut : (cut : Option ℕ) → option_map (λ at. Truncated at) cut ≡ None → cut ≡ None
uncut None none = refl
uncut (Some at) none = absurd (cc)

pub no_fault_within : (family : Family) (bytes : List ℕ) (kind : MessageType) → HasLength family kind (length bytes) →
    first_cut (length bytes) 0 (spans_of family kind bytes) ≡ None → fault_within family bytes kind ≡ None
no_fault_within family bytes kind fits whole =
    let no_fault = no_length_fault family kind (length bytes) fits in rw (no_fault, whole) refl

pub no_fault : (family : Family) (pseudo bytes : List ℕ) (m : Message ℕ) → Spells family pseudo bytes m → fault_of family pseudo bytes ≡ None
no_fault family pseudo bytes m s =
    within family pseudo bytes s.kind (long_enough family s.kind bytes s.whole) s.checksum s.listed
    ∙ no_fault_within family bytes s.kind s.has_length s.whole

-- bytes with a right checksum, of a listed type, without a fault within, encode the message of their fields
spelled_within : (family : Family) (pseudo bytes : List ℕ) (kind : MessageType) → IsRight (pseudo ++ bytes) → type_named family (type_of bytes)
    ≡ Some kind → fault_within family bytes kind ≡ None → Spells family pseudo bytes (message_of family kind bytes)
spelled_within family pseudo bytes kind right listed none =
    let parts = neither (wrong_length family kind (length bytes)) (cut_in bytes (spans_of family kind bytes)) none in
    record {
      checksum = right;
      kind = kind;
      listed = listed;
      has_length = has_length family kind (length bytes) parts.0;
      whole = uncut (first_cut (length bytes) 0 (spans_of family kind bytes)) parts.1;
      says = refl;
    }

-- the result for bytes of a listed type with a right checksum
pub reads : {K : Type 0} (number : K → ℕ) (family : Family) (pseudo bytes : List ℕ) (kind : MessageType) (r : Result (Message K) WireFault) →
    4 ≤ length bytes → IsRight (pseudo ++ bytes) → type_named family (type_of bytes) ≡ Some kind → ReadsWithin number family kind bytes r →
    ReadsAs number family pseudo bytes r
reads number family pseudo bytes kind (Ok m) long right listed reads_ok =
    subst (λ (x : Message ℕ). Spells family pseudo bytes x) (sym reads_ok.1) (spelled_within family pseudo bytes kind right listed reads_ok.0)
reads number family pseudo bytes kind (Err fault) long right listed reads_err = within family pseudo bytes kind long right listed ∙ reads_err

-- the result is a message exactly if the bytes encode it, and a fault exactly if the bytes have it
pub exact_message : (number : ℕ → ℕ) (family : Family) (pseudo bytes : List ℕ) (r : Result (Message ℕ) WireFault) → ((a : ℕ) → number a ≡ a) →
    ReadsAs number family pseudo bytes r → (m : Message ℕ) → (r ≡ Ok m) ↔ Spells family pseudo bytes m
exact_message number family pseudo bytes (Ok n) own reads m =
    let spelled_n : Spells family pseudo bytes n = subst (λ (x : Message ℕ). Spells family pseudo bytes x) (numbered_same number own n) reads in (
      λ e. let same : n ≡ m = cc in subst (λ (x : Message ℕ). Spells family pseudo bytes x) same spelled_n,
      λ s. ap Ok (same_message family pseudo bytes n m spelled_n s),
    )
exact_message number family pseudo bytes (Err f) own reads m = (
  λ e. absurd (cc),
  λ s. let none = no_fault family pseudo bytes m s in absurd (cc),
)

pub exact_fault : (number : ℕ → ℕ) (family : Family) (pseudo bytes : List ℕ) (r : Result (Message ℕ) WireFault) → ReadsAs number family pseudo bytes r
    → (f : WireFault) → (r ≡ Err f) ↔ (fault_of family pseudo bytes ≡ Some f)
exact_fault number family pseudo bytes (Ok m) reads f = (
  λ e. absurd (cc),
  λ s. let none = no_fault family pseudo bytes (numbered_message number m) reads in absurd (cc),
)
exact_fault number family pseudo bytes (Err g) reads f = (
  λ e. let same : g ≡ f = cc in reads ∙ ap Some same,
  λ s. ap Err (let same : g ≡ f = cc in same),
)

-- a type is listed or not
listed_or_not : (kind : Option MessageType) → (kind ≡ None) ⊎ ((k : MessageType) × (kind ≡ Some k))
listed_or_not None = inl refl
listed_or_not (Some k) = inr (k, refl)

pub spelled : (family : Family) (pseudo bytes : List ℕ) → fault_of family pseudo bytes ≡ None → (message : Message ℕ) × Spells family pseudo bytes message
spelled family pseudo bytes no_fault =
    elim (leb_tells 4 (length bytes)) [
      | inr cut_header ↦ (let some = short family pseudo bytes cut_header.1 in absurd (cc))
      | inl long ↦ elim (right_or_not (pseudo ++ bytes)) [
        | inr not_right ↦ (let some = wrong family pseudo bytes long.1 not_right in absurd (cc))
        | inl right ↦ elim (listed_or_not (type_named family (type_of bytes))) [
          | inl unlisted ↦ (let some = unknown family pseudo bytes long.1 right unlisted in absurd (cc))
          | inr kind ↦ (
              let none = sym (within family pseudo bytes kind.0 long.1 right kind.1) ∙ no_fault in
              (message_of family kind.0 bytes, spelled_within family pseudo bytes kind.0 right kind.1 none)
              )
        ]
      ]
    ]
