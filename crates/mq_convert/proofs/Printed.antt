-- A text that is put, and then more.
use Rattle.mq_convert.proofs.Common.{◌≡◌, ℕ, List, [], ◌++◌, Option, Result, Ok, Err, append_assoc, append-nil, sym, ◌∙◌, Passes, Prints, Puts, held_more}
use Rattle.mq_convert.proofs.Common.{put_as, then_put}

-- a printed text, if the buffer holds nothing
print_puts : (T E : Type 0) (b c : Option (List ℕ)) (held text : List ℕ) (r : Result T E) → held ≡ [] → Prints b c text r → Puts b c held held text r
print_puts T E b c held text (Ok x) none printed = rw none (record { written = text; parts = sym (append-nil text); grows = printed })
print_puts T E b c held text (Err e) none printed = rw none printed

-- the held text was written, and then another
pub printed_behind : (T E : Type 0) (a b c : Option (List ℕ)) (held mid text : List ℕ) (r : Result T E) → mid ≡ [] → Passes a b held mid [] →
    Prints b c text r → Puts a c held mid text r
printed_behind T E a b c held mid text r none passed printed = then_put a b c held mid mid [] text r passed (print_puts T E b c mid text r none printed)

-- a text was put, and then more
pub head_put : (T E : Type 0) (a b c : Option (List ℕ)) (held mid more left text behind : List ℕ) (r : Result T E) → Passes a b held mid [] →
    more ≡ mid ++ text → Puts b c more left behind r → Puts a c held left (text ++ behind) r
head_put T E a b c held mid more left text behind r passed is put =
    then_put a b c held more left text behind r (held_more a b held mid more [] text passed is) put

-- this fact for a text in three parts
pub frame_put : (T E : Type 0) (a b c : Option (List ℕ)) (held mid more left header addresses kind payload : List ℕ) (r : Result T E) →
    Passes a b held mid [] → more ≡ ((mid ++ header) ++ addresses) ++ kind → Puts b c more left payload r
    → Puts a c held left (header ++ ((addresses ++ kind) ++ payload)) r
frame_put T E a b c held mid more left header addresses kind payload r passed is put =
    let same : ((header ++ addresses) ++ kind) ++ payload ≡ header ++ ((addresses ++ kind) ++ payload) = simp append_assoc in
    let front : ((mid ++ header) ++ addresses) ++ kind ≡ mid ++ ((header ++ addresses) ++ kind) = simp append_assoc in
    put_as a c held left (((header ++ addresses) ++ kind) ++ payload) (header ++ ((addresses ++ kind) ++ payload)) r same
    (head_put T E a b c held mid more left ((header ++ addresses) ++ kind) payload r passed (is ∙ front) put)
