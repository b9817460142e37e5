-- Texts that go to a writer by way of a buffer, one after the other.
use Rattle.std.proofs.Common.{◌≡◌, ℕ, ◌+◌, ◌<◌, List, [], ◌∷◌, ◌++◌, length, take, drop, get_or, Option, Result, Ok, Err, append_assoc, append-nil}
use Rattle.std.proofs.{Common.length-append, Common.ap, Common.sym, Common.subst, Common.◌∙◌, Common.arith, KnownBytes.Appends-trans, KnownBytes.Appends-nil}
use Rattle.std.{specs.List.flat_map, proofs.lemmas.Grind.flat_map-append, proofs.lemmas.List.take_more, proofs.lemmas.List.take-append-drop}
use Rattle.mq_text.specs.Printing.{GrowsByBeginning, Passes, Puts}

pub nothing_passed : (a : Option (List ℕ)) (held : List ℕ) → Passes a a held held []
nothing_passed a held = record { written = []; parts = append-nil held; grows = Appends-nil a }

-- more was put behind what is held
pub held_more : (a b : Option (List ℕ)) (held left more text piece : List ℕ) → Passes a b held left text → more ≡ left ++ piece →
    Passes a b held more (text ++ piece)
held_more a b held left more text piece passed behind =
    record {
      written = passed.written;
      parts = sym (append_assoc held text piece) ∙ ap (λ (t : List ℕ). t ++ piece) passed.parts ∙ append_assoc passed.written left piece ∙
          ap (λ (t : List ℕ). passed.written ++ t) (sym behind);
      grows = passed.grows;
    }

-- one text passed, and then another
pub both_passed : (a b c : Option (List ℕ)) (held mid left text more : List ℕ) → Passes a b held mid text → Passes b c mid left more →
    Passes a c held left (text ++ more)
both_passed a b c held mid left text more first second =
    record {
      written = first.written ++ second.written;
      parts = sym (append_assoc held text more) ∙ ap (λ (t : List ℕ). t ++ more) first.parts ∙ append_assoc first.written mid more
          ∙ ap (λ (t : List ℕ). first.written ++ t) second.parts ∙ sym (append_assoc first.written second.written left);
      grows = Appends-trans a b c first.written second.written first.grows second.grows;
    }

-- a text that broke off also broke off in the longer text
pub broken_off : (a b : Option (List ℕ)) (text more : List ℕ) → GrowsByBeginning a b text → GrowsByBeginning a b (text ++ more)
broken_off a b text more begun =
    record {
      written = begun.written;
      left = begun.left ++ more;
      parts = ap (λ (t : List ℕ). t ++ more) begun.parts ∙ append_assoc begun.written begun.left more;
      some_left = let some = begun.some_left in omega (arith, some, length-append begun.left more);
      grows = begun.grows;
    }

pub broken_within : (a b : Option (List ℕ)) (held text more : List ℕ) → GrowsByBeginning a b (held ++ text) → GrowsByBeginning a b (held ++ (text ++ more))
broken_within a b held text more begun = rw (← append_assoc held text more) (broken_off a b (held ++ text) more begun)

-- it broke off behind a text that passed
pub broken_behind : (a b c : Option (List ℕ)) (held mid text more : List ℕ) → Passes a b held mid text → GrowsByBeginning b c (mid ++ more) →
    GrowsByBeginning a c (held ++ (text ++ more))
broken_behind a b c held mid text more passed begun =
    let behind : held ++ (text ++ more) ≡ passed.written ++ (mid ++ more) =
    sym (append_assoc held text more) ∙ ap (λ (t : List ℕ). t ++ more) passed.parts ∙ append_assoc passed.written mid more in
    record {
      written = passed.written ++ begun.written;
      left = begun.left;
      parts = behind ∙ ap (λ (t : List ℕ). passed.written ++ t) begun.parts ∙ sym (append_assoc passed.written begun.written begun.left);
      some_left = begun.some_left;
      grows = Appends-trans a b c passed.written begun.written passed.grows begun.grows;
    }

pub then_put : {T E : Type 0} (a b c : Option (List ℕ)) (held mid left text more : List ℕ) (r : Result T E) → Passes a b held mid text →
    Puts b c mid left more r → Puts a c held left (text ++ more) r
then_put a b c held mid left text more (Ok x) passed put = both_passed a b c held mid left text more passed put
then_put a b c held mid left text more (Err e) passed put = broken_behind a b c held mid text more passed put

pub put_as : {T E : Type 0} (a b : Option (List ℕ)) (held left text other : List ℕ) (r : Result T E) → text ≡ other → Puts a b held left text r →
    Puts a b held left other r
put_as a b held left text other r same put = subst (λ (t : List ℕ). Puts a b held left t r) same put

-- one item more of a list was put behind the items before it
pub next_item : {A : Type 0} (text_of : A → List ℕ) (total done : List ℕ) (items left : List A) (item : A) → total ≡ done ++ flat_map text_of items →
    items ≡ item ∷ left → total ≡ (done ++ text_of item) ++ flat_map text_of left
next_item text_of total done items left item parts first =
    parts ∙ ap (λ (xs : List _). done ++ flat_map text_of xs) first ∙ sym (append_assoc done (text_of item) (flat_map text_of left))

-- the texts of the first items of a list passed, and then that of the next
pub item_passed : {X : Type 0} (text_of : X → List ℕ) (a b c : Option (List ℕ)) (held mid left : List ℕ) (items : List X) (i : ℕ) (item default : X) →
    i < length items → item ≡ get_or items i default
    → Passes a b held mid (flat_map text_of (take i items)) → Passes b c mid left (text_of item) → Passes a c held left (flat_map text_of (take (i + 1) items))
item_passed {X} text_of a b c held mid left items i item default within is before passed =
    let more : flat_map text_of (take (i + 1) items) ≡ flat_map text_of (take i items) ++ text_of item =
    ap (flat_map text_of) (take_more items i default within) ∙ flat_map-append text_of (take i items) (get_or items i default ∷ [])
    ∙ ap (λ (x : X). flat_map text_of (take i items) ++ flat_map text_of (x ∷ [])) (sym is) ∙
    ap (λ (t : List ℕ). flat_map text_of (take i items) ++ t) (append-nil (text_of item)) in
    subst (λ (t : List ℕ). Passes a c held left t) (sym more) (both_passed a b c held mid left (flat_map text_of (take i items)) (text_of item) before passed)

-- it broke off behind the texts of the first items
pub broken_among : {X : Type 0} (text_of : X → List ℕ) (a b c : Option (List ℕ)) (held mid : List ℕ) (items : List X) (i : ℕ)
    → Passes a b held mid (flat_map text_of (take i items)) → GrowsByBeginning b c (mid ++ []) → GrowsByBeginning a c (held ++ flat_map text_of items)
broken_among {X} text_of a b c held mid items i before begun =
    let rest = flat_map text_of (drop i items) in
    let parts : flat_map text_of (take i items) ++ rest ≡ flat_map text_of items =
    sym (flat_map-append text_of (take i items) (drop i items)) ∙ ap (flat_map text_of) (take-append-drop i items) in
    subst (λ (t : List ℕ). GrowsByBeginning a c (held ++ t)) parts
    (broken_behind a b c held mid (flat_map text_of (take i items)) rest before (broken_within b c mid [] rest begun))
