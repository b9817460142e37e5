-- Waiting entries: the first free entry, an entry with a partner, and expired entries.
use Rattle.mq_check.proofs.Common.{◌≡◌, ℕ, suc, ◌+◌, ◌<◌, ◌≤◌, Bool, true, false, List, [], ◌∷◌, ◌++◌, length, take, drop, set, get_or, refl, ap, sym, ◌∙◌}
use Rattle.mq_check.proofs.Common.{append_assoc, append-nil, add-one, arith, Option, None, Some, IfSome, list_map, flat_map, list_any, mapped_long, drop-length}
use Rattle.mq_check.proofs.Common.{take-length, get_or_read, map-append, map-set, ltb-true, Asked, Entry, Terms, Side, terms_in, joined, first_terms}
use Rattle.mq_check.proofs.Common.{first_entry, judged, WaitingValue, is_free, with_entry, with_partner}
use Rattle.std.specs.{Option.option_to_list, Prelude.take_while, List.prefix_len}
use Rattle.std.proofs.{Math.ListN.get_or-map as mapped_at, Math.Seq.drop-cons, Math.Seq.take-suc, lemmas.List.set_split, lemmas.Bool.lt-ltb, lemmas.Bool.le-ltb}
use Rattle.mq_check.specs.Entries.{is_over, first_joined}
use Rattle.mq_check.specs.{Places.IsNoneFree, Places.IsFirstFree, Places.IsNoneOver, Places.IsFirstOver, Waiting.room, Waiting.told, Waiting.purged}

-- the results of all items are as many
pub made_long : {X Y : Type 0} (f : X → Y) (xs : List X) (ys : List Y) → list_map f xs ≡ ys → length ys ≡ length xs
made_long f xs ys made = ap length (sym made) ∙ mapped_long xs f

-- the element that was read, at its place in the list of results
pub made_at : {X Y : Type 0} (f : X → Y) (xs : List X) (ys : List Y) (place : ℕ) (x : X) → list_map f xs ≡ ys → x ≡ get_or xs place x →
    f x ≡ get_or ys place (f x)
made_at f xs ys place x made is = ap f is ∙ sym (mapped_at f xs place x) ∙ ap (λ (zs : List _). get_or zs place (f x)) made

-- the list from a place on
pub from_place : {X : Type 0} (xs : List X) (place : ℕ) (x : X) → place < length xs → x ≡ get_or xs place x → drop place xs ≡ x ∷ drop (suc place) xs
from_place xs place x within is = drop-cons xs place x within ∙ ap (λ (y : _). y ∷ drop (suc place) xs) (sym is)

-- the list up to a place
pub up_to_place : {X : Type 0} (xs : List X) (place : ℕ) (x : X) → place < length xs → x ≡ get_or xs place x → take (suc place) xs ≡ take place xs ++ x ∷ []
up_to_place xs place x within is = take-suc xs place x within ∙ ap (λ (y : _). take place xs ++ y ∷ []) (sym is)

-- none of the entries before a place is free
pub record IsPassed (side : Side) (asked : Asked ℕ) (from : ℕ) (entries : List (Entry ℕ)) (place : ℕ) : Type 0 where
  pub terms : first_terms (is_free side asked from) entries ≡ first_terms (is_free side asked from) (drop place entries)
  pub entry : first_entry (is_free side asked from) entries ≡ first_entry (is_free side asked from) (drop place entries)
  pub joined : (other : Terms ℕ) → first_joined (is_free side asked from) other entries ≡ take place entries ++
      first_joined (is_free side asked from) other (drop place entries)

pub none_passed : (side : Side) (asked : Asked ℕ) (from : ℕ) (entries : List (Entry ℕ)) → IsPassed side asked from entries 0
none_passed side asked from entries = record { terms = refl; entry = refl; joined = λ other. refl }

-- the findings at an entry that isn't free, and at a free entry
skipped_terms : (test : Entry ℕ → Bool) (entry : Entry ℕ) (rest : List (Entry ℕ)) → test entry ≡ false → first_terms test (entry ∷ rest) ≡ first_terms test rest
skipped_terms test entry rest is = rw is refl

skipped_entry : (test : Entry ℕ → Bool) (entry : Entry ℕ) (rest : List (Entry ℕ)) → test entry ≡ false → first_entry test (entry ∷ rest) ≡ first_entry test rest
skipped_entry test entry rest is = rw is refl

found_entry : (test : Entry ℕ → Bool) (entry : Entry ℕ) (rest : List (Entry ℕ)) → test entry ≡ true → first_entry test (entry ∷ rest) ≡ Some entry
found_entry test entry rest is = rw is refl

skipped_joined : (test : Entry ℕ → Bool) (other : Terms ℕ) (entry : Entry ℕ) (rest : List (Entry ℕ)) → test entry ≡ false →
    first_joined test other (entry ∷ rest) ≡ entry ∷ first_joined test other rest
skipped_joined test other entry rest is = rw is refl

found_terms : (test : Entry ℕ → Bool) (entry : Entry ℕ) (rest : List (Entry ℕ)) → test entry ≡ true → first_terms test (entry ∷ rest) ≡ terms_in entry
found_terms test entry rest is = rw is refl

found_joined : (test : Entry ℕ → Bool) (other : Terms ℕ) (entry : Entry ℕ) (rest : List (Entry ℕ)) → test entry ≡ true →
    first_joined test other (entry ∷ rest) ≡ joined other entry ∷ rest
found_joined test other entry rest is = rw is refl

pub one_passed : (side : Side) (asked : Asked ℕ) (from : ℕ) (entries : List (Entry ℕ)) (place : ℕ) (entry : Entry ℕ) → place < length entries →
    entry ≡ get_or entries place entry
    → is_free side asked from entry ≡ false → IsPassed side asked from entries place → IsPassed side asked from entries (place + 1)
one_passed side asked from entries place entry within is not_free passed =
    let test = is_free side asked from in
    let rest = drop (suc place) entries in
    let split = from_place entries place entry within is in
    let next : IsPassed side asked from entries (suc place) = record {
      terms = passed.terms ∙ ap (first_terms test) split ∙ skipped_terms test entry rest not_free;
      entry = passed.entry ∙ ap (first_entry test) split ∙ skipped_entry test entry rest not_free;
      joined = λ other.
          passed.joined other ∙ ap (λ (es : List (Entry ℕ)). take place entries ++ first_joined test other es) split
          ∙ ap (λ (es : List (Entry ℕ)). take place entries ++ es) (skipped_joined test other entry rest not_free)
          ∙ sym (append_assoc (take place entries) (entry ∷ []) (first_joined test other rest))
          ∙ ap (λ (es : List (Entry ℕ)). es ++ first_joined test other rest) (sym (up_to_place entries place entry within is));
    } in
    rw add-one next

pub free_at : (side : Side) (asked : Asked ℕ) (from : ℕ) (entries : List (Entry ℕ)) (place : ℕ) (entry : Entry ℕ) → place < length entries →
    entry ≡ get_or entries place entry
    → is_free side asked from entry ≡ true → IsPassed side asked from entries place → IsFirstFree side asked from entries place
free_at side asked from entries place entry within is free passed =
    let test = is_free side asked from in
    let rest = drop (suc place) entries in
    let split = from_place entries place entry within is in
    record {
      within = within;
      terms = λ d. passed.terms ∙ ap (first_terms test) split ∙ found_terms test entry rest free ∙ ap terms_in (get_or_read entries place entry within is d);
      entry = λ d. passed.entry ∙ ap (first_entry test) split ∙ found_entry test entry rest free ∙ ap Some (get_or_read entries place entry within is d);
      joined = λ other d.
          passed.joined other ∙ ap (λ (es : List (Entry ℕ)). take place entries ++ first_joined test other es) split
          ∙ ap (λ (es : List (Entry ℕ)). take place entries ++ es) (found_joined test other entry rest free)
          ∙ sym (set_split entries place (joined other entry) within)
          ∙ ap (λ (e : Entry ℕ). set entries place (joined other e)) (get_or_read entries place entry within is d);
    }

pub none_free : (side : Side) (asked : Asked ℕ) (from : ℕ) (entries : List (Entry ℕ)) (place : ℕ) → place ≡ length entries →
    IsPassed side asked from entries place → IsNoneFree side asked from entries
none_free side asked from entries place all passed =
    let test = is_free side asked from in
    let rest : drop place entries ≡ [] = ap (λ (n : ℕ). drop n entries) all ∙ drop-length entries in
    record {
      terms = passed.terms ∙ ap (first_terms test) rest;
      entry = passed.entry ∙ ap (first_entry test) rest;
      joined = λ other.
          passed.joined other ∙ ap (λ (es : List (Entry ℕ)). take place entries ++ first_joined test other es) rest ∙ append-nil (take place entries)
          ∙ ap (λ (n : ℕ). take n entries) all ∙ take-length entries;
    }

skipped_any : {X : Type 0} (p : X → Bool) (entry : X) (rest : List X) → p entry ≡ false → list_any p (entry ∷ rest) ≡ list_any p rest
skipped_any p entry rest is = rw is refl

found_any : {X : Type 0} (p : X → Bool) (entry : X) (rest : List X) → p entry ≡ true → list_any p (entry ∷ rest) ≡ true
found_any p entry rest is = rw is refl

pub one_any : {X : Type 0} (p : X → Bool) (entries : List X) (place : ℕ) (entry : X) → place < length entries →
    entry ≡ get_or entries place entry → p entry ≡ false
    → list_any p entries ≡ list_any p (drop place entries) → list_any p entries ≡ list_any p (drop (place + 1) entries)
one_any p entries place entry within is fails passed =
    let next : list_any p entries ≡ list_any p (drop (suc place) entries) =
    passed ∙ ap (list_any p) (from_place entries place entry within is) ∙ skipped_any p entry (drop (suc place) entries) fails in
    rw add-one next

pub any_at : {X : Type 0} (p : X → Bool) (entries : List X) (place : ℕ) (entry : X) → place < length entries →
    entry ≡ get_or entries place entry → p entry ≡ true → list_any p entries ≡ list_any p (drop place entries) → list_any p entries ≡ true
any_at p entries place entry within is passes passed =
    passed ∙ ap (list_any p) (from_place entries place entry within is) ∙ found_any p entry (drop (suc place) entries) passes

pub any_of_none : {X : Type 0} (p : X → Bool) (entries : List X) (place : ℕ) → place ≡ length entries
    → list_any p entries ≡ list_any p (drop place entries) → list_any p entries ≡ false
any_of_none p entries place all passed = passed ∙ ap (λ (n : ℕ). list_any p (drop n entries)) all ∙ ap (list_any p) (drop-length entries)

-- nothing is reported without room for an entry, without an entry, or if the first entry isn't over
pub none_of_full : (keep now : ℕ) (w : WaitingValue) → w.is_full ≡ true → IsNoneOver keep now w
unfolding told purged
none_of_full keep now w full = record { told = λ within changed refused. rw full refl; purged = rw full refl }

pub none_of_none : (keep now : ℕ) (w : WaitingValue) → w.is_full ≡ false → w.entries ≡ [] → IsNoneOver keep now w
unfolding told purged
none_of_none keep now w free none =
    record {
      told = λ within changed refused. rw (free, none) refl;
      purged =
          rw free (λ i. record { entries = (ap (λ (es : List (Entry ℕ)). drop (prefix_len (is_over keep now) es) es) none ∙ sym none) i; is_full = false });
    }

not_over_told : (keep within now : ℕ) (changed : Option ℕ) (refused : List ℕ) (entry : Entry ℕ) (rest : List (Entry ℕ)) → is_over keep now entry ≡ false →
    flat_map (judged within changed refused) (take_while (is_over keep now) (entry ∷ rest)) ≡ []
not_over_told keep within now changed refused entry rest is = rw is refl

not_over_purged : (keep now : ℕ) (entry : Entry ℕ) (rest : List (Entry ℕ)) → is_over keep now entry ≡ false →
    drop (prefix_len (is_over keep now) (entry ∷ rest)) (entry ∷ rest) ≡ entry ∷ rest
not_over_purged keep now entry rest is = rw is refl

pub none_of_first : (keep now : ℕ) (w : WaitingValue) (entry : Entry ℕ) (rest : List (Entry ℕ)) → w.is_full ≡ false → w.entries ≡ entry ∷ rest →
    is_over keep now entry ≡ false → IsNoneOver keep now w
unfolding told purged
none_of_first keep now w entry rest free split is =
    record {
      told = λ within changed refused. rw (free, split) (not_over_told keep within now changed refused entry rest is);
      purged = rw free (λ i. record {
        entries = (ap (λ (es : List (Entry ℕ)). drop (prefix_len (is_over keep now) es) es) split ∙ not_over_purged keep now entry rest is ∙
            sym split) i;
        is_full = false;
      });
    }

over_told : (keep within now : ℕ) (changed : Option ℕ) (refused : List ℕ) (entry : Entry ℕ) (rest : List (Entry ℕ)) → is_over keep now entry ≡ true
    → flat_map (judged within changed refused) (take_while (is_over keep now) (entry ∷ rest)) ≡ judged within changed refused entry ++
    flat_map (judged within changed refused) (take_while (is_over keep now) rest)
over_told keep within now changed refused entry rest is = let more : 1 + prefix_len (is_over keep now) rest ≡ suc (prefix_len (is_over keep now) rest) =
    omega arith in rw (is, more) refl

over_purged : (keep now : ℕ) (entry : Entry ℕ) (rest : List (Entry ℕ)) → is_over keep now entry ≡ true
    → drop (prefix_len (is_over keep now) (entry ∷ rest)) (entry ∷ rest) ≡ drop (prefix_len (is_over keep now) rest) rest
over_purged keep now entry rest is = let more : 1 + prefix_len (is_over keep now) rest ≡ suc (prefix_len (is_over keep now) rest) = omega arith in
    rw (is, more) refl

pub first_over : (keep now : ℕ) (old new : WaitingValue) (entry : Entry ℕ) → old.is_full ≡ false → new.is_full ≡ false →
    old.entries ≡ entry ∷ new.entries → is_over keep now entry ≡ true → IsFirstOver keep now old new entry
unfolding told purged
first_over keep now old new entry free still split is =
    record {
      is_over = ltb-true _ _ is;
      told = λ within changed refused. rw (free, still, split) (over_told keep within now changed refused entry new.entries is);
      purged = rw (free, still) (λ i. record {
        entries = (ap (λ (es : List (Entry ℕ)). drop (prefix_len (is_over keep now) es) es) split ∙ over_purged keep now entry new.entries is) i;
        is_full = false;
      });
      fewer = let more = ap length split in omega (arith, more);
    }

-- an entry that was put behind the others, or for which there was no room
pub entry_put : {X : Type 0} (f : X → Entry ℕ) (items more : List X) (is_full : Bool) (entry : X) (w : WaitingValue) → length items < room →
    record { entries = list_map f items; is_full = is_full } ≡ w → more ≡ items ++ entry ∷ []
    → record { entries = list_map f more; is_full = is_full } ≡ with_entry (f entry) w
unfolding with_entry
entry_put f items more is_full entry w few made behind =
    let within : length (list_map f items) < room = omega (arith, few, made_long f items _ refl) in
    let tested = lt-ltb (length (list_map f items)) room within in
    let here : record { entries = list_map f more; is_full = is_full } ≡ with_entry (f entry) (record { entries = list_map f items; is_full = is_full }) =
    rw tested (λ i. record { entries = (ap (list_map f) behind ∙ map-append f items (entry ∷ [])) i; is_full = is_full }) in
    here ∙ ap (with_entry (f entry)) made

pub no_room_left : {X : Type 0} (f : X → Entry ℕ) (items : List X) (is_full : Bool) (entry : Entry ℕ) (w : WaitingValue) → room ≤ length items →
    record { entries = list_map f items; is_full = is_full } ≡ w
    → record { entries = list_map f items; is_full = true } ≡ with_entry entry w
unfolding with_entry
no_room_left f items is_full entry w many made =
    let beyond : room ≤ length (list_map f items) = omega (arith, many, made_long f items _ refl) in
    let tested = le-ltb (length (list_map f items)) room beyond in
    let here : record { entries = list_map f items; is_full = true } ≡ with_entry entry (record { entries = list_map f items; is_full = is_full }) =
    rw tested refl in
    here ∙ ap (with_entry entry) made

-- no entry has found its partner, or the one at a place has
pub partner_of_none : (side : Side) (asked : Asked ℕ) (from : ℕ) (other : Terms ℕ) (w : WaitingValue) → IsNoneFree side asked from w.entries →
    w ≡ with_partner side asked from other w
unfolding with_partner
partner_of_none side asked from other w none = λ i. record { entries = sym (none.joined other) i; is_full = w.is_full }

pub partner_joined : {X : Type 0} (f : X → Entry ℕ) (items : List X) (is_full : Bool) (w : WaitingValue) (place : ℕ) (found changed : X) (side : Side)
    (asked : Asked ℕ) (from : ℕ) (other : Terms ℕ)
    → IsFirstFree side asked from w.entries place → record { entries = list_map f items; is_full = is_full } ≡ w → found ≡ get_or items place found →
    f changed ≡ joined other (f found)
    → record { entries = list_map f (set items place changed); is_full = is_full } ≡ with_partner side asked from other w
unfolding with_partner
partner_joined f items is_full w place found changed side asked from other first made is changes =
    let entries = ap (λ (v : WaitingValue). v.entries) made in
    λ i. record {
      entries = (map-set f items place changed
          ∙ ap (λ (e : Entry ℕ). set (list_map f items) place e) (changes ∙ ap (joined other) (made_at f items w.entries place found entries is))
          ∙ ap (λ (es : List (Entry ℕ)). set es place (joined other (get_or w.entries place (f found)))) entries
          ∙ sym (first.joined other (f found))) i;
      is_full = ap (λ (v : WaitingValue). v.is_full) made i;
    }

-- the first entry was taken out
pub none_made : {X : Type 0} (f : X → Entry ℕ) (items : List X) (entries : List (Entry ℕ)) → list_map f items ≡ entries → length items ≡ 0 → entries ≡ []
none_made f [] entries made none = sym made
none_made f (x ∷ xs) entries made none = absurd (omega arith)

pub popped : {X : Type 0} (f : X → Entry ℕ) (items more : List X) (is_full : Bool) (w : WaitingValue) (keep now : ℕ) (first : X) (r : Option X) →
    is_full ≡ false → record { entries = list_map f items; is_full = is_full } ≡ w
    → first ≡ get_or items 0 first → is_over keep now (f first) ≡ true → items ≡ option_to_list r ++ more
    → IfSome r (λ x. IsFirstOver keep now w (record { entries = list_map f more; is_full = is_full }) (f x))
popped f items more is_full w keep now first None free made is over split = tt
popped f items more is_full w keep now first (Some x) free made is over split =
    let same : first ≡ x = is ∙ ap (λ (xs : List _). get_or xs 0 first) split in
    first_over keep now w (record { entries = list_map f more; is_full = is_full }) (f x) (sym (ap (λ (v : WaitingValue). v.is_full) made) ∙ free) free
    (sym (ap (λ (v : WaitingValue). v.entries) made) ∙ ap (list_map f) split) (ap (λ (y : _). is_over keep now (f y)) (sym same) ∙ over)
