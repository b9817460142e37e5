-- One packet more of a link type that isn't read.
use Rattle.mq_convert.proofs.Common.{◌≡◌, ◌≤◌, ◌<◌, ◌+◌, ℕ, zero, suc, Bool, true, false, List, [], ◌∷◌, ◌++◌, length, refl, arith, sym, ◌∙◌, ap, add_assoc}
use Rattle.mq_convert.proofs.Common.{length-append, All, list_any, eq-eqb, eqb-true, lt-ltb, nat_tests, length-map, map-append, LinkCount, Unread, Tallies}
use Rattle.mq_convert.proofs.Common.{counted, first_links, is_known, is_of, raised, times, with_link}
use Rattle.std.specs.Prelude.{nat_lt, not, ◌||◌, ◌==◌, if◌then◌else◌, map}
use Rattle.std.proofs.lemmas.List.Elements.{All-append, All-map}
use Rattle.std.proofs.lemmas.List.Folds.{list_any-append}

-- true exactly if a link type has a row
abbrev seen_in : (link : ℕ) → List ℕ → Bool
seen_in link seen = list_any (λ other. other == link) seen

first_links-more : (seen links : List ℕ) (link : ℕ) → first_links seen (links ++ (link ∷ [])) ≡ with_link (first_links seen links) link
first_links-more seen [] link = refl
first_links-more seen (x ∷ links) link = first_links-more (with_link seen x) links link

times-more : (link : ℕ) (links : List ℕ) (other : ℕ) (is : Bool) → (link == other) ≡ is → times link (links ++ (other ∷ []))
    ≡ times link links + (if is then 1 else 0)
times-more link [] other true e = rw e refl
times-more link [] other false e = rw e refl
times-more link (x ∷ links) other is e =
    let ih = times-more link links other is e in
    let first : ℕ = if link == x then 1 else 0 in
    ap (λ n. first + n) ih ∙ sym (add_assoc first (times link links) (if is then 1 else 0))

-- a row stays
with_link-keeps : (link : ℕ) (seen : List ℕ) (x : ℕ) → seen_in link seen ≡ true → seen_in link (with_link seen x) ≡ true
with_link-keeps link seen x is = by_test (seen_in x seen || not (nat_lt (length seen) 16)) refl
  where
    by_test : (b : Bool) → (seen_in x seen || not (nat_lt (length seen) 16)) ≡ b → seen_in link (with_link seen x) ≡ true
    by_test true e = rw e is
    by_test false e = rw (e, list_any-append (λ other. other == link) seen (x ∷ []), is) refl

keeps : (link : ℕ) (seen links : List ℕ) → seen_in link seen ≡ true → seen_in link (first_links seen links) ≡ true
keeps link seen [] is = is
keeps link seen (x ∷ links) is = keeps link (with_link seen x) links (with_link-keeps link seen x is)

with_link-grows : (seen : List ℕ) (x : ℕ) → length seen ≤ length (with_link seen x)
with_link-grows seen x = by_test (seen_in x seen || not (nat_lt (length seen) 16)) refl
  where
    by_test : (b : Bool) → (seen_in x seen || not (nat_lt (length seen) 16)) ≡ b → length seen ≤ length (with_link seen x)
    by_test true e = rw e (omega arith)
    by_test false e = rw e (omega (arith, length-append seen (x ∷ [])))

grows : (seen links : List ℕ) → length seen ≤ length (first_links seen links)
grows seen [] = omega arith
grows seen (x ∷ links) = let a = with_link-grows seen x in let b = grows (with_link seen x) links in omega (arith, a, b)

-- where there is room, each link type gets a row
gets_row : (seen : List ℕ) (x : ℕ) → length seen < 16 → (b : Bool) → seen_in x seen ≡ b → seen_in x (with_link seen x) ≡ true
gets_row seen x few true e = rw e e
gets_row seen x few false e =
    let room = lt-ltb (length seen) 16 few in
    rw (e, room, list_any-append (λ other. other == x) seen (x ∷ []), e, eq-eqb x x refl) refl

-- so where there is room, and a link type has no row, there was no packet of it
other_first : (link x : ℕ) (seen links : List ℕ) → seen_in link (first_links (with_link seen x) links) ≡ false →
    seen_in x (first_links (with_link seen x) links) ≡ true
    → (b : Bool) → (link == x) ≡ b → times link links ≡ 0 → times link (x ∷ links) ≡ 0
other_first link x seen links none row true e later =
    let same = eqb-true link x e in
    absurd (let other = ap (λ n. seen_in n (first_links (with_link seen x) links)) same in cc)
other_first link x seen links none row false e later = rw (e, later) refl

absent : (link : ℕ) (seen links : List ℕ) → length (first_links seen links) < 16 → seen_in link (first_links seen links) ≡ false → times link links ≡ 0
absent link seen [] few none = refl
absent link seen (x ∷ links) few none =
    let a = with_link-grows seen x in
    let b = grows (with_link seen x) links in
    let row = keeps x (with_link seen x) links (gets_row seen x (omega (arith, a, b, few)) (seen_in x seen) refl) in
    other_first link x seen links none row (link == x) refl (absent link (with_link seen x) links few none)

-- the rows behind one packet more
kind-raised : (link : ℕ) (row : LinkCount) (b : Bool) → (row.link == link) ≡ b → (raised link row).link ≡ row.link
kind-raised link row true e = rw e refl
kind-raised link row false e = rw e refl

kinds-raised : (link : ℕ) (rows : List LinkCount) → map (λ row. row.link) (map (raised link) rows) ≡ map (λ row. row.link) rows
kinds-raised link [] = refl
kinds-raised link (row ∷ rows) =
    let first = kind-raised link row (row.link == link) refl in
    let rest = kinds-raised link rows in
    λ i. first i ∷ rest i

seen-kinds : (link : ℕ) (rows : List LinkCount) → seen_in link (map (λ row. row.link) rows) ≡ list_any (is_of link) rows
seen-kinds link [] = refl
seen-kinds link (row ∷ rows) = ap (λ b. (row.link == link) || b) (seen-kinds link rows)

row-raised : (link : ℕ) (links : List ℕ) (row : LinkCount) → row.count ≡ counted (times row.link links) →
    (raised link row).count ≡ counted (times (raised link row).link (links ++ (link ∷ [])))
row-raised link links row is = by_test (row.link == link) refl
  where
    by_test : (b : Bool) → (row.link == link) ≡ b → (raised link row).count ≡ counted (times (raised link row).link (links ++ (link ∷ [])))
    by_test true e = let more = times-more row.link links link true e in rw e (omega (arith, is, more))
    by_test false e = let more = times-more row.link links link false e in rw e (omega (arith, is, more))

pub each-raised : (link : ℕ) (links : List ℕ) (rows : List LinkCount) → All (λ row. row.count ≡ counted (times row.link links)) rows
    → All (λ row. row.count ≡ counted (times row.link (links ++ (link ∷ [])))) (map (raised link) rows)
each-raised link links rows all =
    All-map (λ row. row.count ≡ counted (times row.link (links ++ (link ∷ [])))) (raised link) rows
    (λ k d fits. row-raised link links _ (all k d fits))

one_element : (P : LinkCount → Type 0) (row : LinkCount) → P row → All P (row ∷ [])
one_element P row is zero d fits = is
one_element P row is (suc k) d fits = absurd (omega (arith, fits))

count-more : (links : List ℕ) (link count : ℕ) → count ≡ counted (length links) → counted (count + 1) ≡ counted (length (links ++ (link ∷ [])))
count-more links link count is = omega (arith, is, length-append links (link ∷ []))

-- where a link type isn't known, it has no row, and there is room
pub unknown_row : (has : Bool) (size : ℕ) → (has || not (nat_lt size 16)) ≡ false → (has ≡ false) × (size < 16)
unknown_row true size is = absurd (cc)
unknown_row false size is = (refl, grind (arith, nat_tests, is))

-- no row is new: there is one, or there is no room
pub tallied_known : (links : List ℕ) (link : ℕ) (old new : Unread) → Tallies links old → is_known link old.links.items ≡ true
    → new.count ≡ counted (old.count + 1) → new.links.items ≡ map (raised link) old.links.items → Tallies (links ++ (link ∷ [])) new
tallied_known links link old new t known count rows =
    let rows' = old.links.items in
    let seen = sym (seen-kinds link rows') ∙ ap (seen_in link) t.kinds in
    let size = sym (length-map rows' (λ row. row.link)) ∙ ap length t.kinds in
    let test : (seen_in link (first_links [] links) || not (nat_lt (length (first_links [] links)) 16)) ≡ true = rw (← seen, ← size) known in
    let same : with_link (first_links [] links) link ≡ first_links [] links = rw test refl in
    record {
      count = count ∙ count-more links link old.count t.count;
      kinds = ap (map (λ row. row.link)) rows ∙ kinds-raised link rows' ∙ t.kinds ∙ sym same ∙ sym (first_links-more [] links link);
      each = rw rows (each-raised link links rows' t.each);
    }

-- a row is new
pub tallied_new : (links : List ℕ) (link : ℕ) (old new : Unread) → Tallies links old → is_known link old.links.items ≡ false
    → new.count ≡ counted (old.count + 1) → new.links.items ≡ map (raised link) old.links.items ++ (record { link = link; count = 1 } ∷ []) →
    Tallies (links ++ (link ∷ [])) new
tallied_new links link old new t unknown count rows =
    let parts = unknown_row (list_any (is_of link) old.links.items) (length old.links.items) unknown in
    let other = parts.0 in
    let room = parts.1 in
    let rows' = old.links.items in
    let seen : seen_in link (first_links [] links) ≡ false = sym (sym (seen-kinds link rows') ∙ ap (seen_in link) t.kinds) ∙ other in
    let size = sym (length-map rows' (λ row. row.link)) ∙ ap length t.kinds in
    let few : length (first_links [] links) < 16 = omega (arith, size, room) in
    let open_ = lt-ltb (length (first_links [] links)) 16 few in
    let added : with_link (first_links [] links) link ≡ first_links [] links ++ (link ∷ []) = rw (seen, open_) refl in
    let row : LinkCount = record { link = link; count = 1 } in
    let none = absent link [] links few seen in
    let more = times-more link links link true (eq-eqb link link refl) in
    let one : row.count ≡ counted (times row.link (links ++ (link ∷ []))) = omega (arith, none, more) in
    record {
      count = count ∙ count-more links link old.count t.count;
      kinds = ap (map (λ row. row.link)) rows ∙ map-append (λ (row : LinkCount). row.link) (map (raised link) rows') (row ∷ []) ∙
          ap (λ kinds. kinds ++ (link ∷ [])) (kinds-raised link rows' ∙ t.kinds) ∙ sym added ∙ sym (first_links-more [] links link);
      each = rw rows (All-append (λ row. row.count ≡ counted (times row.link (links ++ (link ∷ [])))) (map (raised link) rows') (row ∷ [])
          (each-raised link links rows' t.each)
          (one_element (λ row. row.count ≡ counted (times row.link (links ++ (link ∷ [])))) row one));
    }
