-- A page, group by group.
use Rattle.mq_c.proofs.Common.{◌≡◌, ℕ, ◌+◌, ◌-◌, ◌*◌, ◌<◌, ◌≤◌, refl, List, [], ◌∷◌, ◌++◌, length, take, drop, get_or, set, append-nil, append_assoc, sym, ap}
use Rattle.mq_c.proofs.Common.{subst, ◌∙◌, arith, length-append, length-drop, list_map, length-map, length-take-le, take_all, drop_all, drop-drop, IsAscending}
use Rattle.mq_c.proofs.Common.{number_in, timers_in, Source, ScheduledGroup, Groups, group_at, sources_of, Page, Entry, SourceEntry, IsPage}
use Rattle.std.proofs.{Common.add-one, Math.Seq.drop-cons, Math.Seq.take-append_seam, Math.Seq.drop-append_seam}
use Rattle.std.proofs.lemmas.{Grind.flat_map-append, List.take_more, List.get_or-drop, List.map-append, List.set-append_right}
use Rattle.mq_sets.proofs.Ascents.{IsAscending-map}
use Rattle.mq_held.specs.Places.{HasPlace, group_in}
use Rattle.mq_link.proofs.Reconfigured.{entry_at}
use Rattle.mq_held.proofs.{HeldMoments.entries-from_entries, Places.place-group, Sorted.key_of, Sorted.sorted-ascending}
use Rattle.mq_c.specs.Pages.{groups_from, sources_of_entry, sources_of_entries, Shows}
use Rattle.std.specs.FinMap as map

-- the memory behind what was written, one item further
set_behind : {X : Type 0} (front old : List X) (n : ℕ) (y : X) → length front ≡ n → n < length old
    → set (front ++ drop n old) n y ≡ (front ++ y ∷ []) ++ drop (n + 1) old
set_behind front old n y is within =
    let d = get_or old n y in
    let none : n - n ≡ 0 = omega arith in
    set-append_right front (drop n old) n n y is (omega arith)
    ∙ ap (λ (k : ℕ). front ++ set (drop n old) k y) none
    ∙ ap (λ (l : List _). front ++ set l 0 y) (drop-cons old n y within)
    ∙ rw (← add-one) (sym (append_assoc front (y ∷ []) (drop (n + 1) old)))

-- one item of a list more at the front of the memory
pub one_more : {X Y : Type 0} (f : X → Y) (from : List X) (old out : List Y) (i : ℕ) (d : X) → i < length from → i < length old
    → out ≡ list_map f (take i from) ++ drop i old → set out i (f (get_or from i d)) ≡ list_map f (take (i + 1) from) ++ drop (i + 1) old
one_more f from old out i d within room is =
    ap (λ (l : List _). set l i (f (get_or from i d))) is
    ∙ set_behind (list_map f (take i from)) old i (f (get_or from i d)) (length-map (take i from) f ∙ length-take-le i from (omega arith)) (omega arith)
    ∙ ap (λ (l : List _). l ++ drop (i + 1) old) (sym (map-append f (take i from) (get_or from i d ∷ [])) ∙ ap (list_map f) (sym (take_more from i d within)))

-- all of it
pub all_put : {X Y : Type 0} (f : X → Y) (from : List X) (old out : List Y) (i : ℕ) → i ≤ length from → length from ≤ i
    → out ≡ list_map f (take i from) ++ drop i old → out ≡ list_map f from ++ drop (length from) old
all_put f from old out i low high is =
    let end : i ≡ length from = omega arith in
    is ∙ ap (λ (k : ℕ). list_map f (take k from) ++ drop k old) end ∙ ap (λ (l : List _). list_map f l ++ drop (length from) old)
    (take_all (length from) from (omega arith))

-- and by a whole row
put_behind : {X : Type 0} (front old row all : List X) (n k : ℕ) → length front ≡ n → all ≡ front ++ drop n old
    → take n all ++ (row ++ drop k (drop n all)) ≡ (front ++ row) ++ drop (n + k) old
put_behind front old row all n k is all_is =
    let split = subst (λ (m : ℕ). (take m (front ++ drop n old) ≡ front) × (drop m (front ++ drop n old) ≡ drop n old)) is
    (take-append_seam front (drop n old), drop-append_seam front (drop n old)) in
    ap (λ (l : List _). take n l ++ (row ++ drop k (drop n l))) all_is
    ∙ ap (λ (l : List _). l ++ (row ++ drop k (drop n (front ++ drop n old)))) split.0
    ∙ ap (λ (l : List _). front ++ (row ++ drop k l)) split.1
    ∙ ap (λ (l : List _). front ++ (row ++ l)) (drop-drop k n old)
    ∙ sym (append_assoc front row (drop (n + k) old))

-- a write to the end of the memory from some place on
to_end : {X : Type 0} (all row put : List X) (n k : ℕ) → put ≡ row ++ drop k (take (length all - n) (drop n all))
    → take n all ++ (put ++ drop (length all - n) (drop n all)) ≡ take n all ++ (row ++ drop k (drop n all))
to_end all row put n k is =
    let rest = drop n all in
    let few : length rest ≤ length all - n = omega (arith, length-drop n all) in
    ap (λ (l : List _). take n all ++ (l ++ drop (length all - n) rest)) is
    ∙ ap (λ (l : List _). take n all ++ ((row ++ drop k l) ++ drop (length all - n) rest)) (take_all (length all - n) rest few)
    ∙ ap (λ (l : List _). take n all ++ ((row ++ drop k rest) ++ l)) (drop_all (length all - n) rest few)
    ∙ ap (λ (l : List _). take n all ++ l) (append-nil (row ++ drop k rest))

-- the sources of a stored group as they cross
pub row_forms : {K S : Type 0} (number : K → ℕ) (source_form : SourceEntry → S) (row : List (Source K)) → IsAscending (number_in number) row
    → list_map (λ (x : Source K). source_form (number x.address, x.timer)) row ≡ list_map source_form (map.entries (timers_in number row))
row_forms {K} {S} number source_form row up =
    let pair : Source K → SourceEntry = λ x. (number x.address, x.timer) in
    let sorted = sorted-ascending (list_map pair row) (IsAscending-map key_of pair row up) in
    sym (ap (list_map source_form) (entries-from_entries (list_map pair row) sorted) ∙ each row)
  where
    each : (row : List (Source K)) → list_map source_form (list_map (λ (x : Source K). let e : SourceEntry = (number x.address, x.timer) in e) row)
        ≡ list_map (λ (x : Source K). source_form (number x.address, x.timer)) row
    each [] = refl
    each (x ∷ row) = ap (λ (l : List S). source_form (number x.address, x.timer) ∷ l) (each row)

module _ {G S : Type 0} (group_form : Entry → G) (source_form : SourceEntry → S) (held : Groups) (first : ℕ) where
  -- one group more
  shows_more : (old_groups groups : List G) (old_sources sources row : List S) (count used address n : ℕ) (e : ScheduledGroup)
      → Shows group_form source_form held first old_groups groups old_sources sources count used
      → first + count < map.len held → HasPlace held address (first + count) → e ≡ group_at held address
      → count < length old_groups → row ≡ list_map source_form (map.entries e.group.sources) → length row ≡ n
      → Shows group_form source_form held first old_groups (set groups count (group_form (address, e))) old_sources
      (take used sources ++ (row ++ drop n (drop used sources))) (count + 1) (used + n)
  shows_more old_groups groups old_sources sources row count used address n e shows within has is room row_is row_length =
      let all = drop first (map.entries held) in
      let d : Entry = (address, e) in
      let few : count < length all = omega (arith, length-drop first (map.entries held), map.len-entries held) in
      let entry : ◌≡◌ {A = Entry} (get_or all count d) d = get_or-drop first (map.entries held) count d ∙ entry_at held address (first + count) e has is d in
      let more : groups_from held first (count + 1) ≡ groups_from held first count ++ d ∷ [] = take_more all count d few ∙
      ap (λ (x : Entry). take count all ++ x ∷ []) entry in
      let here = groups_from held first count in
      let sources_more : sources_of_entries (groups_from held first (count + 1)) ≡ sources_of_entries here ++ sources_of_entry d =
      ap sources_of_entries more ∙ flat_map-append sources_of_entry here (d ∷ []) ∙ ap (λ (l : List SourceEntry). sources_of_entries here ++ l)
      (append-nil (sources_of_entry d)) in
      let here_length : length (sources_of_entry d) ≡ n = sym (ap length row_is ∙ length-map (sources_of_entry d) source_form) ∙ row_length in
      record {
        count_is = ap length more ∙ length-append here (d ∷ []) ∙ ap (λ (k : ℕ). k + 1) shows.count_is;
        source_count_is = ap length sources_more ∙ length-append (sources_of_entries here) (sources_of_entry d) ∙
            omega (arith, shows.source_count_is, here_length);
        groups_are =
            ap (λ (l : List G). set l count (group_form d)) shows.groups_are
            ∙ set_behind (list_map group_form here) old_groups count (group_form d) (length-map here group_form ∙ shows.count_is) room
            ∙ ap (λ (l : List G). l ++ drop (count + 1) old_groups) (sym (map-append group_form here (d ∷ [])) ∙ ap (list_map group_form) (sym more));
        sources_are =
            put_behind (list_map source_form (sources_of_entries here)) old_sources row sources used n
            (length-map (sources_of_entries here) source_form ∙ shows.source_count_is) shows.sources_are
            ∙ ap (λ (l : List S). l ++ drop (used + n) old_sources)
            (ap (λ (l : List S). list_map source_form (sources_of_entries here) ++ l) row_is ∙
            sym (map-append source_form (sources_of_entries here) (sources_of_entry d)) ∙ ap (list_map source_form) (sym sources_more));
      }

  -- a page so far: it shows so many groups with their sources, and no more of either than there can be
  pub record SoFar (old_groups groups : List G) (old_sources sources : List S) (count used : ℕ) : Type 0 where
    pub shows : Shows group_form source_form held first old_groups groups old_sources sources count used
    pub within : count ≤ map.len held
    pub few : used ≤ 1024 * count

  pub so_far_more : {K : Type 0} (number : K → ℕ) (old_groups groups : List G) (old_sources sources put : List S) (count used address : ℕ)
      (row : List (Source K)) (e : ScheduledGroup) (y : G)
      → SoFar old_groups groups old_sources sources count used
      → first + count < map.len held → HasPlace held address (first + count) → e ≡ group_at held address → IsAscending (number_in number) row →
      e.group.sources ≡ timers_in number row
      → length row ≤ 1024 → count < length old_groups → y ≡ group_form (address, e)
      → put ≡ list_map (λ (x : Source K). source_form (number x.address, x.timer)) row ++ drop (length row) (take (length sources - used) (drop used sources))
      → SoFar old_groups (set groups count y) old_sources (take used sources ++ (put ++ drop (length sources - used) (drop used sources))) (count + 1)
      (used + length row)
  so_far_more {K} number old_groups groups old_sources sources put count used address row e y so_far within has is up stored small room y_is put_is =
      let form = λ (x : Source K). source_form (number x.address, x.timer) in
      let forms : list_map form row ≡ list_map source_form (map.entries e.group.sources) = row_forms number source_form row up ∙
      ap (λ m. list_map source_form (map.entries m)) (sym stored) in
      let shown = shows_more old_groups groups old_sources sources (list_map form row) count used address (length row) e so_far.shows within has is
      room forms (length-map row form) in
      let as_put = sym (to_end sources (list_map form row) put used (length row) put_is) in
      record {
        shows = subst (λ (l : List S). Shows group_form source_form held first old_groups (set groups count y) old_sources l (count + 1)
            (used + length row)) as_put
            (subst (λ (x : G). Shows group_form source_form held first old_groups (set groups count x) old_sources
            (take used sources ++ (list_map form row ++ drop (length row) (drop used sources))) (count + 1) (used + length row)) (sym y_is) shown);
        within = omega (arith, within);
        few = omega (arith, so_far.few, small);
      }

  -- there is no room for the sources of the next group
  pub page_full : (old_groups groups : List G) (old_sources sources : List S) (count used address n : ℕ) (page : Page)
      → SoFar old_groups groups old_sources sources count used → page ≡ record { groups = count; sources = used }
      → HasPlace held address (first + count) → n ≡ sources_of (group_at held address)
      → length sources ≡ length old_sources → length sources - used < n
      → IsPage group_form source_form held first old_groups groups old_sources sources page
  page_full old_groups groups old_sources sources count used address n page so_far page_is has n_is same full =
      let next : sources_of (group_at held address) ≡ sources_of (group_in held (first + count)) =
      ap sources_of (place-group held address (first + count) has) in
      subst (λ (p : Page). IsPage group_form source_form held first old_groups groups old_sources sources p) (sym page_is)
      (record { shows = so_far.shows; all_that_fit = λ further room. omega (arith, n_is, next, same, full) })
