-- Waiting entries, by their slots.
use Rattle.mq_check.proofs.Common.{◌≡◌, inl, inr, ℕ, zero, suc, ◌+◌, ◌-◌, ◌<◌, ◌≤◌, Bool, true, false, List, [], ◌∷◌, ◌++◌, length, drop, set, get_or, refl, ap}
use Rattle.mq_check.proofs.Common.{sym, subst, ◌∙◌, add-one, arith, list_map, None, Some, ◌==◌, ◌&&◌, nat_le, not, list_any, cases_eq, cases_lt, nat_tests}
use Rattle.mq_check.proofs.Common.{get_or-set_same, get_or-set_other, length-set, length-drop, length_push, get_or_push, get_or_append_left, get_or_read}
use Rattle.mq_check.proofs.Common.{map-append, map-set, get_or_after_one, Asked, AllGroups, Source, Entry, Wanted, Seen, Interval, Silence, Packet, Terms, Side}
use Rattle.mq_check.proofs.Common.{OfWanted, OfSeen, moment_of, joined, is_group_wanted, wanted_slot, wanted_moment, entry_at, AreMarked, AreNoneOf, AreBounded}
use Rattle.mq_check.proofs.Common.{TrailsValue, Reaches, is_free, is_open}
use Rattle.std.proofs.lemmas.{Bool.cases_Bool, Bool.eqb-true, List.get_or_default}
use Rattle.mq_check.specs.{declared.asked.Asked.TheVariants.Group, Queries.is_same, Slots.slot_of, Slots.slot_in, Trails.IsNear}
use Rattle.mq_check.proofs.Waits.{IsPassed, none_passed, one_passed}

-- entries with one subject have one slot
same_asked : (a b : Asked ℕ) → is_same a b ≡ true → a ≡ b
same_asked AllGroups AllGroups same = refl
same_asked (Group g) (Group g') same = ap Group (grind (arith, nat_tests))
same_asked (Source g s) (Source g' s') same =
    let group : g ≡ g' = grind (arith, nat_tests) in
    let source : s ≡ s' = grind (arith, nat_tests) in
    λ i. Source (group i) (source i)
same_asked _ _ same = cc

both_first : (a b : Bool) → a && b ≡ true → a ≡ true
both_first true b is = refl
both_first false b is = is

both_second : (a b : Bool) → a && not b ≡ true → b ≡ false
both_second true false is = refl
both_second _ _ is = cc

both_last : (a b : Bool) → a && b ≡ true → b ≡ true
both_last true b is = is
both_last false b is = cc

-- an entry without a partner is in the slot of what it asks about
pub free_slot : (width : ℕ) (side : Side) (asked : Asked ℕ) (entry : Entry ℕ) → is_open side asked entry ≡ true → slot_in width entry ≡ slot_of width side asked
free_slot width OfWanted asked (Wanted moment asked' terms is_optional true) free = let found = both_second (is_same asked asked') true free in cc
free_slot width OfWanted asked (Wanted moment asked' terms is_optional false) free = ap (slot_of width OfWanted)
    (sym (same_asked asked asked' (both_first _ _ free)))
free_slot width OfSeen asked (Seen moment asked' terms (Some partner) is_querier) free = let found = both_second (is_same asked asked') true free in cc
free_slot width OfSeen asked (Seen moment asked' terms None is_querier) free = ap (slot_of width OfSeen) (sym (same_asked asked asked' (both_first _ _ free)))
free_slot width _ asked _ free = cc

true_isnt_false : true ≡ false → ⊥
true_isnt_false is = cc

and_false : (a : Bool) → a && false ≡ false
and_false true = refl
and_false false = refl

-- an entry with a partner is free for nothing
joined_free : (side : Side) (asked : Asked ℕ) (other : Terms ℕ) (entry : Entry ℕ) → is_open side asked (joined other entry) ≡ false
joined_free OfWanted asked other (Wanted moment asked' terms is_optional is_found) = and_false (is_same asked asked')
joined_free OfSeen asked other (Seen moment asked' terms partner is_querier) = and_false (is_same asked asked')
joined_free _ asked other _ = refl

pub marked_none : (width horizon : ℕ) (t : TrailsValue) → t.slots ≡ [] → AreMarked width horizon [] t
marked_none width horizon t none = record {
  long = ap length none;
  slot = λ place side asked within free. absurd (omega arith);
  reached = λ place side asked within free. absurd (omega arith);
  near = λ place side asked within free. absurd (omega arith);
}

-- an entry was put behind the others
pub marked_pushed : (width horizon : ℕ) (entries : List (Entry ℕ)) (entry : Entry ℕ) (old new : TrailsValue) → AreMarked width horizon entries old →
    new.slots ≡ old.slots ++ slot_in width entry ∷ []
    → Reaches new (length old.slots) → IsNear new (length old.slots) → ((k : ℕ) → k < length old.slots → Reaches old k → Reaches new k) →
    ((k : ℕ) → k < length old.slots → IsNear old k → IsNear new k) → AreMarked width horizon (entries ++ entry ∷ []) new
marked_pushed width horizon entries entry old new marked slots here near others nears =
    let put : List (Entry ℕ) = entries ++ entry ∷ [] in
    let before : (place : ℕ) → place < length entries → entry_at put place ≡ entry_at entries place =
    λ place within. get_or_append_left entries (entry ∷ []) (Interval 0 0 0 0) place within in
    let last : entry_at put (length entries) ≡ entry = get_or_push entries entry (Interval 0 0 0 0) (length entries) refl in
    record {
      long = ap length slots ∙ length_push old.slots (slot_in width entry) ∙ ap (λ (n : ℕ). n + 1) marked.long ∙ sym (length_push entries entry);
      slot = λ place side asked within free. elim (cases_lt place (length entries)) [
        | inl inside ↦
            let inside_too : place < length old.slots = omega (arith, inside, marked.long) in
            ap (λ (s : List ℕ). get_or s place 0) slots ∙ get_or_append_left old.slots (slot_in width entry ∷ []) 0 place inside_too
            ∙ marked.slot place side asked inside (ap (is_open side asked) (sym (before place inside)) ∙ free)
        | inr beyond ↦
            let end : place ≡ length entries = omega (arith, length_push entries entry, within, beyond) in
            let there : length old.slots ≡ place = omega (arith, end, marked.long) in
            ap (λ (s : List ℕ). get_or s place 0) slots ∙ get_or_push old.slots (slot_in width entry) 0 place there
            ∙ free_slot width side asked entry (ap (is_open side asked) (sym (ap (entry_at put) end ∙ last)) ∙ free)
      ];
      reached = λ place side asked within free. elim (cases_lt place (length entries)) [
        | inl inside ↦
            let inside_too : place < length old.slots = omega (arith, inside, marked.long) in
            others place inside_too (marked.reached place side asked inside (ap (is_open side asked) (sym (before place inside)) ∙ free))
        | inr beyond ↦
            let there : length old.slots ≡ place = omega (arith, length_push entries entry, within, beyond, marked.long) in
            subst (Reaches new) there here
      ];
      near = λ place side asked within free. elim (cases_lt place (length entries)) [
        | inl inside ↦
            let inside_too : place < length old.slots = omega (arith, inside, marked.long) in
            nears place inside_too (marked.near place side asked inside (ap (is_free side asked horizon) (sym (before place inside)) ∙ free))
        | inr beyond ↦
            let there : length old.slots ≡ place = omega (arith, length_push entries entry, within, beyond, marked.long) in
            subst (IsNear new) there near
      ];
    }

-- an entry has found its partner
pub marked_joined : (width horizon : ℕ) (entries : List (Entry ℕ)) (at : ℕ) (other : Terms ℕ) (entry : Entry ℕ) (old new : TrailsValue) →
    AreMarked width horizon entries old → at < length entries → new.slots ≡ old.slots
    → ((k : ℕ) → k < length old.slots → (k ≡ at → ⊥) → Reaches old k → Reaches new k) →
    ((k : ℕ) → k < length old.slots → (k ≡ at → ⊥) → Reaches old k → IsNear old k → IsNear new k)
    → AreMarked width horizon (set entries at (joined other entry)) new
marked_joined width horizon entries at other entry old new marked there slots others nears =
    let long = length-set entries at (joined other entry) in
    let not_at : (place : ℕ) (side : Side) (asked : Asked ℕ) → is_open side asked (entry_at (set entries at (joined other entry)) place) ≡ true →
    place ≡ at → ⊥ = λ place side asked free same.
    let is : is_open side asked (joined other entry) ≡ true =
    ap (is_open side asked)
    (sym (ap (entry_at (set entries at (joined other entry))) same ∙ get_or-set_same entries at (joined other entry) (Interval 0 0 0 0) there)) ∙ free in
    let isnt = joined_free side asked other entry in
    cc in
    record {
      long = ap length slots ∙ marked.long ∙ sym long;
      slot = λ place side asked within free.
          let inside : place < length entries = omega (arith, within, long) in
          ap (λ (s : List ℕ). get_or s place 0) slots ∙ marked.slot place side asked inside
          (ap (is_open side asked) (sym (get_or-set_other entries at place (joined other entry) (Interval 0 0 0 0) (not_at place side asked free))) ∙ free);
      reached = λ place side asked within free.
          let inside : place < length entries = omega (arith, within, long) in
          others place (omega (arith, inside, marked.long)) (not_at place side asked free) (marked.reached place side asked inside
          (ap (is_open side asked) (sym (get_or-set_other entries at place (joined other entry) (Interval 0 0 0 0) (not_at place side asked free))) ∙ free));
      near = λ place side asked within free.
          let inside : place < length entries = omega (arith, within, long) in
          let other_place = not_at place side asked (both_first _ _ free) in
          let same = get_or-set_other entries at place (joined other entry) (Interval 0 0 0 0) other_place in
          nears place (omega (arith, inside, marked.long)) other_place
          (marked.reached place side asked inside (ap (is_open side asked) (sym same) ∙ both_first _ _ free))
          (marked.near place side asked inside (ap (is_free side asked horizon) (sym same) ∙ free));
    }

-- the first entry is gone
pub marked_popped : (width horizon : ℕ) (entries rest : List (Entry ℕ)) (old new : TrailsValue) → AreMarked width horizon entries old →
    rest ≡ drop 1 entries → 0 < length entries → new.slots ≡ drop 1 old.slots
    → ((k : ℕ) → k + 1 < length old.slots → Reaches old (k + 1) → Reaches new k) →
    ((k : ℕ) → k + 1 < length old.slots → Reaches old (k + 1) → IsNear old (k + 1) → IsNear new k) → AreMarked width horizon rest new
marked_popped width horizon entries rest old new marked popped some slots others nears =
    let behind : (place : ℕ) → entry_at rest place ≡ entry_at entries (1 + place) = λ place. ap (λ (es : List (Entry ℕ)). entry_at es place) popped ∙
    get_or_after_one entries place (Interval 0 0 0 0) in
    let one_more : (place : ℕ) → place < length rest → 1 + place < length entries =
    λ place within. omega (arith, within, ap length popped, length-drop {A = Entry ℕ} 1 entries) in
    record {
      long = omega (arith, ap length slots, ap length popped, length-drop {A = ℕ} 1 old.slots, length-drop {A = Entry ℕ} 1 entries, marked.long);
      slot = λ place side asked within free.
          ap (λ (s : List ℕ). get_or s place 0) slots ∙ get_or_after_one old.slots place 0
          ∙ marked.slot (1 + place) side asked (one_more place within) (ap (is_open side asked) (sym (behind place)) ∙ free);
      reached = λ place side asked within free.
          let later : 1 + place ≡ place + 1 = omega arith in
          let inside : place + 1 < length old.slots = omega (arith, one_more place within, marked.long) in
          others place inside (subst (Reaches old) later
          (marked.reached (1 + place) side asked (one_more place within) (ap (is_open side asked) (sym (behind place)) ∙ free)));
      near = λ place side asked within free.
          let later : 1 + place ≡ place + 1 = omega arith in
          let inside : place + 1 < length old.slots = omega (arith, one_more place within, marked.long) in
          nears place inside (subst (Reaches old) later
          (marked.reached (1 + place) side asked (one_more place within) (ap (is_open side asked) (sym (behind place)) ∙ both_first _ _ free)))
          (subst (IsNear old) later (marked.near (1 + place) side asked (one_more place within) (ap (is_free side asked horizon) (sym (behind place)) ∙ free)));
    }

-- an entry that is free from a moment on is free from each earlier one
free_earlier : (side : Side) (asked : Asked ℕ) (horizon from : ℕ) (entry : Entry ℕ) → horizon ≤ from → is_free side asked from entry ≡ true →
    is_free side asked horizon entry ≡ true
free_earlier side asked horizon from entry earlier free =
    let late : nat_le from (moment_of entry) ≡ true = both_last (is_open side asked entry) _ free in
    let reached : nat_le horizon (moment_of entry) ≡ true = grind (arith, nat_tests) in
    ap (λ (b : Bool). b && nat_le horizon (moment_of entry)) (both_first (is_open side asked entry) _ free) ∙ reached

-- a later horizon, and a near start that was moved to a place
pub marked_near : (width horizon from slot place : ℕ) (entries : List (Entry ℕ)) (old new : TrailsValue) → AreMarked width horizon entries old →
    horizon ≤ from → AreNoneOf width slot from entries place → new.slots ≡ old.slots
    → ((k : ℕ) → Reaches old k → Reaches new k) → ((k : ℕ) → (get_or old.slots k 0 ≡ slot → place ≤ k) → IsNear old k → IsNear new k) →
    AreMarked width from entries new
marked_near width horizon from slot place entries old new marked later none slots others nears = record {
  long = ap length slots ∙ marked.long;
  slot = λ k side asked within free. ap (λ (s : List ℕ). get_or s k 0) slots ∙ marked.slot k side asked within free;
  reached = λ k side asked within free. others k (marked.reached k side asked within free);
  near = λ k side asked within free. nears k (λ here. elim (cases_lt k place) [
    | inl less ↦
        let isnt = none.none side asked k (sym here ∙ marked.slot k side asked within (both_first _ _ free)) less within in
        absurd (true_isnt_false (sym free ∙ isnt))
    | inr more ↦ more
  ]) (marked.near k side asked within (free_earlier side asked horizon from (entry_at entries k) later free));
}

-- none of a slot is free before one of its starts
pub none_of_start : (width horizon slot from place : ℕ) (entries : List (Entry ℕ)) (t : TrailsValue) → AreMarked width horizon entries t →
    place ≡ get_or t.starts slot 0 - t.base → AreNoneOf width slot from entries place
none_of_start width horizon slot from place entries t marked start = record {
  none = λ side asked k is before within. elim (cases_Bool (is_free side asked from (entry_at entries k))) [
    | inl free ↦
        let here : get_or t.slots k 0 ≡ slot = marked.slot k side asked within (both_first _ _ free) ∙ sym is in
        absurd (omega (arith, (marked.reached k side asked within (both_first _ _ free)).starts, ap (λ (s : ℕ). get_or t.starts s 0) here, start, before))
    | inr not_free ↦ not_free
  ];
}

pub none_of_near : (width horizon slot from place : ℕ) (entries : List (Entry ℕ)) (t : TrailsValue) → AreMarked width horizon entries t →
    horizon ≤ from → place ≡ get_or t.nears slot 0 - t.base → AreNoneOf width slot from entries place
none_of_near width horizon slot from place entries t marked later start = record {
  none = λ side asked k is before within. elim (cases_Bool (is_free side asked from (entry_at entries k))) [
    | inl free ↦
        let here : get_or t.slots k 0 ≡ slot = marked.slot k side asked within (both_first _ _ free) ∙ sym is in
        absurd (omega (
          arith,
          (marked.near k side asked within (free_earlier side asked horizon from (entry_at entries k) later free)).starts,
          ap (λ (s : ℕ). get_or t.nears s 0) here,
          start,
          before,
        ))
    | inr not_free ↦ not_free
  ];
}

-- nor before the next place, where the entry at this one is too early
pub none_of_further : (width horizon slot from place next : ℕ) (entries : List (Entry ℕ)) (t : TrailsValue) (entry : Entry ℕ) →
    AreMarked width horizon entries t → place < length entries → entry ≡ get_or entries place entry
    → nat_le from (moment_of entry) ≡ false → ((k : ℕ) → place < k → k < next → k < length t.slots → get_or t.slots k 0 ≡ slot → Reaches t k → ⊥) →
    AreNoneOf width slot from entries place → AreNoneOf width slot from entries next
none_of_further width horizon slot from place next entries t entry marked there read early passed before = record {
  none = λ side asked k is below within. elim (cases_lt k place) [
    | inl earlier ↦ before.none side asked k is earlier within
    | inr later ↦ elim (cases_eq k place) [
      | inl same ↦
          ap (λ (p : ℕ). is_free side asked from (entry_at entries p)) same ∙
          ap (is_free side asked from) (sym (get_or_read entries place entry there read (Interval 0 0 0 0)))
          ∙ ap (λ (b : Bool). is_open side asked entry && b) early ∙ and_false (is_open side asked entry)
      | inr other ↦ elim (cases_Bool (is_free side asked from (entry_at entries k))) [
        | inl free ↦ absurd (passed k (omega (arith, later, other)) below (omega (arith, within, marked.long))
            (marked.slot k side asked within (both_first _ _ free) ∙ sym is) (marked.reached k side asked within (both_first _ _ free)))
        | inr not_free ↦ not_free
      ]
    ]
  ];
}

-- none of the entries before a place is free for this
pub record AreNoneBefore (side : Side) (asked : Asked ℕ) (from : ℕ) (entries : List (Entry ℕ)) (place : ℕ) : Type 0 where
  pub none : (k : ℕ) → k < place → k < length entries → is_free side asked from (entry_at entries k) ≡ false

pub none_at_start : (width slot : ℕ) (side : Side) (asked : Asked ℕ) (from : ℕ) (entries : List (Entry ℕ)) (place : ℕ) →
    slot ≡ slot_of width side asked → AreNoneOf width slot from entries place → AreNoneBefore side asked from entries place
none_at_start width slot side asked from entries place is none = record { none = λ k before within. none.none side asked k is before within }

pub none_further : (width horizon : ℕ) (side : Side) (asked : Asked ℕ) (from : ℕ) (entries : List (Entry ℕ)) (t : TrailsValue) (slot place next : ℕ)
    (entry : Entry ℕ) → AreMarked width horizon entries t → slot ≡ slot_of width side asked
    → place < length entries → entry ≡ get_or entries place entry → is_free side asked from entry ≡ false
    → ((k : ℕ) → place < k → k < next → k < length t.slots → get_or t.slots k 0 ≡ slot → Reaches t k → ⊥) →
    AreNoneBefore side asked from entries place → AreNoneBefore side asked from entries next
none_further width horizon side asked from entries t slot place next entry marked is there read not_free passed before = record {
  none = λ k below within. elim (cases_lt k place) [
    | inl earlier ↦ before.none k earlier within
    | inr later ↦ elim (cases_eq k place) [
      | inl same ↦ ap (λ (p : ℕ). is_free side asked from (entry_at entries p)) same ∙
          ap (is_free side asked from) (sym (get_or_read entries place entry there read (Interval 0 0 0 0))) ∙ not_free
      | inr other ↦ elim (cases_Bool (is_free side asked from (entry_at entries k))) [
        | inl free ↦ absurd (passed k (omega (arith, later, other)) below (omega (arith, within, marked.long))
            (marked.slot k side asked within (both_first _ _ free) ∙ sym is) (marked.reached k side asked within (both_first _ _ free)))
        | inr not_free_too ↦ not_free_too
      ]
    ]
  ];
}

pub passed_up_to : (side : Side) (asked : Asked ℕ) (from : ℕ) (entries : List (Entry ℕ)) (place : ℕ) → AreNoneBefore side asked from entries place →
    place ≤ length entries → IsPassed side asked from entries place
passed_up_to side asked from entries zero before within = none_passed side asked from entries
passed_up_to side asked from entries (suc n) before within =
    let there : n < length entries = omega (arith, within) in
    let more : n < suc n = omega arith in
    let earlier : AreNoneBefore side asked from entries n = record { none = λ k below inside. before.none k (omega (arith, below)) inside } in
    let step = one_passed side asked from entries n (entry_at entries n) there
    (get_or_default entries n (Interval 0 0 0 0) (entry_at entries n) there) (before.none n more there)
    (passed_up_to side asked from entries n earlier (omega (arith, within))) in
    subst (IsPassed side asked from entries) (add-one n) step

-- no query is wanted later than at the moment that is kept for its slot
pub bounded_none : (width : ℕ) (latest : List ℕ) → AreBounded width [] latest
bounded_none width latest = record { by = λ place within. absurd (omega arith) }

pub bounded_pushed : (width : ℕ) (entries : List (Entry ℕ)) (entry : Entry ℕ) (latest : List ℕ) (later : ℕ) → AreBounded width entries latest →
    wanted_slot width entry < length latest → get_or latest (wanted_slot width entry) 0 ≤ later → wanted_moment entry ≤ later →
    AreBounded width (entries ++ entry ∷ []) (set latest (wanted_slot width entry) later)
bounded_pushed width entries entry latest later bounded known first second =
    let slot = wanted_slot width entry in
    let higher : (s : ℕ) → get_or latest s 0 ≤ get_or (set latest slot later) s 0 = λ s. elim (cases_eq s slot) [
      | inl same ↦ subst (λ (n : ℕ). get_or latest n 0 ≤ get_or (set latest slot later) n 0) (sym same)
          (omega (arith, get_or-set_same latest slot later 0 known, first))
      | inr other ↦ omega (arith, get_or-set_other latest slot s later 0 other)
    ] in
    let here : wanted_moment entry ≤ get_or (set latest slot later) slot 0 = omega (arith, get_or-set_same latest slot later 0 known, second) in
    let put : List (Entry ℕ) = entries ++ entry ∷ [] in
    record {
      by = λ place within. elim (cases_lt place (length entries)) [
        | inl inside ↦
            let same : entry_at put place ≡ entry_at entries place = get_or_append_left entries (entry ∷ []) (Interval 0 0 0 0) place inside in
            subst (λ (e : Entry ℕ). wanted_moment e ≤ get_or (set latest slot later) (wanted_slot width e) 0) (sym same)
            (omega (arith, bounded.by place inside, higher (wanted_slot width (entry_at entries place))))
        | inr beyond ↦
            let there : length entries ≡ place = omega (arith, length_push entries entry, within, beyond) in
            subst (λ (e : Entry ℕ). wanted_moment e ≤ get_or (set latest slot later) (wanted_slot width e) 0)
            (sym (get_or_push entries entry (Interval 0 0 0 0) place there)) here
      ];
    }

-- the bound is the same for an entry that has found its partner
joined_bounded : (width : ℕ) (latest : List ℕ) (other : Terms ℕ) (entry : Entry ℕ) → wanted_moment entry ≤ get_or latest (wanted_slot width entry) 0 →
    wanted_moment (joined other entry) ≤ get_or latest (wanted_slot width (joined other entry)) 0
joined_bounded width latest other (Wanted moment asked terms is_optional is_found) bound = bound
joined_bounded width latest other _ bound = bound

pub bounded_joined : (width : ℕ) (entries : List (Entry ℕ)) (at : ℕ) (other : Terms ℕ) (entry : Entry ℕ) (latest : List ℕ) →
    AreBounded width entries latest → at < length entries → entry ≡ get_or entries at entry
    → AreBounded width (set entries at (joined other entry)) latest
bounded_joined width entries at other entry latest bounded there read =
    let P : Entry ℕ → Type 0 = λ e. wanted_moment e ≤ get_or latest (wanted_slot width e) 0 in
    let same_entry : entry_at entries at ≡ entry = sym (get_or_read entries at entry there read (Interval 0 0 0 0)) in
    record {
      by = λ place within.
          let inside : place < length entries = omega (arith, within, length-set entries at (joined other entry)) in
          elim (cases_eq place at) [
            | inl same ↦ subst P
                (sym (ap (entry_at (set entries at (joined other entry))) same ∙ get_or-set_same entries at (joined other entry) (Interval 0 0 0 0) there))
                (joined_bounded width latest other entry (subst P same_entry (bounded.by at there)))
            | inr different ↦ subst P (sym (get_or-set_other entries at place (joined other entry) (Interval 0 0 0 0) different)) (bounded.by place inside)
          ];
    }

pub bounded_popped : (width : ℕ) (entries rest : List (Entry ℕ)) (latest : List ℕ) → AreBounded width entries latest → rest ≡ drop 1 entries →
    AreBounded width rest latest
bounded_popped width entries rest latest bounded popped =
    let P : Entry ℕ → Type 0 = λ e. wanted_moment e ≤ get_or latest (wanted_slot width e) 0 in
    record {
      by = λ place within.
          let inside : 1 + place < length entries = omega (arith, within, ap length popped, length-drop {A = Entry ℕ} 1 entries) in
          let same : entry_at rest place ≡ entry_at entries (1 + place) = ap (λ (es : List (Entry ℕ)). entry_at es place) popped ∙
          get_or_after_one entries place (Interval 0 0 0 0) in
          subst P (sym same) (bounded.by (1 + place) inside);
    }

-- where a query for a group is wanted later than all of its slot, none is
later_than : (width moment group : ℕ) (latest : List ℕ) (entry : Entry ℕ) → get_or latest (slot_of width OfWanted (Group group)) 0 < moment →
    wanted_moment entry ≤ get_or latest (wanted_slot width entry) 0 → is_group_wanted moment group entry ≡ false
later_than width moment group latest (Wanted moment' asked terms is_optional is_found) below bound =
    elim (cases_Bool (is_same (Group group) asked && (moment == moment'))) [
      | inl is ↦
          let same = same_asked (Group group) asked (both_first (is_same (Group group) asked) (moment == moment') is) in
          let at : moment ≡ moment' = eqb-true moment moment' (both_last (is_same (Group group) asked) (moment == moment') is) in
          absurd (omega (arith, ap (λ (a : Asked ℕ). get_or latest (slot_of width OfWanted a) 0) same, at, below, bound))
      | inr isnt ↦ isnt
    ]
later_than width moment group latest _ below bound = refl

none_of_all : (p : Entry ℕ → Bool) (entries : List (Entry ℕ)) → ((place : ℕ) → place < length entries → p (entry_at entries place) ≡ false) →
    list_any p entries ≡ false
none_of_all p [] none = refl
none_of_all p (entry ∷ entries) none =
    let first : p entry ≡ false = none 0 (omega arith) in
    let rest = none_of_all p entries (λ place within. none (suc place) (omega (arith, within))) in
    rw first rest

pub none_wanted : (width moment group : ℕ) (entries : List (Entry ℕ)) (latest : List ℕ) (slot at : ℕ) → AreBounded width entries latest →
    slot ≡ slot_of width OfWanted (Group group) → at ≡ get_or latest slot 0 → at < moment → list_any (is_group_wanted moment group) entries ≡ false
none_wanted width moment group entries latest slot at bounded is read below =
    let before : get_or latest (slot_of width OfWanted (Group group)) 0 < moment = omega (arith, ap (λ (s : ℕ). get_or latest s 0) is, read, below) in
    none_of_all _ entries (λ place within. later_than width moment group latest (entry_at entries place) before (bounded.by place within))

pub one_wanted : (p : Entry ℕ → Bool) (entries : List (Entry ℕ)) (place : ℕ) (entry : Entry ℕ) → place < length entries →
    entry ≡ get_or entries place entry → p entry ≡ true → list_any p entries ≡ true
one_wanted p [] place entry within read is = absurd (omega arith)
one_wanted p (first ∷ entries) zero entry within read is = let here : p first ≡ true = ap p (sym read) ∙ is in rw here refl
one_wanted p (first ∷ entries) (suc place) entry within read is =
    let rest = one_wanted p entries place entry (omega (arith, within)) read is in
    elim (cases_Bool (p first)) [ inl passes ↦ rw passes refl | inr fails ↦ rw fails rest ]

-- the same for the result of each item
pub made_behind : {X : Type 0} (f : X → Entry ℕ) (items more : List X) → more ≡ drop 1 items → list_map f more ≡ drop 1 (list_map f items)
made_behind f [] more is = ap (list_map f) is
made_behind f (x ∷ items) more is = ap (list_map f) is

pub made_set : {X : Type 0} (f : X → Entry ℕ) (items : List X) (place : ℕ) (changed : X) (entry : Entry ℕ) → f changed ≡ entry →
    list_map f (set items place changed) ≡ set (list_map f items) place entry
made_set f items place changed entry is = map-set f items place changed ∙ ap (set (list_map f items) place) is

pub made_put : {X : Type 0} (f : X → Entry ℕ) (items more : List X) (entry : X) → more ≡ items ++ entry ∷ [] → list_map f more ≡ list_map f items ++
    f entry ∷ []
made_put f items more entry is = ap (list_map f) is ∙ map-append f items (entry ∷ [])
