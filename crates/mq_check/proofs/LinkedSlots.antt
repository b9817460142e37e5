-- The entries of one slot, which stay linked.
use Rattle.mq_check.proofs.Common.{◌≡◌, ◌⊎◌, inl, inr, ℕ, ◌+◌, ◌-◌, ◌^◌, ◌<◌, ◌≤◌, List, [], ◌∷◌, ◌++◌, length, drop, set, get_or, refl, ap, sym, subst, ◌∙◌}
use Rattle.mq_check.proofs.Common.{arith, min, get_or-set_same, get_or-set_other, length-replicate, length_push, get_or_push, get_or_append_left, length-drop}
use Rattle.mq_check.proofs.Common.{get_or_after_one, cases_eq, cases_lt, Reaches, AreNumbers, AreLinked}
use Rattle.std.{specs.Prelude.replicate, proofs.lemmas.List.get_or-replicate, proofs.lemmas.List.get_or_past}
use Rattle.mq_check.specs.Trails.{IsClosed}

-- lists that were made
pub linked_none : (nexts lasts : List ℕ) (base : ℕ) → AreLinked [] nexts lasts base
linked_none nexts lasts base = record {
  known = λ i. omega arith;
  closed = λ i within. absurd (omega arith);
}

pub numbers_none : AreNumbers []
numbers_none = record { fit = λ i. omega arith }

at_replicate : (n y i : ℕ) → (get_or (replicate n y) i 0 ≡ y) ⊎ (get_or (replicate n y) i 0 ≡ 0)
at_replicate n y i = elim (cases_lt i n) [
  | inl less ↦ inl (get_or-replicate n i y 0 less)
  | inr more ↦ inr (let all : length (replicate n y) ≤ i = omega (arith, length-replicate n y) in get_or_past (replicate n y) i 0 all)
]

pub numbers_made : (n y : ℕ) → y ≤ 2 ^ 64 - 1 → AreNumbers (replicate n y)
numbers_made n y small = record {
  fit = λ i. elim (at_replicate n y i) [ inl is ↦ omega (arith, is) | inr is ↦ omega (arith, is) ];
}

-- a number that was written, or that was put behind the others
pub numbers_set : (numbers : List ℕ) (place n : ℕ) → AreNumbers numbers → place < length numbers → n ≤ 2 ^ 64 - 1 → AreNumbers (set numbers place n)
numbers_set numbers place n are within small = record {
  fit = λ i. elim (cases_eq i place) [
    | inl same ↦ let is = get_or-set_same numbers place n 0 within in subst (λ (k : ℕ). get_or (set numbers place n) k 0 ≤ 2 ^ 64 - 1) (sym same)
        (omega (arith, is))
    | inr other ↦ omega (arith, get_or-set_other numbers place i n 0 other, are.fit i)
  ];
}

at_push : (xs : List ℕ) (y i : ℕ) → (get_or (xs ++ y ∷ []) i 0 ≡ get_or xs i 0) ⊎ ((i ≡ length xs) × (get_or (xs ++ y ∷ []) i 0 ≡ y))
at_push xs y i = elim (cases_lt i (length xs)) [
  | inl less ↦ inl (get_or_append_left xs (y ∷ []) 0 i less)
  | inr more ↦ elim (cases_eq i (length xs)) [
    | inl same ↦ inr (same, get_or_push xs y 0 i (sym same))
    | inr other ↦ inl (let all : length (xs ++ y ∷ []) ≤ i = omega (arith, length_push xs y) in get_or_past (xs ++ y ∷ []) i 0 all ∙
        sym (get_or_past xs i 0 more))
  ]
]

pub numbers_pushed : (numbers : List ℕ) (n : ℕ) → AreNumbers numbers → n ≤ 2 ^ 64 - 1 → AreNumbers (numbers ++ n ∷ [])
numbers_pushed numbers n are small = record {
  fit = λ i. elim (at_push numbers n i) [ inl is ↦ omega (arith, is, are.fit i) | inr is ↦ omega (arith, is.1) ];
}

-- the last of these is at most the greatest number where the others aren't beyond it
numbers_end : (xs : List ℕ) (i : ℕ) → length xs ≤ i → get_or (xs ++ (2 ^ 64 - 1) ∷ []) i 0 ≤ 2 ^ 64 - 1
numbers_end xs i beyond = elim (at_push xs (2 ^ 64 - 1) i) [ inl same ↦ omega (arith, same, get_or_past xs i 0 beyond) | inr end ↦ omega (arith, end.1) ]

pub numbers_popped : (numbers : List ℕ) → AreNumbers numbers → AreNumbers (drop 1 numbers)
numbers_popped numbers are = record { fit = λ i. omega (arith, get_or_after_one numbers i 0, are.fit (1 + i)) }

-- the first entry is gone
pub linked_popped : (slots nexts lasts : List ℕ) (base next : ℕ) → AreLinked slots nexts lasts base → AreNumbers nexts → base ≤ 2 ^ 64 - 1 → 0 < length slots
    → next ≡ min (base + 1) (2 ^ 64 - 1) → AreLinked (drop 1 slots) (drop 1 nexts) lasts next
linked_popped slots nexts lasts base next linked are small some is = record {
  known = λ i. omega (arith, get_or_after_one slots i 0, linked.known (1 + i));
  closed = λ i within.
      let inside : 1 + i < length slots = omega (arith, length-drop 1 slots) in
      elim (linked.closed (1 + i) inside) [
        | inl before ↦ inl (omega (arith, get_or_after_one nexts i 0, before, length-drop 1 slots, are.fit (1 + i)))
        | inr last ↦ elim (cases_lt base (2 ^ 64 - 1)) [
          | inl less ↦ inr (ap (λ (s : ℕ). get_or lasts s 0) (get_or_after_one slots i 0) ∙ last ∙ omega arith)
          | inr full ↦ inl (omega (arith, get_or_after_one nexts i 0, are.fit (1 + i), full))
        ]
      ];
}

pub reaches_popped : (slots nexts starts nears : List ℕ) (base next place : ℕ) → AreNumbers nexts → AreNumbers starts → base ≤ 2 ^ 64 - 1 →
    next ≡ min (base + 1) (2 ^ 64 - 1)
    → Reaches (record { slots = slots; nexts = nexts; starts = starts; nears = nears; base = base }) (1 + place)
    → Reaches (record { slots = drop 1 slots; nexts = drop 1 nexts; starts = starts; nears = nears; base = next }) place
reaches_popped slots nexts starts nears base next place are are_too small is before = record {
  starts = subst (λ (s : ℕ). get_or starts s 0 ≤ next + place) (sym (get_or_after_one slots place 0))
      (omega (arith, before.starts, are_too.fit (get_or slots (1 + place) 0)));
  links = λ i earlier same.
      let alike : get_or slots (1 + i) 0 ≡ get_or slots (1 + place) 0 = sym (get_or_after_one slots i 0) ∙ same ∙ get_or_after_one slots place 0 in
      omega (arith, get_or_after_one nexts i 0, before.links (1 + i) (omega (arith, earlier)) alike, are.fit (1 + i));
}

-- a link of the slot isn't beyond the entry that is put behind the others
led_up_to : (slots nexts more lasts : List ℕ) (base slot number last i : ℕ) → AreLinked slots nexts lasts base → length nexts ≡ length slots
    → number ≡ min (base + length slots) (2 ^ 64 - 1) → (base ≤ get_or lasts slot 0 → last ≡ get_or lasts slot 0 - base) → IsClosed nexts more last number
    → i < length slots → get_or slots i 0 ≡ slot → get_or more i 0 ≤ base + length slots
led_up_to slots nexts more lasts base slot number last i linked paired is pending closed within same = elim (linked.closed i within) [
  | inl before ↦ omega (arith, before, closed.lower i)
  | inr end ↦
      let here : get_or lasts slot 0 ≡ base + i = ap (λ (s : ℕ). get_or lasts s 0) (sym same) ∙ end in
      let place : last ≡ i = omega (arith, here, pending (omega (arith, here))) in
      let inside : last < length nexts = omega (arith, place, within, paired) in
      omega (arith, ap (λ (k : ℕ). get_or more k 0) place, closed.here inside, is)
]

pub linked_pushed : (slots nexts more lasts : List ℕ) (base slot number last : ℕ) → AreLinked slots nexts lasts base → length nexts ≡ length slots →
    length lasts ≡ 65522 → slot < 65522
    → number ≡ min (base + length slots) (2 ^ 64 - 1) → (base ≤ get_or lasts slot 0 → last ≡ get_or lasts slot 0 - base) → IsClosed nexts more last number
    → AreLinked (slots ++ slot ∷ []) (more ++ (2 ^ 64 - 1) ∷ []) (set lasts slot number) base
linked_pushed slots nexts more lasts base slot number last linked paired all known is pending closed =
    let long = length_push slots slot in
    let at_more : (i : ℕ) → i < length slots → get_or (more ++ (2 ^ 64 - 1) ∷ []) i 0 ≡ get_or more i 0 = λ i within.
    get_or_append_left more ((2 ^ 64 - 1) ∷ []) 0 i (omega (arith, within, closed.long, paired)) in
    let at_slots : (i : ℕ) → i < length slots → get_or (slots ++ slot ∷ []) i 0 ≡ get_or slots i 0 = λ i within.
    get_or_append_left slots (slot ∷ []) 0 i within in
    let at_end = get_or_push slots slot 0 (length slots) refl in
    record {
      known = λ i. elim (at_push slots slot i) [ inl same ↦ omega (arith, same, linked.known i) | inr new ↦ omega (arith, new.1, known) ];
      closed = λ i within. elim (cases_lt i (length slots)) [
        | inl inside ↦ elim (linked.closed i inside) [
          | inl before ↦ inl (omega (arith, at_more i inside, closed.lower i, before, long))
          | inr last_is ↦ elim (cases_eq (get_or slots i 0) slot) [
            | inl same ↦ inl (omega
                (arith, at_more i inside, led_up_to slots nexts more lasts base slot number last i linked paired is pending closed inside same, long))
            | inr other ↦ inr (ap (λ (s : ℕ). get_or (set lasts slot number) s 0) (at_slots i inside) ∙
                get_or-set_other lasts slot (get_or slots i 0) number 0 other ∙ last_is)
          ]
        ]
        | inr beyond ↦
            let end : i ≡ length slots = omega (arith, long, within, beyond) in
            elim (cases_lt (2 ^ 64 - 1) (base + length slots)) [
              | inl full ↦ inl (omega (arith, numbers_end more i (omega (arith, beyond, closed.long, paired)), full, long))
              | inr small ↦ inr (ap (λ (k : ℕ). get_or (set lasts slot number) (get_or (slots ++ slot ∷ []) k 0) 0) end ∙
                  ap (λ (s : ℕ). get_or (set lasts slot number) s 0) at_end
                  ∙ get_or-set_same lasts slot number 0 (omega (arith, known, all)) ∙ omega (arith, is, small, end))
            ]
      ];
    }

-- the new entry is reached, and the others still are
pub reaches_pushed : (slots nexts more lasts starts nears : List ℕ) (base slot number last start : ℕ) → AreLinked slots nexts lasts base →
    length nexts ≡ length slots → slot < length starts
    → number ≡ min (base + length slots) (2 ^ 64 - 1) → (base ≤ get_or lasts slot 0 → last ≡ get_or lasts slot 0 - base) →
    IsClosed nexts more last number → start ≤ number
    → Reaches (record { slots = slots ++ slot ∷ []; nexts = more ++ (2 ^ 64 - 1) ∷ []; starts = set starts slot start; nears = nears; base = base })
    (length slots)
reaches_pushed slots nexts more lasts starts nears base slot number last start linked paired known is pending closed below =
    let at_end = get_or_push slots slot 0 (length slots) refl in
    record {
      starts = subst (λ (s : ℕ). get_or (set starts slot start) s 0 ≤ base + length slots) (sym at_end)
          (omega (arith, get_or-set_same starts slot start 0 known, is, below));
      links = λ i before same.
          let alike : get_or slots i 0 ≡ slot = sym (get_or_append_left slots (slot ∷ []) 0 i before) ∙ same ∙ at_end in
          omega (
            arith,
            get_or_append_left more ((2 ^ 64 - 1) ∷ []) 0 i (omega (arith, before, closed.long, paired)),
            led_up_to slots nexts more lasts base slot number last i linked paired is pending closed before alike,
          );
    }

pub reaches_still : (slots nexts more starts nears less : List ℕ) (base slot number last start k : ℕ) → length nexts ≡ length slots →
    slot < length starts → IsClosed nexts more last number → start ≤ get_or starts slot 0 → k < length slots
    → Reaches (record { slots = slots; nexts = nexts; starts = starts; nears = nears; base = base }) k
    → Reaches (record { slots = slots ++ slot ∷ []; nexts = more ++ (2 ^ 64 - 1) ∷ []; starts = set starts slot start; nears = less; base = base }) k
reaches_still slots nexts more starts nears less base slot number last start k paired known closed lower within before =
    let at_slots : (i : ℕ) → i < length slots → get_or (slots ++ slot ∷ []) i 0 ≡ get_or slots i 0 =
    λ i inside. get_or_append_left slots (slot ∷ []) 0 i inside in
    let there : get_or (set starts slot start) (get_or slots k 0) 0 ≤ base + k = elim (cases_eq (get_or slots k 0) slot) [
      | inl same ↦ subst (λ (n : ℕ). get_or (set starts slot start) n 0 ≤ base + k) (sym same)
          (omega (arith, get_or-set_same starts slot start 0 known, lower, ap (λ (s : ℕ). get_or starts s 0) same, before.starts))
      | inr other ↦ omega (arith, get_or-set_other starts slot (get_or slots k 0) start 0 other, before.starts)
    ] in
    record {
      starts = subst (λ (s : ℕ). get_or (set starts slot start) s 0 ≤ base + k) (sym (at_slots k within)) there;
      links = λ i below same.
          let inside : i < length slots = omega (arith, below, within) in
          omega (
            arith,
            get_or_append_left more ((2 ^ 64 - 1) ∷ []) 0 i (omega (arith, inside, closed.long, paired)),
            closed.lower i,
            before.links i below (sym (at_slots i inside) ∙ same ∙ at_slots k within),
          );
    }

pub numbers_lower : (numbers more : List ℕ) (last number : ℕ) → AreNumbers numbers → IsClosed numbers more last number → AreNumbers more
numbers_lower numbers more last number are closed = record { fit = λ i. omega (arith, are.fit i, closed.lower i) }
