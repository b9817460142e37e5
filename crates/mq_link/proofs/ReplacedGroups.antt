-- The groups of a link while some of them are replaced, one after the other, each from what it was before.
use Rattle.mq_link.proofs.Common.{◌≡◌, ◌==◌, cond, ℕ, suc, ◌+◌, ◌<◌, ◌≤◌, Bool, true, false, ◌||◌, refl, List, [], ◌∷◌, length, take, drop, get_or, Option}
use Rattle.mq_link.proofs.Common.{Some, is_some, sym, ap, ◌∙◌, arith, or-false, list_map, sum_by, unwrap_or, nat_cmp, eq_by_cmp, nat_cmp_total, true≢false}
use Rattle.mq_link.proofs.Common.{eqb-true, eq-eqb, ne_eqb, get_or-map, length-map, length-take, get_or-take, Any-from_list_any, list_any_more, sum_by-cons}
use Rattle.mq_link.proofs.Common.{IsAscending, set_of, IsAscending-map, ScheduledGroup, tied, ties, ascending-sorted, Groups}
use Rattle.std.specs.FinMap as map
use Rattle.std.proofs.{Math.Seq.drop-cons, lemmas.Option.slice_get-get_or}
use Rattle.mq_held.specs.Groups.{unheld, group_at, sources_of, sources_in}
use Rattle.mq_held.proofs.Entries.{get-place}
use Rattle.mq_link.proofs.PassedEntries.{GroupEntries}

-- the test of an address for a list
abbrev pub among : List ℕ → ℕ → Bool
among = set_of (λ k. k)

abbrev pub addresses_of : GroupEntries → List ℕ
addresses_of es = list_map (λ (e : ℕ × ScheduledGroup). e.0) es

abbrev pub entry_at : GroupEntries → ℕ → ℕ × ScheduledGroup
entry_at es i = get_or es i (0, unheld)

-- the sources of an entry's group
abbrev pub entry_sources : ℕ × ScheduledGroup → ℕ
entry_sources e = sources_of e.1

pub sources_of_entries : (es : GroupEntries) → sum_by entry_sources es ≡ sum_by sources_of (list_map (λ (e : ℕ × ScheduledGroup). e.1) es)
sources_of_entries [] = refl
sources_of_entries (e ∷ es) = sum_by-cons entry_sources e es ∙ ap (λ n. sources_of e.1 + n) (sources_of_entries es) ∙
    sym (sum_by-cons sources_of e.1 (list_map (λ (e : ℕ × ScheduledGroup). e.1) es))

-- Some entries of the groups, by ascending address.
pub record AreEntries (groups : Groups) (es : GroupEntries) : Type 0 where
  pub ascending : IsAscending (λ k. k) (addresses_of es)
  pub held : (i : ℕ) → i < length es → map.get groups (entry_at es i).0 ≡ Some (entry_at es i).1
  pub sources : sum_by entry_sources es ≤ sources_in groups
  pub few : length es ≤ map.len groups

-- all of them are
pub all_entries : (groups : Groups) → AreEntries groups (map.entries groups)
all_entries groups = record {
  ascending = IsAscending-map (λ k. k) (λ (e : ℕ × ScheduledGroup). e.0) (map.entries groups)
      (ascending-sorted (map.entries groups) (map.entries_sorted groups));
  held = λ i within.
      let es = map.entries groups in
      let keys = length-map es (λ (e : ℕ × ScheduledGroup). e.0) in
      let here = slice_get-get_or (map.keys groups) i 0 (omega (arith, keys, within)) ∙
      ap Some (get_or-map (λ (e : ℕ × ScheduledGroup). e.0) es i (0, unheld) 0 within) in
      get-place groups (entry_at es i).0 i here (0, unheld);
  sources = let same = sources_of_entries (map.entries groups) in omega arith;
  few = let n = map.len-entries groups in omega arith;
}

module _ (f : ScheduledGroup → ScheduledGroup) (groups : Groups) (es : GroupEntries) (are : AreEntries groups es) where
  -- The first i of them are replaced.
  pub record IsReplacedTo (i : ℕ) (current : Groups) : Type 0 where
    pub at : (q : ℕ) → map.get current q ≡ cond (among (take i (addresses_of es)) q) (Some (f (group_at groups q))) (map.get groups q)
    pub len_is : map.len current ≡ map.len groups

  size_of_addresses : length (addresses_of es) ≡ length es
  size_of_addresses = length-map es (λ (e : ℕ × ScheduledGroup). e.0)

  address_at : (i : ℕ) → i < length es → get_or (addresses_of es) i 0 ≡ (entry_at es i).0
  address_at i within = get_or-map (λ (e : ℕ × ScheduledGroup). e.0) es i (0, unheld) 0 within

  -- the next isn't among those before it
  next_apart : (i : ℕ) → i < length es → among (take i (addresses_of es)) (entry_at es i).0 ≡ false
  next_apart i within = by_test (among (take i (addresses_of es)) (entry_at es i).0) refl
    where
      by_test : (b : Bool) → among (take i (addresses_of es)) (entry_at es i).0 ≡ b → b ≡ false
      by_test false is = refl
      by_test true is =
          let found = Any-from_list_any (λ k. k == (entry_at es i).0) (take i (addresses_of es)) is in
          let x = found.1 in
          let size = length-take i (addresses_of es) in
          let all = size_of_addresses in
          let before : found.0 < i = omega (arith, found.2, size) in
          let at = sym (get_or-take i (addresses_of es) found.0 x before) ∙ found.3 in
          let below = are.ascending found.0 i x before (omega (arith, all, within)) in
          let here = get_or-map (λ (e : ℕ × ScheduledGroup). e.0) es i (0, unheld) x within in
          absurd (omega (arith, at, below, here, eqb-true x (entry_at es i).0 found.4))

  module _ (i : ℕ) (current : Groups) (so_far : IsReplacedTo i current) (within : i < length es) where
    abbrev next : ℕ × ScheduledGroup
    next = entry_at es i

    next_found : map.get current next.0 ≡ Some next.1
    next_found = so_far.at next.0 ∙ ap (λ b. cond b (Some (f (group_at groups next.0))) (map.get groups next.0)) (next_apart i within) ∙ are.held i within

    -- it is unchanged
    pub next_group : group_at current next.0 ≡ next.1
    next_group = ap (λ (e : Option ScheduledGroup). unwrap_or e unheld) next_found

    pub next_held : group_at groups next.0 ≡ next.1
    next_held = ap (λ (e : Option ScheduledGroup). unwrap_or e unheld) (are.held i within)

    pub one_replaced : (after : Groups) → after ≡ map.insert current next.0 (f (group_at current next.0)) → IsReplacedTo (i + 1) after
    one_replaced after is = record {
      at = λ q.
          ap (λ (m : Groups). map.get m q) is
          ∙ map.get-insert nat_cmp_total current next.0 (f (group_at current next.0)) q
          ∙ by_test q (eq_by_cmp nat_cmp q next.0) refl;
      len_is =
          ap map.len is
          ∙ map.len-insert nat_cmp_total current next.0 (f (group_at current next.0))
          ∙ ap (λ (x : Option ScheduledGroup). cond (is_some x) (map.len current) (map.len current + 1)) next_found
          ∙ so_far.len_is;
    }
      where
        more : (q : ℕ) → among (take (i + 1) (addresses_of es)) q ≡ (among (take i (addresses_of es)) q || (next.0 == q))
        more q =
            let in_list : i < length (addresses_of es) = omega (arith, size_of_addresses, within) in
            list_any_more (λ k. k == q) (addresses_of es) i 0 in_list ∙ ap (λ n. among (take i (addresses_of es)) q || (n == q)) (address_at i within)

        or_true : (b : Bool) → (b || true) ≡ true
        or_true true = refl
        or_true false = refl

        by_test : (q : ℕ) (b : Bool) → eq_by_cmp nat_cmp q next.0 ≡ b
            → cond b (Some (f (group_at current next.0))) (map.get current q) ≡ cond (among (take (i + 1) (addresses_of es)) q)
            (Some (f (group_at groups q))) (map.get groups q)
        by_test q true same =
            let key = tied q next.0 same in
            let there : among (take (i + 1) (addresses_of es)) q ≡ true = more q ∙ ap (λ b. among (take i (addresses_of es)) q || b)
            (eq-eqb next.0 q (sym key)) ∙ or_true (among (take i (addresses_of es)) q) in
            ap (λ (e : ScheduledGroup). Some (f e)) (next_group ∙ sym next_held ∙ ap (group_at groups) (sym key))
            ∙ ap (λ b. cond b (Some (f (group_at groups q))) (map.get groups q)) (sym there)
        by_test q false other =
            let apart : (next.0 == q) ≡ false = ne_eqb next.0 q (λ same. true≢false (sym (ties q next.0 (sym same)) ∙ other)) in
            let there : among (take (i + 1) (addresses_of es)) q ≡ among (take i (addresses_of es)) q = more q ∙
            ap (λ b. among (take i (addresses_of es)) q || b) apart ∙ or-false (among (take i (addresses_of es)) q) in
            so_far.at q ∙ ap (λ b. cond b (Some (f (group_at groups q))) (map.get groups q)) (sym there)

    -- and the sources of those before the next leave enough for its own
    pub one_weighed : (weight : ℕ) → weight + sum_by entry_sources (drop i es) ≤ sources_in groups →
        weight + sources_of next.1 + sum_by entry_sources (drop (i + 1) es) ≤ sources_in groups
    one_weighed weight few =
        let rest = drop-cons es i (0, unheld) within in
        let total = ap (sum_by entry_sources) rest ∙ sum_by-cons entry_sources next (drop (suc i) es) in
        let step : suc i ≡ i + 1 = omega arith in
        let same = ap (λ n. sum_by entry_sources (drop n es)) step in
        omega (arith, few, total, same)

-- the entries of some numbers, in their order
module _ (key : ℕ → ℕ) (numbers : List ℕ) (es : GroupEntries) (same : list_map key numbers ≡ addresses_of es) where
  pub as_many : length numbers ≡ length es
  as_many = sym (length-map numbers key) ∙ ap length same ∙ length-map es (λ (e : ℕ × ScheduledGroup). e.0)

  pub address_of : (i : ℕ) → i < length numbers → key (get_or numbers i 0) ≡ (entry_at es i).0
  address_of i within =
      sym (get_or-map key numbers i 0 0 within)
      ∙ ap (λ (ks : List ℕ). get_or ks i 0) same
      ∙ get_or-map (λ (e : ℕ × ScheduledGroup). e.0) es i (0, unheld) 0 (omega (arith, as_many, within))

  -- an address among theirs is that of one of them
  pub number_at : (q : ℕ) → among (addresses_of es) q ≡ true → (i : ℕ) × (i < length numbers) × (key (get_or numbers i 0) ≡ q)
  number_at q is =
      let found = Any-from_list_any (λ k. k == q) (list_map key numbers) (ap (λ (ks : List ℕ). among ks q) same ∙ is) in
      let size = length-map numbers key in
      let within : found.0 < length numbers = omega (arith, found.2, size) in
      (found.0, within, sym (get_or-map key numbers found.0 0 found.1 within) ∙ found.3 ∙ eqb-true found.1 q found.4)
