-- The text that is written of an IPv6 address has its groups.
use Rattle.mq_laws.proofs.Common.{◌≡◌, ℕ, suc, ◌+◌, ◌-◌, ◌/◌, ◌%◌, ◌<◌, ◌≤◌, Bool, true, false, List, [], ◌∷◌, ◌++◌, length, take, drop, replicate, get_or}
use Rattle.mq_laws.proofs.Common.{codes, inl, inr, refl, ap, sym, ◌∙◌, arith, append-nil, append_assoc, add-one, length-drop, cases_lt, eqb-true, leb-true}
use Rattle.mq_laws.proofs.Common.{length-take-le, drop-drop, nat_tests, w128, to_be_bytes, nat_le, ◌⊎◌, take-append-drop, if◌then◌else◌, ◌==◌, groups_of}
use Rattle.mq_laws.proofs.Common.{is_first_longest}
use Rattle.std.proofs.NetLemmas.Texts.{AllSegments-take, AllSegments-drop}
use Rattle.std.specs.{Char.digit_value, Fmt.digit_glyph, Net.Grammar.IsGroup}
use Rattle.mq_text.specs.AddressV6.{hexadecimal, with_colons, zeros_ahead, longest_zeros, shortened}
use Rattle.mq_text.specs.Reading.{AreGroupsBehind, AreGroups, AreShortened, HasGroups}
use Rattle.mq_text.proofs.{Hexadecimal.one_digit, Hexadecimal.two_digits, Hexadecimal.three_digits, Hexadecimal.all_four_digits, LongestRun.zeros_within}
use Rattle.mq_laws.{specs.Texts.WrittenIsSpelled, proofs.NumberOfGroups.number_back, proofs.NumberOfGroups.groups_fit, proofs.NumberOfGroups.octets_are_pairs}

value_of_glyph : (d : ℕ) → d < 16 → digit_value (digit_glyph false d) ≡ d
value_of_glyph d small = grind (arith, nat_tests)

-- a number of 16 bits in hexadecimal is a group
is_group : (n : ℕ) → n < 65536 → IsGroup (hexadecimal n) n
is_group n fits =
    let a = value_of_glyph (n / 4096) (omega arith) in
    let b = value_of_glyph (n / 256 % 16) (omega arith) in
    let c = value_of_glyph (n / 16 % 16) (omega arith) in
    let d = value_of_glyph (n % 16) (omega arith) in
    elim (cases_lt n 4096) [
      | inr four ↦ rw (all_four_digits n four fits, a, b, c, d) (omega arith)
      | inl h₃ ↦ elim (cases_lt n 256) [
        | inr three ↦ rw (three_digits n three h₃, value_of_glyph (n / 256) (omega (arith, h₃)), c, d) (omega arith)
        | inl h₂ ↦ elim (cases_lt n 16) [
          | inr two ↦ rw (two_digits n two h₂, value_of_glyph (n / 16) (omega (arith, h₂)), d) (omega arith)
          | inl h₁ ↦ rw (one_digit n h₁, value_of_glyph n h₁) (omega arith)
        ]
      ]
    ]

-- each of some groups has 16 bits
abbrev AllFit : List ℕ → Type 0
AllFit groups = (k : ℕ) → get_or groups k 0 < 65536

-- groups with colons between them are groups
behind_lead : (lead : List ℕ) (group : ℕ) (groups : List ℕ) → AllFit (group ∷ groups) → AreGroupsBehind lead (lead ++ with_colons (group ∷ groups))
    (group ∷ groups)
behind_lead lead group [] fit = (
  hexadecimal group,
  [],
  ap (λ (t : List ℕ). lead ++ t) (sym (append-nil (hexadecimal group))) ∙ sym (append_assoc lead (hexadecimal group) []),
  is_group group (fit 0),
  refl,
)
behind_lead lead group (next ∷ groups) fit =
    let others = behind_lead (codes ":") next groups (λ k. fit (suc k)) in
    (hexadecimal group, codes ":" ++ with_colons (next ∷ groups), simp append_assoc, is_group group (fit 0), others)

pub are_groups : (groups : List ℕ) → AllFit groups → AreGroups (with_colons groups) groups
are_groups [] fit = refl
are_groups (group ∷ groups) fit = behind_lead [] group groups fit

-- the run has zeros alone
zeros : (groups : List ℕ) → take (zeros_ahead groups) groups ≡ replicate (zeros_ahead groups) 0
zeros [] = refl
zeros (group ∷ groups) = by_first (zeros groups) (group == 0) refl
  where
    by_first : take (zeros_ahead groups) groups ≡ replicate (zeros_ahead groups) 0 → (is_zero : Bool) → (group == 0) ≡ is_zero
        → take (if is_zero then zeros_ahead groups + 1 else 0) (group ∷ groups) ≡ replicate (if is_zero then zeros_ahead groups + 1 else 0) 0
    by_first others true is = rw (add-one (zeros_ahead groups), eqb-true group 0 is) (ap (λ (xs : List ℕ). 0 ∷ xs) others)
    by_first others false is = refl

-- a run of zeros, and what stands on both sides of it
around : (groups : List ℕ) (place count : ℕ) → zeros_ahead (drop place groups) ≡ count → groups ≡ take place groups ++
    (replicate count 0 ++ drop (place + count) groups)
around groups place count is =
    let none : take count (drop place groups) ≡ replicate count 0 = rw (← is) (zeros (drop place groups)) in
    let behind : drop count (drop place groups) ≡ drop (place + count) groups = drop-drop count place groups in
    sym (take-append-drop place groups)
    ∙ ap (λ (xs : List ℕ). take place groups ++ xs) (sym (take-append-drop count (drop place groups)) ∙ (λ i. none i ++ behind i))

pub written_groups : (groups : List ℕ) → length groups ≡ 8 → AllFit groups → HasGroups (shortened groups (longest_zeros groups)) groups
unfolding HasGroups shortened
written_groups groups eight fit = by_count (nat_le 2 (longest_zeros groups).count) refl
  where
    by_count : (long : Bool) → nat_le 2 (longest_zeros groups).count ≡ long →
        (AreGroups (shortened groups (longest_zeros groups)) groups × (length groups ≡ 8)) ⊎ AreShortened (shortened groups (longest_zeros groups)) groups
    by_count true long =
        let run = longest_zeros groups in
        let longest = is_first_longest groups in
        let many = leb-true 2 run.count long in
        let within = zeros_within (drop run.place groups) in
        let behind = length-drop run.place groups in
        let fits : run.place + run.count ≤ 8 = omega (arith, longest.zeros, within, behind, eight, many) in
        let front_length : length (take run.place groups) ≡ run.place = length-take-le run.place groups (omega (arith, fits, eight)) in
        let back_length = length-drop (run.place + run.count) groups in
        let count : 8 - length (take run.place groups) - length (drop (run.place + run.count) groups) ≡ run.count =
        omega (arith, fits, front_length, back_length, eight) in
        inr (record {
          front_text = with_colons (take run.place groups);
          back_text = with_colons (drop (run.place + run.count) groups);
          front = take run.place groups;
          back = drop (run.place + run.count) groups;
          parts = rw long refl;
          front_groups = are_groups (take run.place groups) (AllSegments-take run.place groups fit);
          back_groups = are_groups (drop (run.place + run.count) groups) (AllSegments-drop (run.place + run.count) groups fit);
          some_missing = omega (arith, fits, front_length, back_length, eight, many);
          value = rw count (around groups run.place run.count longest.zeros ∙
              sym (append_assoc (take run.place groups) (replicate run.count 0) (drop (run.place + run.count) groups)));
        })
    by_count false short = inl (rw short (are_groups groups fit), eight)

-- a written address has its text
pub written : WrittenIsSpelled
written = (
  λ address small. (small, refl),
  λ address small. (
    groups_of address,
    written_groups (groups_of address) refl (groups_fit (to_be_bytes w128 address) (octets_are_pairs address)),
    sym (number_back address small),
  ),
)
