-- The counts of groups by number are those by address, whatever records meet.
use Rattle.mq_link.proofs.Common.{◌≡◌, ◌≢◌, ℕ, ◌+◌, ◌<◌, ◌≤◌, min, Bool, true, false, cond, ◌&&◌, ◌⊎◌, inl, inr, List, length, set, refl, sym, ap, ◌∙◌, subst}
use Rattle.mq_link.proofs.Common.{arith, leb, ltb, length-set, slice_index, unwrap_or, nat_cmp, eq_by_cmp, cases_lt, le-leb, lt-leb, leb-true, leb-false}
use Rattle.mq_link.proofs.Common.{true≢false, get_or-set_same, get_or-set_other, HeldState, HasNumber, tied, ties, Seen, met, is_repeated, AreMarked, AreMet}
use Rattle.mq_link.proofs.Common.{AreNone, KeepsNumbers, counted_again}
use Rattle.std.specs.FinMap as map
use Rattle.mq_link.proofs.TakenRecords.{again, met_once, met_other}

-- before the first record none was met
pub none_met : (s : HeldState) (counts : List ℕ) → AreNone counts → AreMet s counts map.empty
none_met s counts none = record {
  held = λ address number has. none number ∙ ap (min 4) (sym (none_at address));
  absent = λ address absent. none_at address;
  unused = λ number some. absurd (omega (arith, some, none number));
}
  where
    none_at : (address : ℕ) → met map.empty address ≡ 0
    none_at address = ap (λ x. unwrap_or x 0) (map.get-empty {X = ℕ} nat_cmp address)

-- where no group is counted, none is marked
pub unmarked : (s : HeldState) (counts : List ℕ) → AreNone counts → AreMarked s counts (λ address. false)
unmarked s counts none = record {
  seen = map.empty;
  are_met = none_met s counts none;
  each = λ address. ap (λ x. ltb 0 (unwrap_or x 0)) (map.get-empty {X = ℕ} nat_cmp address);
}

-- Facts about the numbers of the groups of a state.
pub record AreNumbered (s : HeldState) : Type 0 where
  pub held : (address : ℕ) → map.contains_key s.groups address ≡ true → (number : ℕ) × HasNumber s address number
  pub of_one : (address number : ℕ) → HasNumber s address number → map.contains_key s.groups address ≡ true
  pub same : (address other number : ℕ) → HasNumber s address number → HasNumber s other number → address ≡ other
  pub one : (address number other : ℕ) → HasNumber s address number → HasNumber s address other → number ≡ other

-- Where each group that was held keeps its number, the counts stay those of the map: a new group gets a number that none had.
module _ (s next : HeldState) (numbered : AreNumbered s) (numbered_next : AreNumbered next) (keeps : KeepsNumbers s next) (counts : List ℕ)
    (seen : Seen) (is : AreMet s counts seen) where
  pub was_absent : (address : ℕ) → map.contains_key next.groups address ≡ false → map.contains_key s.groups address ≡ false
  was_absent address absent = by_test (map.contains_key s.groups address) refl
    where
      by_test : (b : Bool) → map.contains_key s.groups address ≡ b → b ≡ false
      by_test false was = refl
      by_test true was =
          let had = numbered.held address was in
          absurd (true≢false (sym (numbered_next.of_one address had.0 (keeps address had.0 had.1)) ∙ absent))

  new_is_zero : (address number : ℕ) → HasNumber next address number → map.contains_key s.groups address ≡ false → slice_index counts number ≡ 0
  new_is_zero address number has absent = by_count (cases_lt 0 (slice_index counts number))
    where
      by_count : (0 < slice_index counts number) ⊎ (slice_index counts number ≤ 0) → slice_index counts number ≡ 0
      by_count (inr none) = omega (arith, none)
      by_count (inl some) =
          let used = is.unused number (omega (arith, some)) in
          let same = numbered_next.same used.0 address number (keeps used.0 number used.1) has in
          absurd (true≢false (sym (numbered.of_one used.0 number used.1) ∙ ap (map.contains_key s.groups) same ∙ absent))

  pub met_still : AreMet next counts seen
  met_still = record {
    held = λ address number has. by_test address number has (map.contains_key s.groups address) refl;
    absent = λ address absent. is.absent address (was_absent address absent);
    unused = λ number some. let used = is.unused number some in (used.0, keeps used.0 number used.1);
  }
    where
      by_test : (address number : ℕ) → HasNumber next address number → (b : Bool) → map.contains_key s.groups address ≡ b →
          slice_index counts number ≡ min 4 (met seen address)
      by_test address number has true was =
          let had = numbered.held address was in
          let same = numbered_next.one address number had.0 has (keeps address had.0 had.1) in
          ap (slice_index counts) same ∙ is.held address had.0 had.1
      by_test address number has false was = new_is_zero address number has was ∙ ap (min 4) (sym (is.absent address was))

-- a group that isn't held was not met
pub repeats_absent : (s : HeldState) (seen : Seen) (address : ℕ) → map.contains_key s.groups address ≡ false → false ≡ is_repeated s.groups seen address
repeats_absent s seen address absent = ap (λ b. b && leb 4 (met seen address)) (sym absent)

pub length-counted_again : (counts : List ℕ) (number : ℕ) → length (counted_again counts number) ≡ length counts
length-counted_again counts number = by_test (leb 4 (slice_index counts number))
  where
    by_test : (b : Bool) → length (cond b counts (set counts number (slice_index counts number + 1))) ≡ length counts
    by_test true = refl
    by_test false = length-set counts number (slice_index counts number + 1)

-- One record more meets a group that is held.
module _ (s : HeldState) (numbered : AreNumbered s) (counts : List ℕ) (seen : Seen) (is : AreMet s counts seen) (address number : ℕ)
    (has : HasNumber s address number) (within : number < length counts) where
  pub repeats_by_number : leb 4 (slice_index counts number) ≡ is_repeated s.groups seen address
  repeats_by_number =
      ap (leb 4) (is.held address number has)
      ∙ by_met (met seen address)
      ∙ ap (λ b. b && leb 4 (met seen address)) (sym (numbered.of_one address number has))
    where
      by_met : (n : ℕ) → leb 4 (min 4 n) ≡ leb 4 n
      by_met n = by_test (leb 4 n) refl
        where
          by_test : (b : Bool) → leb 4 n ≡ b → leb 4 (min 4 n) ≡ b
          by_test true four = le-leb 4 (min 4 n) (let most = leb-true 4 n four in omega (arith, most))
          by_test false few = lt-leb 4 (min 4 n) (let most = leb-false 4 n few in omega (arith, most))

  once_more : slice_index counts number ≡ min 4 (met seen address)
  once_more = is.held address number has

  absent_still : (other : ℕ) → map.contains_key s.groups other ≡ false → met (again seen address) other ≡ 0
  absent_still other absent = by_address (eq_by_cmp nat_cmp other address) refl
    where
      by_address : (b : Bool) → eq_by_cmp nat_cmp other address ≡ b → met (again seen address) other ≡ 0
      by_address true same =
          absurd (true≢false (sym (numbered.of_one address number has) ∙ ap (map.contains_key s.groups) (sym (tied other address same)) ∙ absent))
      by_address false differs = met_other seen address other differs ∙ is.absent other absent

  -- where it was met four times, it isn't told apart
  fifth : 4 ≤ slice_index counts number → AreMet s counts (again seen address)
  fifth four = record {
    held = λ other n also. by_address other n also (eq_by_cmp nat_cmp other address) refl;
    absent = absent_still;
    unused = is.unused;
  }
    where
      by_address : (other n : ℕ) → HasNumber s other n → (b : Bool) → eq_by_cmp nat_cmp other address ≡ b →
          slice_index counts n ≡ min 4 (met (again seen address) other)
      by_address other n also true same =
          let at = tied other address same in
          let count = is.held other n also in
          let met_there = ap (met seen) at in
          let met_then = ap (met (again seen address)) at ∙ met_once seen address in
          omega (arith, four, once_more, count, met_there, met_then)
      by_address other n also false differs = is.held other n also ∙ ap (min 4) (sym (met_other seen address other differs))

  -- else its count is one more
  next_one : slice_index counts number < 4 → AreMet s (set counts number (slice_index counts number + 1)) (again seen address)
  next_one few = record {
    held = λ other n also. by_address other n also (eq_by_cmp nat_cmp other address) refl;
    absent = absent_still;
    unused = λ n some. by_number n some (eq_by_cmp nat_cmp n number) refl;
  }
    where
      counted : List ℕ
      counted = set counts number (slice_index counts number + 1)

      here : slice_index counted number ≡ slice_index counts number + 1
      here = get_or-set_same counts number (slice_index counts number + 1) 0 within

      elsewhere : (n : ℕ) → n ≢ number → slice_index counted n ≡ slice_index counts n
      elsewhere n differs = get_or-set_other counts number n (slice_index counts number + 1) 0 differs

      by_address : (other n : ℕ) → HasNumber s other n → (b : Bool) → eq_by_cmp nat_cmp other address ≡ b →
          slice_index counted n ≡ min 4 (met (again seen address) other)
      by_address other n also true same =
          let at = tied other address same in
          let same_number = numbered.one address n number (subst (λ a. HasNumber s a n) at also) has in
          let count = ap (slice_index counted) same_number in
          let met_then = ap (met (again seen address)) at ∙ met_once seen address in
          omega (arith, few, once_more, here, count, met_then)
      by_address other n also false differs =
          let apart : n ≢ number =
          λ same. true≢false (sym (ties other address (numbered.same other address number (subst (HasNumber s other) same also) has)) ∙ differs) in
          elsewhere n apart ∙ is.held other n also ∙ ap (min 4) (sym (met_other seen address other differs))

      by_number : (n : ℕ) → 1 ≤ slice_index counted n → (b : Bool) → eq_by_cmp nat_cmp n number ≡ b → (a : ℕ) × HasNumber s a n
      by_number n some true same = (address, subst (HasNumber s address) (sym (tied n number same)) has)
      by_number n some false differs =
          let there = elsewhere n (λ same. true≢false (sym (ties n number same) ∙ differs)) in
          is.unused n (omega (arith, some, there))

  pub met_again_by_number : AreMet s (counted_again counts number) (again seen address)
  met_again_by_number = by_test (leb 4 (slice_index counts number)) refl
    where
      by_test : (b : Bool) → leb 4 (slice_index counts number) ≡ b → AreMet s (cond b counts (set counts number (slice_index counts number + 1)))
          (again seen address)
      by_test true four = fifth (leb-true 4 (slice_index counts number) four)
      by_test false few = next_one (leb-false 4 (slice_index counts number) few)
