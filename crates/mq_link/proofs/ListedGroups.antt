-- The lists of the addresses of changed groups, before and after a call.
use Rattle.mq_link.proofs.Common.{◌≡◌, ℕ, zero, suc, ◌+◌, ◌*◌, ◌/◌, ◌≤◌, min, Bool, false, ◌||◌, List, length, ap, ◌∙◌, arith, sym, or-false, list_map}
use Rattle.mq_link.proofs.Common.{slice_index, length-map, HeldState, IsNumber, Lists, AreThose, AreMarked, WorkspaceState}
use Rattle.mq_link.proofs.{KeptGroups.is_number, PaidEdits.some_of}

-- the numbers of marked groups are those of groups
pub numbers_marked : (s : HeldState) (counts : List ℕ) (test : ℕ → Bool) → AreMarked s counts test → (number : ℕ) → 1 ≤ slice_index counts number →
    IsNumber s number
numbers_marked s counts test marked number some = let used = marked.are_met.unused number some in is_number s used.0 number used.1

-- a test that says the same
pub those_so : {test other : ℕ → Bool} {addresses : List ℕ} → ((address : ℕ) → test address ≡ other address) → AreThose test addresses →
    AreThose other addresses
those_so same are = record { ascending = are.ascending; each = λ address. are.each address ∙ same address }

-- with none, they are the same
pub those_alone : {test : ℕ → Bool} {addresses : List ℕ} → AreThose test addresses → AreThose (λ address. test address || false) addresses
those_alone {test} are = those_so (λ address. sym (or-false (test address))) are

-- the length of the list in a workspace, by its inside
pub few_inside : {K A : Type 0} (number : K → ℕ) (lists : Lists K A) (w lent : WorkspaceState) (most : ℕ) → w ≡ lent →
    w.changed ≡ list_map number lists.changed.items → length lent.changed ≤ most → length lists.changed.items ≤ most
few_inside number lists w lent most is inside few =
    let same = ap (λ (w : WorkspaceState). length w.changed) is in
    let long = ap length inside ∙ length-map lists.changed.items number in
    omega (arith, same, long, few)

-- few records mark few groups, and what is moved to list them is within what they may move
pub listed_within : (count records groups before : ℕ) → count ≤ records → groups ≤ before + records →
    64 * count + min 1 (count / 64) * groups ≤ before + 65 * records
listed_within count records groups before few grown = let walked = some_of (count / 64) groups in omega (arith, walked, few, grown)

-- one record marks one group, and little is moved for it
pub one_listed : (count groups : ℕ) → count ≤ 1 → 64 * count + min 1 (count / 64) * groups ≤ 64
one_listed zero groups few = omega arith
one_listed (suc zero) groups few = omega arith
one_listed (suc (suc n)) groups few = absurd (omega (arith, few))
