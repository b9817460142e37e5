use Rattle.mq_sched.proofs.Common.{ℕ, ◌+◌, ◌-◌, ◌*◌, ◌/◌, ◌<◌, ◌≤◌, ◌≡◌, ◌∙◌, cond, arith, ap, sym, subst, refl, length, get_or, drop, rules, nat_cmp_total}
use Rattle.mq_sched.proofs.Common.{take_at, length-take-le, get_or-take, leaf_after, DeadlinesState, AreNumbered, moments_at}
use Rattle.mq_sched.proofs.NumbersAtLeaves.{IsLeafOf, leaf-of_held, AreNumbered-left, moments-gone}
use Rattle.std.specs.FinMap as map
use Rattle.mq_sched.proofs.deadlines.Deadlines.remove.Given.{Over}
use Rattle.mq_sched.proofs.deadlines.Deadlines.remove.Goals as goal

pub overflow_sub-last : goal.overflow_sub-last
overflow_sub-last g c =
    let own = leaf-of_held c.self.inside.tree.nodes c.args.number c.self.invariant.0 c.self.view_is c.requires.there in
    omega (arith, own.is.below, c.len.ensures, c.self.inside.numbers.ok.0, c.self.invariant.0.size)

pub index-requires : goal.index-requires
index-requires g c =
    let own = leaf-of_held c.self.inside.tree.nodes c.args.number c.self.invariant.0 c.self.view_is c.requires.there in
    omega (arith, own.within, c.self.inside.leaves.ok.0)

pub shrink-later-requires : goal.shrink-later-requires
shrink-later-requires g c =
    let own = leaf-of_held c.self.inside.tree.nodes c.args.number c.self.invariant.0 c.self.view_is c.requires.there in
    let is_leaf = own.told c.index.result.now c.index.ensures in
    record { leaf = omega (arith, is_leaf, own.is.from); within = omega (arith, is_leaf, own.is.below) }

pub give_up_number-requires : goal.give_up_number-requires
give_up_number-requires g c =
    let own = leaf-of_held c.self.inside.tree.nodes c.args.number c.self.invariant.0 c.self.view_is c.requires.there in
    let is_leaf = own.told c.index.result.now c.index.ensures in
    let size = c.self.invariant.0.size in
    record {
      given_up = omega (arith, is_leaf, own.is.from, own.is.below, c.len.ensures, c.self.inside.numbers.ok.0, size);
      leaf = omega (arith, is_leaf, own.is.below, c.len.ensures, c.self.inside.numbers.ok.0, size);
      numbered = search rules;
      few = search rules;
      tail = search rules;
      below = search rules;
    }

-- the rest then
left_so : (g : Over) (c : goal.After-count g) →
    (let i = c.self.inside in let given = c.give_up_number.new.leaves in let kept = c.truncate.new.self.items in let last = i.tree.count - 1 in
    AreNumbered given kept last ×
    (moments_at c.shrink-later.new.self.nodes given kept last
    ≡ map.remove (moments_at i.tree.nodes i.leaves.items i.numbers.items i.tree.count) c.args.number) × (length given ≡ length i.leaves.items))
left_so g c =
    let nodes = c.self.inside.tree.nodes in
    let leaves = c.self.inside.leaves.items in
    let numbers = c.self.inside.numbers.items in
    let count = c.self.inside.tree.count in
    let known = c.self.invariant.0 in
    let n = c.args.number in
    let own = leaf-of_held c.self.inside.tree.nodes c.args.number c.self.invariant.0 c.self.view_is c.requires.there in
    let is_leaf = own.told c.index.result.now c.index.ensures in
    let last = count - 1 in
    let more : count ≡ last + 1 = omega (arith, own.is.below) in
    let is_last : c.len.result / 2 - 1 ≡ last = omega (arith, c.len.ensures, c.self.inside.numbers.ok.0, known.size) in
    let numbered = subst (λ (k : ℕ). AreNumbered leaves numbers k) more known in
    let at : IsLeafOf numbers (last + 1) own.leaf n = subst (λ (k : ℕ). IsLeafOf numbers k own.leaf n) more own.is in
    let later = c.shrink-later.result in
    let tail : 2 * last ≤ later = omega (arith, c.shrink-later.ensures.last) in
    let end : later < 2 * last + 2 = omega (arith, c.shrink-later.ensures.below, more) in
    let given = c.give_up_number.new.leaves in
    let left = c.give_up_number.new.numbers in
    let room_kept : length given ≡ length leaves = c.give_up_number.ensures.room ∙ ap length c.deref_mut.ensures.value in
    let size_kept : length left ≡ length numbers = c.give_up_number.ensures.size ∙ ap length c.deref_mut-2.ensures.value in
    let cut = rw (take_at left (drop (length left) numbers) c.self.inside.numbers.len (omega (arith, size_kept, c.self.inside.numbers.ok.0)), is_last)
    at c.truncate.ensures.items in
    let kept = c.truncate.new.self.items in
    let size : length kept ≡ 2 * last = ap length cut ∙ length-take-le (2 * last) left (omega (arith, size_kept, known.size)) in
    let stands = rw is_leaf at c.shrink-later.ensures.leaves in
    let wrote = rw (c.deref_mut-2.ensures.value, is_last, is_leaf) at c.give_up_number.ensures.numbers in
    let gives = rw (c.deref_mut-2.ensures.value, is_last, is_leaf) at c.give_up_number.ensures.leaves in
    let puts = λ (other : ℕ) (from : last < other) (below : other < 2 * last + 2) (differs : other ≡ own.leaf → ⊥)
    (short : leaf_after last own.leaf later other < 2 * last).
    ap (λ xs. get_or xs (leaf_after last own.leaf later other) 0) cut ∙ get_or-take (2 * last) left (leaf_after last own.leaf later other) 0 short ∙
    wrote other from below differs in (
      AreNumbered-left nodes c.shrink-later.new.self.nodes leaves given numbers kept last n own.leaf later numbered at tail end size room_kept stands
          puts gives,
      moments-gone nodes c.shrink-later.new.self.nodes leaves given numbers kept last n own.leaf later numbered at tail end size room_kept stands puts
          gives ∙ ap (λ k. map.remove (moments_at nodes leaves numbers k) n) (sym more),
      room_kept,
    )

pub invariant_of-self : goal.invariant_of-self
invariant_of-self g c =
    let i = c.self.inside in
    let left = left_so g c in
    let m = moments_at i.tree.nodes i.leaves.items i.numbers.items i.tree.count in
    let there = ap (λ (s : DeadlinesState). map.contains_key s.moments c.args.number) c.self.view_is ∙ c.requires.there in
    let given_back = take_at c.give_up_number.new.leaves (drop (length c.give_up_number.new.leaves) i.leaves.items) i.leaves.len
    (omega (arith, left.2, i.leaves.ok.0)) in
    rw (given_back, c.shrink-later.ensures.count) (
      left.0,
      ap map.len left.1 ∙ map.len-remove nat_cmp_total m c.args.number ∙ ap (λ b. cond b (map.len m - 1) (map.len m)) there ∙
          ap (λ k. k - 1) c.self.invariant.1,
      c.shrink-later.ensures.room ∙ c.self.invariant.2,
      omega (arith, c.self.invariant.3),
      left.2 ∙ c.self.invariant.4,
      c.self.invariant.5,
      omega (arith, c.self.invariant.6, c.truncate.ensures.capacity),
    )

pub returns-clause-moments : goal.returns-clause-moments
returns-clause-moments g c =
    let i = c.self.inside in
    let left = left_so g c in
    let given_back = take_at c.give_up_number.new.leaves (drop (length c.give_up_number.new.leaves) i.leaves.items) i.leaves.len
    (omega (arith, left.2, i.leaves.ok.0)) in
    rw (
      given_back,
      c.shrink-later.ensures.count,
      left.1,
      ap (λ (s : DeadlinesState). s.moments) c.self.view_is,
      ap (λ (s : DeadlinesState). s.room) c.self.view_is,
    ) refl
