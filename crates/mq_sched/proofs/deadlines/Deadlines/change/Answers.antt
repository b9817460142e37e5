use Rattle.mq_sched.proofs.Common.{◌+◌, ◌≡◌, ◌∙◌, cond, arith, ap, refl, nat_cmp_total, DeadlinesState, moments_at}
use Rattle.mq_sched.proofs.NumbersAtLeaves.{leaf-of_held, moments-changed}
use Rattle.std.specs.FinMap as map
use Rattle.mq_sched.proofs.deadlines.Deadlines.change.Given.{Over}
use Rattle.mq_sched.proofs.deadlines.Deadlines.change.Goals as goal

pub index-requires : goal.index-requires
index-requires g c =
    let own = leaf-of_held c.self.inside.tree.nodes c.args.number c.self.invariant.0 c.self.view_is c.requires.there in
    omega (arith, own.within, c.self.inside.leaves.ok.0)

pub change-requires : goal.change-requires
change-requires g c =
    let own = leaf-of_held c.self.inside.tree.nodes c.args.number c.self.invariant.0 c.self.view_is c.requires.there in
    let is_leaf = own.told c.index.result.now c.index.ensures in
    record { leaf = omega (arith, is_leaf, own.is.from); within = omega (arith, is_leaf, own.is.below) }

-- the moments then
made_so : (g : Over) (c : goal.After-change g) → (let i = c.self.inside in
    moments_at c.change.new.self.nodes i.leaves.items i.numbers.items i.tree.count
    ≡ map.insert (moments_at i.tree.nodes i.leaves.items i.numbers.items i.tree.count) c.args.number c.args.due)
made_so g c =
    let own = leaf-of_held c.self.inside.tree.nodes c.args.number c.self.invariant.0 c.self.view_is c.requires.there in
    let is_leaf = own.told c.index.result.now c.index.ensures in
    let changed = rw is_leaf at c.change.ensures.changed in
    let others = rw is_leaf at c.change.ensures.others in
    moments-changed c.self.inside.tree.nodes c.change.new.self.nodes c.self.inside.leaves.items c.self.inside.numbers.items c.self.inside.tree.count
    c.args.number own.leaf c.args.due c.self.invariant.0 own.is changed others

pub invariant_of-self : goal.invariant_of-self
invariant_of-self g c =
    let i = c.self.inside in
    let m = moments_at i.tree.nodes i.leaves.items i.numbers.items i.tree.count in
    let there = ap (λ (s : DeadlinesState). map.contains_key s.moments c.args.number) c.self.view_is ∙ c.requires.there in
    rw c.change.ensures.count (
      c.self.invariant.0,
      ap map.len (made_so g c) ∙ map.len-insert nat_cmp_total m c.args.number c.args.due ∙ ap (λ b. cond b (map.len m) (map.len m + 1)) there ∙
          c.self.invariant.1,
      c.change.ensures.room ∙ c.self.invariant.2,
      c.self.invariant.3,
      c.self.invariant.4,
      c.self.invariant.5,
      c.self.invariant.6,
    )

pub returns-clause-moments : goal.returns-clause-moments
returns-clause-moments g c =
    rw (c.change.ensures.count, made_so g c, ap (λ (s : DeadlinesState). s.moments) c.self.view_is, ap (λ (s : DeadlinesState). s.room) c.self.view_is) refl
