use Rattle.mq_sched.proofs.Common.{◌∙◌, Some, arith, ap, sym, slice_index, DeadlinesState}
use Rattle.mq_sched.proofs.NumbersAtLeaves.{leaf-of_held, moment-there, get-moments_at}
use Rattle.std.specs.FinMap as map
use Rattle.mq_sched.proofs.deadlines.Deadlines.moment.Goals as goal

pub index-requires : goal.index-requires
index-requires g c =
    let own = leaf-of_held c.self.inside.tree.nodes c.args.number c.self.invariant.0 c.self.view_is c.requires.there in
    omega (arith, own.within, c.self.inside.leaves.ok.0)

pub moment-requires : goal.moment-requires
moment-requires g c =
    let own = leaf-of_held c.self.inside.tree.nodes c.args.number c.self.invariant.0 c.self.view_is c.requires.there in
    omega (arith, own.told c.index.result.now c.index.ensures, own.is.below)

pub returns : goal.returns
returns g c =
    let nodes = c.self.inside.tree.nodes in
    let leaves = c.self.inside.leaves.items in
    let numbers = c.self.inside.numbers.items in
    let count = c.self.inside.tree.count in
    let known = c.self.invariant.0 in
    let own = leaf-of_held c.self.inside.tree.nodes c.args.number c.self.invariant.0 c.self.view_is c.requires.there in
    ap (λ (s : DeadlinesState). map.get s.moments c.args.number) (sym c.self.view_is)
    ∙ get-moments_at nodes leaves numbers count known c.args.number
    ∙ moment-there nodes leaves numbers count known own.leaf c.args.number own.is
    ∙ ap (λ l. Some (slice_index nodes l)) (sym (own.told c.index.result.now c.index.ensures))
    ∙ ap Some (sym c.moment.ensures)
