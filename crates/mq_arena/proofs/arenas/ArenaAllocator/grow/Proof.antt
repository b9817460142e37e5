-- The function `grow`, which is the trait's: it returns the result of the trait's body. Assumes `Logic`.
use Rattle.mq_arena.proofs.Common.{[], ◌∷◌, refl, inst_fn, Dict, a_type, impl, tcons, tnil, dnil, sep, kept_by, ⊑_static, ⊑_refl, Lfts, tables_of, layout}
use Rattle.mq_arena.proofs.Common.{layouts, glues}
use Rattle.core.proofs.alloc.Allocator.grow.Met.{met}
use Rattle.mq_arena.{proofs.Kept.parameters, proofs.Kept.answer, specs.contracts.arenas.ArenaAllocator.grow.Key.name as #self}
use Rattle.core.proofs.alloc.Allocator.grow.Symbol as trait_body
use Rattle.mq_arena.proofs.arenas.ArenaAllocator.TheImpl.before.grow.{bound}
use Rattle.mq_arena.proofs.arenas.ArenaAllocator.grow.Code as compiled
use Rattle.mq_arena.proofs.arenas.ArenaAllocator.grow.Lts as walk
use Rattle.mq_arena.specs.contracts.arenas.ArenaAllocator.TheImpl as block
use Rattle.mq_arena.specs.contracts.arenas.ArenaAllocator.grow as contract_of
use Rattle.mq_arena.proofs.arenas.ArenaAllocator.grow.Statement.{statement}

pub grow_spec : {M : Type 1} → statement M
unfolding tables_of Rattle.mq_arena.proofs.Destruct++none.drop.Code.code
grow_spec {M} 𝓤 𝓛 𝓜 𝓡 wired T L =
    let at = layouts (a_type ∷ []) (T, tt) in
    kept_by 𝓛 𝓜 𝓡 (#self at) (trait_body.name (walk.passed-0 T L)) (inst_fn at compiled.function)
    2 parameters answer (contract_of.spec T 𝓛 𝓜.mem 𝓡.returns) 3 ((0, tt), ((0, tt), ((1, tt), tt))) 1 (λ τs. (τs.1.0, tt)) (λ τs. (T.lives, tt))
    2 (λ τs. (τs.0, (τs.1.0, tt))) (λ τs. ((walk.arg-0-0 T L (τs.0, (τs.0, (τs.1.0, tt)))).lives, ((walk.arg-0-1 T L (τs.0, (τs.0, (τs.1.0, tt)))).lives, tt)))
    (λ τs a y. sep 𝓤 (contract_of.requires-sizes T 𝓛 τs 𝓜.mem 𝓡.returns a.0 a.1.0 a.1.1.0 a.1.1.1.0 a.1.1.1.1.0 y)
    (contract_of.requires-block T 𝓛 τs 𝓜.mem 𝓡.returns a.0 a.1.0 a.1.1.0 a.1.1.1.0 a.1.1.1.1.0 y))
    (compiled.unfolded 𝓤 𝓛.H 𝓜 𝓡 wired (T, tt)) refl refl refl refl (λ τs a y. refl)
    (λ τs h. (⊑_static τs.0, (h.1.0, tt)))
    (λ τs h qs a vss y.
    let κs : Lfts 3 = (τs.0, (τs.0, (τs.1.0, tt))) in
    let drops : Dict = impl ("mq_arena::Destruct++none::drop" ∷ []) (tcons (layout (walk.impl_arg-0-0 T L κs)) tnil) dnil in
    let meets = bound 𝓡.env (compiled.calls-mq_arena::arenas::ArenaAllocator::allocate 𝓡.env wired)
    (compiled.calls-mq_arena::arenas::ArenaAllocator::deallocate 𝓡.env wired) M 𝓤 𝓛 𝓜 𝓡 in
    met 𝓤 𝓛 𝓜 𝓡 (compiled.calls-core::alloc::Allocator::grow 𝓡.env wired) (walk.arg-0-0 T L κs) (walk.arg-0-1 T L κs) (walk.laws-0-0 T L κs)
    (walk.laws-0-1 T L κs) block.ghosts block.dict drops
    (record { allocate = meets.allocate; deallocate = meets.deallocate })
    (glues "mq_arena::Destruct++none::drop" 𝓡.env (compiled.calls-mq_arena::Destruct++none::drop 𝓡.env wired) (walk.impl_arg-0-0 T L κs)
    (walk.impl_laws-0-0 T L κs) M 𝓤 𝓛 𝓜 𝓡)
    ((κs, qs, (⊑_refl τs.0, tt), a, vss), y))
