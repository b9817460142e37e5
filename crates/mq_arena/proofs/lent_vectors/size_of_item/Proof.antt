-- `size_of_item` reads the size of the type. Assumes `Logic`.
use Rattle.mq_arena.proofs.Common.{◌≡◌, [], ◌∷◌, refl, w64, ftrue, flft, emp, ◌⊑◌, fact, fact_i, layout, layouts, nothing, owned, usize, inst_fn, Fn, a_type}
use Rattle.mq_arena.proofs.Common.{vint, capped_fits, size, capped, alloc_all, pass_all, free_all, look_at, sets, ‵, raw, ◌⊛◌, ◌$◌, ◌∵◌, !, qed, by, move, drop}
use Rattle.mq_arena.proofs.Common.{split, use0, size_word, of_opd, returns, enter, proved_at, leaves}
use denote.Plain.{uint_Makes}
use Rattle.mq_arena.specs.contracts.lent_vectors.size_of_item.Key.{name as #self}
use Rattle.mq_arena.specs.contracts.lent_vectors.size_of_item as contract_of
use Rattle.mq_arena.proofs.lent_vectors.size_of_item.Code as compiled
use Rattle.mq_arena.proofs.lent_vectors.size_of_item.Statement.{statement}

pub size_of_item_spec : {M : Type 1} → statement M
size_of_item_spec 𝓤 𝓛 𝓜 𝓡 wired T L =
    let ended = contract_of.ended T in
    let c = contract_of.clauses T 𝓛 𝓜.mem 𝓡.returns in
    let at = layouts (a_type ∷ []) (T, tt) in
    let fn : Fn = inst_fn at compiled.function in
    let n = capped (size (layout T)) in
    let fits = capped_fits (size (layout T)) in
    proved_at 𝓛 ended tt c 𝓜 𝓡 tt (#self at) fn (compiled.unfolded 𝓤 𝓛.H 𝓜 𝓡 wired (T, tt)) (λ z are.
    let κ = z.0.0.0 in
    let q = z.0.1.0 in
    qed 𝓛 (((‵ (flft κ q) ⊛ ‵ ftrue) ⊛ ‵ ftrue) ∷ (raw (fact 𝓤 (κ ⊑ T.lives)) ⊛ ‵ ftrue) ∷ []) ∵
    move ! (1 ∷ []) $ drop ! $ split ! $ move ! (1 ∷ []) $ drop ! $
    enter ! _ _ fn [] _ $ alloc_all ! (λ l. pass_all ! refl tt $
    sets ! (of_opd ! (size_word !)) refl (tt, record { fits = fits }) $
    returns ! (look_at ! 0 refl) $ free_all ! refl $
    nothing ! $ owned ! usize _ (uint_Makes 𝓛 w64) n _ (refl, fits) $ use0 𝓛 (raw (fact 𝓤 (n ≡ n))) (fact_i 𝓤 (n ≡ n) (emp 𝓤) refl) $ move !
    (3 ∷ 2 ∷ 1 ∷ 0 ∷ []) $
    by ! (leaves 𝓛 ended tt c z (vint w64 n) n tt tt)))
