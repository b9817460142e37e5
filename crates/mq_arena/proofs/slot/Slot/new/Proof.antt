-- `new` wraps the memory. Assumes `Logic`.
use Rattle.mq_arena.proofs.Common.{◌≡◌, ℕ, List, [], ◌∷◌, ◌++◌, refl, arith, Fn, Val, SProp, emp, ftrue, Env, WpFn, fact, fact_i, tables, ‵, raw, ◌⊛◌, prop}
use Rattle.mq_arena.proofs.Common.{◌$◌, ◌∵◌, !, qed, by, move, drop, use0, split, rewrite, regoal, fsplit, fjoin, fpack, agg, of_opd, no_more, and_then}
use Rattle.mq_arena.proofs.Common.{returns, enter, alloc_all, pass_all, free_all, look_at, get, sets, env, yes, left_of, owns, layout, types_at, nothing, alive}
use Rattle.mq_arena.proofs.Common.{Stays, stay_dropped, walk_of, Goes-blank, one, round, proved_at, leaves, Typed}
use Rattle.std_alloc.proofs.ResultValues.{and_tt}
use Rattle.mq_arena.proofs.{Cell.Fields, Cell.contents_in, Walks.slot_at}
use Rattle.mq_arena.specs.contracts.slot.Slot.new.{ended, clauses, Key.name as #self}
use Rattle.mq_arena.specs.contracts.unused_memory.Unused as rest
use Rattle.mq_arena.proofs.unused_memory.Unused.TheLaws as rest_laws
use Rattle.mq_arena.proofs.slot.Slot.new.Code as compiled
use Rattle.mq_arena.proofs.slot.Slot.new.Statement.{statement}

pub new_spec : {M : Type 1} → statement M
new_spec 𝓤 𝓛 𝓜 𝓡 wired =
    let H = 𝓛.H in
    let En₀ = ended in
    let c₀ = clauses 𝓛 𝓜.mem 𝓡.returns in
    let fn : Fn = compiled.function in
    let stays : Stays En₀.signature.params En₀.kept = (stay_dropped (slot_at 0 En₀.signature.params) En₀.kept.0, tt) in
    let c = c₀ in
    let C = (tables 𝓤 H 𝓜 𝓡 𝓡.env).C in
    let Λ = (tables 𝓤 H 𝓜 𝓡 𝓡.env).Λ in
    proved_at 𝓛 En₀ stays c 𝓜 𝓡 (Goes-blank 𝓛 0 (slot_at 0 En₀.signature.params) En₀.kept.0 (λ κs x f. tt), tt) #self fn
    (compiled.unfolded 𝓤 H 𝓜 𝓡 wired) (λ z are.
    let Post : Val → SProp 𝓤 = (walk_of 𝓛 En₀ stays c).post z in
    let a = z.0.3 in
    let vss = z.0.4 in
    let x = a.0 in
    let r : ℕ = x in
    let got = one (layout rest.the_row) vss.0 (((rest_laws.the_row_laws).lawful 𝓛).typed x vss.0 are.0) in
    let w : Val = got.0 in
    let good = got.2 in
    qed 𝓛 ((raw (alive 𝓛 En₀.signature z.0.0 z.0.1) ⊛ ‵ (owns (types_at En₀.signature.params z.0.0) a vss)) ∷ ‵ ftrue ∷ []) ∵ move !
    (1 ∷ []) $ drop ! $ split ! $ move ! (1 ∷ []) $
    fsplit ! $ move ! (1 ∷ []) $ drop ! $ rewrite ! 0 (λ (us : List Val). ‵ ((rest.the_row).own_val x us)) got.1 refl $
    regoal ! (λ (us : List Val). prop (WpFn 𝓤 H C Λ fn us Post)) (λ i. got.1 i ++ []) refl $
    enter ! C Λ fn (w ∷ []) Post $
    alloc_all ! (λ l. pass_all ! refl (good, tt) $ let En : Env 𝓤 𝓛.H = env fn.locals l in
    sets ! (of_opd ! (get ! refl)) refl good $
    sets ! (agg ! (and_then ! (get ! refl) (no_more !))) refl (and_tt _ ((good).0), ((good).1, tt)) $
    returns ! (look_at ! 0 refl) $ free_all ! refl $
    contents_in r ! x w (omega arith) $ nothing ! $ fpack ! (Typed Fields.mir (round w ∷ [])) (λ _. ftrue)
    ((and_tt _ ((good).0), ((good).1, tt)), tt) $ fjoin ! $ use0 𝓛 (raw (fact 𝓤 (r ≡ r)))
    (fact_i 𝓤 (r ≡ r) (emp 𝓤) (refl)) $ nothing ! $ nothing ! $ fjoin ! $ move ! (3 ∷ 0 ∷ 2 ∷ 1 ∷ []) $
    by ! (leaves 𝓛 En₀ stays c z (round w) r (left_of ((rest.the_row).exit yes) x, tt) (tt, tt))))
