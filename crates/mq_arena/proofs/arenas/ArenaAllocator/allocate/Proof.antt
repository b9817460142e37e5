-- `allocate` hands out the units that it took as room for the type that was asked. Assumes `Logic`.
use Rattle.mq_arena.proofs.Common.{◌≡◌, true, false, List, [], ◌∷◌, ◌++◌, refl, sym, subst, ◌∙◌, lit<, w64, Ok, Err, arith, Ty, Fn, Val, vint, vptr, SProp, ent}
use Rattle.mq_arena.proofs.Common.{id⊢, froom, size, align, capped, capped_is, capped_small, Env, WpFn, fact, tables, ‵, raw, ◌⊛◌, some, later, prop, at_ret}
use Rattle.mq_arena.proofs.Common.{◌$◌, ◌∵◌, !, qed, by, move, drop, use0, use1, split, join, pick, regoal, fjoin, await, whole, sub, agg, vrt, in_variant}
use Rattle.mq_arena.proofs.Common.{stop, fld, hop, from, addr, lit, of_opd, no_more, and_then, first, switches_on, exec, returns, enter, alloc_all, pass_all}
use Rattle.mq_arena.proofs.Common.{free_all, look_at, look_in_at, get, get_in, get_tag, sets, sets_last, lands_as, env, usize, RefOf, yes, owns, Ptr, block_ptr}
use Rattle.mq_arena.proofs.Common.{Slot, plain, types_at, nothing, heard, calls_from, Lasts, lasts, alive, triple_of, Stays, stay_dropped, walk_of}
use Rattle.mq_arena.proofs.Common.{Goes-dropped, Answer, answer_val, Answer-Ok, Answer-err, after, head, arm_body, fm, proved_at, leaves}
use Rattle.mq_arena.proofs.{Arms.then_runs, Rooms.room_of_units, Taken.Taken, Taken.Told, Taken.taken}
use Rattle.mq_arena.specs.contracts.arenas.ArenaAllocator.allocate.{ended, clauses, Key.name as #self}
use Rattle.mq_arena.specs.contracts.arenas.Arena as arena
use Rattle.mq_arena.specs.contracts.arenas.Arena.take as callee
use Rattle.mq_arena.specs.contracts.arenas.Arena.take.Key as take_key
use Rattle.mq_arena.proofs.arenas.Arena.take.Met.{met as takes}
use Rattle.mq_arena.proofs.arenas.ArenaAllocator.allocate.Code as compiled
use Rattle.mq_arena.proofs.arenas.ArenaAllocator.allocate.Statement.{statement}

abbrev self : Slot 1
self = RefOf (0 ∷ []) tt (plain (λ _. arena.the_row)) (λ _. tt)

abbrev number : Slot 1
number = plain (λ _. usize)

abbrev stayed : Stays ended.signature.params ended.kept
stayed = (stay_dropped self yes, (stay_dropped number yes, (stay_dropped number yes, tt)))

pub allocate_spec : {M : Type 1} → statement M
allocate_spec 𝓤 𝓛 𝓜 𝓡 wired =
    let H = 𝓛.H in
    let c = clauses 𝓛 𝓜.mem 𝓡.returns in
    let fn : Fn = compiled.function in
    let C = (tables 𝓤 H 𝓜 𝓡 𝓡.env).C in
    let Λ = (tables 𝓤 H 𝓜 𝓡 𝓡.env).Λ in
    proved_at 𝓛 ended stayed c 𝓜 𝓡 (
      Goes-dropped 𝓛 1 self yes (λ κs x f. refl),
      (Goes-dropped 𝓛 1 number yes (λ κs x f. refl), (Goes-dropped 𝓛 1 number yes (λ κs x f. refl), tt)),
    ) #self fn (compiled.unfolded 𝓤 H 𝓜 𝓡 wired) (λ z are.
    let Post : Val → SProp 𝓤 = (walk_of 𝓛 ended stayed c).post z in
    let a = z.0.3 in
    let vss = z.0.4 in
    let τ : Ty = z.1 in
    let n = a.1.0 in
    let al = a.1.1.0 in
    let k = triple_of 𝓛 callee.signature (callee.spec 𝓛 𝓜.mem 𝓡.returns) in
    let vs : List Val = vptr a.0.ref_ptr.0 a.0.ref_ptr.1 ∷ vint w64 n ∷ vint w64 al ∷ [] in
    let y : k.Ghost = ((z.0.0, z.0.1, z.0.2, a, vss), tt) in
    let told : k.args y ≡ vs = λ i. are.0.0 i ++ (are.1.0.0 i ++ (are.1.1.0.0 i ++ [])) in
    let Asked : Type 0 = (capped (size τ) ≡ n) × (capped (align τ) ≡ al) in
    qed 𝓛 ((raw (alive 𝓛 ended.signature z.0.0 z.0.1) ⊛ ‵ (owns (types_at ended.signature.params z.0.0) a vss)) ∷ raw (fact 𝓤 Asked) ∷ []) ∵ move !
    (1 ∷ []) $ heard ! Asked (λ asked. split ! $ move ! (1 ∷ []) $
    move ! (1 ∷ 0 ∷ []) $ join ! $ nothing ! $ move ! (1 ∷ 0 ∷ []) $ join ! $ use1 𝓛 (raw (k.pre y)) (id⊢ 𝓤 _) $
    regoal ! (λ (us : List Val). prop (WpFn 𝓤 H C Λ fn us Post)) told refl $
    enter ! C Λ fn vs Post $
    alloc_all ! (λ l. pass_all ! refl ((tt, tt), ((tt, record { fits = are.1.0.1 }), ((tt, record { fits = are.1.1.0.1 }), tt))) $ let En : Env 𝓤
    𝓛.H = env fn.locals l in
    calls_from ! (fm 𝓛 𝓜 𝓡) (raw (k.pre y)) vs (k.post y)
    (subst (λ (us : List Val). ent 𝓤 (k.pre y) (C take_key.name us (k.post y))) told
    (takes 𝓤 𝓛 𝓜 𝓡 (compiled.calls-mq_arena::arenas::Arena::take 𝓡.env wired) y))
    (and_then ! (get ! refl) (and_then ! (get ! refl) (and_then ! (get ! refl) (no_more !)))) (λ v.
    use1 𝓛 (later (some (λ (x : Taken.Denot). (raw (alive 𝓛 ended.signature z.0.0 z.0.1) ⊛ ‵ (Taken.own_val x (v ∷ []))) ⊛ some
    (λ (ls : Lasts callee.ended z.0.0 a). ‵ (lasts callee.ended z.0.0 a ls) ⊛ raw (fact 𝓤 (Told n x)))))) (id⊢ 𝓤 (k.post y v)) $
    await ! tt $ pick ! (λ x. split ! $ move ! (1 ∷ []) $ pick ! (λ _. split ! $ drop ! $ heard ! (Told n x) (λ said. split ! $ move ! (1 ∷ []) $
    taken ! tt n x v said
    (λ b o m fits small enough e. let p : Ptr = block_ptr b o in
    let short : size τ ≡ n = sym (capped_is (size τ) (let half = capped_small (size τ) (omega (arith, asked.0)) in omega arith)) ∙ asked.0 in
    use1 𝓛 (‵ (froom τ b o)) (room_of_units 𝓛 τ b o m (omega arith)) $ nothing ! $ move ! (1 ∷ 0 ∷ []) $ fjoin ! $
    lands_as ! e refl (tt, (record { fits = lit< tt }, ((tt, (record { fits = fits }, tt)), tt))) $
    first ! $ switches_on ! (get_tag ! (vrt ! refl (fld ! refl (stop !))) (whole !)) $ exec ! C Λ En (arm_body 0 (head (after 1 fn.body)))
    (then_runs 𝓛 C Λ En (after 2 fn.body) (at_ret En Post)) $
    sets ! (of_opd ! (get_in ! (vrt ! refl (fld ! refl (stop !))) (in_variant ! 0 0 refl refl (whole !)))) refl (tt, (tt, (record { fits = fits }, tt))) $
    sets ! (addr ! (from ! (fld ! refl (hop ! (look_in_at ! 4 (sub ! 0 refl (whole !))) (stop !))))) refl (tt, tt) $
    sets_last ! (agg ! (and_then ! (lit ! tt) (and_then ! (get ! refl) (no_more !)))) refl (tt, (record { fits = lit< tt }, (tt, tt))) $
    exec ! C Λ En (after 2 fn.body) (at_ret En Post) $
    sets ! (of_opd ! (get ! refl)) refl (tt, (record { fits = lit< tt }, (tt, tt))) $
    returns ! (look_at ! 0 refl) $ free_all ! refl $
    use0 𝓛 (‵ (Answer.own_val (Ok p) (answer_val true b o ∷ []))) (Answer-Ok 𝓛 b o) $ nothing ! $ nothing ! $ fjoin ! $ nothing ! $ fjoin ! $ nothing
    ! $ fjoin ! $ move ! (3 ∷ 0 ∷ 1 ∷ 2 ∷ []) $
    by ! (leaves 𝓛 ended stayed c z (answer_val true b o) (Ok p) (tt, (tt, (tt, tt))) (tt, (tt, (tt, tt)))))
    (λ e. nothing ! $ lands_as ! e refl (tt, (record { fits = lit< tt }, (tt, tt))) $
    first ! $ switches_on ! (get_tag ! (vrt ! refl (fld ! refl (stop !))) (whole !)) $ exec ! C Λ En (arm_body 1 (head (after 1 fn.body)))
    (then_runs 𝓛 C Λ En (after 2 fn.body) (at_ret En Post)) $
    sets ! (of_opd ! (get_in ! (vrt ! refl (fld ! refl (stop !))) (in_variant ! 1 0 refl refl (whole !)))) refl (tt, tt) $
    sets_last ! (agg ! (and_then ! (lit ! tt) (and_then ! (get ! refl) (no_more !)))) refl (tt, (record { fits = lit< tt }, (tt, tt))) $
    exec ! C Λ En (after 2 fn.body) (at_ret En Post) $
    sets ! (of_opd ! (get ! refl)) refl (tt, (record { fits = lit< tt }, (tt, tt))) $
    returns ! (look_at ! 0 refl) $ free_all ! refl $
    use0 𝓛 (‵ (Answer.own_val (Err (record {})) (answer_val false 0 0 ∷ [])))
    (Answer-err 𝓛) $ nothing ! $ nothing ! $ fjoin ! $ nothing ! $ fjoin ! $ nothing ! $ fjoin ! $ move ! (3 ∷ 0 ∷ 1 ∷ 2 ∷ []) $
    by ! (leaves 𝓛 ended stayed c z (answer_val false 0 0) (Err (record {})) (tt, (tt, (tt, tt))) (tt, (tt, (tt, tt))))))))))))
