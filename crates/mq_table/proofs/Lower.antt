-- The timer of a source once sources were lowered.
use Rattle.mq_table.proofs.Common.{◌≡◌, ℕ, Bool, cond, ◌||◌, Option, sym, ap, ◌∙◌, arith, option_map, Timing, Set, ◌∪◌, GroupState, SourceTimer, timer_at}
use Rattle.mq_table.proofs.Common.{lowered_to, source_lowered, sources_lowered}
use Rattle.mq_table.proofs.{Maps.get-kept, Groups.same_group}

-- the timer of a source after the sources asked for were lowered
pub timer_at-sources_lowered : (timing : Timing) (now : ℕ) (asked : Set) (g : GroupState) (s : ℕ) → timer_at (sources_lowered timing now asked g) s
    ≡ cond (asked s) (option_map (source_lowered (lowered_to timing now)) (timer_at g s)) (timer_at g s)
timer_at-sources_lowered timing now asked g s = grind (arith, get-kept)

-- lowered twice is lowered once
lowered_twice : (limit : ℕ) (t : Option SourceTimer) → option_map (source_lowered limit) (option_map (source_lowered limit) t)
    ≡ option_map (source_lowered limit) t
lowered_twice limit t = grind arith

lowered_in_turn : (limit : ℕ) (a b : Bool) (t : Option SourceTimer) →
    (let u = cond a (option_map (source_lowered limit) t) t in cond b (option_map (source_lowered limit) u) u) ≡ cond (a || b)
    (option_map (source_lowered limit) t) t
lowered_in_turn limit a b t = grind (arith, lowered_twice)

pub lowered_both : (timing : Timing) (now : ℕ) (A B : Set) (g : GroupState) → sources_lowered timing now B (sources_lowered timing now A g)
    ≡ sources_lowered timing now (A ∪ B) g
lowered_both timing now A B g =
    let f = source_lowered (lowered_to timing now) in
    same_group g.mode _ _ g.v1 g.v2 (λ s.
    timer_at-sources_lowered timing now B (sources_lowered timing now A g) s
    ∙ ap (λ t. cond (B s) (option_map f t) t) (timer_at-sources_lowered timing now A g s)
    ∙ lowered_in_turn (lowered_to timing now) (A s) (B s) (timer_at g s)
    ∙ sym (timer_at-sources_lowered timing now (A ∪ B) g s))
