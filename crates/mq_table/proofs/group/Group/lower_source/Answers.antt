use Rattle.mq_table.proofs.Common.{◌≡◌, ℕ, ◌+◌, ◌∙◌, List, get_or, set, ap, subst, sym, arith, map-set_same, Spends-within, Spends-join_within, IsAscending}
use Rattle.mq_table.proofs.Common.{IsAscending-map, Source, lowered_to, source_lowered}
use Rattle.mq_sets.proofs.SearchedPages.{IsAscending-unmap}
use Rattle.mq_table.proofs.{SourceLists.len-timers_in, SourceLists.get-absent, MadeLists.lowered_in_place, MadeLists.lowered_state, MadeLists.unlowered}
use Rattle.mq_table.proofs.group.Group.lower_source.Goals as goal

-- an item in the place of one of the same number
IsAscending-set : {X : Type 0} (number : X → ℕ) (xs : List X) (i : ℕ) (y d : X) → number y ≡ number (get_or xs i d) → IsAscending number xs →
    IsAscending number (set xs i y)
IsAscending-set number xs i y d same up =
    IsAscending-unmap number (λ n. n) (set xs i y)
    (subst (IsAscending (λ n. n)) (sym (map-set_same number xs i y d same)) (IsAscending-map (λ n. n) number xs up))

pub invariant_of-self : goal.invariant_of-self
invariant_of-self g c =
    let held = c.index.result.now in
    let lowered : Source g.row.K.Denot = record { address = held.address; timer = c.lower.result } in
    IsAscending-set (λ (x : Source g.row.K.Denot). g.K.Key.number x.address) c.self.inside.sources.items c.in-Ok.place lowered held
    (ap (λ (x : Source g.row.K.Denot). g.K.Key.number x.address) c.index.ensures) c.self.invariant

pub returns-in-Ok-clause-state : goal.returns-in-Ok-clause-state
returns-in-Ok-clause-state g c =
    let limit : c.after-limit.result ≡ lowered_to c.args.timing.now c.args.now = c.after-limit.ensures.later ∙
    ap (λ n. c.args.now + n) c.last_member_time.ensures in
    let xs = c.self.inside.sources.items in
    let held = c.index.result.now in
    let found = rw c.as_slice.ensures.value at c.in-Ok.ensures.found in
    let within = rw c.as_slice.ensures.value at c.in-Ok.ensures.found_in in
    let written = ap (λ (x : Source g.row.K.Denot). let y : Source g.row.K.Denot =
    record { address = x.address; timer = source_lowered c.after-limit.result x.timer } in set xs c.in-Ok.place y) c.index.ensures ∙
    lowered_in_place g.K.Key.number c.after-limit.result (g.K.Key.number c.args.source) xs c.in-Ok.place held c.self.invariant within (found held) in
    rw c.lower.ensures.lowered
    (lowered_state g.K.Key.number c.args.timing.now c.args.now c.self.inside.mode c.self.inside.v1 c.self.inside.v2 xs c.self.invariant
    (g.K.Key.number c.args.source) c.args.self.now.state (ap (λ s. s.state) c.self.view_is)
    c.after-limit.result _ limit written)

pub returns-in_default-clause-state : goal.returns-in_default-clause-state
returns-in_default-clause-state g c =
    let none = rw c.as_slice.ensures.value at c.in_default.ensures.member in
    let absent = get-absent g.K.Key.number c.self.inside.sources.items (g.K.Key.number c.args.source) none in
    unlowered c.args.timing.now c.args.now (g.K.Key.number c.args.source) c.args.self.now.state (rw (← c.self.view_is) absent)

pub returns-in-Ok-clause-spent : goal.returns-in-Ok-clause-spent
returns-in-Ok-clause-spent g c =
    rw (← c.self.view_is, len-timers_in g.K.Key.number c.self.inside.sources.items c.self.invariant, ← c.as_slice.ensures.value)
    (Spends-join_within _ _ c.in-Ok.ensures.spent c.lower.ensures.spent (omega arith) (omega arith))

pub returns-in_default-clause-spent : goal.returns-in_default-clause-spent
returns-in_default-clause-spent g c =
    rw (← c.self.view_is, len-timers_in g.K.Key.number c.self.inside.sources.items c.self.invariant, ← c.as_slice.ensures.value)
    (Spends-within _ _ c.in_default.ensures.spent (omega arith) (omega arith))
