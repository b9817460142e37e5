use Rattle.mq_held.proofs.Common.{◌≡◌, ◌==◌, ◌&&◌, ◌||◌, Bool, true, false, true≢false, above-eqb, HeldState, is_include, cond, refl, ◌∙◌, length, get_or}
use Rattle.mq_held.proofs.Common.{min, Some, arith, ap, sym, subst, list_map, list_all, lt-ltb, Spends-join}
use Rattle.mq_held.proofs.Common.{Spends-join_within, Spends-within, IsAscending, set_of, bitlen, IsWellFormed, number_in, group_at, moments_of, has_each}
use Rattle.mq_held.proofs.Common.{restarted_each, some_stopped, earliest_of, group_of, no_head}
use Rattle.std.specs.FinMap as map
use Rattle.mq_held.proofs.{Located.Located, Located.first-held, Located.located, Located.row-inside, Located.row-seen_still, Located.row_of, Located.rows-len}
use Rattle.mq_held.proofs.{RestartedEach.has_each-row, RestartedRows.HasNamed, RestartedRows.formed-each, RestartedRows.group-each, RestartedRows.has_named}
use Rattle.mq_held.proofs.held_groups.HeldGroups.restart_several.Given.{Over}
use Rattle.mq_held.proofs.held_groups.HeldGroups.restart_several.Goals as goal
use Rattle.mq_held.proofs.held_groups.HeldGroups.restart_several.Goals.{After-index, After-self}

-- the group of the number
at_so : (g : Over) (c : After-self g) → Located g.K.Key.number c.self.inside c.args.self.now c.args.number
at_so g c = located g.K.Key.number c.self.inside c.self.invariant c.self.view_is c.requires.number

-- has each named source
named_so : (g : Over) (c : After-index g)
    → HasNamed g.K.Key.number c.self.inside c.args.self.now c.args.number c.args.named.now c.index.result.now
named_so g c =
    let l = located g.K.Key.number c.self.inside c.self.invariant c.self.view_is c.requires.number in
    has_named l c.index.ensures (omega (arith, c.requires.several)) c.row-row.ensures.cells c.has_each.ensures.all c.if-not-has_each.false

pub row-row-requires : goal.row-row-requires
row-row-requires g c = record { number = (at_so g (goal.at.row-row-requires g c).After-self).in_rows }

pub has_each-requires-clause-ascending : goal.has_each-requires-clause-ascending
has_each-requires-clause-ascending g c =
    subst (IsAscending (number_in g.K.Key.number)) (sym c.row-row.ensures.cells) (at_so g (goal.at.has_each-requires-clause-ascending g c).After-self).up

pub returns-then-not-has_each-clause-effect : goal.returns-then-not-has_each-clause-effect
returns-then-not-has_each-clause-effect g c address has =
    let l = at_so g (goal.at.returns-then-not-has_each-clause-effect g c).After-self in
    let names = list_map g.K.Key.number c.args.named.now in
    let all = sym c.if-not-has_each.true
    ∙ c.has_each.ensures.all
    ∙ ap (λ xs. list_all (set_of (number_in g.K.Key.number) xs) names) c.row-row.ensures.cells
    ∙ sym (has_each-row g.K.Key.number (get_or c.self.inside.heads.items c.args.number no_head) (row_of c.self.inside c.args.number) names)
    ∙ ap (has_each names) (sym (l.group has)) in
    let few : (length c.args.named.now == 1) ≡ false = above-eqb (length c.args.named.now) 1 c.requires.several in
    λ may_add. record {
      done = none_of may_add ∙ (λ i. all i || may_add && sym few i);
      told = tt;
      groups = refl;
      there = λ there. absurd (true≢false (sym there ∙ sym all));
      added = λ _. tt;
      still = λ _. refl;
    }
  where
    none_of : (b : Bool) → false ≡ (b && false)
    none_of true = refl
    none_of false = refl

pub returns-then-not-has_each-clause-spent : goal.returns-then-not-has_each-clause-spent
returns-then-not-has_each-clause-spent g c address has =
    let l = at_so g (goal.at.returns-then-not-has_each-clause-spent g c).After-self in
    let size = ap length c.row-row.ensures.cells ∙ sym (l.size has) in
    Spends-within _ _ c.has_each.ensures.spent (omega arith) (omega (arith, size, ap bitlen size))

pub index-requires : goal.index-requires
index-requires g c =
    let l = at_so g (goal.at.index-requires g c).After-self in
    omega (arith, l.in_heads, c.self.inside.heads.ok.0)

pub moment-earliest-requires : goal.moment-earliest-requires
moment-earliest-requires g c =
    let f = named_so g (goal.at.moment-earliest-requires g c).After-index in
    record { there = f.at.moment f.some }

pub restart_row-were-requires-clause-number : goal.restart_row-were-requires-clause-number
restart_row-were-requires-clause-number g c = (at_so g (goal.at.restart_row-were-requires-clause-number g c).After-self).in_rows

pub restart_row-were-requires-clause-ascending : goal.restart_row-were-requires-clause-ascending
restart_row-were-requires-clause-ascending g c = (at_so g (goal.at.restart_row-were-requires-clause-ascending g c).After-self).up

pub row-row-requires-2 : goal.row-row-requires-2
row-row-requires-2 g c =
    let l = at_so g (goal.at.row-row-requires-2 g c).After-self in
    record { number = omega (arith, l.in_rows, rows-len l _ c.restart_row-were.ensures.rows) }

pub earliest_then-due-requires-clause-held : goal.earliest_then-due-requires-clause-held
earliest_then-due-requires-clause-held g c =
    let f = named_so g (goal.at.earliest_then-due-requires-clause-held g c).After-index in
    let h = c.index.result.now in
    subst (λ xs. IsWellFormed (group_of g.K.Key.number h xs).group) (sym c.row-row-2.ensures.cells)
    (formed-each f _ c.args.deadline (c.restart_row-were.ensures.group h))

pub earliest_then-due-requires-clause-later : goal.earliest_then-due-requires-clause-later
earliest_then-due-requires-clause-later g c later =
    let h = c.index.result.now in
    let first = first-held (at_so g (goal.at.earliest_then-due-requires-clause-later g c).After-self) c.index.ensures c.moment-earliest.ensures in
    ap (λ xs. earliest_of (moments_of (group_of g.K.Key.number h xs))) c.row-row-2.ensures.cells
    ∙ c.restart_row-were.ensures.later later h first
    ∙ ap (λ b. Some (cond b (min c.moment-earliest.result c.args.deadline) c.moment-earliest.result))
    (lt-ltb 0 (length c.args.named.now) (omega (arith, c.requires.several)))

pub invariant_of-self : goal.invariant_of-self
invariant_of-self g c =
    let f = named_so g (goal.at.invariant_of-self g c).After-index in
    let set_row = c.restart_row-were.ensures in
    let h = c.index.result.now in
    let first = ap (λ xs. earliest_of (moments_of (group_of g.K.Key.number h xs))) (sym c.row-row-2.ensures.cells) ∙ c.earliest_then-due.ensures.earliest in
    let moments = c.change_moment.ensures.moments c.moment-earliest.result c.moment-earliest.ensures in
    row-inside f.at _ set_row.rows f.head set_row.ascending (formed-each f _ c.args.deadline (set_row.group h)) first moments

pub returns-clause-effect : goal.returns-clause-effect
returns-clause-effect g c address has =
    let f = named_so g (goal.at.returns-clause-effect g c).After-index in
    let set_row = c.restart_row-were.ensures in
    let names = list_map g.K.Key.number c.args.named.now in
    let was = sym (f.at.group has) in
    let is = group-each f _ c.args.deadline (set_row.group c.index.result.now) ∙ ap (restarted_each c.args.deadline names) was in
    let there : has_each names (group_at c.args.self.now.groups address) ≡ true = sym (sym f.all ∙ ap (has_each names) was) in
    let left = row-seen_still f.at _ set_row.rows f.head (restarted_each c.args.deadline names (group_at c.args.self.now.groups address)) has is refl in
    let ahead = ap (λ (s : HeldState). s.ahead) left in
    λ may_add. record {
      done = (λ i. sym there i || may_add && (length c.args.named.now == 1));
      told = set_row.stopped ∙ ap (some_stopped names) was
          ∙ (λ i. cond (sym there i) (some_stopped names (group_at c.args.self.now.groups address))
          (is_include (group_at c.args.self.now.groups address).group.mode));
      groups = left ∙ (λ i. let t : HeldState =
          record c.args.self.now {
            groups = map.insert c.args.self.now.groups address (restarted_each c.args.deadline names (group_at c.args.self.now.groups address));
            ahead = sym ahead i;
          } in t);
      there = λ _. (ahead, Spends-join_within _ _ set_row.moved c.change_moment.ensures.moved (omega arith) (omega (arith, f.at.others)));
      added = λ absent. absurd (true≢false (sym there ∙ absent));
      still = λ none. cc;
    }

pub returns-clause-spent : goal.returns-clause-spent
returns-clause-spent g c address has =
    let l = at_so g (goal.at.returns-clause-spent g c).After-self in
    let size = sym (l.size has) in
    let looked = ap length c.row-row.ensures.cells in
    let size_then = ap length c.row-row-2.ensures.cells ∙ c.restart_row-were.ensures.len in
    let told = Spends-join (Spends-join c.has_each.ensures.spent c.restart_row-were.ensures.spent) c.earliest_then-due.ensures.spent in
    Spends-join_within _ _ told c.change_moment.ensures.spent (omega arith) (omega (arith, size, looked, size_then, ap bitlen (looked ∙ size), l.others))
