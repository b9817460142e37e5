use Rattle.mq_link.proofs.Common.{◌≡◌, ◌+◌, ◌<◌, ◌≤◌, cond, [], ◌∷◌, ◌++◌, length, length-set, set, sym, ap, ◌∙◌, subst, arith, get_or_default, AreListed}
use Rattle.std.specs.Prelude.{slice_index, is_ok}
use Rattle.mq_link.proofs.ListedNumbers.{listed_again, listed_first, room_for_one}
use Rattle.mq_link.proofs.record_counts.RecordCounts.meets_again.Goals as goal

pub unwrap-requires : goal.unwrap-requires
unwrap-requires g c =
    let counts = c.self.inside.counts.items in
    let within : c.args.number < length counts = omega (arith, c.requires.number, ap length c.self.view_is) in
    let none : slice_index counts c.args.number ≡ 0 = get_or_default counts c.args.number 0 c.index-before.result.now within ∙
    sym c.index-before.ensures ∙ c.if-before-eq0.true in
    let room = room_for_one counts c.self.inside.numbers.items c.self.invariant.0 c.args.number within 1 (omega arith) none in
    c.push.ensures.succeeds (omega (arith, room, c.self.invariant.1, c.self.inside.numbers.ok.0))

pub invariant_of-self : goal.invariant_of-self
invariant_of-self g c =
    let counts = c.self.inside.counts.items in
    let numbers = c.self.inside.numbers.items in
    let next = c.index-before.result.now + 1 in
    let within : c.args.number < length counts = omega (arith, c.requires.number, ap length c.self.view_is) in
    let none : slice_index counts c.args.number ≡ 0 = get_or_default counts c.args.number 0 c.index-before.result.now within ∙
    sym c.index-before.ensures ∙ c.if-before-eq0.true in
    let pushed = c.push.ensures.items ∙ ap (λ r. cond (is_ok r) (numbers ++ c.args.number ∷ []) numbers) c.unwrap.ensures in (
      subst (AreListed (set counts c.args.number next)) (sym pushed)
          (listed_first counts numbers c.self.invariant.0 c.args.number within next (omega arith) none),
      omega (arith, length-set counts c.args.number next, c.self.invariant.1, c.push.ensures.capacity),
    )

pub invariant_of-self-else-before-eq0 : goal.invariant_of-self-else-before-eq0
invariant_of-self-else-before-eq0 g c =
    let counts = c.self.inside.counts.items in
    let next = c.index-before.result.now + 1 in
    let within : c.args.number < length counts = omega (arith, c.requires.number, ap length c.self.view_is) in
    let same = get_or_default counts c.args.number 0 c.index-before.result.now within ∙ sym c.index-before.ensures in
    let some : 1 ≤ slice_index counts c.args.number = omega (arith, same, c.if-before-eq0.false) in (
      listed_again counts c.self.inside.numbers.items c.self.invariant.0 c.args.number within next (omega arith) some,
      omega (arith, length-set counts c.args.number next, c.self.invariant.1),
    )
