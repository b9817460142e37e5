use Rattle.mq_check.proofs.Common.{◌<◌, length, refl, arith, list_map, nat_tests, numbered_entry}
use Rattle.mq_check.proofs.{JudgedEntries.judged_popped, MarkedEntries.made_behind, MarkedEntries.marked_popped, MarkedEntries.bounded_popped, Waits.made_long}
use Rattle.mq_check.proofs.waiting.Waiting.pop.Goals as goal

pub invariant_of-self : goal.invariant_of-self
invariant_of-self g c =
    let f = numbered_entry g.F.Address.Key.number in
    let are = c.self.invariant in
    let some : 0 < length c.self.inside.entries.items = grind (arith, nat_tests, c.self.inside.entries.ok.0) in
    let some_too : 0 < length (list_map f c.self.inside.entries.items) = omega (arith, some, made_long f c.self.inside.entries.items _ refl) in
    let rest = made_behind f c.self.inside.entries.items c.pop_front.new.self.items c.pop_front.ensures.rest in (
      omega (arith, c.pop_front.ensures.capacity, are.0),
      marked_popped _ _ _ _ _ _ are.1 rest some_too c.pop.ensures.slots c.pop.ensures.others c.pop.ensures.nears,
      bounded_popped _ _ _ _ are.2 rest,
      are.3,
      judged_popped _ _ _ _ are.4 rest c.saturating_sub-self-inside.ensures,
    )
